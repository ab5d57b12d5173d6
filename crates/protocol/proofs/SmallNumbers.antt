-- Where the starting values and the written ones are below a bound, main, the copies and the answered values stay below it; an answer's number is
-- at most the highest of an action. Assumes nothing.
use mathlib.Core.Path.{◌≡◌, refl}
use mathlib.Core.Bool.{Bool, true, false, cond}
use mathlib.Core.List.{List, [], ◌∷◌}
use Prim.Native.Nat.{ℕ, ◌<◌, ◌≤◌}
use native.Mathlib.Omega.{arith}
use native.Mathlib.Decide.{ℕ_discrete}
use lib.Dec.{eqb}
use lib.ListN.{length, get_or}
use borrow.Author.Tests.{eqb-true}
use Rattle.protocol.specs.declared.Action.{Action}
use Rattle.protocol.specs.declared.Answer.{Answer}
use Rattle.protocol.specs.declared.Rule.{Rule}
use Rattle.protocol.specs.declared.Proc.{Proc}
use Rattle.protocol.specs.declared.Proc.TheVariants.{Read, Write, Barrier, MtoC, CtoM, CtoC, Drop, Acquire, Release}
use Rattle.protocol.specs.Names.{rule_of, proc_of}
use Rattle.protocol.specs.Slices.{slice_number, Table}
use Rattle.protocol.specs.Cell.{Cell, main_value, copy_at, cell_of}
use Rattle.protocol.specs.First.{Refusal, first, All}
use Rattle.protocol.specs.Effects.{effect, value_of}
use Rattle.protocol.specs.Step.{Seen, seen_by, seen, refusals, answer_to, answer_by, table_after}
use Rattle.protocol.specs.Fresh.{fresh_table}
use Rattle.protocol.specs.Runs.{Line, log_by, log, is_write}
use Rattle.protocol.proofs.CurrentKept.{written_by}
use Rattle.protocol.proofs.FirstLaws.{all_map}
use Rattle.protocol.proofs.CellLaws.{store, stores}
use Rattle.protocol.proofs.NumberLaws.{proc_writes}
use Rattle.protocol.proofs.StepLaws.{last_number, Numbered, all_numbered, accepted, cell_after, step_here, step_there}
use Rattle.protocol.proofs.FreshLaws.{fresh_main, fresh_copies}

-- ---- what is bounded

module _ (bound : ℕ) where
  abbrev SmallCell : Cell → Type 0
  SmallCell x = (main_value x < bound) × ((p : ℕ) → copy_at x p < bound)

  abbrev SmallAnswer : Answer → Type 0
  SmallAnswer o = (o.number ≤ last_number) × (o.value < bound)

  -- every action of a list has a byte for its code, and a value below the bound
  abbrev pub SmallActions : List Action → Type 0
  SmallActions [] = Unit {0}
  SmallActions (a ∷ l) = (a.code < 256) × (a.value < bound) × SmallActions l

  -- every line of a log has a byte for its code, a number up to the highest, and a value below the bound
  abbrev pub SmallLines : List Line → Type 0
  SmallLines [] = Unit {0}
  SmallLines (l ∷ ls) = (l.action.code < 256) × (l.told.number ≤ last_number) × (l.told.value < bound) × SmallLines ls

  -- ---- a cell

  pick : (b : Bool) (v w : ℕ) → v < bound → w < bound → cond b v w < bound
  pick true v w h k = h
  pick false v w h k = k

  effect_small : (r : Rule) (P : ℕ) (x : Cell) (a : Proc) → written_by a 0 < bound → SmallCell x → SmallCell (stores x (effect r P x a))
  unfolding stores store effect slice_number written_by
  effect_small r P x (Read p) w s = s
  effect_small r P x (Write p v) w s = (s.0, λ q. pick (eqb q p) v (copy_at x q) w (s.1 q))
  effect_small r P x (Barrier p) w s = s
  effect_small r P x (MtoC p) w s = (s.0, λ q. pick (eqb q p) (main_value x) (copy_at x q) s.0 (s.1 q))
  effect_small r P x (CtoM p) w s = (s.1 p, s.1)
  effect_small r P x (CtoC p o) w s = (s.0, λ q. pick (eqb q o) (copy_at x p) (copy_at x q) (s.1 p) (s.1 q))
  effect_small r P x (Drop p) w s = (s.0, λ q. pick (eqb q p) 0 (copy_at x q) w (s.1 q))
  effect_small r P x (Acquire p) w s = s
  effect_small r P x (Release p) w s = s

  value_small : (x : Cell) (a : Proc) → 0 < bound → SmallCell x → value_of x a < bound
  unfolding value_of
  value_small x (Read p) z s = s.1 p
  value_small x (Write p v) z s = z
  value_small x (Barrier p) z s = z
  value_small x (MtoC p) z s = z
  value_small x (CtoM p) z s = z
  value_small x (CtoC p q) z s = z
  value_small x (Drop p) z s = z
  value_small x (Acquire p) z s = z
  value_small x (Release p) z s = z

  -- ---- an answer

  first_small : (rs : List Refusal) (ok : Answer) → All (λ r. SmallAnswer r.answer) rs → SmallAnswer ok → SmallAnswer (first rs ok)
  unfolding first
  first_small [] ok s k = k
  first_small (r ∷ rs) ok s k = go r.holds (first_small rs ok s.1 k)
    where
      go : (b : Bool) → SmallAnswer (first rs ok) → SmallAnswer (cond b r.answer (first rs ok))
      go true i = s.0
      go false i = i

  module _ (rule boards cells : ℕ) where
    answer_small : (s : Seen) (a : Action) → 0 < bound → SmallCell s.cell → SmallAnswer (answer_to rule boards cells s a)
    unfolding answer_to
    answer_small s a z k =
        let rs = refusals rule boards cells s a in
        first_small rs _ (all_map Numbered _ (λ r n. (n.1, rw n.2 z)) rs (all_numbered rule boards cells s a)) (omega arith, value_small s.cell (proc_of a) z k)

    -- ---- a step

    after_small : (s : Seen) (a : Action) → a.value < bound → SmallCell s.cell → SmallCell (cell_after rule boards cells s a)
    unfolding cell_after
    after_small s a v k = go (eqb (answer_to rule boards cells s a).number 0) refl
      where
        go : (b : Bool) → eqb (answer_to rule boards cells s a).number 0 ≡ b → SmallCell (cond b (stores s.cell (effect (rule_of rule) boards s.cell (proc_of a))) s.cell)
        go true e =
            let w : written_by (proc_of a) 0 < bound = rw (proc_writes a (accepted rule boards cells s a (eqb-true _ _ e)).code_within 0) (pick (is_write a.code) a.value 0 v (omega arith)) in
            effect_small (rule_of rule) boards s.cell (proc_of a) w k
        go false e = k

    abbrev SmallTable : Table → Type 0
    SmallTable t = (c : ℕ) → SmallCell (cell_of boards cells t c)

    step_small : (t : Table) (a : Action) → a.value < bound → SmallTable t → SmallTable (table_after rule boards cells t a)
    unfolding seen_by
    step_small t a v s c = go (ℕ_discrete c a.cell)
      where
        go : Dec (c ≡ a.cell) → SmallCell (cell_of boards cells (table_after rule boards cells t a) c)
        go (yes q) = rw (q, step_here rule boards cells t a) (after_small (seen boards cells t a.cell) a v (s a.cell))
        go (no n) = rw (step_there rule boards cells t a c n) (s c)

    log_small : (t : Table) (l : List Action) → SmallTable t → SmallActions l → SmallLines (log rule boards cells t l)
    unfolding log_by answer_by seen_by
    log_small t [] s k = tt
    log_small t (a ∷ l) s k =
        let o = answer_small (seen boards cells t a.cell) a (omega (arith, k.1)) (s a.cell) in
        (k.0, o.0, o.1, log_small (table_after rule boards cells t a) l (step_small t a k.1 s) k.2)

  -- ---- from a fresh table

  pub fresh_log_small : (rule boards : ℕ) (starting : List ℕ) (l : List Action) → 0 < bound → ((c : ℕ) → get_or starting c 0 < bound) → SmallActions l →
      SmallLines (log rule boards (length starting) (fresh_table boards starting) l)
  fresh_log_small rule boards starting l z h k =
      log_small rule boards (length starting) (fresh_table boards starting) l (λ c. (rw (fresh_main boards starting c) (h c), λ p. rw (fresh_copies boards starting c p) z)) k
