-- Demand 2: where no refusal that the handout does not know of holds, an action is accepted exactly when the handout's guard holds; accepted,
-- it has the handout's value and next state, every other cell stays, and no other table has these. Assumes nothing.
use mathlib.Core.Path.{◌≡◌, refl, sym, ap, ◌∙◌, fun_ext}
use mathlib.Core.Logic.{◌≢◌, ◌↔◌}
use mathlib.Core.Bool.{Bool, true, false, cond, not, ◌||◌}
use mathlib.Core.List.{List}
use Rattle.std.specs.Prelude.{Option, Some, None}
use Prim.Native.Nat.{ℕ, zero, suc, ◌<◌, ◌≤◌}
use native.Mathlib.Omega.{arith}
use native.Mathlib.Decide.{ℕ_discrete, dec_lt}
use lib.Dec.{eqb, leb}
use borrow.Author.Tests.{not-true, not-false, ltb-false, leb-false, le-ltb, lt-leb, le-leb}
use Rattle.protocol.specs.declared.Action.{Action}
use Rattle.protocol.specs.declared.Rule.{Rule}
use Rattle.protocol.specs.declared.Proc.{Proc}
use Rattle.protocol.specs.Names.{last_rule, last_code, rule_of, proc_of}
use Rattle.protocol.specs.Masks.{has_board}
use Rattle.protocol.specs.Slices.{Slice, main, copies, masks, Table, sizes_good, every, cell_by_cell, width}
use Rattle.protocol.specs.Cell.{Cell, copy_at, live_mask, cell_of}
use Rattle.protocol.specs.Soundness.{sound}
use Rattle.protocol.specs.First.{Refusal}
use Rattle.protocol.specs.Guards.{guard}
use Rattle.protocol.specs.Effects.{effect}
use Rattle.protocol.specs.Step.{malformed, off_board, seen_by, seen, refusals, answer_by, answer, table_after}
use Rattle.protocol.specs.Handout.{State, Guard, Effect, Value}
use Rattle.protocol.specs.AsHandout.{as_state, Stands, in_handout, OtherFails, NoOtherHolds}
use Rattle.protocol.proofs.Booleans.{either, and_both}
use Rattle.protocol.proofs.MaskLaws.{same_mask}
use Rattle.protocol.proofs.HandoutLaws.{Among, not_nil}
use Rattle.protocol.proofs.FirstLaws.{all_of, none_number, all_at}
use Rattle.protocol.proofs.PlaceLaws.{by_cell}
use Rattle.protocol.proofs.CellLaws.{stores, sizes_of, same_table, nothing_above}
use Rattle.protocol.proofs.SoundExactly.{sound_exactly}
use Rattle.protocol.proofs.GuardExactly.{guard_exactly}
use Rattle.protocol.proofs.SoundKept.{next_state, next_value, sound_kept}
use Rattle.protocol.proofs.NumberLaws.{code_fits, named_among, has_exactly}
use Rattle.protocol.proofs.StepLaws.{guard_every, Accepted, accepted, accepted_value, cell_after, step_sizes, step_here, step_there}
use Rattle.protocol.proofs.RefusalOrder.{answers_guard}

-- ---- well formed, and on a sound cell

-- the handout knows the refusal, or it does not hold
abbrev quiet : Refusal → Bool
quiet r = in_handout r.answer.number || not r.holds

quiet_guard : (x : Cell) (r : Rule) (a : Proc) → every (guard x r a) quiet ≡ true
unfolding in_handout
quiet_guard = guard_every quiet (λ n b l h. go (eqb n 4) (not b) (and_both (leb 8 n) (leb n 16) (le-leb 8 n l) (le-leb n 16 h)))
  where
    go : (four fails : Bool) {guarded : Bool} → guarded ≡ true → ((four || guarded) || fails) ≡ true
    go true fails e = refl
    go false fails e = rw e

-- no refusal that the handout does not know of holds exactly when the action is well formed and its cell is sound
pub no_other_exactly : (rule boards cells : ℕ) (t : Table) (a : Action) →
    NoOtherHolds (refusals rule boards cells (seen boards cells t a.cell) a)
    ↔ ((sizes_good boards cells t ≡ true) × (rule ≤ last_rule) × (malformed a ≡ false) × (off_board boards a ≡ false) × (a.cell < cells) × (sound (rule_of rule) boards (cell_of boards cells t a.cell) ≡ true))
unfolding refusals seen_by in_handout every
no_other_exactly rule boards cells t a = (into, back)
  where
    rs : List Refusal
    rs = refusals rule boards cells (seen boards cells t a.cell) a

    into : NoOtherHolds (refusals rule boards cells (seen boards cells t a.cell) a) →
        (sizes_good boards cells t ≡ true) × (rule ≤ last_rule) × (malformed a ≡ false) × (off_board boards a ≡ false) × (a.cell < cells) × (sound (rule_of rule) boards (cell_of boards cells t a.cell) ≡ true)
    into k = let f = all_at (λ n b. in_handout n ≡ false → b ≡ false) (λ n e. refl) rs k in (not-false _ (f 1 refl), ltb-false last_rule rule (f 2 refl), f 3 refl, f 5 refl, leb-false cells a.cell (f 6 refl), not-false _ (f 7 refl))

    back : (sizes_good boards cells t ≡ true) × (rule ≤ last_rule) × (malformed a ≡ false) × (off_board boards a ≡ false) × (a.cell < cells) × (sound (rule_of rule) boards (cell_of boards cells t a.cell) ≡ true) →
        NoOtherHolds (refusals rule boards cells (seen boards cells t a.cell) a)
    back (z, r, m, o, l, s) =
        all_of OtherFails quiet (λ r e k. not-true _ ((either (in_handout r.answer.number) (not r.holds)).0 e k)) rs
        (rw (z, le-ltb last_rule rule r, m, o, lt-leb cells a.cell l, s) (quiet_guard (cell_of boards cells t a.cell) (rule_of rule) (proc_of a)))

pub formed : (rule boards cells : ℕ) (t : Table) (a : Action) → NoOtherHolds (refusals rule boards cells (seen boards cells t a.cell) a) →
    (rule ≤ last_rule) × (a.code ≤ last_code) × Among boards (proc_of a) × (sound (rule_of rule) boards (cell_of boards cells t a.cell) ≡ true)
formed rule boards cells t a quiet =
    let w = (no_other_exactly rule boards cells t a).0 quiet in
    let c = code_fits a w.2 in
    (w.1, c, named_among boards a c w.3, w.5)

-- ---- accepted exactly when the guard holds

-- an action that the rule's module does not have has no guard, and is never accepted
pub accepted_when_allowed : (rule boards cells : ℕ) (t : Table) (a : Action) → NoOtherHolds (refusals rule boards cells (seen boards cells t a.cell) a) →
    ((answer rule boards cells t a).number ≡ 0) ↔ Guard boards (as_state (cell_of boards cells t a.cell)) (rule_of rule) (proc_of a)
unfolding answer_by seen_by
accepted_when_allowed rule boards cells t a quiet = ((λ e. (accepted rule boards cells (seen boards cells t a.cell) a e).guarded), back)
  where
    x : Cell
    x = cell_of boards cells t a.cell

    back : Guard boards (as_state x) (rule_of rule) (proc_of a) → (answer rule boards cells t a).number ≡ 0
    back g =
        let w = (no_other_exactly rule boards cells t a).0 quiet in
        let f = formed rule boards cells t a quiet in
        let S = (sound_exactly (rule_of rule) boards x).0 f.3 in
        let k = (guard_exactly boards x (rule_of rule) (proc_of a) f.2 S.0 S.1).1 g in
        answers_guard rule boards cells t a (w.0, w.1, w.2, (has_exactly rule a f.0 f.1).1 k.0, w.3, w.4, w.5) ∙ none_number (guard x (rule_of rule) (proc_of a)) k.1

-- ---- the handout's value and next state

module _ (rule boards cells : ℕ) (t : Table) (a : Action) (e : (answer rule boards cells t a).number ≡ 0) where
  facts : Accepted rule boards cells (seen boards cells t a.cell) a
  unfolding answer_by
  facts = accepted rule boards cells (seen boards cells t a.cell) a e

  pub after_is : cell_of boards cells (table_after rule boards cells t a) a.cell
      ≡ stores (cell_of boards cells t a.cell) (effect (rule_of rule) boards (cell_of boards cells t a.cell) (proc_of a))
  unfolding answer_by cell_after seen_by
  after_is = step_here rule boards cells t a ∙ rw e

  -- Read answers the cache's value, every other action 0
  pub value_is : (answer rule boards cells t a).value ≡ Value (as_state (cell_of boards cells t a.cell)) (proc_of a)
  unfolding answer_by seen_by
  value_is =
      accepted_value rule boards cells (seen boards cells t a.cell) a e
      ∙ next_value (rule_of rule) boards (cell_of boards cells t a.cell) facts.sounds (proc_of a) facts.among facts.guarded

  -- main, every board's cache, dirty and lock
  pub state_is : as_state (cell_of boards cells (table_after rule boards cells t a) a.cell) ≡ Effect (rule_of rule) (as_state (cell_of boards cells t a.cell)) (proc_of a)
  unfolding seen_by
  state_is = rw after_is (next_state (rule_of rule) boards (cell_of boards cells t a.cell) facts.sounds (proc_of a) facts.among facts.guarded)

  -- and the cell stays sound
  pub sound_after : sound (rule_of rule) boards (cell_of boards cells (table_after rule boards cells t a) a.cell) ≡ true
  unfolding seen_by
  sound_after = rw after_is (sound_kept (rule_of rule) boards (cell_of boards cells t a.cell) facts.sounds (proc_of a) facts.among facts.guarded)

-- every other cell stays as it was
pub others_stay : (rule boards cells : ℕ) (t : Table) (a : Action) (d : ℕ) → d ≢ a.cell → cell_of boards cells (table_after rule boards cells t a) d ≡ cell_of boards cells t d
others_stay = step_there

-- and the sizes
pub sizes_after : (rule boards cells : ℕ) (t : Table) (a : Action) → sizes_good boards cells (table_after rule boards cells t a) ≡ sizes_good boards cells t
sizes_after = step_sizes

-- ---- no other table has them

same_some : (b d : Bool) (v w : ℕ) → ◌≡◌ {A = Option ℕ} (cond b (Some v) None) (cond d (Some w) None) → (b ≡ d) × (b ≡ true → v ≡ w)
same_some true true v w e = (refl, λ h. cc)
same_some true false v w e = absurd (not_nil v e)
same_some false true v w e = absurd (not_nil w (sym e))
same_some false false v w e = (refl, λ h. cc)

-- a cell that stands as document 01 asks is what the handout sees of it
module _ (r : Rule) (P cells : ℕ) (t u : Table) (c : ℕ) where
  same_cell : Stands r P (cell_of P cells t c) → Stands r P (cell_of P cells u c) → as_state (cell_of P cells t c) ≡ as_state (cell_of P cells u c) → cell_of P cells t c ≡ cell_of P cells u c
  unfolding as_state
  same_cell S U e = fun_ext (λ s. fun_ext (λ k. go s k))
    where
      x : Cell
      x = cell_of P cells t c

      y : Cell
      y = cell_of P cells u c

      cache : (q : ℕ) → (has_board (live_mask x) q ≡ has_board (live_mask y) q) × (has_board (live_mask x) q ≡ true → copy_at x q ≡ copy_at y q)
      cache q = same_some (has_board (live_mask x) q) (has_board (live_mask y) q) (copy_at x q) (copy_at y q) (ap (λ (h : State). h.c q) e)

      beyond : (s : Slice) (k : ℕ) → width P s ≤ k → x s k ≡ y s k
      beyond s k l = nothing_above (cell_by_cell P) P cells t c s k l ∙ sym (nothing_above (cell_by_cell P) P cells u c s k l)

      copied : (q : ℕ) → Dec (q < P) → (b : Bool) → has_board (live_mask x) q ≡ b → copy_at x q ≡ copy_at y q
      copied q (yes l) true h = (cache q).1 h
      copied q (yes l) false h = S.not_live_holds_0 q l h ∙ sym (U.not_live_holds_0 q l (sym (cache q).0 ∙ h))
      copied q (no n) b h = beyond copies q (unfold width in omega arith)

      go : (s : Slice) (k : ℕ) → x s k ≡ y s k
      go main zero = ap (λ (h : State). h.m) e
      go main (suc k) = beyond main (suc k) (unfold width in omega arith)
      go copies k = copied k (dec_lt k P) (has_board (live_mask x) k) refl
      go masks zero = same_mask _ _ (λ q. (cache q).0)
      go masks (suc zero) = same_mask _ _ (λ q. ap (λ (h : State). h.dirty q) e)
      go masks (suc (suc zero)) = same_mask _ _ (λ q. ap (λ (h : State). h.lock q) e)
      go masks (suc (suc (suc k))) = beyond masks (suc (suc (suc k))) (unfold width in omega arith)

-- a table of good sizes, with the handout's next state at the cell, where it stands as document 01 asks, and every other cell as it was, is the
-- table after the action
pub only_next : (rule boards cells : ℕ) (t : Table) (a : Action) → (answer rule boards cells t a).number ≡ 0 →
    (u : Table) → sizes_good boards cells u ≡ true → Stands (rule_of rule) boards (cell_of boards cells u a.cell) →
    as_state (cell_of boards cells u a.cell) ≡ Effect (rule_of rule) (as_state (cell_of boards cells t a.cell)) (proc_of a) →
    ((d : ℕ) → d ≢ a.cell → cell_of boards cells u d ≡ cell_of boards cells t d) →
    u ≡ table_after rule boards cells t a
unfolding seen_by
only_next rule boards cells t a e u z U h others =
    same_table (cell_by_cell boards) boards cells (by_cell boards cells) u next (sizes_of boards cells u z)
    (sizes_of boards cells next (sizes_after rule boards cells t a ∙ (facts rule boards cells t a e).sizes)) (λ c. go c (ℕ_discrete c a.cell))
  where
    next : Table
    next = table_after rule boards cells t a

    go : (c : ℕ) → Dec (c ≡ a.cell) → cell_of boards cells u c ≡ cell_of boards cells next c
    go c (yes q) =
        rw q (same_cell (rule_of rule) boards cells u next a.cell U ((sound_exactly (rule_of rule) boards _).0 (sound_after rule boards cells t a e)).0 (h ∙ sym (state_is rule boards cells t a e)))
    go c (no n) = others c n ∙ sym (others_stay rule boards cells t a c n)
