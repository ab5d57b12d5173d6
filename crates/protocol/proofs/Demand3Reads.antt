-- Demand 3, reads: from a fresh table, under a coherent rule kept for any list of actions, refused ones included, every accepted Read answers
-- the latest accepted write to its cell, or the starting value; the log is a run of the handout's CoherentMemory. Assumes nothing.
use mathlib.Core.Path.{◌≡◌, refl, sym, ap, ◌∙◌}
use mathlib.Core.Logic.{inl}
use mathlib.Core.Bool.{Bool, true, false, cond, ◌&&◌}
use mathlib.Core.List.{List, [], ◌∷◌, ◌++◌, map}
use Prim.Native.Nat.{ℕ, ◌≤◌}
use native.Mathlib.Omega.{arith}
use lib.Dec.{eqb}
use lib.ListN.{length, get_or}
use borrow.Author.Tests.{eqb-true}
use Rattle.protocol.specs.declared.Action.{Action}
use Rattle.protocol.specs.Names.{rule_of, proc_of}
use Rattle.protocol.specs.Slices.{Table}
use Rattle.protocol.specs.Cell.{cell_of}
use Rattle.protocol.specs.Step.{seen_by, seen, answer_by, answer, table_after}
use Rattle.protocol.specs.Fresh.{fresh_table}
use Rattle.protocol.specs.Runs.{CoherentRule, Line, line_of, log_by, log, table_after_all, is_read, is_write, accepted_read, accepted_write, followed, written, written_after, latest_write}
use Rattle.protocol.specs.Handout.{State, IsCurrent, Current}
use Rattle.protocol.specs.CoherentMemory.{Memory, returned, wrote, SKIP, Allowed, after, Run}
use Rattle.protocol.specs.AsHandout.{as_state, as_event}
use Rattle.protocol.proofs.Booleans.{clash, and_left, and_right, same_choice}
use Rattle.protocol.proofs.MaskLaws.{has_none}
use Rattle.protocol.proofs.HandoutLaws.{one_current}
use Rattle.protocol.proofs.Ladder.{Coherent, down_to_global, inv3_of}
use Rattle.protocol.proofs.CurrentKept.{current_kept}
use Rattle.protocol.proofs.SoundExactly.{sound_exactly}
use Rattle.protocol.proofs.NumberLaws.{by_rule, proc_read, proc_writes}
use Rattle.protocol.proofs.StepLaws.{accepted}
use Rattle.protocol.proofs.FreshLaws.{fresh_main, fresh_masks}
use Rattle.protocol.proofs.Demand2.{value_is, state_is}
use Rattle.protocol.proofs.RunLaws.{line_tells, run_tells}

pub coherent_rule : (rule : ℕ) → CoherentRule rule → Coherent (rule_of rule)
unfolding rule_of
coherent_rule rule (l, h) = by_rule (λ (r : ℕ). 1 ≤ r → Coherent (rule_of r)) (λ l. omega arith) (λ l. tt) (λ l. tt) (λ l. tt) (λ l. tt) rule h l

-- ---- one step

module _ (rule boards cells : ℕ) (co : CoherentRule rule) (t : Table) (a : Action) where
  abbrev before : State
  before = as_state (cell_of boards cells t a.cell)

  -- accepted, the current value is kept or written
  current_accepted : (v : ℕ) → (answer rule boards cells t a).number ≡ 0 → IsCurrent boards before v →
      IsCurrent boards (as_state (cell_of boards cells (table_after rule boards cells t a) a.cell)) (cond (is_write a.code) a.value v)
  unfolding answer_by seen_by
  current_accepted v e c =
      let k = accepted rule boards cells (seen boards cells t a.cell) a e in
      let I = ((sound_exactly (rule_of rule) boards _).0 k.sounds).1 in
      let co' = coherent_rule rule co in
      rw (state_is rule boards cells t a e, ← proc_writes a k.code_within v)
      (current_kept boards before v (rule_of rule) (inv3_of boards before (rule_of rule) co' I) (proc_of a) k.among (down_to_global boards before (rule_of rule) co' I (proc_of a) k.among k.guarded) c)

  -- an accepted Read answers the current value
  reads_current : (v : ℕ) → a.code ≡ 0 → (answer rule boards cells t a).number ≡ 0 → IsCurrent boards before v → (answer rule boards cells t a).value ≡ v
  unfolding answer_by seen_by
  reads_current v z e c =
      let k = accepted rule boards cells (seen boards cells t a.cell) a e in
      let I = ((sound_exactly (rule_of rule) boards _).0 k.sounds).1 in
      let co' = coherent_rule rule co in
      let g : Current boards before a.board = rw (proc_read a z) at (down_to_global boards before (rule_of rule) co' I (proc_of a) k.among k.guarded) in
      value_is rule boards cells t a e ∙ rw (proc_read a z, g.1) (one_current boards before (inv3_of boards before (rule_of rule) co' I) g.0 v g.2 c)

-- ---- lines as events

-- a Read is no Write
read_only : (code : ℕ) → is_read code ≡ true → is_write code ≡ false
unfolding is_read is_write
read_only code e = rw (eqb-true code 0 e)

after_event : (m : Memory) (l : Line) (k : ℕ) → after m (as_event l) k ≡ written_after k (m k) l
unfolding as_event accepted_read accepted_write
after_event m l k = go (eqb l.told.number 0) (is_read l.action.code) refl (is_write l.action.code) refl
  where
    go : (n r : Bool) → is_read l.action.code ≡ r → (w : Bool) → is_write l.action.code ≡ w →
        after m (cond (n && r) (returned l.action.cell l.told.value) (cond (n && w) (wrote l.action.cell l.action.value) SKIP)) k
        ≡ cond (n && eqb l.action.cell k) (cond w l.action.value (m k)) (m k)
    go false r e w d = refl
    go true true e true d = absurd (clash d (read_only l.action.code e))
    go true true e false d = same_choice (eqb l.action.cell k) (m k)
    go true false e true d = refl
    go true false e false d = same_choice (eqb l.action.cell k) (m k)

-- in a run of CoherentMemory, a Read returns the latest write before it
pub read_in_run : (m : Memory) (before rest : List Line) (l : Line) → Run m (map as_event (before ++ (l ∷ rest))) → accepted_read l ≡ true →
    l.told.value ≡ latest_write l.action.cell (m l.action.cell) before
unfolding latest_write followed as_event
read_in_run m [] rest l r e = rw e at r.0
read_in_run m (b ∷ before) rest l r e = read_in_run (after m (as_event b)) before rest l r.1 e ∙ ap (λ (v : ℕ). latest_write l.action.cell v before) (after_event m b l.action.cell)

-- ---- from any table with known current values

module _ (rule boards cells : ℕ) (co : CoherentRule rule) where
  pub current_step : (t : Table) (a : Action) (m : Memory) → ((k : ℕ) → IsCurrent boards (as_state (cell_of boards cells t k)) (m k)) → (k : ℕ) →
      IsCurrent boards (as_state (cell_of boards cells (table_after rule boards cells t a) k)) (after m (as_event (line_of rule boards cells t a)) k)
  current_step t a m f k =
      rw (after_event m (line_of rule boards cells t a) k)
      (line_tells rule boards cells k (λ v x. IsCurrent boards (as_state x) v) written (λ v t a e. current_accepted rule boards cells co t a v e) (m k) t a (f k))

  pub current_run : (t : Table) (actions : List Action) (k v : ℕ) → IsCurrent boards (as_state (cell_of boards cells t k)) v →
      IsCurrent boards (as_state (cell_of boards cells (table_after_all rule boards cells t actions) k)) (latest_write k v (log rule boards cells t actions))
  unfolding latest_write
  current_run t actions k v = run_tells rule boards cells k (λ v x. IsCurrent boards (as_state x) v) written (λ v t a e. current_accepted rule boards cells co t a v e) v t actions

  allowed_line : (t : Table) (a : Action) (m : Memory) → ((k : ℕ) → IsCurrent boards (as_state (cell_of boards cells t k)) (m k)) → Allowed m (as_event (line_of rule boards cells t a))
  unfolding as_event
  allowed_line t a m f = go (accepted_read l) refl (accepted_write l)
    where
      l : Line
      l = line_of rule boards cells t a

      go : (r : Bool) → accepted_read l ≡ r → (w : Bool) → Allowed m (cond r (returned a.cell l.told.value) (cond w (wrote a.cell a.value) SKIP))
      go true e w = unfold accepted_read is_read in
          reads_current rule boards cells co t a (m a.cell) (eqb-true _ _ (and_right (eqb l.told.number 0) (eqb a.code 0) e)) (eqb-true _ _ (and_left (eqb l.told.number 0) (eqb a.code 0) e)) (f a.cell)
      go false e true = tt
      go false e false = tt

  pub coherent_run : (t : Table) (actions : List Action) (m : Memory) → ((k : ℕ) → IsCurrent boards (as_state (cell_of boards cells t k)) (m k)) →
      Run m (map as_event (log rule boards cells t actions))
  unfolding log_by
  coherent_run t [] m f = tt
  coherent_run t (a ∷ rest) m f = (
    allowed_line t a m f,
    coherent_run (table_after rule boards cells t a) rest (after m (as_event (line_of rule boards cells t a))) (current_step t a m f),
  )

fresh_current : (boards : ℕ) (starting : List ℕ) (k : ℕ) → IsCurrent boards (as_state (cell_of boards (length starting) (fresh_table boards starting) k)) (get_or starting k 0)
unfolding as_state
fresh_current boards starting k = inl ((λ p l. rw (fresh_masks boards starting k 1) (has_none p)), sym (fresh_main boards starting k))

-- ---- the promises

module _ (rule boards : ℕ) (starting : List ℕ) (co : CoherentRule rule) (actions : List Action) where
  -- the log of a run from a fresh table is a run of the handout's CoherentMemory, started at the starting values
  pub log_is_coherent : Run (λ k. get_or starting k 0) (map as_event (log rule boards (length starting) (fresh_table boards starting) actions))
  log_is_coherent = coherent_run rule boards (length starting) co (fresh_table boards starting) actions _ (fresh_current boards starting)

  -- wherever the log is cut before an accepted Read, its value is the latest accepted write that the lines before it tell of
  pub reads_latest : (before rest : List Line) (l : Line) → log rule boards (length starting) (fresh_table boards starting) actions ≡ before ++ (l ∷ rest) → accepted_read l ≡ true →
      l.told.value ≡ latest_write l.action.cell (get_or starting l.action.cell 0) before
  reads_latest before rest l cut e = read_in_run (λ (k : ℕ). get_or starting k 0) before rest l (rw cut at log_is_coherent) e

  -- the current value of each cell at the end is the latest accepted write
  pub latest_is_current : (k : ℕ) → IsCurrent boards (as_state (cell_of boards (length starting) (table_after_all rule boards (length starting) (fresh_table boards starting) actions) k))
      (latest_write k (get_or starting k 0) (log rule boards (length starting) (fresh_table boards starting) actions))
  latest_is_current k = current_run rule boards (length starting) co (fresh_table boards starting) actions k (get_or starting k 0) (fresh_current boards starting k)
