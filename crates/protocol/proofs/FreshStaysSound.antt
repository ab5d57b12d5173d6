-- From a fresh table, under any rule and any list of actions, every cell stays sound, so 7 is never answered; and under rules 2 to 4 every live
-- copy is at every moment the latest accepted write. Assumes nothing.
use mathlib.Core.Path.{◌≡◌}
use mathlib.Core.Logic.{◌≢◌}
use mathlib.Core.Bool.{true, false}
use mathlib.Core.List.{List}
use Rattle.std.specs.Prelude.{None}
use Prim.Native.Nat.{ℕ, ◌<◌, ◌≤◌}
use native.Mathlib.Omega.{arith}
use lib.ListN.{length, get_or}
use Rattle.protocol.specs.declared.Action.{Action}
use Rattle.protocol.specs.declared.Rule.{Rule}
use Rattle.protocol.specs.declared.Rule.TheVariants.{IncoherentMemory, GlobalImpl, CurrentCaches, ExclusiveLocks0, ExclusiveLocks}
use Rattle.protocol.specs.Names.{last_rule, rule_of}
use Rattle.protocol.specs.Masks.{has_board}
use Rattle.protocol.specs.Slices.{Table, masks}
use Rattle.protocol.specs.Cell.{Cell, copy_at, live_mask, cell_of}
use Rattle.protocol.specs.Soundness.{sound}
use Rattle.protocol.specs.Step.{answer}
use Rattle.protocol.specs.Fresh.{fresh_table}
use Rattle.protocol.specs.Runs.{CoherentRule, log, table_after_all, latest_write}
use Rattle.protocol.specs.Handout.{State, Inv2, Inv3, Inv4, Inv5, Inv6, Inv7, Invariants}
use Rattle.protocol.specs.AsHandout.{as_state, Stands}
use Rattle.protocol.proofs.Booleans.{clash}
use Rattle.protocol.proofs.MaskLaws.{has_none}
use Rattle.protocol.proofs.HandoutLaws.{inv1}
use Rattle.protocol.proofs.CellAsState.{live_is, nil_is, copy_current}
use Rattle.protocol.proofs.Ladder.{AllCurrent, inv3_of, inv4_of}
use Rattle.protocol.proofs.SoundExactly.{sound_exactly}
use Rattle.protocol.proofs.NumberLaws.{by_rule}
use Rattle.protocol.proofs.FreshLaws.{fresh_copies, fresh_masks}
use Rattle.protocol.proofs.RunLaws.{run_tells}
use Rattle.protocol.proofs.RefusalOrder.{answers_7}
use Rattle.protocol.proofs.Demand2.{sound_after}
use Rattle.protocol.proofs.Demand3Reads.{coherent_rule, latest_is_current}

-- every cell is sound, those beyond the table too: they hold nothing
abbrev pub Sound : (rule boards cells : ℕ) → Table → Type 0
Sound rule boards cells t = (c : ℕ) → sound (rule_of rule) boards (cell_of boards cells t c) ≡ true

-- ---- a fresh cell

module _ (P : ℕ) (h : State) (nil : (p : ℕ) → h.c p ≡ None) (clean : (p : ℕ) → h.dirty p ≡ false) (free : (p : ℕ) → h.lock p ≡ false) where
  i2 : Inv2 P h
  i2 p l d = absurd (clash d (clean p))

  i3 : Inv3 P h
  i3 p q l m d e = absurd (clash d (clean p))

  i4 : Inv4 P h
  i4 p l y = absurd (y (nil p))

  i5 : Inv5 P h
  i5 p q l m d e = absurd (clash d (free p))

  i6 : Inv6 P h
  i6 p l d = absurd (clash d (free p))

  i7 : Inv7 P h
  i7 p l d = absurd (clash d (clean p))

  empty_invariants : (r : Rule) → Invariants P h r
  empty_invariants IncoherentMemory = (inv1 P h, i2)
  empty_invariants GlobalImpl = (inv1 P h, i2, i3)
  empty_invariants CurrentCaches = (inv1 P h, i2, i3, i4)
  empty_invariants ExclusiveLocks0 = (inv1 P h, i2, i3, i4, i5, i6)
  empty_invariants ExclusiveLocks = (inv1 P h, i2, i3, i4, i5, i6, i7)

fresh_sound : (rule boards : ℕ) (starting : List ℕ) → Sound rule boards (length starting) (fresh_table boards starting)
fresh_sound rule boards starting c = (sound_exactly (rule_of rule) boards x).1 (stands, unfold as_state in empty_invariants boards (as_state x) (λ p. (nil_is boards x p).0 (off 0 p)) (off 1) (off 2) (rule_of rule))
  where
    x : Cell
    x = cell_of boards (length starting) (fresh_table boards starting) c

    off : (k p : ℕ) → has_board (x masks k) p ≡ false
    off k p = rw (fresh_masks boards starting c k) (has_none p)

    stands : Stands (rule_of rule) boards x
    stands = record {
      no_live_at_p_or_above = λ p l. off 0 p;
      no_dirty_at_p_or_above = λ p l. off 1 p;
      no_lock_at_p_or_above = λ p l. off 2 p;
      not_live_holds_0 = λ p l h. fresh_copies boards starting c p;
      lock_mask_is_0 = λ l. fresh_masks boards starting c 2;
    }

-- ---- every run keeps every cell sound

pub run_sound : (rule boards cells : ℕ) (t : Table) (actions : List Action) → Sound rule boards cells t → Sound rule boards cells (table_after_all rule boards cells t actions)
run_sound rule boards cells t actions s c =
    run_tells rule boards cells c (λ u x. sound (rule_of rule) boards x ≡ true) (λ (u : Unit {0}) a. u) (λ u t a e f. sound_after rule boards cells t a e) tt t actions (s c)

-- from rule 2 on every live cache is current
all_current : (rule : ℕ) → rule ≤ last_rule → 2 ≤ rule → AllCurrent (rule_of rule)
unfolding rule_of
all_current = by_rule (λ (r : ℕ). 2 ≤ r → AllCurrent (rule_of r)) (λ l. omega arith) (λ l. omega arith) (λ l. tt) (λ l. tt) (λ l. tt)

-- ---- the promises

module _ (rule boards : ℕ) (starting : List ℕ) (actions : List Action) where
  pub stays_sound : (c : ℕ) → sound (rule_of rule) boards (cell_of boards (length starting) (table_after_all rule boards (length starting) (fresh_table boards starting) actions) c) ≡ true
  stays_sound = run_sound rule boards (length starting) (fresh_table boards starting) actions (fresh_sound rule boards starting)

  pub never_7 : (a : Action) → (answer rule boards (length starting) (table_after_all rule boards (length starting) (fresh_table boards starting) actions) a).number ≢ 7
  never_7 a e = clash (stays_sound a.cell) ((answers_7 rule boards (length starting) _ a).0 e).6

  pub live_is_latest : 2 ≤ rule → rule ≤ last_rule → (c p : ℕ) → p < boards →
      has_board (live_mask (cell_of boards (length starting) (table_after_all rule boards (length starting) (fresh_table boards starting) actions) c)) p ≡ true →
      copy_at (cell_of boards (length starting) (table_after_all rule boards (length starting) (fresh_table boards starting) actions) c) p
      ≡ latest_write c (get_or starting c 0) (log rule boards (length starting) (fresh_table boards starting) actions)
  live_is_latest l h c p m y =
      let I = ((sound_exactly (rule_of rule) boards x).0 (stays_sound c)).1 in
      let co : CoherentRule rule = (omega arith, h) in
      copy_current boards x (inv3_of boards (as_state x) (rule_of rule) (coherent_rule rule co) I) p _ y
      (inv4_of boards (as_state x) (rule_of rule) (all_current rule h l) I p m ((live_is boards x p).0 y)) (latest_is_current rule boards starting co actions c)
    where
      x : Cell
      x = cell_of boards (length starting) (table_after_all rule boards (length starting) (fresh_table boards starting) actions) c
