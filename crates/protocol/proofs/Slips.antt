-- "Refusing Drop on a board that isn't live, or Release on a board without the lock": both are accepted and change nothing. Assumes nothing.
use mathlib.Core.Path.{◌≡◌, refl, sym, ◌∙◌, fun_ext}
use mathlib.Core.Bool.{false}
use Rattle.std.specs.Prelude.{None}
use Prim.Native.Nat.{ℕ, ◌<◌, ◌≤◌}
use native.Mathlib.Omega.{arith}
use Rattle.protocol.specs.declared.Action.{Action}
use Rattle.protocol.specs.declared.Proc.TheVariants.{Drop, Release}
use Rattle.protocol.specs.Names.{last_rule, rule_of, proc_of}
use Rattle.protocol.specs.Masks.{has_board}
use Rattle.protocol.specs.Slices.{Table}
use Rattle.protocol.specs.Cell.{Cell, live_mask, lock_mask, cell_of}
use Rattle.protocol.specs.Step.{seen_by, seen, refusals, answer_by, answer, table_after}
use Rattle.protocol.specs.Handout.{Guard, Effect, Invariants, set_at}
use Rattle.protocol.specs.AsHandout.{as_state, NoOtherHolds}
use Rattle.protocol.proofs.Booleans.{clash, not_so}
use Rattle.protocol.proofs.HandoutLaws.{set_at_lem}
use Rattle.protocol.proofs.Ladder.{inv2_of}
use Rattle.protocol.proofs.SoundExactly.{sound_exactly}
use Rattle.protocol.proofs.CellAsState.{nil_is}
use Rattle.protocol.proofs.NumberLaws.{by_rule}
use Rattle.protocol.proofs.StepLaws.{accepted}
use Rattle.protocol.proofs.Demand2.{formed, accepted_when_allowed, only_next}

-- f_p := a, where it was a
set_nothing {ℓ} : {A : Type ℓ} (f : ℕ → A) (p : ℕ) (a : A) → f p ≡ a → set_at f p a ≡ f
set_nothing f p a e = fun_ext (λ q. set_at_lem (λ b. b ≡ f q) f p a q (λ s. sym e ∙ rw s) (λ n. refl))

module _ (rule boards cells : ℕ) (t : Table) (a : Action) (quiet : NoOtherHolds (refusals rule boards cells (seen boards cells t a.cell) a)) where
  -- an allowed action whose effect is no change changes nothing lent
  unchanged : Guard boards (as_state (cell_of boards cells t a.cell)) (rule_of rule) (proc_of a) →
      Effect (rule_of rule) (as_state (cell_of boards cells t a.cell)) (proc_of a) ≡ as_state (cell_of boards cells t a.cell) →
      ((answer rule boards cells t a).number ≡ 0) × (table_after rule boards cells t a ≡ t)
  unfolding answer_by seen_by
  unchanged g e =
      let ok = (accepted_when_allowed rule boards cells t a quiet).1 g in
      let k = accepted rule boards cells (seen boards cells t a.cell) a ok in
      (ok, sym (only_next rule boards cells t a ok t k.sizes ((sound_exactly (rule_of rule) boards _).0 k.sounds).0 (sym e) (λ d n. refl)))

  pub drop_not_live : a.code ≡ 6 → has_board (live_mask (cell_of boards cells t a.cell)) a.board ≡ false →
      ((answer rule boards cells t a).number ≡ 0) × (table_after rule boards cells t a ≡ t)
  unfolding seen_by
  drop_not_live code was_not_live = unchanged (rw is_drop clean) (rw (is_drop, set_nothing (as_state x).c a.board None nil))
    where
      x : Cell
      x = cell_of boards cells t a.cell

      is_drop : proc_of a ≡ Drop a.board
      is_drop = unfold proc_of in rw code

      nil : (as_state x).c a.board ≡ None
      nil = (nil_is boards x a.board).0 was_not_live

      clean : (as_state x).dirty a.board ≡ false
      clean =
          let f = formed rule boards cells t a quiet in
          let I = ((sound_exactly (rule_of rule) boards x).0 f.3).1 in
          not_so _ (λ d. inv2_of boards (as_state x) (rule_of rule) I a.board (rw is_drop at f.2) d nil)

  pub release_without_lock : 3 ≤ rule → a.code ≡ 8 → has_board (lock_mask (cell_of boards cells t a.cell)) a.board ≡ false →
      ((answer rule boards cells t a).number ≡ 0) × (table_after rule boards cells t a ≡ t)
  unfolding seen_by
  release_without_lock late code not_held = unchanged (rw is_release allowed) (rw (is_release, set_nothing (as_state x).lock a.board false (unfold as_state in not_held)))
    where
      x : Cell
      x = cell_of boards cells t a.cell

      is_release : proc_of a ≡ Release a.board
      is_release = unfold proc_of in rw code

      -- a dirty board would have the lock (Inv7)
      by : (r : ℕ) → r ≤ last_rule → 3 ≤ r → a.board < boards → Invariants boards (as_state x) (rule_of r) → Guard boards (as_state x) (rule_of r) (Release a.board)
      by = unfold rule_of in by_rule (λ (r : ℕ). 3 ≤ r → a.board < boards → Invariants boards (as_state x) (rule_of r) → Guard boards (as_state x) (rule_of r) (Release a.board))
          (λ l m I. absurd (omega arith)) (λ l m I. absurd (omega arith)) (λ l m I. absurd (omega arith)) (λ l m I. tt)
          (λ l m I. not_so _ (λ d. clash (I.6 a.board m d) (unfold as_state in not_held)))

      allowed : Guard boards (as_state x) (rule_of rule) (Release a.board)
      allowed =
          let f = formed rule boards cells t a quiet in
          by rule f.0 late (rw is_release at f.2) ((sound_exactly (rule_of rule) boards x).0 f.3).1
