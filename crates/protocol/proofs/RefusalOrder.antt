-- "For an action the order is 1 to 7, then the guard": each of the numbers 1 to 7 in words. Assumes nothing.
use mathlib.Core.Path.{◌≡◌, refl, ◌∙◌}
use mathlib.Core.Logic.{◌≢◌, ◌↔◌}
use mathlib.Core.Bool.{true, false}
use mathlib.Core.List.{List}
use Prim.Native.Nat.{ℕ, ◌<◌, ◌≤◌}
use native.Mathlib.Omega.{arith}
use borrow.Author.Tests.{ne_eqb, not-true, not-false, ltb-true, ltb-false, lt-ltb, le-ltb, leb-true, leb-false, le-leb, lt-leb}
use Rattle.protocol.specs.declared.Action.{Action}
use Rattle.protocol.specs.declared.Answer.{Answer}
use Rattle.protocol.specs.Names.{last_rule, rule_of, proc_of}
use Rattle.protocol.specs.Slices.{Table, every, sizes_good}
use Rattle.protocol.specs.Cell.{Cell, cell_of}
use Rattle.protocol.specs.Soundness.{sound}
use Rattle.protocol.specs.First.{Refusal, first_number}
use Rattle.protocol.specs.Guards.{guard}
use Rattle.protocol.specs.Effects.{value_of}
use Rattle.protocol.specs.Step.{malformed, missing, off_board, seen_by, seen, refusals, answer_to, answer_by, answer}
use Rattle.protocol.proofs.FirstLaws.{first_number_lem, condition_of, before, behind, another, refused_with}
use Rattle.protocol.proofs.StepLaws.{guard_every}

module _ (rule boards cells : ℕ) (t : Table) (a : Action) where
  -- the named cell, the refusals in their order, and what is answered where none holds
  abbrev x : Cell
  x = cell_of boards cells t a.cell

  abbrev rs : List Refusal
  rs = refusals rule boards cells (seen boards cells t a.cell) a

  abbrev ok : Answer
  ok = record { number = 0; value = value_of x (proc_of a) }

  -- the guard has no number below 8
  no_test : (n : ℕ) → n < 8 → every (guard x (rule_of rule) (proc_of a)) (another n) ≡ true
  no_test n l = guard_every (another n) (λ m b h k. rw (ne_eqb m n (omega arith))) x (rule_of rule) (proc_of a)

  -- where n is answered no condition before n's holds, and n's does
  refused : (n : ℕ) → n ≢ 0 → every (behind n rs) (another n) ≡ true → (answer rule boards cells t a).number ≡ n →
      ((m : ℕ) → condition_of m (before n rs) ≡ false) × (condition_of n rs ≡ true)
  unfolding answer_by answer_to seen_by
  refused n h = refused_with n h ok refl rs

  told : (answer rule boards cells t a).number ≡ first_number rs
  unfolding answer_by answer_to seen_by
  told = first_number_lem rs ok refl

  pub answers_1 : ((answer rule boards cells t a).number ≡ 1) ↔ (sizes_good boards cells t ≡ false)
  unfolding refusals seen_by every
  answers_1 = (
    (λ e. let f = refused 1 (omega arith) (no_test 1 (omega arith)) e in not-true _ f.1),
    λ s. told ∙ rw s,
  )

  pub answers_2 : ((answer rule boards cells t a).number ≡ 2) ↔ ((sizes_good boards cells t ≡ true) × (last_rule < rule))
  unfolding refusals seen_by every
  answers_2 = (
    (λ e. let f = refused 2 (omega arith) (no_test 2 (omega arith)) e in (not-false _ (f.0 1), ltb-true last_rule rule f.1)),
    λ s. told ∙ rw (s.0, lt-ltb last_rule rule s.1),
  )

  pub answers_3 : ((answer rule boards cells t a).number ≡ 3) ↔ ((sizes_good boards cells t ≡ true) × (rule ≤ last_rule) × (malformed a ≡ true))
  unfolding refusals seen_by every
  answers_3 = (
    (λ e. let f = refused 3 (omega arith) (no_test 3 (omega arith)) e in (not-false _ (f.0 1), ltb-false last_rule rule (f.0 2), f.1)),
    λ s. told ∙ rw (s.0, le-ltb last_rule rule s.1, s.2),
  )

  pub answers_4 : ((answer rule boards cells t a).number ≡ 4) ↔ ((sizes_good boards cells t ≡ true) × (rule ≤ last_rule) × (malformed a ≡ false) × (missing rule a.code ≡ true))
  unfolding refusals seen_by every
  answers_4 = (
    (λ e. let f = refused 4 (omega arith) (no_test 4 (omega arith)) e in (not-false _ (f.0 1), ltb-false last_rule rule (f.0 2), f.0 3, f.1)),
    λ s. told ∙ rw (s.0, le-ltb last_rule rule s.1, s.2, s.3),
  )

  pub answers_5 : ((answer rule boards cells t a).number ≡ 5) ↔ ((sizes_good boards cells t ≡ true) × (rule ≤ last_rule) × (malformed a ≡ false) × (missing rule a.code ≡ false) × (off_board boards a ≡ true))
  unfolding refusals seen_by every
  answers_5 = (
    (λ e. let f = refused 5 (omega arith) (no_test 5 (omega arith)) e in (not-false _ (f.0 1), ltb-false last_rule rule (f.0 2), f.0 3, f.0 4, f.1)),
    λ s. told ∙ rw (s.0, le-ltb last_rule rule s.1, s.2, s.3, s.4),
  )

  pub answers_6 : ((answer rule boards cells t a).number ≡ 6) ↔ ((sizes_good boards cells t ≡ true) × (rule ≤ last_rule) × (malformed a ≡ false) × (missing rule a.code ≡ false) × (off_board boards a ≡ false) × (cells ≤ a.cell))
  unfolding refusals seen_by every
  answers_6 = (
    (λ e. let f = refused 6 (omega arith) (no_test 6 (omega arith)) e in (not-false _ (f.0 1), ltb-false last_rule rule (f.0 2), f.0 3, f.0 4, f.0 5, leb-true cells a.cell f.1)),
    λ s. told ∙ rw (s.0, le-ltb last_rule rule s.1, s.2, s.3, s.4, le-leb cells a.cell s.5),
  )

  pub answers_7 : ((answer rule boards cells t a).number ≡ 7) ↔ ((sizes_good boards cells t ≡ true) × (rule ≤ last_rule) × (malformed a ≡ false) × (missing rule a.code ≡ false) × (off_board boards a ≡ false) × (a.cell < cells) × (sound (rule_of rule) boards (cell_of boards cells t a.cell) ≡ false))
  unfolding refusals seen_by every
  answers_7 = (
    (λ e. let f = refused 7 (omega arith) (no_test 7 (omega arith)) e in (not-false _ (f.0 1), ltb-false last_rule rule (f.0 2), f.0 3, f.0 4, f.0 5, leb-false cells a.cell (f.0 6), not-true _ f.1)),
    λ s. told ∙ rw (s.0, le-ltb last_rule rule s.1, s.2, s.3, s.4, lt-leb cells a.cell s.5, s.6),
  )

  -- past the seven the guard decides
  pub answers_guard : (sizes_good boards cells t ≡ true) × (rule ≤ last_rule) × (malformed a ≡ false) × (missing rule a.code ≡ false) × (off_board boards a ≡ false) × (a.cell < cells)
      × (sound (rule_of rule) boards (cell_of boards cells t a.cell) ≡ true) →
      (answer rule boards cells t a).number ≡ first_number (guard (cell_of boards cells t a.cell) (rule_of rule) (proc_of a))
  unfolding refusals seen_by
  answers_guard s = told ∙ rw (s.0, le-ltb last_rule rule s.1, s.2, s.3, s.4, lt-leb cells a.cell s.5, s.6)
