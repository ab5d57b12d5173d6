-- Whole masks against each other: what a test of two masks says of their boards, for any number of boards. Assumes nothing.
use mathlib.Core.Path.{◌≡◌, refl, sym, ap, ◌∙◌}
use mathlib.Core.Bool.{Bool, true, false, not, ◌&&◌, ◌||◌}
use Prim.Native.Nat.{ℕ, zero, suc, ◌/◌, ◌%◌, ◌^◌, ◌<◌, ◌≤◌, min}
use native.Mathlib.Omega.{arith}
use native.Mathlib.Decide.{ℕ_discrete}
use lib.Dec.{eqb}
use lib.Bits.{bit_and, and_step, and_shr}
use lib.Count.{ones}
use borrow.Author.Tests.{eq-eqb, eqb-true, eqb-false, not-true}
use Rattle.protocol.specs.Masks.{has_board, has_another, lowest_board}
use Rattle.protocol.specs.Soundness.{every_board}
use Rattle.protocol.proofs.Booleans.{clash, not_so, and_right, either, boards_imply}
use Rattle.protocol.proofs.MaskLaws.{same_mask, has_none, has_lowest, high_of_lt, another_false, ones_same}
use Rattle.protocol.proofs.BoundedMasks.{below}
use Rattle.protocol.specs.Masks.{within}

-- ---- the boards of two masks together

low_digit : (a b : ℕ) → bit_and a b % 2 ≡ min (a % 2) (b % 2)
low_digit a b = omega (arith, and_step a b)

both_digits : (x y : ℕ) → x < 2 → y < 2 → eqb (min x y) 1 ≡ (eqb x 1 && eqb y 1)
both_digits zero zero h k = refl
both_digits zero (suc zero) h k = refl
both_digits zero (suc (suc y)) h k = absurd (omega arith)
both_digits (suc zero) zero h k = refl
both_digits (suc zero) (suc zero) h k = refl
both_digits (suc zero) (suc (suc y)) h k = absurd (omega arith)
both_digits (suc (suc x)) y h k = absurd (omega arith)

has_and : (a b p : ℕ) → has_board (bit_and a b) p ≡ (has_board a p && has_board b p)
unfolding has_board
has_and a b p = rw (and_shr a b p, low_digit (a / 2 ^ p) (b / 2 ^ p)) (both_digits (a / 2 ^ p % 2) (b / 2 ^ p % 2) (omega arith) (omega arith))

-- ---- one mask within another

within_at : (a b : ℕ) → within a b ≡ true → (p : ℕ) → has_board a p ≡ true → has_board b p ≡ true
unfolding within
within_at a b e p h = and_right (has_board a p) (has_board b p) (sym (has_and a b p) ∙ ap (λ (m : ℕ). has_board m p) (eqb-true _ _ e) ∙ h)

within_of : (a b : ℕ) → ((p : ℕ) → has_board a p ≡ true → has_board b p ≡ true) → within a b ≡ true
unfolding within
within_of a b f = eq-eqb _ _ (same_mask (bit_and a b) a (λ p. has_and a b p ∙ go p (has_board a p) refl))
  where
    go : (p : ℕ) (c : Bool) → has_board a p ≡ c → (has_board a p && has_board b p) ≡ has_board a p
    go p true e = rw (e, f p e)
    go p false e = rw e

module _ (P a : ℕ) (l : a < 2 ^ P) where
  among : (p : ℕ) → has_board a p ≡ true → p < P
  among p h = below P a p (λ q k. high_of_lt P a q l k) h

  pub within_boards : (b : ℕ) → within a b ≡ true → every_board P (λ p. not (has_board a p) || has_board b p) ≡ true
  within_boards b e = (boards_imply P (has_board a) (has_board b)).1 (λ p k h. within_at a b e p h)

  pub boards_within : (b : ℕ) → every_board P (λ p. not (has_board a p) || has_board b p) ≡ true → within a b ≡ true
  boards_within b e = within_of a b (λ p h. (boards_imply P (has_board a) (has_board b)).0 e p (among p h) h)

  -- where a board is in this mask, no other is in that one
  abbrev pub Alone : (b : ℕ) → Bool
  Alone b = every_board P (λ p. not (has_board a p) || not (has_another b p))

  pub alone_boards : (b : ℕ) → ones a ≤ 1 → (eqb a 0 || within b a) ≡ true → Alone b ≡ true
  alone_boards b one e = (boards_imply P (has_board a) (λ p. not (has_another b p))).1 (λ p k h. rw ((another_false b p).1 (λ q n. not_so _ (λ g. n (ones_same q p a one (within_at b a (inside p h) q g) h)))))
    where
      inside : (p : ℕ) → has_board a p ≡ true → within b a ≡ true
      inside p h = (either (eqb a 0) (within b a)).0 e (not_so _ (λ z. clash h (rw (eqb-true a 0 z) (has_none p))))

  pub boards_alone : (b : ℕ) → Alone b ≡ true → (eqb a 0 || within b a) ≡ true
  boards_alone b e = (either (eqb a 0) (within b a)).1 (λ z. within_of b a (λ q g. at (lowest_board a) (has_lowest a (eqb-false a 0 z)) q g (ℕ_discrete q (lowest_board a))))
    where
      at : (p : ℕ) → has_board a p ≡ true → (q : ℕ) → has_board b q ≡ true → Dec (q ≡ p) → has_board a q ≡ true
      at p h q g (yes s) = rw s h
      at p h q g (no n) =
          let k = (boards_imply P (has_board a) (λ p. not (has_another b p))).0 e p (among p h) h in
          absurd (clash g ((another_false b p).0 (not-true _ k) q n))
