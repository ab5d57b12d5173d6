-- A mask's boards as the code takes them: by shifts, `|`, `&` and `!`, and the lowest by trailing zeros. Assumes nothing.
use mathlib.Core.Path.{◌≡◌, refl, ap, ◌∙◌}
use mathlib.Core.Logic.{◌≢◌}
use Prim.Native.Nat.{ℕ, zero, suc, ◌+◌, ◌-◌, ◌*◌, ◌/◌, ◌%◌, ◌^◌, ◌≤◌, ◌<◌, min}
use native.Mathlib.Omega.{arith}
use native.Mathlib.Nat.{mod-eq_of_lt, one-mul}
use lib.Pow.{pow_pos, pow_mono, pow-lt}
use lib.Bits.{bit_or, bit_and, or_step, and_step, or_zero_r, and_mask}
use lib.Count.{count_trailing_zeros, under}
use Rattle.protocol.specs.Masks.{with_board, without_board, lowest_board}
use Rattle.protocol.proofs.MaskLaws.{with_zero, with_suc, without_zero, without_suc}

or_with : (m p : ℕ) → bit_or m (2 ^ p) ≡ with_board m p
or_with m zero = or_step m 1 ∙ rw (or_zero_r (m / 2), with_zero m) (omega arith)
or_with m (suc p) =
    or_step m (2 ^ suc p) ∙ rw (half, low, or_with (m / 2) p, with_suc m p) (omega arith)
  where
    half : 2 ^ suc p / 2 ≡ 2 ^ p
    half = omega arith

    low : 2 ^ suc p % 2 ≡ 0
    low = omega arith

and_without : (k m p : ℕ) → m < 2 ^ k → p < k → bit_and m (2 ^ k - 1 - 2 ^ p) ≡ without_board m p
and_without zero m p h l = absurd (omega arith)
and_without (suc k) m zero h l =
    and_step m (2 ^ suc k - 1 - 1) ∙ rw (even, low, and_mask (m / 2) k, mod-eq_of_lt small, without_zero m) (omega arith)
  where
    some : 0 < 2 ^ k
    some = pow_pos k

    even : (2 ^ suc k - 1 - 1) / 2 ≡ 2 ^ k - 1
    even = omega arith

    low : (2 ^ suc k - 1 - 1) % 2 ≡ 0
    low = omega arith

    small : m / 2 < 2 ^ k
    small = omega arith
and_without (suc k) m (suc p) h l = and_step m (2 ^ suc k - 1 - 2 ^ suc p) ∙ step (and_without k (m / 2) p (omega arith) (omega arith))
  where
    some : 0 < 2 ^ p
    some = pow_pos p

    room : 2 ^ suc p ≤ 2 ^ k
    room = pow_mono (omega arith)

    odd : (2 ^ suc k - 1 - 2 ^ suc p) / 2 ≡ 2 ^ k - 1 - 2 ^ p
    odd = omega (arith, some, room)

    low : (2 ^ suc k - 1 - 2 ^ suc p) % 2 ≡ 1
    low = omega (arith, some, room)

    step : bit_and (m / 2) (2 ^ k - 1 - 2 ^ p) ≡ without_board (m / 2) p →
        bit_and (m / 2) ((2 ^ suc k - 1 - 2 ^ suc p) / 2) * 2 + min (m % 2) ((2 ^ suc k - 1 - 2 ^ suc p) % 2) ≡ without_board m (suc p)
    step i = rw (odd, low, i, without_suc m p) (omega arith)

-- ---- as the compiler hands them over

pub shl_code : (k p : ℕ) → p < k → (1 * 2 ^ p) % 2 ^ k ≡ 2 ^ p
shl_code k p l = ap (λ (x : ℕ). x % 2 ^ k) (one-mul (2 ^ p)) ∙ mod-eq_of_lt (pow-lt l)

pub with_code : (m p : ℕ) → p < 16 → bit_or m ((1 * 2 ^ p) % 2 ^ 16) ≡ with_board m p
with_code m p l = ap (bit_or m) (shl_code 16 p l) ∙ or_with m p

pub without_code : (m p : ℕ) → m < 2 ^ 16 → p < 16 → bit_and m ((2 ^ 16 - 1) - (1 * 2 ^ p) % 2 ^ 16) ≡ without_board m p
without_code m p h l = ap (λ (x : ℕ). bit_and m ((2 ^ 16 - 1) - x)) (shl_code 16 p l) ∙ and_without 16 m p h l

-- ---- the lowest board

-- digits beyond the highest one change nothing
same_zeros : (j k m : ℕ) → m < 2 ^ j → m < 2 ^ k → m ≢ 0 → count_trailing_zeros j m ≡ count_trailing_zeros k m
unfolding count_trailing_zeros
same_zeros zero k m h l n = absurd (omega arith)
same_zeros (suc j) zero m h l n = absurd (omega arith)
same_zeros (suc j) (suc k) m h l n = go (m % 2) refl (λ e. same_zeros j k (m / 2) (omega arith) (omega arith) (omega arith))
  where
    go : (b : ℕ) → m % 2 ≡ b → (m % 2 ≡ 0 → count_trailing_zeros j (m / 2) ≡ count_trailing_zeros k (m / 2)) → under b (count_trailing_zeros j (m / 2)) ≡ under b (count_trailing_zeros k (m / 2))
    go zero e i = ap suc (i e)
    go (suc b) e i = refl

below_pow : (m : ℕ) → m < 2 ^ m
below_pow zero = omega arith
below_pow (suc m) = omega (arith, below_pow m, pow_pos m)

pub lowest_code : (m : ℕ) → m < 2 ^ 16 → m ≢ 0 → count_trailing_zeros 16 m ≡ lowest_board m
unfolding lowest_board
lowest_code m h n = same_zeros 16 m m h (below_pow m) n
