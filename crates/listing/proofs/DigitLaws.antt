-- The digits of a number: its tenth's, and the last one; how many there are at most. Assumes nothing.
use mathlib.Core.Path.{◌≡◌, refl, ap, sym, ◌∙◌}
use mathlib.Core.List.{List, [], ◌∷◌, ◌++◌}
use Prim.Native.Nat.{ℕ, zero, suc, ◌+◌, ◌*◌, ◌^◌, ◌/◌, ◌%◌, ◌<◌, ◌≤◌}
use native.Mathlib.Omega.{arith}
use native.Mathlib.Decide.{dec_lt}
use borrow.Author.Tests.{lt-ltb, le-ltb}
use lib.ListN.{length, length-append}
use Rattle.std.proofs.Math.Nat.{pow-succ'}
use Rattle.listing.specs.Decimal.{digits_in, digits}

pub small_in : (f n : ℕ) → n < 10 → digits_in f n ≡ (48 + n) ∷ []
unfolding digits_in
small_in zero n h = refl
small_in (suc f) n h = rw (lt-ltb _ _ h)

pub more_in : (f n : ℕ) → 10 ≤ n → digits_in (suc f) n ≡ digits_in f (n / 10) ++ ((48 + n % 10) ∷ [])
unfolding digits_in
more_in f n h = rw (le-ltb _ _ h)

-- any bound from the number on will do
enough : (f g n : ℕ) → n ≤ f → n ≤ g → digits_in f n ≡ digits_in g n
enough zero g n h k = small_in zero n (omega arith) ∙ sym (small_in g n (omega arith))
enough (suc f) zero n h k = small_in (suc f) n (omega arith) ∙ sym (small_in zero n (omega arith))
enough (suc f) (suc g) n h k = go (enough f g (n / 10)) (dec_lt n 10)
  where
    go : (n / 10 ≤ f → n / 10 ≤ g → digits_in f (n / 10) ≡ digits_in g (n / 10)) → Dec (n < 10) → digits_in (suc f) n ≡ digits_in (suc g) n
    go r (yes a) = small_in (suc f) n a ∙ sym (small_in (suc g) n a)
    go r (no a) =
        let big : 10 ≤ n = omega arith in
        more_in f n big ∙ ap (λ (l : List ℕ). l ++ ((48 + n % 10) ∷ [])) (r (omega arith) (omega arith)) ∙ sym (more_in g n big)

pub small : (n : ℕ) → n < 10 → digits n ≡ (48 + n) ∷ []
unfolding digits
small n h = small_in n n h

pub more : (n : ℕ) → 10 ≤ n → digits n ≡ digits (n / 10) ++ ((48 + n % 10) ∷ [])
unfolding digits
more zero h = absurd (omega arith)
more (suc n) h = more_in n (suc n) h ∙ ap (λ (l : List ℕ). l ++ ((48 + suc n % 10) ∷ [])) (enough n (suc n / 10) (suc n / 10) (omega arith) (omega arith))

pub length_small : (n : ℕ) → n < 10 → length (digits n) ≡ 1
length_small n h = ap length (small n h)

pub length_more : (n : ℕ) → 10 ≤ n → length (digits n) ≡ length (digits (n / 10)) + 1
length_more n h = ap length (more n h) ∙ simp length-append

-- how many digits there are: at most, and in all
pub fewer : (k n : ℕ) → n < 10 * 10 ^ k → length (digits n) ≤ suc k
fewer zero n h = rw (small n h) (omega arith)
fewer (suc k) n h = go (fewer k (n / 10)) (dec_lt n 10)
  where
    go : (n / 10 < 10 * 10 ^ k → length (digits (n / 10)) ≤ suc k) → Dec (n < 10) → length (digits n) ≤ suc (suc k)
    go r (yes a) = rw (small n a) (omega arith)
    go r (no a) =
        let big : 10 ≤ n = omega arith in
        let q : length (digits (n / 10)) ≤ suc k = r (omega (arith, h, pow-succ' 10 k)) in
        omega (arith, length_more n big)

positive : (k : ℕ) → 0 < 10 ^ k
positive zero = omega arith
positive (suc k) = omega (arith, pow-succ' 10 k, positive k)

at_least : (k n : ℕ) → 10 ^ k ≤ n → k < length (digits n)
at_least zero n h = go (dec_lt n 10)
  where
    go : Dec (n < 10) → 0 < length (digits n)
    go (yes a) = omega (arith, length_small n a)
    go (no a) = omega (arith, length_more n (omega arith))
at_least (suc k) n h =
    let big : 10 ≤ n = omega (arith, h, pow-succ' 10 k, positive k) in
    omega (arith, length_more n big, at_least k (n / 10) (omega (arith, h, pow-succ' 10 k)))

pub counted : (k n : ℕ) → 10 ^ k ≤ n → n < 10 * 10 ^ k → length (digits n) ≡ k + 1
counted k n h l = omega (arith, at_least k n h, fewer k n l)

pub few_digits : (n : ℕ) → n < 18446744073709551616 → length (digits n) ≤ 20
few_digits n h = fewer 19 n (omega arith)
