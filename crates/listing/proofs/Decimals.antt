-- A decimal number reads back as itself, and begins with the digit 0 only where it is 0. Assumes nothing.
use mathlib.Core.Path.{◌≡◌, refl, sym, ◌∙◌}
use mathlib.Core.List.{List, [], ◌∷◌, ◌++◌}
use Prim.Native.Nat.{ℕ, zero, suc, ◌+◌, ◌-◌, ◌*◌, ◌/◌, ◌%◌, ◌<◌, ◌≤◌}
use native.Mathlib.Omega.{arith}
use native.Mathlib.Decide.{dec_lt}
use lib.ListN.{length, get_or, length-append}
use Rattle.listing.specs.Decimal.{digits_in, digits, reads_from, reads_as}
use Rattle.listing.proofs.DigitLaws.{small_in, more_in}

-- one digit more
value_more : (before : ℕ) (ds : List ℕ) (d : ℕ) → reads_from before (ds ++ (d ∷ [])) ≡ 10 * reads_from before ds + (d - 48)
unfolding reads_from
value_more before [] d = refl
value_more before (e ∷ ds) d = value_more (10 * before + (e - 48)) ds d

value_one : (d : ℕ) → reads_as ((48 + d) ∷ []) ≡ d
unfolding reads_from
value_one d = omega arith

value_in : (f n : ℕ) → n ≤ f → reads_as (digits_in f n) ≡ n
value_in zero n h = rw (small_in zero n (omega arith)) (value_one n)
value_in (suc f) n h = go (value_in f (n / 10)) (dec_lt n 10)
  where
    go : (n / 10 ≤ f → reads_as (digits_in f (n / 10)) ≡ n / 10) → Dec (n < 10) → reads_as (digits_in (suc f) n) ≡ n
    go r (yes a) = rw (small_in (suc f) n a) (value_one n)
    go r (no a) =
        let i : reads_as (digits_in f (n / 10)) ≡ n / 10 = r (omega arith) in
        let e : 10 * (n / 10) + (48 + n % 10 - 48) ≡ n = omega arith in
        rw (more_in f n (omega arith), value_more 0 (digits_in f (n / 10)) (48 + n % 10), i) e

pub reads_back : (n : ℕ) → reads_as (digits n) ≡ n
unfolding digits
reads_back n = value_in n n (omega arith)

-- ---- no leading zeros

one_in : (n : ℕ) → 1 ≤ length (digits_in zero n)
unfolding digits_in
one_in n = omega arith

some_in : (f n : ℕ) → 1 ≤ length (digits_in f n)
some_in zero n = one_in n
some_in (suc f) n = go (dec_lt n 10)
  where
    go : Dec (n < 10) → 1 ≤ length (digits_in (suc f) n)
    go (yes a) = rw (small_in (suc f) n a) (omega arith)
    go (no a) = rw (more_in f n (omega arith), length-append) (omega arith)

first_of : (xs ys : List ℕ) → 1 ≤ length xs → get_or (xs ++ ys) 0 0 ≡ get_or xs 0 0
first_of [] ys h = absurd (omega arith)
first_of (x ∷ xs) ys h = refl

first_in : (f n : ℕ) → n ≤ f → get_or (digits_in f n) 0 0 ≡ 48 → n ≡ 0
first_in zero n h e = omega arith
first_in (suc f) n h e = go (first_in f (n / 10)) (dec_lt n 10)
  where
    go : (n / 10 ≤ f → get_or (digits_in f (n / 10)) 0 0 ≡ 48 → n / 10 ≡ 0) → Dec (n < 10) → n ≡ 0
    go r (yes a) = let k : 48 + n ≡ 48 = rw (small_in (suc f) n a) at e in omega arith
    go r (no a) =
        let k : get_or (digits_in f (n / 10)) 0 0 ≡ 48 = sym (first_of (digits_in f (n / 10)) ((48 + n % 10) ∷ []) (some_in f (n / 10))) ∙ rw (more_in f n (omega arith)) at e in
        let z : n / 10 ≡ 0 = r (omega arith) k in
        omega arith

-- the first digit is 0 only for the number 0
pub no_leading_zero : (n : ℕ) → get_or (digits n) 0 0 ≡ 48 → n ≡ 0
unfolding digits
no_leading_zero n e = first_in n n (omega arith) e
