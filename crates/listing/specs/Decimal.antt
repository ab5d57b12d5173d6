-- "decimal numbers, most significant digit first and without leading zeros": the digits of a number as bytes, and the number of digits. Assumes nothing.
use Rattle.std.specs.Prelude.{cond, List, [], ◌∷◌, ◌++◌, ℕ, zero, suc, ◌+◌, ◌-◌, ◌*◌, ◌/◌, ◌%◌, ltb}

-- with a bound on how many digits there are behind the first; 48 is the byte of the digit 0
unfoldable pub digits_in : (bound : ℕ) → ℕ → List ℕ
digits_in zero n = (48 + n) ∷ []
digits_in (suc bound) n = cond (ltb n 10) ((48 + n) ∷ []) (digits_in bound (n / 10) ++ ((48 + n % 10) ∷ []))

-- a number has at most as many digits behind the first as it says
unfoldable pub digits : ℕ → List ℕ
digits n = digits_in n n

-- the number that digits write, where the digits before them write `before`
unfoldable pub reads_from : (before : ℕ) → List ℕ → ℕ
reads_from before [] = before
reads_from before (d ∷ ds) = reads_from (10 * before + (d - 48)) ds

abbrev pub reads_as : List ℕ → ℕ
reads_as ds = reads_from 0 ds
