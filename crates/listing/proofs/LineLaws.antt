-- A line number by number, and how long it is. Assumes nothing.
use mathlib.Core.Path.{◌≡◌, refl, ap, sym, ◌∙◌}
use mathlib.Core.List.{List, [], ◌∷◌, ◌++◌, append_assoc, append-nil}
use Prim.Native.Nat.{ℕ, zero, suc, ◌+◌, ◌*◌, ◌<◌, ◌≤◌}
use native.Mathlib.Omega.{arith}
use native.Mathlib.Numerals.{add-one}
use lib.ListN.{length, get_or, set, drop, length-append}
use lib.Seq.{drop-cons, drop-length}
use Rattle.std.proofs.lemmas.List.{drop_all}
use Rattle.std.proofs.lemmas.List.Sums.{sum_by-cons}
use Rattle.std.specs.List.{sum_by}
use Rattle.listing.specs.Decimal.{digits}
use Rattle.listing.specs.Listing.{behind, line}
use Rattle.listing.specs.Code.{overwritten}
use Rattle.listing.proofs.DigitLaws.{few_digits}
use Rattle.listing.proofs.OverwrittenLaws.{overwritten_one}

pub line_of_none : line [] ≡ []
unfolding line
line_of_none = refl

pub length_line : (n : ℕ) (ms : List ℕ) → length (line (n ∷ ms)) ≡ length (digits n) + 1 + length (line ms)
unfolding line
length_line n ms = omega (arith, length-append (digits n) (behind ms ∷ line ms))

-- a number of a line with the byte behind it, and the first i of them
unfoldable pub one : (numbers : List ℕ) → (i : ℕ) → List ℕ
one numbers i = digits (get_or numbers i 0) ++ (behind (drop (i + 1) numbers) ∷ [])

unfoldable pub so_far : (numbers : List ℕ) → (i : ℕ) → List ℕ
so_far numbers zero = []
so_far numbers (suc i) = so_far numbers i ++ one numbers i

pub so_far_none : (numbers : List ℕ) → so_far numbers 0 ≡ []
unfolding so_far
so_far_none numbers = refl

so_far_more : (numbers : List ℕ) (i : ℕ) → so_far numbers (i + 1) ≡ so_far numbers i ++ one numbers i
unfolding so_far
so_far_more numbers i = rw add-one

pub length_one : (numbers : List ℕ) (i : ℕ) → length (one numbers i) ≡ length (digits (get_or numbers i 0)) + 1
unfolding one
length_one numbers i = length-append (digits (get_or numbers i 0)) (behind (drop (i + 1) numbers) ∷ [])

next_line : (numbers : List ℕ) (i : ℕ) → i < length numbers → line (drop i numbers) ≡ one numbers i ++ line (drop (i + 1) numbers)
unfolding line one
next_line numbers i h = rw (add-one, drop-cons numbers i 0 h) (sym (append_assoc (digits (get_or numbers i 0)) (behind (drop (suc i) numbers) ∷ []) (line (drop (suc i) numbers))))

module _ (numbers : List ℕ) where
  -- they, and the line of the numbers that are left, are the line
  split : (i : ℕ) → i ≤ length numbers → line numbers ≡ so_far numbers i ++ line (drop i numbers)
  unfolding so_far
  split zero h = refl
  split (suc i) h =
      split i (omega arith) ∙ ap (λ (bytes : List ℕ). so_far numbers i ++ bytes) (next_line numbers i (omega arith) ∙ rw add-one)
      ∙ sym (append_assoc (so_far numbers i) (one numbers i) (line (drop (suc i) numbers)))

  pub so_far_all : so_far numbers (length numbers) ≡ line numbers
  so_far_all = sym (split (length numbers) (omega arith) ∙ rw (drop-length numbers, line_of_none, append-nil))

  pub so_far_within : (i : ℕ) → i < length numbers → length (so_far numbers i) + length (one numbers i) ≤ length (line numbers)
  so_far_within i h =
      omega (arith, ap length (split i (omega arith)), length-append (so_far numbers i) (line (drop i numbers)), ap length (next_line numbers i h), length-append (one numbers i) (line (drop (i + 1) numbers)))

pub behind_last : (numbers : List ℕ) (i : ℕ) → length numbers ≤ i → behind (drop i numbers) ≡ 10
unfolding behind
behind_last numbers i h = rw (drop_all i numbers h)

pub behind_more : (numbers : List ℕ) (i : ℕ) → i < length numbers → behind (drop i numbers) ≡ 32
unfolding behind
behind_more numbers i h = rw (drop-cons numbers i 0 h)

-- ---- one more number of a line behind the first i of them, then the byte behind it

module _ (numbers old : List ℕ) (i : ℕ) (h : i < length numbers) (room : length (line numbers) ≤ length old) where
  abbrev pub number : List ℕ
  number = digits (get_or numbers i 0)

  pub room_number : length (so_far numbers i) + length number < length old
  room_number = omega (arith, so_far_within numbers i h, length_one numbers i)

  -- `width` and `byte` are what was put
  pub one_behind : (out : List ℕ) (end width byte : ℕ) → out ≡ overwritten (so_far numbers i ++ number) old → end ≡ length (so_far numbers i) → width ≡ length number →
      byte ≡ behind (drop (i + 1) numbers) → (end + width + 1 ≡ length (so_far numbers (i + 1))) × (set out (end + width) byte ≡ overwritten (so_far numbers (i + 1)) old)
  unfolding one
  one_behind out end width byte o e w b =
      let both : length (so_far numbers i ++ number) ≡ end + width = length-append (so_far numbers i) number ∙ omega arith in
      let more = so_far_more numbers i in (
        omega (arith, ap length more, length-append (so_far numbers i) (one numbers i), length_one numbers i),
        rw (o, ← both, more, b) (overwritten_one (so_far numbers i ++ number) (behind (drop (i + 1) numbers)) old (omega (arith, room_number)) ∙ rw (append_assoc (so_far numbers i) number (behind (drop (i + 1) numbers) ∷ []))),
      )

-- ---- how long a line is

pub length_line_by_sum : (numbers : List ℕ) → length (line numbers) ≡ sum_by (λ n. length (digits n) + 1) numbers
length_line_by_sum [] = ap length line_of_none
length_line_by_sum (n ∷ ms) = omega (arith, length_line n ms, length_line_by_sum ms, sum_by-cons (λ m. length (digits m) + 1) n ms)

pub short_line : (numbers : List ℕ) → ((i : ℕ) → i < length numbers → get_or numbers i 0 < 18446744073709551616) → length (line numbers) ≤ 21 * length numbers
short_line [] h = omega (arith, ap length line_of_none)
short_line (n ∷ ms) h = omega (arith, length_line n ms, few_digits n (h 0 (omega arith)), short_line ms (λ i k. h (suc i) (omega arith)))
