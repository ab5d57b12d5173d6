-- Laws of the numbers that are read from a run of bytes, one more at a time. Assumes nothing.
use mathlib.Core.Path.{◌≡◌, refl, ap, sym, ◌∙◌}
use mathlib.Core.List.{List, [], ◌∷◌, ◌++◌}
use Prim.Native.Nat.{ℕ, zero, suc, ◌+◌, ◌*◌, ◌<◌, ◌≤◌}
use native.Mathlib.Numerals.{add-one}
use native.Mathlib.Omega.{arith}
use lib.ListN.{length, get_or, drop, set}
use lib.Dec.{eqb}
use Rattle.std.specs.List.{starts_with}
use lib.Seq.{drop-cons, set_at, append_snoc}
use borrow.Author.Tests.{le-ltb, eq-eqb, ne_eqb}
use native.Mathlib.Decide.{ℕ_discrete}
use Rattle.std.proofs.Math.Bool.{and-true}
use Rattle.sessions.specs.File.{mark, marked, rule_in, boards_in, cells_in, le32, values, starting_in, records_at}
use Rattle.sessions.specs.FileRefusals.{count_in}
use Rattle.sessions.specs.declared.Head.{Head}
use Rattle.sessions.specs.Statements.{HeadOf}

-- the head of a file that has its first nine bytes
pub record Says (file : List ℕ) (r : Head) : Type 0 where
  pub says_rule : r.rule ≡ rule_in file
  pub says_boards : r.boards ≡ boards_in file
  pub says_cells : r.cells ≡ cells_in file
  pub says_from : r.from ≡ records_at (cells_in file)
  pub says_count : r.count ≡ count_in file

pub head_says : (file : List ℕ) (r : Head) → HeadOf file r → 9 ≤ length file → Says file r
head_says file r s h =
    let e = le-ltb (length file) 9 h in
    record { says_rule = s.rule_is ∙ rw e; says_boards = s.boards_is ∙ rw e; says_cells = s.cells_is ∙ rw e; says_from = s.from_is ∙ rw e; says_count = s.count_is ∙ rw e }

flip : (m n : ℕ) → eqb m n ≡ eqb n m
flip m n = elim (ℕ_discrete m n) [
  | yes e ↦ rw (eq-eqb m n e, eq-eqb n m (sym e))
  | no d ↦ rw (ne_eqb m n d, ne_eqb n m (λ e. d (sym e)))
]

-- a file that is long enough begins with the mark, byte by byte
pub mark_leads : (file : List ℕ) → 3 ≤ length file → starts_with eqb file mark ≡ marked file
unfolding marked
mark_leads (a ∷ b ∷ c ∷ rest) h = rw (flip 67 a, flip 67 b, flip 83 c, and-true)
mark_leads [] h = absurd (omega arith)
mark_leads (a ∷ []) h = absurd (omega arith)
mark_leads (a ∷ b ∷ []) h = absurd (omega arith)

-- a slice that is filled from its start
pub fill_more : (xs : List ℕ) (v : ℕ) (old : List ℕ) (n : ℕ) → length xs ≡ n → n < length old → set (xs ++ drop n old) n v ≡ (xs ++ (v ∷ [])) ++ drop (n + 1) old
fill_more xs v old n e h = rw (drop-cons old n 0, set_at xs (get_or old n 0) (drop (suc n) old) v n, add-one) (sym (append_snoc xs v (drop (suc n) old)))

length_values : (s : List ℕ) (at n : ℕ) → length (values s at n) ≡ n
unfolding values
length_values s at zero = refl
length_values s at (suc n) = ap suc (length_values s (at + 4) n)

pub length_starting : (file : List ℕ) → length (starting_in file) ≡ cells_in file
length_starting file = length_values file 9 (cells_in file)

snoc : (s : List ℕ) (at n : ℕ) → values s at (suc n) ≡ values s at n ++ (le32 s (at + 4 * n) ∷ [])
unfolding values
snoc s at zero = let z : at + 4 * 0 ≡ at = omega arith in rw z
snoc s at (suc n) =
    let z : at + 4 * suc n ≡ at + 4 + 4 * n = omega arith in
    rw z (ap (λ (l : List ℕ). le32 s at ∷ l) (snoc s (at + 4) n))

pub values_more : (s : List ℕ) (at n : ℕ) (d : List ℕ) → n < length d
    → set (values s at n ++ drop n d) n (le32 s (at + 4 * n)) ≡ values s at (n + 1) ++ drop (n + 1) d
values_more s at n d h = fill_more (values s at n) (le32 s (at + 4 * n)) d n (length_values s at n) h ∙ rw (add-one, snoc)
