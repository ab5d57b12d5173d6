-- No two different outcomes meet the statement of `tramusquet_list`, and its answer is 0 only where the slice is too short. Assumes nothing.
use native.Mathlib.Omega.{arith}
use native.Mathlib.Decide.{dec_lt}
use mathlib.Core.Path.{◌≡◌, sym, ◌∙◌}
use mathlib.Core.Bool.{Bool, true, false, cond}
use mathlib.Core.List.{List, [], ◌∷◌, ◌++◌}
use Prim.Native.Nat.{ℕ, ◌<◌}
use borrow.Author.Tests.{le-ltb}
use lib.Dec.{eqb}
use lib.ListN.{length, length-append}
use Rattle.sessions.specs.Run.{log_of}
use Rattle.sessions.specs.File.{rule_in, boards_in, cells_in}
use Rattle.listing.specs.Listing.{first_line, last_line, line, record_lines, refused_word, run_listing, refused_listing, refusal_of, listing_of}
use Rattle.listing.proofs.LineLaws.{length_line}
use Rattle.tramusquet.specs.Statements.{ListsIn}

pub one_outcome : (file old : List ℕ) (r r' : ℕ) (out out' : List ℕ) → ListsIn file old r out → ListsIn file old r' out' → (r ≡ r') × (out ≡ out')
one_outcome file old r r' out out' f g = (f.length_is ∙ sym g.length_is, f.bytes_are ∙ sym g.bytes_are)

-- ---- no listing is empty

some_run : (file : List ℕ) → 0 < length (run_listing file)
unfolding run_listing
some_run file = omega (arith, length-append (first_line file) (record_lines 0 (log_of file) ++ last_line file), length_line (rule_in file) (boards_in file ∷ cells_in file ∷ []))

some_refused : (number : ℕ) → 0 < length (refused_listing number)
unfolding refused_listing
some_refused number = omega (arith, length-append (refused_word ++ (32 ∷ [])) (line (number ∷ [])))

some_listing : (file : List ℕ) → 0 < length (listing_of file)
unfolding listing_of
some_listing file = go (eqb (refusal_of file) 0)
  where
    go : (b : Bool) → 0 < length (cond b (run_listing file) (refused_listing (refusal_of file)))
    go true = some_run file
    go false = some_refused (refusal_of file)

pub zero_is_no_room : (file old : List ℕ) (r : ℕ) (out : List ℕ) → ListsIn file old r out → r ≡ 0 → length old < length (listing_of file)
zero_is_no_room file old r out s e = go (dec_lt (length old) (length (listing_of file)))
  where
    go : Dec (length old < length (listing_of file)) → length old < length (listing_of file)
    go (yes h) = h
    go (no h) = let l : r ≡ length (listing_of file) = s.length_is ∙ rw (le-ltb (length old) (length (listing_of file)) (omega arith)) in absurd (omega (arith, some_listing file))
