-- The outcome, where there is room and where there is none. Assumes nothing.
use mathlib.Core.Path.{◌≡◌, refl, sym}
use mathlib.Core.Logic.{◌≢◌}
use mathlib.Core.List.{List, [], ◌∷◌, ◌++◌}
use Prim.Native.Nat.{ℕ, ◌+◌, ◌<◌, ◌≤◌}
use borrow.Author.Tests.{lt-ltb, le-ltb, eq-eqb, ne_eqb}
use lib.ListN.{length, length-append}
use Rattle.std.proofs.Common.{Result, Ok, Err}
use Rattle.protocol.specs.declared.Refused.{Refused}
use Rattle.protocol.specs.declared.Refused.TheVariants.{NoRoom}
use Rattle.listing.specs.Code.{overwritten}
use Rattle.listing.specs.Listing.{line, refused_word, refused_listing, run_listing, refusal_of, listing_of}
use Rattle.listing.specs.Statements.{Puts, Lists}

module _ (bytes old : List ℕ) (few : length bytes ≤ 94232) where
  pub no_room : length old < length bytes → Puts bytes old (Err NoRoom) old
  no_room h = let e = lt-ltb (length old) (length bytes) h in record { result_is = rw e; bytes_are = rw e; enough = few }

  pub room : length bytes ≤ length old → (n : ℕ) (out : List ℕ) → n ≡ length bytes → out ≡ overwritten bytes old → Puts bytes old (Ok n) out
  unfolding overwritten
  room h n out is e = let b = le-ltb (length old) (length bytes) h in record { result_is = rw (b, is); bytes_are = rw b e; enough = few }

module _ (file old : List ℕ) (r : Result ℕ Refused) (out : List ℕ) where
  pub lists_refused : (number : ℕ) → number ≡ refusal_of file → number ≢ 0 → Puts (refused_listing number) old r out → Lists file old r out
  unfolding listing_of
  lists_refused number e h p = rw (ne_eqb (refusal_of file) 0 (rw e at h), sym e) p

  pub lists_run : refusal_of file ≡ 0 → Puts (run_listing file) old r out → Lists file old r out
  unfolding listing_of
  lists_run e p = rw (eq-eqb (refusal_of file) 0 e) p

-- ---- the one line of a refused file

pub refused_parts : (number : ℕ) → (refused_word ++ (32 ∷ [])) ++ line (number ∷ []) ≡ refused_listing number
unfolding refused_listing
refused_parts number = refl

pub length_refused : (number : ℕ) → length (refused_listing number) ≡ 8 + length (line (number ∷ []))
unfolding refused_listing
length_refused number = length-append (refused_word ++ (32 ∷ [])) (line (number ∷ []))
