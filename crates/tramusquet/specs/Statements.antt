-- What `tramusquet_list` promises: the whole result and the end contents of the lent slice, for all inputs. Assumes nothing.
use Rattle.std.specs.Prelude.{◌≡◌, Bool, cond, List, ◌++◌, ltb, ℕ, length, drop}
use Rattle.listing.specs.Listing.{listing_of}

-- whether a slice that holds `old` is too short for the listing
abbrev pub too_short : (file old : List ℕ) → Bool
too_short file old = ltb (length old) (length (listing_of file))

-- the listing is put at the start of the slice, and nothing behind it is changed; where the slice is too short the answer is 0, and nothing is
-- changed
pub record ListsIn (file old : List ℕ) (r : ℕ) (out : List ℕ) : Type 0 where
  pub length_is : r ≡ cond (too_short file old) 0 (length (listing_of file))
  pub bytes_are : out ≡ cond (too_short file old) old (listing_of file ++ drop (length (listing_of file)) old)
