-- What `list` promises: the whole result and the end contents of the lent slice, for all inputs. Assumes nothing.
use Rattle.std.specs.Prelude.{◌≡◌, cond, List, ◌++◌, ltb, ℕ, ◌≤◌, length, drop, Result, Ok, Err}
use Rattle.protocol.specs.declared.Refused.{Refused}
use Rattle.protocol.specs.declared.Refused.TheVariants.{NoRoom}
use Rattle.listing.specs.Listing.{listing_of}

-- some bytes are put at the start of a slice that held `old`, and nothing behind them is changed; where it is too short there is no room, and
-- nothing is changed
pub record Puts (bytes old : List ℕ) (r : Result ℕ Refused) (out : List ℕ) : Type 0 where
  pub result_is : r ≡ cond (ltb (length old) (length bytes)) (Err NoRoom) (Ok (length bytes))
  pub bytes_are : out ≡ cond (ltb (length old) (length bytes)) old (bytes ++ drop (length bytes) old)
  -- a slice of 94,232 bytes has room for them
  pub enough : length bytes ≤ 94232

-- `list`: the listing of the file is put
abbrev pub Lists : (file old : List ℕ) → Result ℕ Refused → (out : List ℕ) → Type 0
Lists file = Puts (listing_of file)

-- two outcomes of a call are the same: the answer, and what the lent slice holds
pub record SameList (r r' : Result ℕ Refused) (out out' : List ℕ) : Type 0 where
  pub same_result : r ≡ r'
  pub same_out : out ≡ out'
