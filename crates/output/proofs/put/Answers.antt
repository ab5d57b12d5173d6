-- `put` puts the whole listing, because 94,232 bytes are always enough. Assumes nothing.
use Rattle.std.proofs.Common.{◌≡◌, ℕ, ◌≤◌, List, Ok, length, take, drop, refl, arith}
use Rattle.std.proofs.Math.Seq.{take-append_seam}
use borrow.Author.Tests.{le-ltb}
use Rattle.listing.specs.Listing.{listing_of}
use Rattle.listing.specs.Statements.{Lists}
use Rattle.listing.proofs.Room.{never_20}
use Rattle.output.proofs.put.Goals as goal

-- the first bytes of the slice are the listing
in_front : (file old : List ℕ) (n : ℕ) (out : List ℕ) → 94232 ≤ length old → Lists file old (Ok n) out → (n ≤ length old) × (n ≡ length (listing_of file)) × (take n out ≡ listing_of file)
in_front file old n out h s =
    let e = never_20 file old (Ok n) out h s in
    let l : n ≡ length (listing_of file) = cc in
    let b = le-ltb (length old) (length (listing_of file)) (omega (arith, s.enough)) in
    (omega (arith, s.enough), l, rw (l, s.bytes_are, b) (take-append_seam (listing_of file) (drop (length (listing_of file)) old)))

pub unwrap-requires : goal.unwrap-requires
unwrap-requires c = rw (never_20 _ _ _ _ c.requires c.list.ensures) refl

pub returns : goal.returns
returns c = let all = in_front _ _ _ _ c.requires (rw c.unwrap.ensures at c.list.ensures) in record { within = all.0; length = all.1; bytes = all.2 }
