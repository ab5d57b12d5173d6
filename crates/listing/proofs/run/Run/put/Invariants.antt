-- the first line and the lines of the first `i` records are written. Assumes nothing.
use Rattle.std.proofs.Common.{◌≡◌, ◌≤◌, length}
use Rattle.listing.specs.Code.{overwritten}
use Rattle.listing.proofs.ListingLaws.{up_to}
use Rattle.listing.proofs.run.Run.put.Given as goal

abbrev pub invariant-loop-i : goal.invariant-loop-i
invariant-loop-i l = record {
  within : l.end ≤ length l.out;
  end_is : l.end ≡ length (up_to l.self.file.now l.i);
  bytes : l.out ≡ overwritten (up_to l.self.file.now l.i) l.fn.out;
}
