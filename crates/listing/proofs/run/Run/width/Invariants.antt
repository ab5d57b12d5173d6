-- the first line and the lines of the first `i` records are summed. Assumes nothing.
use Rattle.std.proofs.Common.{◌≡◌, ◌+◌, ◌*◌, ◌≤◌, length}
use Rattle.listing.proofs.ListingLaws.{up_to}
use Rattle.listing.proofs.run.Run.width.Given as goal

abbrev pub invariant-loop-i : goal.invariant-loop-i
invariant-loop-i l = record {
  few : l.sum ≤ 84 * (l.i + 1);
  sum_is : l.sum ≡ length (up_to l.self.file.now l.i);
}
