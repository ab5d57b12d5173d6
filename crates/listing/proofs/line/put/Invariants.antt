-- the first `i` numbers are written, each with the byte behind it. Assumes nothing.
use Rattle.std.proofs.Common.{◌≡◌, ◌≤◌, length}
use Rattle.listing.specs.Code.{overwritten}
use Rattle.listing.proofs.LineLaws.{so_far}
use Rattle.listing.proofs.line.put.Given as goal

abbrev pub invariant-loop-i : goal.invariant-loop-i
invariant-loop-i l = record {
  within : l.end ≤ length l.out;
  end_is : l.end ≡ length (so_far l.numbers l.i);
  bytes : l.out ≡ overwritten (so_far l.numbers l.i) l.fn.out;
}
