-- `width` sums the lines one by one. Assumes nothing.
use Rattle.std.proofs.Common.{◌≡◌, length, ap, arith}
use Rattle.listing.specs.Listing.{line}
use Rattle.listing.proofs.ListingLaws.{up_to_none, length_more, length_listing}
use Rattle.listing.proofs.run.Run.width.Goals as goal

pub loop-i-init : goal.loop-i-init
loop-i-init c = record {
  few = omega (arith, c.width-sum.ensures.few);
  sum_is = omega (arith, c.width-sum.ensures.length, ap (λ ns. length (line ns)) c.first.ensures, ap length (up_to_none c.args.self.now.file.now));
}

pub loop-i-preserved : goal.loop-i-preserved
loop-i-preserved c =
    let l = c.loop-i in
    let w = c.width-sum-in-loop-i.ensures in
    let more = length_more _ _ _ _ _ c.args.self.now.told l.i c.loop-i-test.true in
    record { few = omega (arith, w.few, l.invariant.few); sum_is = omega (arith, w.length, l.invariant.sum_is, more, ap (λ ns. length (line ns)) c.record.ensures) }

pub returns : goal.returns
returns c =
    let l = c.loop-i in
    let run = c.args.self.now in
    let all : l.i ≡ run.head.count = omega arith in
    omega (arith, rw all at l.invariant.sum_is, length_listing _ _ _ _ _ run.told, rw c.last-last.ensures at c.width.ensures.length)
