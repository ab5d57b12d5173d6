-- `put` puts the lines one behind the other. Assumes nothing.
use Rattle.std.proofs.Common.{◌≡◌, length, ap, ◌∙◌, arith}
use Rattle.listing.specs.Code.{overwritten}
use Rattle.listing.specs.Listing.{line, last_line}
use Rattle.listing.proofs.ListingLaws.{up_to, up_to_none, up_to_more, up_to_all, length_first, length_more, length_listing, within}
use Rattle.listing.proofs.OverwrittenLaws.{room_behind, put_behind, length_behind}
use Rattle.listing.proofs.run.Run.put.Goals as goal

pub put-end-requires : goal.put-end-requires
put-end-requires c =
    let file = c.args.self.now.file.now in
    omega (arith, ap (λ ns. length (line ns)) c.first.ensures, length_first file, c.requires)

pub loop-i-init : goal.loop-i-init
loop-i-init c =
    let p = c.put-end.ensures in
    let first = ap line c.first.ensures in
    record {
      within = omega (arith, p.length, c.put-end.auto.out, ap length first, length_first c.args.self.now.file.now, c.requires);
      end_is = rw (up_to_none c.args.self.now.file.now) (p.length ∙ ap length first);
      bytes = rw (up_to_none c.args.self.now.file.now) (p.bytes ∙ ap (λ bytes. overwritten bytes c.args.out.now) first);
    }

pub put-end-requires-in-loop-i : goal.put-end-requires-in-loop-i
put-end-requires-in-loop-i c =
    let l = c.loop-i in
    let run = c.args.self.now in
    let next = ap line c.record.ensures in
    let fits = within _ _ _ _ _ run.told l.i c.loop-i-test.true in
    rw next (room_behind (up_to run.file.now l.i) _ c.args.out.now _ l.end (omega (arith, fits, c.requires)) l.invariant.end_is l.invariant.bytes)

pub overflow_add-end : goal.overflow_add-end
overflow_add-end c =
    let l = c.loop-i in
    let next = ap line c.record.ensures in
    omega (arith, c.put-end-in-loop-i.ensures.length, ap length next, within _ _ _ _ _ c.args.self.now.told l.i c.loop-i-test.true, c.requires, l.invariant.end_is)

pub loop-i-preserved : goal.loop-i-preserved
loop-i-preserved c =
    let l = c.loop-i in
    let run = c.args.self.now in
    let old = c.args.out.now in
    let next = ap line c.record.ensures in
    let p = c.put-end-in-loop-i.ensures in
    let fits = within _ _ _ _ _ run.told l.i c.loop-i-test.true in
    let bytes = rw next at p.bytes in
    let long = length_behind (up_to run.file.now l.i) _ old _ l.end (omega (arith, fits, c.requires)) l.invariant.end_is l.invariant.bytes _ bytes in
    let all = put_behind (up_to run.file.now l.i) _ old _ l.end (omega (arith, fits, c.requires)) l.invariant.end_is l.invariant.bytes _ bytes in
    let more = up_to_more _ _ _ _ _ run.told l.i c.loop-i-test.true in
    record {
      within = omega (arith, long, p.length, ap length next, fits, l.invariant.end_is, c.requires);
      end_is = omega (arith, p.length, ap length next, l.invariant.end_is, length_more _ _ _ _ _ run.told l.i c.loop-i-test.true);
      bytes = rw more all;
    }

pub put-requires : goal.put-requires
put-requires c =
    let l = c.loop-i in
    let run = c.args.self.now in
    let all : l.i ≡ run.head.count = omega arith in
    let last = ap line c.last.ensures in
    rw last (room_behind (up_to run.file.now l.i) _ c.args.out.now _ l.end (rw all (omega (arith, length_listing _ _ _ _ _ run.told, c.requires))) l.invariant.end_is l.invariant.bytes)

pub overflow_add-result : goal.overflow_add-result
overflow_add-result c =
    let l = c.loop-i in
    let run = c.args.self.now in
    let all : l.i ≡ run.head.count = omega arith in
    omega (arith, rw all at l.invariant.end_is, c.put.ensures.length, ap (λ ns. length (line ns)) c.last.ensures, length_listing _ _ _ _ _ run.told, c.requires)

pub returns : goal.returns
returns c =
    let l = c.loop-i in
    let run = c.args.self.now in
    let all : l.i ≡ run.head.count = omega arith in
    let last = ap line c.last.ensures in
    let p = c.put.ensures in
    let end = rw all at l.invariant.end_is in
    let long = length_listing _ _ _ _ _ run.told in
    record {
      length = omega (arith, end, p.length, ap length last, long);
      bytes =
          rw (← up_to_all _ _ _ _ _ run.told) (put_behind (up_to run.file.now run.head.count) (last_line run.file.now) c.args.out.now _ l.end (omega (arith, long, c.requires)) end (rw all at l.invariant.bytes) _ (rw last at p.bytes));
    }
