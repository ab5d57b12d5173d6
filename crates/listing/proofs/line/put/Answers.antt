-- `put` puts each number and the byte behind it. Assumes nothing.
use Rattle.std.proofs.Common.{◌≡◌, ◌+◌, ◌<◌, drop, length, sym, ◌∙◌, length-set, arith}
use Rattle.listing.specs.Listing.{behind}
use Rattle.listing.proofs.LineLaws.{so_far, so_far_none, so_far_all, room_number, one_behind, behind_more, behind_last}
use Rattle.listing.proofs.OverwrittenLaws.{overwritten_none, room_behind, put_behind, length_behind}
use Rattle.listing.proofs.line.put.Goals.{After-put-end, then-i-numbers, else-i-numbers}
use Rattle.listing.proofs.line.put.Goals as goal

pub loop-i-init : goal.loop-i-init
loop-i-init c = record { within = omega arith; end_is = rw (so_far_none c.args.numbers.now); bytes = rw (so_far_none c.args.numbers.now) (overwritten_none _) }

pub put-end-requires : goal.put-end-requires
put-end-requires c =
    let l = c.loop-i in
    let fits = room_number c.args.numbers.now c.args.out.now l.i c.loop-i-test.true c.requires in
    room_behind (so_far c.args.numbers.now l.i) _ c.args.out.now _ l.end (omega arith) l.invariant.end_is l.invariant.bytes

fits : (c : After-put-end) → c.loop-i.end + c.put-end.result < length c.args.out.now
fits c = omega (arith, c.put-end.ensures.length, c.loop-i.invariant.end_is, room_number c.args.numbers.now c.args.out.now c.loop-i.i c.loop-i-test.true c.requires)

pub overflow_add-end : goal.overflow_add-end
overflow_add-end c = omega (arith, fits (goal.at.overflow_add-end c).After-put-end)

pub bounds-out-end : goal.bounds-out-end
bounds-out-end c =
    let l = c.loop-i in
    let room = room_number c.args.numbers.now c.args.out.now l.i c.loop-i-test.true c.requires in
    omega (arith, fits (goal.at.bounds-out-end c).After-put-end, length_behind (so_far c.args.numbers.now l.i) _ c.args.out.now _ l.end (omega arith) l.invariant.end_is l.invariant.bytes _ c.put-end.ensures.bytes)

pub overflow_add-end-in-loop-i : goal.overflow_add-end-in-loop-i
overflow_add-end-in-loop-i c = omega (arith, fits (goal.at.overflow_add-end-in-loop-i c).After-put-end)

pub loop-i-preserved : goal.loop-i-preserved
loop-i-preserved c =
    let l = c.loop-i in
    let numbers = c.args.numbers.now in
    let old = c.args.out.now in
    let p = c.put-end.ensures in
    let room = room_number numbers old l.i c.loop-i-test.true c.requires in
    let long = length_behind (so_far numbers l.i) _ old _ l.end (omega arith) l.invariant.end_is l.invariant.bytes _ p.bytes in
    let byte : c.if-i-numbers.behind ≡ behind (drop (l.i + 1) numbers) =
    elim c.if-i-numbers.branch [
      | then-i-numbers w ↦ w.behind-is ∙ sym (behind_more _ _ w.if-i-numbers.true)
      | else-i-numbers w ↦ w.behind-is ∙ sym (behind_last _ _ w.if-i-numbers.false)
    ] in
    let all = one_behind numbers old l.i c.loop-i-test.true c.requires _ l.end _ _ (put_behind (so_far numbers l.i) _ old _ l.end (omega arith) l.invariant.end_is l.invariant.bytes _ p.bytes) l.invariant.end_is p.length byte in
    record { within = simp length-set (omega (arith, fits (goal.at.loop-i-preserved c).After-put-end, long)); end_is = all.0; bytes = all.1 }

pub returns : goal.returns
returns c =
    let l = c.loop-i in
    let e : l.i ≡ length c.args.numbers.now = omega arith in
    let all = so_far_all c.args.numbers.now in
    record { length = rw (e, all) at l.invariant.end_is; bytes = rw (e, all) at l.invariant.bytes }
