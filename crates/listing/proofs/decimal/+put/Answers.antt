-- `put` writes the digits of the tenth, then the last digit. Assumes nothing.
use Rattle.std.proofs.Common.{◌/◌, ◌%◌, ◌+◌, sym, arith}
use Rattle.listing.specs.Decimal.{digits}
use Rattle.listing.proofs.DigitLaws.{small, more, length_small, length_more}
use Rattle.listing.proofs.OverwrittenLaws.{overwritten_first, overwritten_one}
use Rattle.listing.proofs.decimal.+put.Goals as goal

pub bounds-out-0 : goal.bounds-out-0
bounds-out-0 t c = omega (arith, length_small c.args.n c.if-n-lt10.true)

pub returns-then-n-lt10 : goal.returns-then-n-lt10
returns-then-n-lt10 t c =
    let h = length_small c.args.n c.if-n-lt10.true in
    record { length = sym h; bytes = rw (small c.args.n c.if-n-lt10.true) (overwritten_first _ _ (omega (arith, h))) }

pub put-before-requires : goal.put-before-requires
put-before-requires t c = (omega (arith, c.decreases), omega (arith, length_more c.args.n c.if-n-lt10.false))

pub bounds-out-before : goal.bounds-out-before
bounds-out-before t c = let d = c.put-before in omega (arith, d.auto.out, d.ensures.length, length_more c.args.n c.if-n-lt10.false, c.requires)

pub overflow_add-result : goal.overflow_add-result
overflow_add-result t c = let d = c.put-before in omega (arith, d.auto.out, d.ensures.length, length_more c.args.n c.if-n-lt10.false, c.requires)

pub returns : goal.returns
returns t c =
    let n = c.args.n in
    let big = c.if-n-lt10.false in
    let d = c.put-before.ensures in
    let long = length_more n big in
    record { length = omega (arith, d.length, long); bytes = rw (d.length, d.bytes, more n big) (overwritten_one (digits (n / 10)) (48 + n % 10) c.args.out.now (omega (arith, long, c.requires))) }
