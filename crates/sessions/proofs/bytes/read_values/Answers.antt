-- `read_values` fills the slice. Assumes nothing.
use Rattle.std.proofs.Common.{◌<◌, length, refl, arith}
use Rattle.sessions.specs.File.{values}
use Rattle.sessions.proofs.BytesLaws.{values_more}
use Rattle.sessions.proofs.bytes.read_values.Goals as goal

pub loop-i-init : goal.loop-i-init
unfolding values
loop-i-init c = refl

pub loop-i-preserved : goal.loop-i-preserved
loop-i-preserved c =
    let l = c.loop-i in
    let h : l.i < length c.args.out.now = omega arith in
    rw (l.invariant, c.read32.ensures) (values_more c.args.s.now c.args.at l.i c.args.out.now h)
