-- `put_bytes` copies a slice into another from a place on. Assumes nothing.
use Rattle.std.proofs.Common.{◌≡◌, ◌+◌, ◌-◌, length, arith}
use lib.Seq.{drop-drop}
use Rattle.sessions.specs.Written.{written}
use Rattle.sessions.proofs.writer.put_bytes.Goals as goal

pub returns : goal.returns
unfolding written
returns c =
    let n : c.args.at + length c.args.xs.now - c.args.at ≡ length c.args.xs.now = omega arith in
    rw (n, c.copy_from_slice.ensures.after, drop-drop)
