-- `read_input` has put what the reader gave at the start of the buffer, and each turn puts more. Assumes nothing.
use Rattle.std.proofs.Common.{length, take, ◌-◌, ◌≤◌}
use Rattle.std.specs.Io.KnownBytes.{Consumes}
use Rattle.session.proofs.read_input.Given as goal

abbrev pub invariant-loop-length : goal.invariant-loop-length
invariant-loop-length g l = (l.length ≤ length l.buffer) × Consumes (g.R.Read.remaining l.initial.input) (g.R.Read.remaining l.input) (take l.length l.buffer)

abbrev pub decreases-loop-length : goal.decreases-loop-length
decreases-loop-length g l = length l.buffer - l.length
