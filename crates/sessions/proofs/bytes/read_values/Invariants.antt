-- after i turns the first i numbers are those of the bytes, and the others are as they were. Assumes nothing.
use Rattle.std.proofs.Common.{◌≡◌, ◌++◌, drop}
use Rattle.sessions.specs.File.{values}
use Rattle.sessions.proofs.bytes.read_values.Given as goal

abbrev pub invariant-loop-i : goal.invariant-loop-i
invariant-loop-i l = l.out ≡ values l.s l.at l.i ++ drop l.i l.fn.out
