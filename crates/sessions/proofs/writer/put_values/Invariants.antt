-- after i turns the first i values are put. Assumes nothing.
use Rattle.std.proofs.Common.{◌≡◌, take}
use Rattle.sessions.specs.File.{packed}
use Rattle.sessions.specs.Written.{written}
use Rattle.sessions.proofs.writer.put_values.Given as goal

abbrev pub invariant-loop-i : goal.invariant-loop-i
invariant-loop-i l = l.out ≡ written (packed (take l.i l.xs)) l.at l.fn.out
