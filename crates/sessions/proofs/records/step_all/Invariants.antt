-- after i turns the first i records are performed. Assumes nothing.
use Rattle.std.proofs.Common.{◌≤◌}
use Rattle.protocol.specs.Slices.{table_of}
use Rattle.sessions.specs.File.{actions}
use Rattle.sessions.specs.Code.{Ran}
use Rattle.sessions.proofs.records.step_all.Given as goal

abbrev pub invariant-loop-i : goal.invariant-loop-i
invariant-loop-i l =
    (l.accepted ≤ l.i)
    × Ran l.head.rule l.head.boards l.head.cells (table_of l.fn.main l.fn.copies l.fn.masks) l.fn.numbers l.fn.values l.fn.latest (actions l.fn.records 0 l.i) l.accepted (table_of l.main l.copies l.masks) l.numbers l.values l.latest
