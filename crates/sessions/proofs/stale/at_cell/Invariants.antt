-- after each turn the stale copies of the boards below `board` are counted. Assumes nothing.
use Rattle.std.proofs.Common.{◌≡◌, ◌≤◌, get_or}
use Rattle.sessions.specs.Run.{is_stale, count_below}
use Rattle.sessions.proofs.stale.at_cell.Given as goal

abbrev pub invariant-loop-board : goal.invariant-loop-board
invariant-loop-board l = (l.stale ≤ l.board) × (l.stale ≡ count_below l.board (λ p. is_stale l.live.bits p (get_or l.copies p 0) l.latest))
