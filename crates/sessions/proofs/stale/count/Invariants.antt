-- after each turn the stale copies of the cells below `cell` are counted. Assumes nothing.
use Rattle.std.proofs.Common.{◌≡◌, ◌+◌, ◌*◌, ◌≤◌, get_or}
use Rattle.sessions.specs.Run.{is_stale, count_below, sum_below}
use Rattle.sessions.proofs.stale.count.Given as goal

abbrev pub invariant-loop-cell : goal.invariant-loop-cell
invariant-loop-cell l =
    (l.stale ≤ l.cell * 16)
    × (l.stale ≡ sum_below l.cell (λ c. count_below l.boards (λ p. is_stale (get_or l.masks (c * 3) 0) p (get_or l.copies (c * l.boards + p) 0) (get_or l.latest c 0))))
