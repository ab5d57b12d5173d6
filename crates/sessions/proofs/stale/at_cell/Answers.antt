-- `at_cell` counts the stale copies of a cell. Assumes nothing.
use Rattle.std.proofs.Common.{◌≡◌, ℕ, ◌+◌, ◌≤◌, Bool, true, false, refl, arith}
use mir.Val.{bool_byte}
use Rattle.sessions.specs.Run.{count_below}
use Rattle.sessions.proofs.StaleLaws.{count_more}
use Rattle.sessions.proofs.stale.at_cell.Goals as goal

pub loop-board-init : goal.loop-board-init
unfolding count_below
loop-board-init c = (omega arith, refl)

-- one board more
one_more : (n : ℕ) (test : ℕ → Bool) (b : Bool) (s r : ℕ) → s ≤ n → s ≡ count_below n test → b ≡ test n → r ≡ bool_byte b → (s + r ≤ n + 1) × (s + r ≡ count_below (n + 1) test)
one_more n test true s r l e t h = let one : r ≡ 1 = h in (omega (arith, l, one), rw (count_more n test, ← t, h, e))
one_more n test false s r l e t h = let none : r ≡ 0 = h in (omega (arith, l, none), rw (count_more n test, ← t, h, e))

pub loop-board-preserved : goal.loop-board-preserved
loop-board-preserved c = let i = c.loop-board.invariant in one_more _ _ _ _ _ i.0 i.1 (rw c.has.ensures) c.from-stale.ensures
