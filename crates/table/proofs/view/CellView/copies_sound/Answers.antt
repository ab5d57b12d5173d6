-- `copies_sound` judges every copy of a cell. Assumes nothing.
use Rattle.std.proofs.Common.{◌≡◌, ℕ, suc, ◌+◌, Bool, ◌&&◌, refl, arith}
use Rattle.protocol.specs.Soundness.{every_board}
use Rattle.table.proofs.view.CellView.copies_sound.Goals as goal

pub loop-board-init : goal.loop-board-init
unfolding every_board
loop-board-init c = refl

-- one board more
one_more : (n : ℕ) (test : ℕ → Bool) (b s : Bool) → b ≡ test n → s ≡ every_board n test → (b && s) ≡ every_board (n + 1) test
unfolding every_board
one_more n test b s e f = let k : n + 1 ≡ suc n = omega arith in rw (k, e, f)

pub loop-board-preserved : goal.loop-board-preserved
loop-board-preserved c = one_more _ _ _ _ (rw c.copy-copy.ensures at c.copy_sound-sound.ensures) c.loop-board.invariant
