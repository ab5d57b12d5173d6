-- `copies_sound` has judged the boards below `board`. Assumes nothing.
use Rattle.std.proofs.Common.{◌≡◌}
use Rattle.protocol.specs.Names.{rule_number}
use Rattle.table.specs.Code.{copies_sound}
use Rattle.table.proofs.view.CellView.copies_sound.Given as goal

abbrev pub invariant-loop-board : goal.invariant-loop-board
invariant-loop-board l = l.sound ≡ copies_sound (rule_number l.rule) l.self.view.boards l.self.number l.live.bits l.current l.self.view.copies.now l.board
