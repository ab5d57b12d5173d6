-- `check`: the outer loop has passed sound cells only, and the inner one boards at which the cell is sound. Assumes nothing.
use Rattle.std.proofs.Common.{◌≡◌, ℕ, true, ◌<◌, ◌+◌, ◌*◌, get_or, None}
use Rattle.protocol.specs.Names.{rule_number}
use Rattle.protocol.specs.Slices.{table_of}
use Rattle.table.specs.Code.{copy_sound}
use Rattle.table.proofs.CheckLaws.{left_from}
use Rattle.table.proofs.check.Given as goal

abbrev pub invariant-cells : goal.invariant-cells
invariant-cells l =
    let left = left_from (rule_number l.ruled) l.view.boards l.view.cells (table_of l.view.main.now l.view.copies.now l.view.masks.now) in
    record {
      nothing : l.found ≡ None;
      passed : left 0 ≡ left l.number;
    }

abbrev pub invariant-boards : goal.invariant-boards
invariant-boards l = record {
  nothing : l.found ≡ None;
  passed : (p : ℕ) → p < l.board → copy_sound (rule_number l.ruled) l.m.live.bits (get_or l.view.copies.now (l.number * l.view.boards + p) 0) l.now p ≡ true;
}
