-- `read` judges the file before it fills the slice. Assumes nothing.
use Rattle.std.proofs.Common.{sym, ap, ◌∙◌, arith}
use Rattle.sessions.specs.File.{values}
use Rattle.sessions.proofs.AcceptedLaws.{readable}
use Rattle.sessions.proofs.BytesLaws.{head_says}
use Rattle.sessions.proofs.read.Goals as goal

pub read_values-requires : goal.read_values-requires
read_values-requires c = let good = (readable _ _).0 (sym c.in_ok-head.ensures.number_is) in omega (arith, good.valued, good.sizes.matching)

pub returns : goal.returns
returns c =
    let head = c.in_ok-head.ensures in
    let good = (readable _ _).0 (sym head.number_is) in
    let says = head_says _ _ head.head_is good.headed_whole in
    record {
      number_is = head.number_is;
      rule_is = says.says_rule;
      boards_is = says.says_boards;
      cells_is = says.says_cells;
      part = c.part_from.ensures ∙ rw says.says_from;
      filled = c.read_values.ensures ∙ ap (values c.args.file.now 9) good.sizes.matching;
    }
