-- `new` judges the sizes of what it takes. Assumes nothing.
use Rattle.std.proofs.Common.{sym, ◌∙◌}
use Rattle.table.proofs.SizeLaws.{good_sized}
use Rattle.table.proofs.view.View.new.Goals as goal

pub invariant_of-result : goal.invariant_of-result
invariant_of-result c = record { sized = good_sized _ _ _ _ _ (sym c.sizes_good.ensures ∙ c.if-not-sizes_good.false) }
