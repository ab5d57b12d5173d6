-- `fresh` judges every length before it stores. Assumes nothing.
use Rattle.std.proofs.Common.{sym, ◌∙◌}
use mathlib.Core.Logic.{inl, inr}
use Rattle.table.proofs.FreshLaws.{not_started, started, main_length}
use Rattle.table.proofs.fresh.Goals as goal

pub returns-then-not-sizes_good : goal.returns-then-not-sizes_good
returns-then-not-sizes_good c = not_started _ _ _ _ (inl (sym c.sizes_good.ensures ∙ c.if-not-sizes_good.true))

pub returns-then-starting-cells : goal.returns-then-starting-cells
returns-then-starting-cells c = not_started _ _ _ _ (inr c.if-starting-cells.true)

pub copy_from_slice-requires : goal.copy_from_slice-requires
copy_from_slice-requires c = main_length _ _ _ (sym c.sizes_good.ensures ∙ c.if-not-sizes_good.false) ∙ sym c.if-starting-cells.false

pub returns : goal.returns
returns c = started _ _ _ _ (sym c.sizes_good.ensures ∙ c.if-not-sizes_good.false) c.if-starting-cells.false _ c.copy_from_slice.ensures.after (c.fill.ensures.after (λ y e. e)) (c.fill-2.ensures.after (λ y e. e))
