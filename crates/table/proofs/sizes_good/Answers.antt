-- `sizes_good` judges P, N and the three lengths; no product wraps. Assumes nothing.
use Rattle.std.proofs.Common.{arith, sym, ◌∙◌}
use Rattle.table.proofs.SizeLaws.{out_of_range, by_lengths, small_product, small_cells}
use Rattle.table.proofs.sizes_good.Goals as goal

pub returns-then-not-in_range : goal.returns-then-not-in_range
returns-then-not-in_range c = sym (out_of_range _ _ _ (sym c.in_range.ensures ∙ c.if-not-in_range.true))

pub overflow_mul-result : goal.overflow_mul-result
overflow_mul-result c = omega (arith, small_product _ _ (sym c.in_range.ensures ∙ c.if-not-in_range.false))

pub overflow_mul-result-2 : goal.overflow_mul-result-2
overflow_mul-result-2 c = omega (arith, small_cells _ _ (sym c.in_range.ensures ∙ c.if-not-in_range.false))

pub returns : goal.returns
returns c = by_lengths _ _ _ (sym c.in_range.ensures ∙ c.if-not-in_range.false)
