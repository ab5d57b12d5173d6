-- `count` counts the stale copies of a table. Assumes nothing.
use Rattle.std.proofs.Common.{◌≡◌, length, refl, sym, ◌∙◌, arith}
use Rattle.sessions.specs.Run.{sum_below}
use Rattle.sessions.proofs.StaleLaws.{sum_more, cell_cut, by_slices}
use Rattle.sessions.proofs.stale.count.Goals as goal

pub loop-cell-init : goal.loop-cell-init
unfolding sum_below
loop-cell-init c = (omega arith, refl)

pub loop-cell-preserved : goal.loop-cell-preserved
loop-cell-preserved c =
    let i = c.loop-cell.invariant in
    let one = c.at_cell-stale.ensures in
    (omega (arith, i.0, one.1, c.requires.few_boards), rw (i.1, one.0 ∙ cell_cut _ _ c.loop-cell.cell _ _ _ c.loop-cell-test.true c.requires.copied) (sym (sum_more _ _)))

pub returns : goal.returns
returns c = λ t k w s. let e : c.loop-cell.cell ≡ length c.args.latest.now = omega arith in (rw e at c.loop-cell.invariant.1) ∙ (rw (sym k, sym w) (by_slices _ _ t _ s))
