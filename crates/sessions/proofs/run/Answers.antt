-- `run` judges everything before it makes the fresh table, performs the records and counts the stale copies. Assumes nothing.
use Rattle.std.proofs.Common.{Ok, sym, ◌∙◌}
use lib.Seq.{length-take-le}
use Rattle.sessions.proofs.FinishLaws.{few_places, valued, never, prepared, countable, finished}
use Rattle.sessions.proofs.run.Goals as goal

pub slice_bounds-places-end : goal.slice_bounds-places-end
slice_bounds-places-end c = few_places _ _ _ _ _ c.in_ok-head.ensures

pub slice_bounds-latest-end : goal.slice_bounds-latest-end
slice_bounds-latest-end c = sym (length-take-le _ _ (few_places _ _ _ _ _ c.in_ok-head.ensures))

pub read_values-requires : goal.read_values-requires
read_values-requires c = valued _ _ _ _ _ c.in_ok-head.ensures _ (length-take-le _ _ (few_places _ _ _ _ _ c.in_ok-head.ensures))

pub returns-in_err-fresh : goal.returns-in_err-fresh
returns-in_err-fresh c =
    let whole = length-take-le _ _ (few_places _ _ _ _ _ c.in_ok-head.ensures) in
    absurd (never _ _ _ _ _ c.in_ok-head.ensures _ _ c.read_values.ensures whole _ _ c.in_err-fresh.ensures)

pub step_all-accepted-requires : goal.step_all-accepted-requires
step_all-accepted-requires c =
    let whole = length-take-le _ _ (few_places _ _ _ _ _ c.in_ok-head.ensures) in
    prepared _ _ _ _ _ c.in_ok-head.ensures _ _ c.part_from-records.ensures (c.read_values.auto.out ∙ whole)

pub count-stale-requires : goal.count-stale-requires
count-stale-requires c =
    let whole = length-take-le _ _ (few_places _ _ _ _ _ c.in_ok-head.ensures) in
    let all = c.step_all-accepted in
    countable _ _ _ _ _ c.in_ok-head.ensures _ _ _ (all.auto.copies ∙ c.fresh.auto.copies) (all.auto.masks ∙ c.fresh.auto.masks) (all.ensures.same_length ∙ c.read_values.auto.out ∙ whole)

pub returns : goal.returns
returns c =
    let whole = length-take-le _ _ (few_places _ _ _ _ _ c.in_ok-head.ensures) in
    finished _ _ _ _ _ c.in_ok-head.ensures _ _ c.read_values.ensures whole (Ok c.in_ok-fresh.field-0) _ c.in_ok-fresh.ensures _ c.part_from-records.ensures _ _ _ _ _ c.step_all-accepted.ensures _ c.count-stale.ensures
