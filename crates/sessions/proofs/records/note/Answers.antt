-- `note` stores an accepted write as the latest of its cell, and nothing else. Assumes nothing.
use Rattle.std.proofs.Common.{sym, ◌∙◌}
use Rattle.sessions.proofs.RanLaws.{noted_write, noted_other, ok_0}
use Rattle.sessions.proofs.records.note.Goals as goal

pub returns-then-action-eq1 : goal.returns-then-action-eq1
returns-then-action-eq1 c =
    let ok = ok_0 c.args.told (sym c.is_err.ensures.value ∙ c.if-is_err.false) in
    noted_write c.args.action _ c.args.latest.now ok c.if-action-eq1.true (c.requires ok)

pub returns-else-action-eq1 : goal.returns-else-action-eq1
returns-else-action-eq1 c =
    let ok = ok_0 c.args.told (sym c.is_err.ensures.value ∙ c.if-is_err.false) in
    noted_other c.args.action _ c.args.latest.now ok c.if-action-eq1.false
