-- `put_values` stores each value in four bytes, one behind the other. Assumes nothing.
use Rattle.std.proofs.Common.{◌∙◌}
use Rattle.sessions.specs.File.{packed}
use Rattle.sessions.proofs.WrittenLaws.{written_none, four_stored, one_more_value}
use Rattle.sessions.proofs.writer.put_values.Goals as goal

pub loop-i-init : goal.loop-i-init
unfolding packed
loop-i-init c = written_none _ _

pub loop-i-preserved : goal.loop-i-preserved
loop-i-preserved c =
    let l = c.loop-i in
    c.put_bytes.ensures
    ∙ rw (l.invariant, c.to_le_bytes.ensures, four_stored _ (c.type_inv.xs l.i)) (one_more_value _ _ _ _ c.loop-i-test.true c.requires)
