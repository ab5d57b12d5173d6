-- `judge_to_write`: no sum wraps, since past the first test the lengths are small. Assumes nothing.
use Rattle.std.proofs.Common.{arith}
use Rattle.sessions.proofs.RefusalLaws.{write_small}
use Rattle.sessions.proofs.refusals.judge_to_write.Goals as goal

pub records_at-requires : goal.records_at-requires
records_at-requires c = omega (arith, (write_small c.args.rule _ _ _ _ _ _ c.sizes_bad-sizes_bad.ensures c.records_bad.ensures c.in_ok-judge_body.ensures).0)

pub overflow_add-records_at : goal.overflow_add-records_at
overflow_add-records_at c =
    let small = write_small c.args.rule _ _ _ _ _ _ c.sizes_bad-sizes_bad.ensures c.records_bad.ensures c.in_ok-judge_body.ensures in
    omega (arith, small.0, small.1, c.records_at.ensures)
