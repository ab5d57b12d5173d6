-- `judged_to_read`: past the first test the file has its first nine bytes. Assumes nothing.
use Rattle.sessions.proofs.RefusalLaws.{judged_says}
use Rattle.sessions.proofs.refusals.judged_to_read.Goals as goal

pub body_bad-requires : goal.body_bad-requires
body_bad-requires c = (judged_says _ _ c.in_ok-head.ensures).says_from
