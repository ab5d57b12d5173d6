-- `judged_to_run` answers the first of the refusals of a run; past the first test the file has its first nine bytes. Assumes nothing.
use Rattle.std.proofs.lemmas.Result.{err_from_is_err_and}
use Rattle.sessions.proofs.RefusalLaws.{judged_says, run_head, run_body, run_short, run_roomy}
use Rattle.sessions.proofs.refusals.judged_to_run.Goals as goal

pub returns-in_err-head : goal.returns-in_err-head
returns-in_err-head c =
    let p = err_from_is_err_and c.from_residual.result c.from_residual.ensures.1 in
    rw (p.1, p.2) (record { number_is = run_head _ _ _ _ _ c.in_err-head.ensures.number_is; head_is = tt })

pub body_bad-requires : goal.body_bad-requires
body_bad-requires c = (judged_says _ _ c.in_ok-head.ensures).says_from

pub returns-in_err-judge_body : goal.returns-in_err-judge_body
returns-in_err-judge_body c =
    let p = err_from_is_err_and c.from_residual-in_err-judge_body.result c.from_residual-in_err-judge_body.ensures.1 in
    rw (p.1, p.2) (record { number_is = run_body _ _ _ _ _ c.in_ok-head.ensures _ _ c.sizes_good-fits.ensures c.body_bad.ensures _ c.in_err-judge_body.ensures; head_is = tt })

pub returns-then-numbers-head : goal.returns-then-numbers-head
returns-then-numbers-head c = record {
  number_is = run_short _ _ _ _ _ c.in_ok-head.ensures _ _ c.sizes_good-fits.ensures c.body_bad.ensures c.in_ok-judge_body.ensures c.then-numbers-head.either;
  head_is = tt;
}

pub returns : goal.returns
returns c = record {
  number_is = run_roomy _ _ _ _ _ c.in_ok-head.ensures _ _ c.sizes_good-fits.ensures c.body_bad.ensures c.in_ok-judge_body.ensures c.if-numbers-head.false c.if-values-head.false;
  head_is = c.in_ok-head.ensures.head_is;
}
