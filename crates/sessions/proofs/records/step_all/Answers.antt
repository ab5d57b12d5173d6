-- `step_all` performs the records in order. Assumes nothing.
use Rattle.std.proofs.Common.{◌∙◌, arith}
use Rattle.sessions.specs.File.{actions}
use Rattle.sessions.proofs.RanLaws.{noted_few, ran_none, ran_turn, accepted_inside, cut_out}
use Rattle.sessions.proofs.records.step_all.Goals as goal

pub loop-i-init : goal.loop-i-init
unfolding actions
loop-i-init c = (omega arith, ran_none _ _ _ _ _ _ _)

pub note-accepted-requires : goal.note-accepted-requires
note-accepted-requires c = λ e. omega (arith, c.requires.room_latest, c.loop-i.invariant.1.same_length, accepted_inside _ _ _ _ _ _ _ c.step-told.ensures e)

pub loop-i-preserved : goal.loop-i-preserved
loop-i-preserved c =
    let l = c.loop-i in
    let few = noted_few _ _ _ _ _ c.note-accepted.ensures in
    (omega (arith, l.invariant.0, few), rw c.from-answer.ensures (ran_turn _ _ _ _ _ _ _ _ l.i _ _ _ _ _ l.invariant.1 _ (c.action_of-action.ensures ∙ rw c.as_chunks.ensures.front (cut_out _ _ l.i (omega (arith, c.loop-i-test.true, c.as_chunks.ensures.front_len)))) _ _ c.step-told.ensures _ _ c.note-accepted.ensures (omega (arith, c.requires.room_numbers)) (omega (arith, c.requires.room_values))))
