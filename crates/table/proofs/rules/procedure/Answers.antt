-- `procedure` is document 01's refusals 3 and 4, code by code. Assumes nothing.
use Rattle.std.proofs.Common.{not, ◌||◌, false, eqb, ◌<◌, arith, sym, ◌∙◌}
use mathlib.Core.Bool.{or-false}
use borrow.Author.Tests.{lt-ltb}
use Rattle.protocol.specs.declared.Proc.TheVariants.{Read, Write, Barrier, MtoC, CtoM, CtoC, Drop, Acquire, Release}
use Rattle.protocol.specs.Names.{rule_number, proc_of}
use Rattle.protocol.specs.Step.{malformed, missing}
use Rattle.table.proofs.ProcedureLaws.{above_0, named_is}
use Rattle.table.proofs.rules.procedure.Goals as goal

pub returns-in-0 : goal.returns-in-0
unfolding malformed missing proc_of
returns-in-0 c = named_is (rule_number c.args.rule) c.args.a _ (Read c.args.a.board) (not (eqb c.args.a.to 0) || not (eqb c.args.a.value 0)) false c.named.ensures.number c.named.ensures.ok (rw c.in-0.is) (rw c.in-0.is) (rw c.in-0.is)

pub returns-in-1 : goal.returns-in-1
unfolding malformed missing proc_of
returns-in-1 c = named_is (rule_number c.args.rule) c.args.a _ (Write c.args.a.board c.args.a.value) (not (eqb c.args.a.to 0)) false c.named-in-1.ensures.number c.named-in-1.ensures.ok (rw c.in-1.is (sym (or-false (not (eqb c.args.a.to 0))))) (rw c.in-1.is) (rw c.in-1.is)

pub returns-in-2 : goal.returns-in-2
unfolding malformed missing proc_of rule_number
returns-in-2 c = named_is (rule_number c.args.rule) c.args.a _ (Barrier c.args.a.board) (not (eqb c.args.a.to 0) || not (eqb c.args.a.value 0)) _ c.named-in-2.ensures.number c.named-in-2.ensures.ok (rw c.in-2.is) (rw c.in-2.is (c.is_before-not_0.ensures ∙ above_0 _ ∙ sym (or-false _))) (rw c.in-2.is)

pub returns-in-3 : goal.returns-in-3
unfolding malformed missing proc_of
returns-in-3 c = named_is (rule_number c.args.rule) c.args.a _ (MtoC c.args.a.board) (not (eqb c.args.a.to 0) || not (eqb c.args.a.value 0)) false c.named-in-3.ensures.number c.named-in-3.ensures.ok (rw c.in-3.is) (rw c.in-3.is) (rw c.in-3.is)

pub returns-in-4 : goal.returns-in-4
unfolding malformed missing proc_of
returns-in-4 c = named_is (rule_number c.args.rule) c.args.a _ (CtoM c.args.a.board) (not (eqb c.args.a.to 0) || not (eqb c.args.a.value 0)) false c.named-in-4.ensures.number c.named-in-4.ensures.ok (rw c.in-4.is) (rw c.in-4.is) (rw c.in-4.is)

pub returns-in-5 : goal.returns-in-5
unfolding malformed missing proc_of
returns-in-5 c = named_is (rule_number c.args.rule) c.args.a _ (CtoC c.args.a.board c.args.a.to) (not (eqb c.args.a.value 0)) false c.named-in-5.ensures.number c.named-in-5.ensures.ok (rw c.in-5.is) (rw c.in-5.is) (rw c.in-5.is)

pub returns-in-6 : goal.returns-in-6
unfolding malformed missing proc_of
returns-in-6 c = named_is (rule_number c.args.rule) c.args.a _ (Drop c.args.a.board) (not (eqb c.args.a.to 0) || not (eqb c.args.a.value 0)) false c.named-in-6.ensures.number c.named-in-6.ensures.ok (rw c.in-6.is) (rw c.in-6.is) (rw c.in-6.is)

pub returns-in-7 : goal.returns-in-7
unfolding malformed missing proc_of rule_number
returns-in-7 c = named_is (rule_number c.args.rule) c.args.a _ (Acquire c.args.a.board) (not (eqb c.args.a.to 0) || not (eqb c.args.a.value 0)) _ c.named-in-7.ensures.number c.named-in-7.ensures.ok (rw c.in-7.is) (rw c.in-7.is c.is_before-no_locks.ensures) (rw c.in-7.is)

pub returns-in-8 : goal.returns-in-8
unfolding malformed missing proc_of rule_number
returns-in-8 c = named_is (rule_number c.args.rule) c.args.a _ (Release c.args.a.board) (not (eqb c.args.a.to 0) || not (eqb c.args.a.value 0)) _ c.named-in-8.ensures.number c.named-in-8.ensures.ok (rw c.in-8.is) (rw c.in-8.is c.is_before-no_locks.ensures) (rw c.in-8.is)

pub returns-in-9-to-255 : goal.returns-in-9-to-255
unfolding malformed missing
returns-in-9-to-255 c = let past : 8 < c.args.a.code = omega arith in rw (lt-ltb 8 _ past)
