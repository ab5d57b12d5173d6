-- `write` judges everything before it stores the header, the values and the records. Assumes nothing.
use Rattle.std.proofs.Common.{length, refl, sym, ◌∙◌, arith}
use Rattle.sessions.proofs.AcceptedLaws.{writable}
use Rattle.sessions.proofs.WrittenLaws.{written_file}
use Rattle.sessions.proofs.write.Goals as goal

pub put_header-requires : goal.put_header-requires
put_header-requires c = let f = (writable _ _ _ _ _ _).0 (sym c.in_ok-judge_to_write.ensures) in (omega (arith, f.roomy), f.sizes.few_boards, f.sizes.few_cells)

pub put_values-requires : goal.put_values-requires
put_values-requires c = let f = (writable _ _ _ _ _ _).0 (sym c.in_ok-judge_to_write.ensures) in omega (arith, f.roomy, f.sizes.matching, c.put_header.auto.out)

pub records_at-requires : goal.records_at-requires
records_at-requires c = omega (arith, ((writable _ _ _ _ _ _).0 (sym c.in_ok-judge_to_write.ensures)).sizes.few_cells)

pub put_bytes-requires : goal.put_bytes-requires
put_bytes-requires c = let f = (writable _ _ _ _ _ _).0 (sym c.in_ok-judge_to_write.ensures) in omega (arith, f.roomy, c.put_header.auto.out, c.put_values.auto.out, c.records_at.ensures)

pub returns : goal.returns
returns c =
    let f = (writable _ _ _ _ _ _).0 (sym c.in_ok-judge_to_write.ensures) in
    let whole = written_file c.args.rule c.args.boards (length c.args.starting.now) c.args.starting.now c.args.records.now c.args.out.now (omega (arith, f.roomy, f.sizes.matching)) in
    record {
      number_is = c.in_ok-judge_to_write.ensures;
      value_is = refl;
      bytes = c.put_bytes.ensures ∙ rw (c.records_at.ensures, c.put_values.ensures, c.put_header.ensures, ← f.sizes.matching) whole;
    }
