-- No two different outcomes meet the statement of a public function. Assumes nothing.
use mathlib.Core.Path.{◌≡◌, refl, sym, ap, ◌∙◌}
use mathlib.Core.List.{List}
use Prim.Native.Nat.{ℕ}
use Rattle.std.specs.Prelude.{Result, Ok, Err}
use Rattle.protocol.specs.declared.Answer.{Answer}
use Rattle.protocol.specs.declared.Refused.{Refused}
use Rattle.protocol.specs.Replies.{done_of}
use Rattle.protocol.specs.Slices.{Table}
use Rattle.sessions.specs.declared.Head.{Head}
use Rattle.sessions.specs.declared.Report.{Report}
use Rattle.sessions.specs.declared.Session.{Session}
use Rattle.table.specs.Statements.{Holds}
use Rattle.sessions.specs.Statements.{accepting, HeadOf, ReadReply, read_reply, Reads, Writes, RunReply, run_reply, Runs, SameHead, SameSession, SameRead, SameWrite, SameRun}
use Rattle.protocol.proofs.ReplyLaws.{same_answer, one_reply, not_accepted, one_result}

-- what follows from the number is the same where the number is
pub by_number : {A : Type 0} (n n' : ℕ) (a b x y : A) → n ≡ n' → x ≡ accepting n a b → y ≡ accepting n' a b → x ≡ y
by_number {A = A} n n' a b x y e p q = p ∙ ap (λ (k : ℕ). accepting {A = A} k a b) e ∙ sym q

pub one_head : (file : List ℕ) (r r' : Head) → HeadOf file r → HeadOf file r' → SameHead r r'
one_head file r r' f g = record {
  same_rule = f.rule_is ∙ sym g.rule_is;
  same_boards = f.boards_is ∙ sym g.boards_is;
  same_cells = f.cells_is ∙ sym g.cells_is;
  same_from = f.from_is ∙ sym g.from_is;
  same_count = f.count_is ∙ sym g.count_is;
}

pub one_read_reply : (file old : List ℕ) (p p' : ReadReply) (starting starting' : List ℕ) →
    Reads file old p starting → Reads file old p' starting' → (p ≡ p') × (starting ≡ starting')
one_read_reply file old p p' starting starting' f g =
    let number = f.number_is ∙ sym g.number_is in
    let rule = by_number _ _ _ _ p.rule p'.rule number f.rule_is g.rule_is in
    let boards = by_number _ _ _ _ p.boards p'.boards number f.boards_is g.boards_is in
    let cells = by_number _ _ _ _ p.cells p'.cells number f.cells_is g.cells_is in
    let records = by_number _ _ _ _ p.records p'.records number f.part g.part in
    (λ i. record { number = number i; rule = rule i; boards = boards i; cells = cells i; records = records i }, by_number _ _ _ _ starting starting' number f.filled g.filled)

pub one_read : (file old : List ℕ) (r r' : Result Session Refused) (starting starting' : List ℕ) →
    Reads file old (read_reply r) starting → Reads file old (read_reply r') starting' → SameRead r r' starting starting'
one_read file old r r' starting starting' f g =
    let (told, filled) = one_read_reply file old (read_reply r) (read_reply r') starting starting' f g in
    record { same_session = same r r' told; same_starting = filled }
  where
    same : (r r' : Result Session Refused) → read_reply r ≡ read_reply r' → SameSession r r'
    same (Ok s) (Ok s') e = (ap (λ p. p.rule) e, ap (λ p. p.boards) e, ap (λ p. p.cells) e, ap (λ p. p.records) e)
    same (Err d) (Err d') e = one_reply d d' (ap (λ p. p.number) e)
    same (Ok s) (Err d) e = not_accepted d (sym (ap (λ p. p.number) e))
    same (Err d) (Ok s) e = not_accepted d (ap (λ p. p.number) e)

pub one_write_answer : (rule boards cells : ℕ) (starting records old : List ℕ) (r r' : Answer) (out out' : List ℕ) →
    Writes rule boards cells starting records old r out → Writes rule boards cells starting records old r' out' → (r ≡ r') × (out ≡ out')
one_write_answer rule boards cells starting records old r r' out out' f g =
    let number = f.number_is ∙ sym g.number_is in
    (same_answer r r' number (f.value_is ∙ sym g.value_is), by_number _ _ _ _ out out' number f.bytes g.bytes)

pub one_write : (rule boards cells : ℕ) (starting records old : List ℕ) (r r' : Result (Unit {0}) Refused) (out out' : List ℕ) →
    Writes rule boards cells starting records old (done_of r) out → Writes rule boards cells starting records old (done_of r') out' → SameWrite r r' out out'
one_write rule boards cells starting records old r r' out out' f g =
    let (told, put) = one_write_answer rule boards cells starting records old (done_of r) (done_of r') out out' f g in
    record { same_result = one_result r r' (ap (λ a. a.number) told) (λ a b p q. refl); same_out = put }

pub one_run_reply : (file : List ℕ) (t : Table) (numbers values : List ℕ) (r r' : RunReply) (t₁ t₂ : Table) (numbers₁ numbers₂ values₁ values₂ : List ℕ) →
    Runs file t numbers values r t₁ numbers₁ values₁ → Runs file t numbers values r' t₂ numbers₂ values₂ → (r ≡ r') × Holds t₁ t₂ × (numbers₁ ≡ numbers₂) × (values₁ ≡ values₂)
one_run_reply file t numbers values r r' t₁ t₂ numbers₁ numbers₂ values₁ values₂ f g =
    let number = f.number_is ∙ sym g.number_is in
    let held = rw number at f.table_is in
    let accepted = by_number _ _ _ _ r.accepted r'.accepted number f.accepted_is g.accepted_is in
    let stale = by_number _ _ _ _ r.stale r'.stale number f.stale_is g.stale_is in (
      λ i. record { number = number i; accepted = accepted i; stale = stale i },
      λ s. held s ∙ sym (g.table_is s),
      by_number _ _ _ _ numbers₁ numbers₂ number f.numbers_are g.numbers_are,
      by_number _ _ _ _ values₁ values₂ number f.values_are g.values_are,
    )

pub one_run : (file : List ℕ) (t : Table) (numbers values : List ℕ) (r r' : Result Report Refused) (t₁ t₂ : Table) (numbers₁ numbers₂ values₁ values₂ : List ℕ) →
    Runs file t numbers values (run_reply r) t₁ numbers₁ values₁ → Runs file t numbers values (run_reply r') t₂ numbers₂ values₂ → SameRun r r' t₁ t₂ numbers₁ numbers₂ values₁ values₂
one_run file t numbers values r r' t₁ t₂ numbers₁ numbers₂ values₁ values₂ f g =
    let (told, held, put, answered) = one_run_reply file t numbers values (run_reply r) (run_reply r') t₁ t₂ numbers₁ numbers₂ values₁ values₂ f g in
    record { same_result = same r r' told; same_slices = held; same_numbers = put; same_values = answered }
  where
    same : (r r' : Result Report Refused) → run_reply r ≡ run_reply r' → r ≡ r'
    same (Ok s) (Ok s') e = λ i. Ok (record { accepted = (e i).accepted; stale = (e i).stale })
    same (Err d) (Err d') e = ap Err (one_reply d d' (ap (λ p. p.number) e))
    same (Ok s) (Err d) e = absurd (not_accepted d (sym (ap (λ p. p.number) e)))
    same (Err d) (Ok s) e = absurd (not_accepted d (ap (λ p. p.number) e))
