-- Demand 1 for files: a number is answered exactly when its condition is the first that holds, and a refusal changes nothing. Assumes nothing.
use mathlib.Core.Path.{◌≡◌, refl, sym}
use mathlib.Core.Logic.{◌≢◌, ◌↔◌}
use mathlib.Core.List.{List, []}
use Prim.Native.Nat.{ℕ}
use lib.ListN.{length}
use borrow.Author.Tests.{ne_eqb}
use Rattle.protocol.specs.declared.Answer.{Answer}
use Rattle.protocol.specs.Slices.{Table}
use Rattle.protocol.specs.First.{Refusal, first_number, FirstIs, NoneHolds}
use Rattle.protocol.proofs.FirstLaws.{first_refused, first_number_lem}
use Rattle.table.specs.Statements.{Holds}
use Rattle.sessions.specs.FileRefusals.{read_refusals, write_refusals, run_refusals}
use Rattle.sessions.specs.Statements.{Reads, Writes, Runs, ReadReply, RunReply}
use Rattle.sessions.proofs.AcceptedLaws.{none_refuses, all_read, all_write, all_run}

-- the first number of a list is n exactly where n's condition is the first that holds
refused_by : (rs : List Refusal) (n : ℕ) → n ≢ 0 → (first_number rs ≡ n) ↔ FirstIs n rs
refused_by rs n h = let ok : Answer = record { number = 0; value = 0 } in rw (sym (first_number_lem rs ok refl)) (first_refused ok refl rs n h)

module _ (file old : List ℕ) (r : ReadReply) (starting : List ℕ) (s : Reads file old r starting) where
  pub read_refused : (n : ℕ) → n ≢ 0 → (r.number ≡ n) ↔ FirstIs n (read_refusals file (length old))
  read_refused n h = rw s.number_is (refused_by (read_refusals file (length old)) n h)

  pub read_accepted : (r.number ≡ 0) ↔ NoneHolds (read_refusals file (length old))
  read_accepted = rw s.number_is (none_refuses (read_refusals file (length old)) (all_read file (length old)))

  pub read_changes_nothing : r.number ≢ 0 → (starting ≡ old) × (r.records ≡ []) × (r.rule ≡ 0) × (r.boards ≡ 0) × (r.cells ≡ 0)
  read_changes_nothing h = let e = ne_eqb r.number 0 h in (rw e at s.filled, rw e at s.part, rw e at s.rule_is, rw e at s.boards_is, rw e at s.cells_is)

module _ (rule boards cells : ℕ) (starting records old : List ℕ) (r : Answer) (out : List ℕ) (s : Writes rule boards cells starting records old r out) where
  pub write_refused : (n : ℕ) → n ≢ 0 → (r.number ≡ n) ↔ FirstIs n (write_refusals rule boards cells (length starting) (length records) (length old))
  write_refused n h = rw s.number_is (refused_by (write_refusals rule boards cells (length starting) (length records) (length old)) n h)

  pub write_accepted : (r.number ≡ 0) ↔ NoneHolds (write_refusals rule boards cells (length starting) (length records) (length old))
  write_accepted = rw s.number_is (none_refuses (write_refusals rule boards cells (length starting) (length records) (length old)) (all_write rule boards cells (length starting) (length records) (length old)))

  pub write_changes_nothing : r.number ≢ 0 → (out ≡ old) × (r.value ≡ 0)
  write_changes_nothing h = (rw (ne_eqb r.number 0 h) at s.bytes, s.value_is)

module _ (file : List ℕ) (t : Table) (numbers values : List ℕ) (r : RunReply) (t' : Table) (numbers' values' : List ℕ) (s : Runs file t numbers values r t' numbers' values') where
  pub run_refused : (n : ℕ) → n ≢ 0 → (r.number ≡ n) ↔ FirstIs n (run_refusals file t (length numbers) (length values))
  run_refused n h = rw s.number_is (refused_by (run_refusals file t (length numbers) (length values)) n h)

  pub run_accepted : (r.number ≡ 0) ↔ NoneHolds (run_refusals file t (length numbers) (length values))
  run_accepted = rw s.number_is (none_refuses (run_refusals file t (length numbers) (length values)) (all_run file t (length numbers) (length values)))

  pub run_changes_nothing : r.number ≢ 0 → Holds t' t × (numbers' ≡ numbers) × (values' ≡ values) × (r.accepted ≡ 0) × (r.stale ≡ 0)
  run_changes_nothing h =
      let e = ne_eqb r.number 0 h in
      (rw e at s.table_is, rw e at s.numbers_are, rw e at s.values_are, rw e at s.accepted_is, rw e at s.stale_is)
