-- What a run of a session file promises: demand 3 of every accepted Read, no stale copy under rules 2 to 4, no record answered 7. Assumes nothing.
use mathlib.Core.Path.{◌≡◌, refl, sym, ap, ◌∙◌}
use mathlib.Core.Logic.{◌≢◌, ◌↔◌}
use mathlib.Core.Bool.{Bool, true, false, cond, not, ◌&&◌}
use mathlib.Core.List.{List, [], ◌∷◌, ◌++◌}
use Prim.Native.Nat.{ℕ, zero, suc, ◌<◌, ◌≤◌}
use native.Mathlib.Omega.{arith}
use native.Mathlib.Decide.{ℕ_discrete}
use lib.Dec.{eqb}
use lib.ListN.{length, get_or, drop, take}
use borrow.Author.Tests.{eq-eqb, eqb-true, not-false}
use Rattle.protocol.specs.declared.Action.{Action}
use Rattle.protocol.specs.Names.{last_rule}
use Rattle.protocol.specs.Masks.{has_board}
use Rattle.protocol.specs.Slices.{Table}
use Rattle.protocol.specs.Cell.{Cell, copy_at, live_mask, cell_of}
use Rattle.protocol.specs.Step.{answer, table_after}
use Rattle.protocol.specs.Fresh.{fresh_table}
use Rattle.protocol.specs.Runs.{CoherentRule, Line, log_by, log, table_after_all_by, table_after_all, is_read, accepted_read, latest_write}
use Rattle.protocol.proofs.Demand3Reads.{reads_latest}
use Rattle.protocol.proofs.FreshStaysSound.{never_7, live_is_latest}
use Rattle.sessions.specs.File.{rule_in, boards_in, cells_in, starting_in}
use Rattle.sessions.specs.FileRefusals.{count_in}
use Rattle.sessions.specs.Run.{actions_of, log_of, end_of, no_line, line_of_record, record_of, latest_before, count_below, sum_below, stale_in, stale_of, NoneStale}
use Rattle.sessions.specs.Statements.{Runs, RunReply}
use Rattle.sessions.proofs.AcceptedLaws.{runnable}
use Rattle.sessions.proofs.BytesLaws.{length_starting}
use Rattle.sessions.proofs.LogLaws.{its_action, cut_at, in_slice}

-- ---- counts of nothing

none_counted : (n : ℕ) (test : ℕ → Bool) → ((p : ℕ) → p < n → test p ≡ false) → count_below n test ≡ 0
unfolding count_below
none_counted zero test h = refl
none_counted (suc n) test h = rw (h n (omega arith), none_counted n test (λ p l. h p (omega arith)))

pub none_summed : (n : ℕ) (count : ℕ → ℕ) → ((c : ℕ) → c < n → count c ≡ 0) → sum_below n count ≡ 0
unfolding sum_below
none_summed zero count h = refl
none_summed (suc n) count h = rw (h n (omega arith), none_summed n count (λ c l. h c (omega arith)))

counted_none : (n : ℕ) (test : ℕ → Bool) → count_below n test ≡ 0 → (p : ℕ) → p < n → test p ≡ false
unfolding count_below
counted_none zero test e p l = absurd (omega arith)
counted_none (suc n) test e p l = elim (ℕ_discrete p n) [
  | yes q ↦ ap test q ∙ nought (test n) (omega (arith, e))
  | no d ↦ counted_none n test (omega (arith, e)) p (omega (arith, l, d))
]
  where
    nought : (b : Bool) → ◌≡◌ {A = ℕ} (cond b 1 0) 0 → b ≡ false
    nought true z = absurd (omega (arith, z))
    nought false z = refl

summed_none : (n : ℕ) (count : ℕ → ℕ) → sum_below n count ≡ 0 → (c : ℕ) → c < n → count c ≡ 0
unfolding sum_below
summed_none zero count e c l = absurd (omega arith)
summed_none (suc n) count e c l = elim (ℕ_discrete c n) [
  | yes q ↦ ap count q ∙ omega (arith, e)
  | no d ↦ summed_none n count (omega (arith, e)) c (omega (arith, l, d))
]

-- ---- lines of a log

-- no line tells 7 where no earlier table does
none_told_7 : (rule boards cells : ℕ) (t : Table) (l : List Action) → ((earlier : List Action) (a : Action) → (answer rule boards cells (table_after_all rule boards cells t earlier) a).number ≢ 7) →
    (i : ℕ) → (get_or (log rule boards cells t l) i no_line).told.number ≢ 7
unfolding log_by table_after_all_by
none_told_7 rule boards cells t [] h i = λ e. omega arith
none_told_7 rule boards cells t (a ∷ l) h zero = h [] a
none_told_7 rule boards cells t (a ∷ l) h (suc i) = none_told_7 rule boards cells (table_after rule boards cells t a) l (λ earlier. h (a ∷ earlier)) i

-- ---- of a file's log

module _ (file : List ℕ) where
  -- demand 3, of the same step and the same list of actions as the run
  pub session_reads_latest : CoherentRule (rule_in file) → (before rest : List Line) (l : Line) → log_of file ≡ before ++ (l ∷ rest) → accepted_read l ≡ true →
      l.told.value ≡ latest_write l.action.cell (get_or (starting_in file) l.action.cell 0) before
  unfolding log_of
  session_reads_latest co = rw (length_starting file) at (reads_latest (rule_in file) (boards_in file) (starting_in file) co (actions_of file))

  -- the count is 0 exactly when no copy is stale
  stale_exactly : (stale_of file ≡ 0) ↔ NoneStale file
  unfolding stale_of stale_in
  stale_exactly = (there, back)
    where
      x : (c : ℕ) → Cell
      x c = cell_of (boards_in file) (cells_in file) (end_of file) c

      latest : (c : ℕ) → ℕ
      latest c = latest_write c (get_or (starting_in file) c 0) (log_of file)

      current : (c p : ℕ) → has_board (live_mask (x c)) p ≡ true → (has_board (live_mask (x c)) p && not (eqb (copy_at (x c) p) (latest c))) ≡ false → copy_at (x c) p ≡ latest c
      current c p y e = eqb-true (copy_at (x c) p) (latest c) (not-false _ (rw y at e))

      fresh_copy : (c p : ℕ) → (has_board (live_mask (x c)) p ≡ true → copy_at (x c) p ≡ latest c) → (b : Bool) → has_board (live_mask (x c)) p ≡ b →
          (b && not (eqb (copy_at (x c) p) (latest c))) ≡ false
      fresh_copy c p f true y = rw (eq-eqb (copy_at (x c) p) (latest c) (f y))
      fresh_copy c p f false y = refl

      there : stale_of file ≡ 0 → NoneStale file
      there e c p l m y = current c p y (counted_none (boards_in file) _ (summed_none (cells_in file) _ e c l) p m)

      back : NoneStale file → stale_of file ≡ 0
      back f = none_summed (cells_in file) _ (λ c l. none_counted (boards_in file) _ (λ p m. fresh_copy c p (f c p l m) (has_board (live_mask (x c)) p) refl))

  -- under rules 2 to 4 no copy is stale
  session_not_stale : 2 ≤ rule_in file → rule_in file ≤ last_rule → NoneStale file
  unfolding end_of log_of
  session_not_stale l h c p i m y = rw (length_starting file) at (live_is_latest (rule_in file) (boards_in file) (starting_in file) (actions_of file) l h c p m) y

  session_never_7 : (i : ℕ) → (line_of_record file i).told.number ≢ 7
  unfolding line_of_record log_of
  session_never_7 =
      none_told_7 (rule_in file) (boards_in file) (cells_in file) (fresh_table (boards_in file) (starting_in file)) (actions_of file)
      (λ earlier. rw (length_starting file) at (never_7 (rule_in file) (boards_in file) (starting_in file) earlier))

-- ---- of a run that is not refused

module _ (file : List ℕ) (t : Table) (numbers values : List ℕ) (r : RunReply) (t' : Table) (numbers' values' : List ℕ) (s : Runs file t numbers values r t' numbers' values') (ok : r.number ≡ 0) where
  -- demand 3: an accepted Read among the records answers the latest accepted write before it
  pub run_reads_latest : CoherentRule (rule_in file) → (i : ℕ) → i < count_in file → get_or numbers' i 0 ≡ 0 → (record_of file i).code ≡ 0 →
      get_or values' i 0 ≡ latest_before file i (record_of file i).cell
  unfolding accepted_read is_read latest_before
  run_reads_latest co i h n c =
      let a = its_action file i h in
      let told = in_slice file t numbers values r t' numbers' values' s ok (λ line. line.told.number) numbers numbers' s.numbers_are i h in
      let read : accepted_read (line_of_record file i) ≡ true = rw (sym told, n, a, c) in
      in_slice file t numbers values r t' numbers' values' s ok (λ line. line.told.value) values values' s.values_are i h
      ∙ rw a at (session_reads_latest file co (take i (log_of file)) (drop (suc i) (log_of file)) (line_of_record file i) (cut_at file i h) read)

  -- the reported count is 0 exactly when no copy is stale; under rules 2 to 4 it is 0
  pub run_stale_exactly : (r.stale ≡ 0) ↔ NoneStale file
  run_stale_exactly = rw (s.stale_is, eq-eqb r.number 0 ok) (stale_exactly file)

  pub run_not_stale : 2 ≤ rule_in file → r.stale ≡ 0
  run_not_stale l = run_stale_exactly.1 (session_not_stale file l (runnable file t (length numbers) (length values) (sym s.number_is ∙ ok)).readable_too.ruled)

  pub run_never_7 : (i : ℕ) → i < count_in file → get_or numbers' i 0 ≢ 7
  run_never_7 i h e = session_never_7 file i (sym (in_slice file t numbers values r t' numbers' values' s ok (λ line. line.told.number) numbers numbers' s.numbers_are i h) ∙ e)
