-- The log of a file: how many lines it has, which record each is of, and where its answer stands in the slices of a run. Assumes nothing.
use mathlib.Core.Path.{◌≡◌, refl, sym, ap, ◌∙◌}
use mathlib.Core.List.{List, [], ◌∷◌, ◌++◌, map}
use Prim.Native.Nat.{ℕ, zero, suc, ◌+◌, ◌*◌, ◌/◌, ◌<◌}
use native.Mathlib.Omega.{arith}
use lib.ListN.{length, get_or, drop, take, length-drop, take-append-drop}
use lib.Seq.{drop-cons}
use borrow.Author.Tests.{eq-eqb}
use Rattle.protocol.specs.Slices.{Table}
use Rattle.protocol.specs.Step.{table_after}
use Rattle.protocol.specs.Fresh.{fresh_table}
use Rattle.protocol.specs.Runs.{Line, log_by, log}
use Rattle.sessions.specs.File.{rule_in, boards_in, cells_in, starting_in, records_in, action_at, actions, records_at}
use Rattle.sessions.specs.FileRefusals.{count_in}
use Rattle.sessions.specs.Run.{actions_of, log_of, no_line, line_of_record, record_of}
use Rattle.sessions.specs.Statements.{accepting, Runs, RunReply}
use Rattle.sessions.proofs.RunLaws.{length_actions, length_log}

-- ---- lines of a log

-- the i-th line is of the i-th record
action_logged : (rule boards cells : ℕ) (t : Table) (records : List ℕ) (at n i : ℕ) → i < n → (get_or (log rule boards cells t (actions records at n)) i no_line).action ≡ action_at records (at + 9 * i)
unfolding log_by actions
action_logged rule boards cells t records at zero i h = absurd (omega arith)
action_logged rule boards cells t records at (suc n) zero h = let e : at + 9 * 0 ≡ at = omega arith in rw e
action_logged rule boards cells t records at (suc n) (suc i) h =
    let e : at + 9 * suc i ≡ at + 9 + 9 * i = omega arith in
    rw e (action_logged rule boards cells (table_after rule boards cells t (action_at records at)) records (at + 9) n i (omega arith))

-- the answers, mapped into the front of a slice
get_d_front : (f : Line → ℕ) (ls : List Line) (rest : List ℕ) (i : ℕ) → i < length ls → get_or (map f ls ++ rest) i 0 ≡ f (get_or ls i no_line)
get_d_front f [] rest i h = absurd (omega arith)
get_d_front f (l ∷ ls) rest zero h = refl
get_d_front f (l ∷ ls) rest (suc i) h = get_d_front f ls rest i (omega arith)

-- ---- of a file's log

module _ (file : List ℕ) where
  pub logged : length (log_of file) ≡ count_in file
  unfolding log_of
  logged =
      length_log (rule_in file) (boards_in file) (cells_in file) (fresh_table (boards_in file) (starting_in file)) (actions_of file)
      ∙ length_actions (records_in file) 0 (length (records_in file) / 9)
      ∙ rw (length-drop (records_at (cells_in file)) file)

  pub its_action : (i : ℕ) → i < count_in file → (line_of_record file i).action ≡ record_of file i
  unfolding line_of_record log_of
  its_action i h =
      let e : 0 + 9 * i ≡ 9 * i = omega arith in
      let l : length (records_in file) / 9 ≡ count_in file = rw (length-drop (records_at (cells_in file)) file) in
      rw e at (action_logged (rule_in file) (boards_in file) (cells_in file) (fresh_table (boards_in file) (starting_in file)) (records_in file) 0 (length (records_in file) / 9) i (rw l h))

  -- the log, cut before a line
  pub cut_at : (i : ℕ) → i < count_in file → log_of file ≡ take i (log_of file) ++ (line_of_record file i ∷ drop (suc i) (log_of file))
  unfolding line_of_record
  cut_at i h = sym (take-append-drop i (log_of file)) ∙ ap (λ (ls : List Line). take i (log_of file) ++ ls) (drop-cons (log_of file) i no_line (rw logged h))

-- ---- of a run that is not refused

module _ (file : List ℕ) (t : Table) (numbers values : List ℕ) (r : RunReply) (t' : Table) (numbers' values' : List ℕ) (s : Runs file t numbers values r t' numbers' values') (ok : r.number ≡ 0) where
  pub in_slice : (f : Line → ℕ) (old new : List ℕ) → new ≡ accepting r.number (map f (log_of file) ++ drop (count_in file) old) old → (i : ℕ) → i < count_in file → get_or new i 0 ≡ f (line_of_record file i)
  unfolding line_of_record
  in_slice f old new e i h = rw (e, eq-eqb r.number 0 ok) (get_d_front f (log_of file) (drop (count_in file) old) i (rw (logged file) h))
