-- The parts of a run that is not refused, put together. Assumes nothing.
use mathlib.Core.Path.{◌≡◌, refl, sym, ap, ◌∙◌, fun_ext}
use mathlib.Core.Bool.{true}
use mathlib.Core.List.{List}
use Prim.Native.Nat.{ℕ, ◌+◌, ◌*◌, ◌/◌, ◌≤◌}
use native.Mathlib.Omega.{arith}
use lib.ListN.{length, drop, length-drop}
use Rattle.std.specs.Prelude.{Result, Ok, Err}
use Rattle.protocol.specs.declared.Refused.{Refused}
use Rattle.protocol.specs.Replies.{done_of}
use Rattle.protocol.specs.Slices.{Table, copies, masks, width, sizes_good}
use Rattle.protocol.specs.Fresh.{fresh_table}
use Rattle.protocol.proofs.FreshExactly.{fresh_accepted, fresh_sizes}
use Rattle.protocol.proofs.InWords.{sizes_exactly}
use Rattle.protocol.proofs.Demand3Order.{end_sizes}
use Rattle.protocol.proofs.ReplyLaws.{not_accepted}
use Rattle.table.specs.Statements.{Holds, Freshens}
use Rattle.table.proofs.Promises.{held, fresh_gives}
use Rattle.sessions.specs.File.{rule_in, boards_in, cells_in, values, starting_in, records_in, actions_in, records_at}
use Rattle.sessions.specs.FileRefusals.{count_in, run_refusals}
use Rattle.sessions.specs.Run.{actions_of, log_of, end_of, stale_in, stale_of}
use Rattle.sessions.specs.declared.Head.{Head}
use Rattle.sessions.specs.Statements.{Runs}
use Rattle.sessions.specs.Code.{Judged, Prepared, Counted, CountsStale, Ran}
use Rattle.sessions.proofs.AcceptedLaws.{Runnable, runnable}
use Rattle.sessions.proofs.BytesLaws.{Says, head_says, length_starting}
use Rattle.sessions.proofs.RunLaws.{length_actions}

module _ (file : List ℕ) (t : Table) (numbers answers : List ℕ) (head : Head) (j : Judged file (run_refusals file t (length numbers) (length answers)) (Ok head)) where
  ok : Runnable file t (length numbers) (length answers)
  ok = runnable file t (length numbers) (length answers) (sym j.number_is)

  says : Says file head
  says = head_says file head j.head_is ok.readable_too.headed_whole

  pub few_places : head.cells ≤ 512
  few_places = rw says.says_cells ok.readable_too.sizes.few_cells

  pub valued : (n : ℕ) → n ≡ head.cells → 9 + 4 * n ≤ length file
  valued n e = let f = e ∙ says.says_cells in omega (arith, f, ok.readable_too.valued)

  few_in : length (records_in file) / 9 ≡ count_in file
  few_in = rw (length-drop (records_at (cells_in file)) file)

  is_records : (records : List ℕ) → records ≡ drop head.from file → records ≡ records_in file
  is_records records d = d ∙ rw says.says_from

  pub prepared : (records latest : List ℕ) → records ≡ drop head.from file → length latest ≡ head.cells → Prepared head.cells records numbers answers latest
  prepared records latest d n = record {
    room_numbers = rw (is_records records d, few_in) ok.roomy_numbers;
    room_values = rw (is_records records d, few_in) ok.roomy_values;
    room_latest = omega arith;
  }

  -- a run keeps the lengths of the slices that the count of stale copies reads
  pub countable : (copies' masks' latest : List ℕ) → length copies' ≡ length (t copies) → length masks' ≡ length (t masks) → length latest ≡ head.cells →
      Counted head.boards copies' masks' latest
  unfolding width
  countable copies' masks' latest c m n =
      let lengths = ((sizes_exactly (boards_in file) (cells_in file) t).0 ok.sized).1 in
      record {
        few_boards = rw says.says_boards ok.readable_too.sizes.few_boards;
        few_cells = rw (n, says.says_cells) ok.readable_too.sizes.few_cells;
        copied = rw (n, says.says_boards, says.says_cells) (c ∙ lengths copies);
        masked = rw (n, says.says_cells) (m ∙ lengths masks);
      }

  module _ (latest₁ : List ℕ) (n : ℕ) (filled : latest₁ ≡ values file 9 n) (whole : n ≡ head.cells)
      (fresh : Result (Unit {0}) Refused) (t₁ : Table) (made : Freshens head.boards head.cells t latest₁ (done_of fresh) t₁) where
    abbrev start : Table
    start = fresh_table (boards_in file) (starting_in file)

    is_latest : latest₁ ≡ starting_in file
    is_latest = filled ∙ ap (values file 9) (whole ∙ says.says_cells)

    made' : Freshens (boards_in file) (cells_in file) t (starting_in file) (done_of fresh) t₁
    made' = rw (says.says_boards, says.says_cells, is_latest) at made

    fresh_0 : (done_of fresh).number ≡ 0
    fresh_0 = made'.number ∙ (fresh_accepted (boards_in file) (cells_in file) (starting_in file) t).1 (ok.sized, length_starting file)

    is_start : t₁ ≡ start
    is_start = fresh_gives (boards_in file) (cells_in file) t (starting_in file) (done_of fresh) t₁ made' fresh_0

    module _ (records : List ℕ) (d : records ≡ drop head.from file) (accepted : ℕ) (t₂ : Table) (numbers₂ answers₂ latest₂ : List ℕ)
        (ran : Ran head.rule head.boards head.cells t₁ numbers answers latest₁ (actions_in records) accepted t₂ numbers₂ answers₂ latest₂) where
      ran' : Ran (rule_in file) (boards_in file) (cells_in file) t₁ numbers answers (starting_in file) (actions_of file) accepted t₂ numbers₂ answers₂ latest₂
      ran' = rw (says.says_rule, says.says_boards, says.says_cells, is_latest, is_records records d) at ran

      ends : Holds t₂ (end_of file)
      unfolding end_of
      ends = rw is_start at ran'.table

      is_end : t₂ ≡ end_of file
      is_end = held t₂ (end_of file) ends

      end_good : sizes_good (boards_in file) (cells_in file) (end_of file) ≡ true
      unfolding end_of
      end_good = let g = ok.readable_too.sizes in end_sizes (rule_in file) (boards_in file) (cells_in file) start (actions_of file) ∙ rw (length_starting file) at (fresh_sizes (boards_in file) (starting_in file) ((g.some_boards, g.few_boards), (rw (length_starting file) g.some_cells, rw (length_starting file) g.few_cells)))

      counted : length (actions_of file) ≡ count_in file
      counted = length_actions (records_in file) 0 (length (records_in file) / 9) ∙ few_in

      many : length latest₂ ≡ cells_in file
      many = ran'.same_length ∙ length_starting file

      pub finished : (stale : ℕ) → CountsStale head.boards (t₂ copies) (t₂ masks) latest₂ stale →
          Runs file t numbers answers (record { number = 0; accepted = accepted; stale = stale }) t₂ numbers₂ answers₂
      unfolding log_of stale_of
      finished stale s = record {
        number_is = j.number_is;
        accepted_is = rw is_start at ran'.accepted;
        stale_is =
            rw (says.says_boards, many) at (s t₂ refl refl (rw (says.says_boards, many, is_end) end_good))
            ∙ rw is_end (ap (stale_in (boards_in file) (cells_in file) (end_of file)) (fun_ext (λ c. rw is_start at (ran'.latest_are c))));
        table_is = ends;
        numbers_are = rw (is_start, counted) at ran'.numbers_are;
        values_are = rw (is_start, counted) at ran'.values_are;
      }

  -- `fresh` refuses nothing
  pub never : (latest₁ : List ℕ) (n : ℕ) → latest₁ ≡ values file 9 n → n ≡ head.cells → (e : Refused) (t₁ : Table) → Freshens head.boards head.cells t latest₁ (done_of {A = Unit {0}} (Err e)) t₁ → ⊥
  never latest₁ n f w e t₁ made = not_accepted e (fresh_0 latest₁ n f w (Err e) t₁ made)
