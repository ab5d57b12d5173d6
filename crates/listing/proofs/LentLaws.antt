-- The local memory fits: the run over it is refused as the reader refuses, and what a run that is not refused has told. Assumes nothing.
use mathlib.Core.Path.{◌≡◌, refl, ap, sym, ◌∙◌}
use mathlib.Core.Bool.{Bool, true, false, cond, not, ◌||◌}
use mathlib.Core.List.{List}
use Prim.Native.Nat.{ℕ, min, ◌+◌, ◌-◌, ◌*◌, ◌<◌, ◌≤◌}
use native.Mathlib.Omega.{arith}
use native.Mathlib.Decide.{dec_lt}
use native.Mathlib.Nat.{mul-le-mul_left}
use borrow.Author.Tests.{lt-ltb, le-ltb, eq-eqb}
use lib.Dec.{eqb, ltb}
use lib.ListN.{length, get_or}
use lib.Seq.{get_or-drop}
use Rattle.protocol.specs.declared.Action.{Action}
use Rattle.protocol.specs.First.{first_number}
use Rattle.protocol.specs.Slices.{Slice, main, copies, masks, Table, table_of, width, in_range, sizes_good}
use Rattle.protocol.proofs.Booleans.{or_right}
use Rattle.protocol.proofs.InWords.{range_exactly, sizes_exactly}
use Rattle.sessions.specs.File.{Below, marked, version_in, rule_in, boards_in, cells_in, action_at, records_at}
use Rattle.sessions.specs.FileRefusals.{head_refusals, body_refusals, records_bad, body_bad, read_refusals, count_in, run_refusals}
use Rattle.sessions.specs.Run.{line_of_record}
use Rattle.sessions.specs.Statements.{HeadOf, RunReply, Runs}
use Rattle.sessions.specs.declared.Head.{Head}
use Rattle.sessions.proofs.AcceptedLaws.{readable, few_records}
use Rattle.sessions.proofs.BytesLaws.{head_says}
use Rattle.sessions.proofs.LogLaws.{logged, its_action, in_slice}
use Rattle.listing.specs.Listing.{refusal_of}
use Rattle.listing.specs.Code.{Told}
use Rattle.listing.proofs.Room.{run_has_room}

-- a table of the file's sizes
abbrev pub Sized : (file : List ℕ) → Table → Type 0
Sized file t = 9 ≤ length file → sizes_good (boards_in file) (cells_in file) t ≡ in_range (boards_in file) (cells_in file)

-- ---- the refusals

or_none : (x : Bool) → (x || false) ≡ x
or_none true = refl
or_none false = refl

-- the two lists: the same conditions, then a room that is enough
same_order : (short mark version sizes ruled body room : Bool) → (body ≡ false → room ≡ false) →
    ◌≡◌ {A = ℕ} (cond short 19 (cond mark 17 (cond version 18 (cond sizes 1 (cond ruled 2 (cond body 19 (cond room 20 0)))))))
    (cond short 19 (cond mark 17 (cond version 18 (cond sizes 1 (cond ruled 2 (cond body 19 0))))))
same_order short mark version sizes ruled true room h = refl
same_order short mark version sizes ruled false room h = rw (h refl)

few_in : (file : List ℕ) → body_bad file ≡ false → count_in file ≤ 4096
unfolding body_bad
few_in file e =
    let n = length file - (records_at (cells_in file)) in
    few_records n (or_right (ltb (length file) (records_at (cells_in file))) (records_bad n) e)

module _ (file : List ℕ) (t : Table) (numbers values : ℕ) (fits : Sized file t) (a : 4096 ≤ numbers) (b : 4096 ≤ values) where
  enough : body_bad file ≡ false → (ltb numbers (count_in file) || ltb values (count_in file)) ≡ false
  enough e = let f = few_in file e in rw (le-ltb numbers (count_in file) (omega arith), le-ltb values (count_in file) (omega arith))

  pub refused_alike : first_number (run_refusals file t numbers values) ≡ refusal_of file
  unfolding run_refusals read_refusals head_refusals body_refusals
  refused_alike = go (dec_lt (length file) 9)
    where
      go : Dec (length file < 9) → first_number (run_refusals file t numbers values) ≡ refusal_of file
      go (yes h) = rw (lt-ltb (length file) 9 h)
      go (no h) =
          let s : sizes_good (boards_in file) (cells_in file) t ≡ in_range (boards_in file) (cells_in file) = fits (omega arith) in
          let same : (not (in_range (boards_in file) (cells_in file)) || not (eqb (cells_in file) (cells_in file))) ≡ not (in_range (boards_in file) (cells_in file)) = rw (eq-eqb (cells_in file) (cells_in file) refl) (or_none (not (in_range (boards_in file) (cells_in file)))) in
          rw (s, same)
          (same_order (ltb (length file) 9) (not (marked file)) (not (eqb (version_in file) 1)) (not (in_range (boards_in file) (cells_in file))) (ltb 4 (rule_in file)) (body_bad file) (ltb numbers (count_in file) || ltb values (count_in file)) enough)

-- ---- what is lent

module _ (file : List ℕ) (head : Head) (s : HeadOf file head) (boards cells : ℕ) (p : boards ≡ min head.boards 16) (q : cells ≡ min head.cells 512) where
  pub few_cells : cells ≤ 512
  few_cells = omega arith

  pub few_copies : cells * boards ≤ 8192
  few_copies =
      let few_boards : boards ≤ 16 = omega arith in
      omega (arith, mul-le-mul_left cells few_boards, few_cells)

  pub few_masks : cells * 3 ≤ 1536
  few_masks = omega (arith, few_cells)

  module _ (m k w : List ℕ) (a : length m ≡ cells) (b : length k ≡ cells * boards) (c : length w ≡ cells * 3) where
    lengths : boards ≡ boards_in file → cells ≡ cells_in file → (part : Slice) → length (table_of m k w part) ≡ cells_in file * width (boards_in file) part
    lengths e f main = unfold width in omega arith
    lengths e f copies = unfold width in rw (e, f) at b
    lengths e f masks = unfold width in rw f at c

    pub sized : Sized file (table_of m k w)
    sized long = go (in_range (boards_in file) (cells_in file)) refl
      where
        go : (x : Bool) → in_range (boards_in file) (cells_in file) ≡ x → sizes_good (boards_in file) (cells_in file) (table_of m k w) ≡ in_range (boards_in file) (cells_in file)
        go false e = unfold sizes_good in rw e
        go true e =
            let range = (range_exactly (boards_in file) (cells_in file)).0 e in
            let said = head_says file head s long in
            (sizes_exactly (boards_in file) (cells_in file) (table_of m k w)).1 (range, lengths (omega (arith, said.says_boards, range.0.1)) (omega (arith, said.says_cells, range.1.1))) ∙ sym e

-- ---- what a run that is not refused has told

module _ (file : List ℕ) (t : Table) (numbers values : List ℕ) (r : RunReply) (t' : Table) (numbers' values' : List ℕ) (s : Runs file t numbers values r t' numbers' values') (ok : r.number ≡ 0)
    (e : refusal_of file ≡ 0) (bytes : Below 256 file) (head : Head) (h : HeadOf file head) (a : 4096 ≤ length numbers') (b : 4096 ≤ length values') where
  code_of : (i : ℕ) → i < count_in file → get_or file (records_at (cells_in file) + 9 * i) 0 ≡ (line_of_record file i).action.code
  unfolding action_at
  code_of i k = sym (get_or-drop (records_at (cells_in file)) file (9 * i) 0) ∙ sym (ap (λ (x : Action). x.code) (its_action file i k))

  number_of : (i : ℕ) → i < count_in file → get_or numbers' i 0 ≡ (line_of_record file i).told.number
  number_of i k = in_slice file t numbers values r t' numbers' values' s ok (λ l. l.told.number) numbers numbers' s.numbers_are i k

  value_of : (i : ℕ) → i < count_in file → get_or values' i 0 ≡ (line_of_record file i).told.value
  value_of i k = in_slice file t numbers values r t' numbers' values' s ok (λ l. l.told.value) values values' s.values_are i k

  pub run_told : Told file head (record { accepted = r.accepted; stale = r.stale }) numbers' values'
  run_told =
      let y = (readable file (cells_in file)).0 e in
      let said = head_says file head h y.headed_whole in
      let few : count_in file ≤ 4096 = few_records (length file - (records_at (cells_in file))) y.recorded in
      let count = said.says_count in
      record {
        short = run_has_room file bytes e;
        rule_is = said.says_rule;
        boards_is = said.says_boards;
        cells_is = said.says_cells;
        count_is = count;
        accepted_is = s.accepted_is ∙ rw (eq-eqb r.number 0 ok);
        stale_is = s.stale_is ∙ rw (eq-eqb r.number 0 ok);
        few = omega arith;
        whole = omega (arith, said.says_from, y.valued);
        room_numbers = omega arith;
        room_values = omega arith;
        lines = logged file ∙ sym count;
        codes_are = λ i k. rw said.says_from (code_of i (omega arith));
        numbers_are = λ i k. number_of i (omega arith);
        values_are = λ i k. value_of i (omega arith);
      }
