-- Demand 1 for files, in words: which number `read`, `write` and `run` answer, by the raw bytes and lengths. Assumes nothing.
use mathlib.Core.Path.{◌≡◌, refl}
use mathlib.Core.Logic.{◌≢◌, ◌⊎◌, inl, inr, ◌↔◌}
use mathlib.Core.Bool.{Bool, true, false, cond, not, ◌&&◌, ◌||◌}
use mathlib.Core.List.{List}
use Prim.Native.Nat.{ℕ, ◌+◌, ◌-◌, ◌*◌, ◌/◌, ◌%◌, ◌≤◌}
use native.Mathlib.Omega.{arith}
use lib.Dec.{eqb, ltb}
use lib.ListN.{length, get_or}
use borrow.Author.Tests.{eq-eqb, eqb-true, ltb-false, le-ltb, not-false}
use Rattle.protocol.specs.declared.Answer.{Answer}
use Rattle.protocol.specs.Slices.{Table, in_range, sizes_good}
use Rattle.protocol.proofs.Booleans.{clash, and_left, and_right, and_both, or_left, or_right}
use Rattle.protocol.proofs.InWords.{range_exactly, sizes_exactly}
use Rattle.sessions.specs.File.{le16, marked, version_in, rule_in, boards_in, cells_in, records_at}
use Rattle.sessions.specs.FileRefusals.{head_refusals, body_refusals, records_bad, body_bad, read_refusals, write_refusals, count_in, run_refusals}
use Rattle.sessions.specs.FileWords.{InOrder, MarkBytes, VersionBytes, rule_byte, boards_byte, cells_bytes, Limits, Lengths, WholeRecords, Room}
use Rattle.sessions.specs.Statements.{Reads, Writes, Runs, ReadReply, RunReply}

-- ---- one refusal after another

-- what is asked, and the condition that refuses where it does not hold
record Asked : Type 1 where
  refuses : Bool
  holds : Type 0
  exactly : (refuses ≡ false) ↔ holds

module _ (r : Asked) where
  refused : r.refuses ≡ true → ¬ r.holds
  refused e a = clash e (r.exactly.1 a)

  -- the number is this refusal's, and no later one's
  here : {n rest : ℕ} → rest ≢ n → (cond r.refuses n rest ≡ n) ↔ (¬ r.holds)
  here {n} {rest} d = go r.refuses refl
    where
      go : (b : Bool) → r.refuses ≡ b → (cond b n rest ≡ n) ↔ (¬ r.holds)
      go true e = ((λ q. refused e), λ w. refl)
      go false e = ((λ q. absurd (d q)), λ w. absurd (w (r.exactly.0 e)))

  -- the number is a later one's, and not this refusal's
  past : {m rest n : ℕ} {W : Type 0} → m ≢ n → (rest ≡ n) ↔ W → (cond r.refuses m rest ≡ n) ↔ (r.holds × W)
  past {m} {rest} {n} {W} d i = go r.refuses refl
    where
      go : (b : Bool) → r.refuses ≡ b → (cond b m rest ≡ n) ↔ (r.holds × W)
      go true e = ((λ q. absurd (d q)), λ w. absurd (refused e w.0))
      go false e = ((λ q. (r.exactly.0 e, i.0 q)), λ w. i.1 w.1)

  -- the number is this refusal's, and a later one's too
  here_or_past : {n rest : ℕ} {W : Type 0} → (rest ≡ n) ↔ W → (cond r.refuses n rest ≡ n) ↔ (¬ r.holds ⊎ (r.holds × W))
  here_or_past {n} {rest} {W} i = go r.refuses refl
    where
      go : (b : Bool) → r.refuses ≡ b → (cond b n rest ≡ n) ↔ (¬ r.holds ⊎ (r.holds × W))
      go true e = ((λ q. inl (refused e)), λ w. refl)
      go false e = ((λ q. inr (r.exactly.0 e, i.0 q)), back)
        where
          back : ¬ r.holds ⊎ (r.holds × W) → rest ≡ n
          back (inl w) = absurd (w (r.exactly.0 e))
          back (inr w) = i.1 w.1

  -- neither this refusal nor a later one has the number
  other : {m rest n : ℕ} → m ≢ n → rest ≢ n → cond r.refuses m rest ≢ n
  other {m} {rest} {n} d e = go r.refuses
    where
      go : (b : Bool) → cond b m rest ≢ n
      go true = d
      go false = e

  -- it is the last, and does not refuse
  none : {m : ℕ} → m ≢ 0 → (cond r.refuses m 0 ≡ 0) ↔ r.holds
  none {m} d = go r.refuses refl
    where
      go : (b : Bool) → r.refuses ≡ b → (cond b m 0 ≡ 0) ↔ r.holds
      go true e = ((λ q. absurd (d q)), λ a. absurd (refused e a))
      go false e = ((λ q. r.exactly.0 e), λ a. refl)

-- ---- the order, once

module _ (nine mark version sizes rule body room : Asked) where
  abbrev answered : ℕ
  answered =
      cond nine.refuses 19 (cond mark.refuses 17 (cond version.refuses 18
      (cond sizes.refuses 1 (cond rule.refuses 2 (cond body.refuses 19 (cond room.refuses 20 0))))))

  in_order : InOrder answered nine.holds mark.holds version.holds sizes.holds rule.holds body.holds room.holds
  in_order = record {
    answers_17 =
        past nine (omega arith) (here mark (other version (omega arith) (other sizes (omega arith) (other rule (omega arith)
        (other body (omega arith) (other room (omega arith) (omega arith)))))));
    answers_18 =
        past nine (omega arith) (past mark (omega arith) (here version (other sizes (omega arith) (other rule (omega arith)
        (other body (omega arith) (other room (omega arith) (omega arith)))))));
    answers_1 =
        past nine (omega arith) (past mark (omega arith) (past version (omega arith) (here sizes (other rule (omega arith)
        (other body (omega arith) (other room (omega arith) (omega arith)))))));
    answers_2 =
        past nine (omega arith) (past mark (omega arith) (past version (omega arith) (past sizes (omega arith) (here rule
        (other body (omega arith) (other room (omega arith) (omega arith)))))));
    answers_19 =
        here_or_past nine (past mark (omega arith) (past version (omega arith) (past sizes (omega arith) (past rule (omega arith)
        (here body (other room (omega arith) (omega arith)))))));
    answers_20 =
        past nine (omega arith) (past mark (omega arith) (past version (omega arith) (past sizes (omega arith) (past rule (omega arith)
        (past body (omega arith) (here room (omega arith)))))));
    answers_0 =
        past nine (omega arith) (past mark (omega arith) (past version (omega arith) (past sizes (omega arith) (past rule (omega arith)
        (past body (omega arith) (none room (omega arith)))))));
  }

-- ---- what is asked

neither : (a b : Bool) {A B : Type 0} → (a ≡ false) ↔ A → (b ≡ false) ↔ B → ((a || b) ≡ false) ↔ (A × B)
neither a b j k = ((λ e. (j.0 (or_left a b e), k.0 (or_right a b e))), λ f. rw (j.1 f.0, k.1 f.1))

wanted : (b : Bool) {A : Type 0} → (b ≡ true) ↔ A → (not b ≡ false) ↔ A
wanted b j = ((λ e. j.0 (not-false b e)), λ a. rw (j.1 a))

abbrev nothing : Asked
nothing = record { refuses = false; holds = Unit {0}; exactly = ((λ e. tt), λ u. refl) }

abbrev at_most : (a b : ℕ) → Asked
at_most a b = record { refuses = ltb b a; holds = a ≤ b; exactly = (ltb-false b a, le-ltb b a) }

-- ---- sizes, whole records and room

module _ (boards cells : ℕ) where
  limits_exactly : (in_range boards cells ≡ true) ↔ Limits boards cells
  limits_exactly =
      let k = range_exactly boards cells in
      ((λ e. let r = k.0 e in (r.0.0, r.0.1, r.1.0, r.1.1)), λ l. k.1 ((l.0, l.1), (l.2, l.3)))

  lengths_exactly : (t : Table) → (sizes_good boards cells t ≡ true) ↔ (Limits boards cells × Lengths boards cells t)
  lengths_exactly t =
      let k = sizes_exactly boards cells t in
      ((λ e. let f = k.0 e in ((f.0.0.0, f.0.0.1, f.0.1.0, f.0.1.1), f.1)), λ g. k.1 (((g.0.0, g.0.1), (g.0.2, g.0.3)), g.1))

  abbrev starting_sizes : (lent : ℕ) → Asked
  starting_sizes lent = record {
    refuses = not (in_range boards cells) || not (eqb lent cells);
    holds = Limits boards cells × (lent ≡ cells);
    exactly =
        neither (not (in_range boards cells)) (not (eqb lent cells)) (wanted (in_range boards cells) limits_exactly)
        (wanted (eqb lent cells) (eqb-true lent cells, eq-eqb lent cells));
  }

  abbrev table_sizes : Table → Asked
  table_sizes t = record {
    refuses = not (sizes_good boards cells t);
    holds = Limits boards cells × Lengths boards cells t;
    exactly = wanted (sizes_good boards cells t) (lengths_exactly t);
  }

whole_exactly : (n : ℕ) → (records_bad n ≡ false) ↔ WholeRecords 0 n
unfolding records_bad
whole_exactly n =
    let part = not (eqb (n % 9) 0) in
    let many = ltb 4096 (n / 9) in (
      (λ e. (n / 9, ltb-false 4096 (n / 9) (or_right part many e), nines (eqb-true (n % 9) 0 (not-false _ (or_left part many e))))),
      λ w. rw (eq-eqb (n % 9) 0 (omega (arith, w.2)), le-ltb 4096 (n / 9) (omega (arith, w.1, w.2))),
    )
  where
    nines : n % 9 ≡ 0 → n ≡ 0 + 9 * (n / 9)
    nines e = omega arith

abbrev whole_records : (n : ℕ) → Asked
whole_records n = record { refuses = records_bad n; holds = WholeRecords 0 n; exactly = whole_exactly n }

abbrev answer_room : (count numbers values : ℕ) → Asked
answer_room count numbers values = record {
  refuses = ltb numbers count || ltb values count;
  holds = (count ≤ numbers) × (count ≤ values);
  exactly = neither (ltb numbers count) (ltb values count) (at_most count numbers).exactly (at_most count values).exactly;
}

-- ---- the bytes of a file

module _ (file : List ℕ) where
  mark_exactly : (marked file ≡ true) ↔ MarkBytes file
  unfolding marked
  mark_exactly =
      let a = eqb (get_or file 0 0) 67 in
      let b = eqb (get_or file 1 0) 67 in
      let c = eqb (get_or file 2 0) 83 in (
        (λ e. let f = and_right a (b && c) e in
            (eqb-true _ _ (and_left a (b && c) e), eqb-true _ _ (and_left b c f), eqb-true _ _ (and_right b c f))),
        λ m. and_both a (b && c) (eq-eqb _ _ m.0) (and_both b c (eq-eqb _ _ m.1) (eq-eqb _ _ m.2)),
      )

  version_exactly : (eqb (version_in file) 1 ≡ true) ↔ VersionBytes file
  unfolding le16
  version_exactly = (
    (λ e. let v = eqb-true (version_in file) 1 e in (omega (arith, v), omega (arith, v))),
    λ v. eq-eqb (version_in file) 1 (omega (arith, v.0, v.1)),
  )

  body_exactly : (body_bad file ≡ false) ↔ WholeRecords (records_at (cells_in file)) (length file)
  unfolding body_bad
  body_exactly =
      let from = records_at (cells_in file) in
      let n = length file - from in
      let k = neither (ltb (length file) from) (records_bad n) (at_most from (length file)).exactly (whole_exactly n) in (
        (λ e. let f = k.0 e in (f.1.0, f.1.1, omega (arith, f.0, f.1.2))),
        λ w. k.1 (omega (arith, w.2), (w.0, w.1, omega (arith, w.2))),
      )

  abbrev mark : Asked
  mark = record { refuses = not (marked file); holds = MarkBytes file; exactly = wanted (marked file) mark_exactly }

  abbrev version : Asked
  version = record { refuses = not (eqb (version_in file) 1); holds = VersionBytes file; exactly = wanted (eqb (version_in file) 1) version_exactly }

  abbrev body : Asked
  body = record { refuses = body_bad file; holds = WholeRecords (records_at (cells_in file)) (length file); exactly = body_exactly }

-- ---- the three functions

module _ (file old : List ℕ) (r : ReadReply) (starting : List ℕ) (s : Reads file old r starting) where
  pub read_answers : InOrder r.number (9 ≤ length file) (MarkBytes file) (VersionBytes file)
      (Limits (boards_byte file) (cells_bytes file) × (length old ≡ cells_bytes file))
      (rule_byte file ≤ 4) (WholeRecords (9 + 4 * cells_bytes file) (length file)) (Unit {0})
  unfolding read_refusals head_refusals body_refusals le16
  read_answers =
      rw s.number_is (in_order (at_most 9 (length file)) (mark file) (version file) (starting_sizes (boards_in file) (cells_in file) (length old))
      (at_most (rule_in file) 4) (body file) nothing)

module _ (rule boards cells : ℕ) (starting records old : List ℕ) (r : Answer) (out : List ℕ)
    (s : Writes rule boards cells starting records old r out) where
  -- "the same order without 17 and 18"
  pub write_answers : InOrder r.number (Unit {0}) (Unit {0}) (Unit {0}) (Limits boards cells × (length starting ≡ cells))
      (rule ≤ 4) (WholeRecords 0 (length records)) (9 + 4 * cells + length records ≤ length old)
  unfolding write_refusals body_refusals
  write_answers =
      rw s.number_is (in_order nothing nothing nothing (starting_sizes boards cells (length starting)) (at_most rule 4)
      (whole_records (length records)) (at_most (records_at cells + length records) (length old)))

module _ (file : List ℕ) (t : Table) (numbers values : List ℕ) (r : RunReply) (t' : Table) (numbers' values' : List ℕ)
    (s : Runs file t numbers values r t' numbers' values') where
  pub run_answers : InOrder r.number (9 ≤ length file) (MarkBytes file) (VersionBytes file)
      (Limits (boards_byte file) (cells_bytes file) × Lengths (boards_byte file) (cells_bytes file) t)
      (rule_byte file ≤ 4) (WholeRecords (9 + 4 * cells_bytes file) (length file))
      (Room (9 + 4 * cells_bytes file) (length file) (length numbers) (length values))
  unfolding run_refusals head_refusals body_refusals le16
  run_answers =
      rw s.number_is (in_order (at_most 9 (length file)) (mark file) (version file) (table_sizes (boards_in file) (cells_in file) t)
      (at_most (rule_in file) 4) (body file) (answer_room (count_in file) (length numbers) (length values)))
