-- A session and a file that nothing refuses, in words. Assumes nothing.
use mathlib.Core.Path.{◌≡◌, refl, ◌∙◌}
use mathlib.Core.Logic.{◌↔◌}
use mathlib.Core.Bool.{Bool, true, false, not, ◌||◌}
use mathlib.Core.List.{List}
use Prim.Native.Nat.{ℕ, ◌+◌, ◌-◌, ◌/◌, ◌%◌, ◌≤◌}
use lib.Dec.{eqb, ltb}
use lib.ListN.{length}
use borrow.Author.Tests.{eq-eqb, eqb-true, ltb-false, le-ltb, not-false}
use Rattle.protocol.specs.declared.Answer.{Answer}
use Rattle.protocol.specs.Slices.{Table, every, in_range, sizes_good}
use Rattle.protocol.specs.First.{Refusal, first_number, NoneHolds}
use Rattle.protocol.proofs.Booleans.{or_left, or_right}
use Rattle.protocol.proofs.FirstLaws.{Refuse, refuse_of, first_accepted, none_number, first_number_lem}
use Rattle.protocol.proofs.InWords.{range_exactly, sizes_exactly}
use Rattle.sessions.specs.File.{marked, version_in, rule_in, boards_in, cells_in, records_at}
use Rattle.sessions.specs.FileRefusals.{head_refusals, body_refusals, records_bad, body_bad, read_refusals, write_refusals, count_in, run_refusals}

-- no refusal holds exactly where the number is 0
pub none_refuses : (rs : List Refusal) → Refuse rs → (first_number rs ≡ 0) ↔ NoneHolds rs
none_refuses rs z = ((λ e. (first_accepted ok refl rs z).0 (first_number_lem rs ok refl ∙ e)), none_number rs)
  where
    ok : Answer
    ok = record { number = 0; value = 0 }

-- every refusal of a file has a number
pub all_read : (file : List ℕ) (lent : ℕ) → Refuse (read_refusals file lent)
unfolding read_refusals head_refusals body_refusals every
all_read file lent = refuse_of (read_refusals file lent) refl

pub all_write : (rule boards cells starting records room : ℕ) → Refuse (write_refusals rule boards cells starting records room)
unfolding write_refusals body_refusals every
all_write rule boards cells starting records room = refuse_of (write_refusals rule boards cells starting records room) refl

pub all_run : (file : List ℕ) (t : Table) (numbers values : ℕ) → Refuse (run_refusals file t numbers values)
unfolding run_refusals head_refusals body_refusals every
all_run file t numbers values = refuse_of (run_refusals file t numbers values) refl

neither : (a b : Bool) → a ≡ false → b ≡ false → (a || b) ≡ false
neither a b e f = rw (e, f)

-- P is 1 to 16, N is 1 to 512, and there are N starting values
pub record GoodSizes (boards cells starting : ℕ) : Type 0 where
  pub some_boards : 1 ≤ boards
  pub few_boards : boards ≤ 16
  pub some_cells : 1 ≤ cells
  pub few_cells : cells ≤ 512
  pub matching : starting ≡ cells

pub good_sizes : (boards cells starting : ℕ) → ((not (in_range boards cells) || not (eqb starting cells)) ≡ false) ↔ GoodSizes boards cells starting
good_sizes boards cells starting = (
  (λ e.
      let r = (range_exactly boards cells).0 (not-false _ (or_left (not (in_range boards cells)) (not (eqb starting cells)) e)) in
      record {
        some_boards = r.0.0;
        few_boards = r.0.1;
        some_cells = r.1.0;
        few_cells = r.1.1;
        matching = eqb-true _ _ (not-false _ (or_right (not (in_range boards cells)) (not (eqb starting cells)) e));
      }),
  λ g. rw ((range_exactly boards cells).1 ((g.some_boards, g.few_boards), (g.some_cells, g.few_cells)), eq-eqb _ _ g.matching),
)

pub few_records : (n : ℕ) → records_bad n ≡ false → n / 9 ≤ 4096
unfolding records_bad
few_records n e = ltb-false _ _ (or_right (not (eqb (n % 9) 0)) (ltb 4096 (n / 9)) e)

-- ---- the writer

pub record Writable (rule boards cells starting records room : ℕ) : Type 0 where
  pub sizes : GoodSizes boards cells starting
  pub ruled : rule ≤ 4
  pub recorded : records_bad records ≡ false
  pub roomy : records_at cells + records ≤ room

pub writable : (rule boards cells starting records room : ℕ) → (first_number (write_refusals rule boards cells starting records room) ≡ 0) ↔ Writable rule boards cells starting records room
unfolding write_refusals body_refusals
writable rule boards cells starting records room =
    let k = none_refuses (write_refusals rule boards cells starting records room) (all_write rule boards cells starting records room) in
    let g = good_sizes boards cells starting in (
      (λ e. let f = k.0 e in record { sizes = g.0 f.0; ruled = ltb-false _ _ f.1.0; recorded = f.1.1.0; roomy = ltb-false _ _ f.1.1.1.0 }),
      λ w. k.1 (g.1 w.sizes, (le-ltb _ _ w.ruled, (w.recorded, (le-ltb _ _ w.roomy, tt)))),
    )

-- ---- the reader

pub record Readable (file : List ℕ) (lent : ℕ) : Type 0 where
  pub headed_whole : 9 ≤ length file
  pub has_mark : marked file ≡ true
  pub version_1 : version_in file ≡ 1
  pub sizes : GoodSizes (boards_in file) (cells_in file) lent
  pub ruled : rule_in file ≤ 4
  pub valued : records_at (cells_in file) ≤ length file
  pub recorded : records_bad (length file - (records_at (cells_in file))) ≡ false

pub readable : (file : List ℕ) (lent : ℕ) → (first_number (read_refusals file lent) ≡ 0) ↔ Readable file lent
unfolding read_refusals head_refusals body_refusals body_bad
readable file lent =
    let k = none_refuses (read_refusals file lent) (all_read file lent) in
    let g = good_sizes (boards_in file) (cells_in file) lent in
    let short = ltb (length file) (records_at (cells_in file)) in
    let bad = records_bad (length file - (records_at (cells_in file))) in (
      (λ e.
          let f = k.0 e in
          let b = f.1.1.1.1.1.0 in
          record {
            headed_whole = ltb-false _ _ f.0;
            has_mark = not-false _ f.1.0;
            version_1 = eqb-true _ _ (not-false _ f.1.1.0);
            sizes = g.0 f.1.1.1.0;
            ruled = ltb-false _ _ f.1.1.1.1.0;
            valued = ltb-false _ _ (or_left short bad b);
            recorded = or_right short bad b;
          }),
      λ w.
          k.1 (
            le-ltb _ _ w.headed_whole,
            (rw w.has_mark, (rw w.version_1, (g.1 w.sizes, (le-ltb _ _ w.ruled, (neither short bad (le-ltb _ _ w.valued) w.recorded, tt))))),
          ),
    )

-- ---- the run

pub record Runnable (file : List ℕ) (t : Table) (numbers values : ℕ) : Type 0 where
  pub readable_too : Readable file (cells_in file)
  pub sized : sizes_good (boards_in file) (cells_in file) t ≡ true
  pub roomy_numbers : count_in file ≤ numbers
  pub roomy_values : count_in file ≤ values

pub runnable : (file : List ℕ) (t : Table) (numbers values : ℕ) → first_number (run_refusals file t numbers values) ≡ 0 → Runnable file t numbers values
unfolding run_refusals head_refusals body_refusals body_bad
runnable file t numbers values e =
    let f = (none_refuses (run_refusals file t numbers values) (all_run file t numbers values)).0 e in
    let short = ltb (length file) (records_at (cells_in file)) in
    let bad = records_bad (length file - (records_at (cells_in file))) in
    let b = f.1.1.1.1.1.0 in
    let good = not-false _ f.1.1.1.0 in
    let r = ((sizes_exactly (boards_in file) (cells_in file) t).0 good).0 in
    let room = f.1.1.1.1.1.1.0 in
    record {
      readable_too = record {
        headed_whole = ltb-false _ _ f.0;
        has_mark = not-false _ f.1.0;
        version_1 = eqb-true _ _ (not-false _ f.1.1.0);
        sizes = record { some_boards = r.0.0; few_boards = r.0.1; some_cells = r.1.0; few_cells = r.1.1; matching = refl };
        ruled = ltb-false _ _ f.1.1.1.1.0;
        valued = ltb-false _ _ (or_left short bad b);
        recorded = or_right short bad b;
      };
      sized = good;
      roomy_numbers = ltb-false _ _ (or_left (ltb numbers (count_in file)) (ltb values (count_in file)) room);
      roomy_values = ltb-false _ _ (or_right (ltb numbers (count_in file)) (ltb values (count_in file)) room);
    }
