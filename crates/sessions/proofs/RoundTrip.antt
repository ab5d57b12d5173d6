-- There and back: a file that is read is written again byte for byte, and a session that is written is read again as it was. Assumes nothing.
use mathlib.Core.Path.{◌≡◌, refl, ap, sym, ◌∙◌}
use mathlib.Core.List.{List, ◌++◌}
use Prim.Native.Nat.{ℕ, ◌+◌, ◌-◌, ◌≤◌}
use native.Mathlib.Omega.{arith}
use lib.ListN.{length, take, drop, length-drop}
use lib.Seq.{take_at, drop_at}
use borrow.Author.Tests.{eq-eqb}
use Rattle.protocol.specs.declared.Answer.{Answer}
use Rattle.protocol.specs.First.{first_number}
use Rattle.sessions.specs.File.{Below, rule_in, boards_in, cells_in, starting_in, records_in, headed, file_of, records_at}
use Rattle.sessions.specs.FileRefusals.{read_refusals, write_refusals}
use Rattle.sessions.specs.Statements.{accepting, ReadReply, Reads, Writes, ReadAs}
use Rattle.sessions.proofs.AcceptedLaws.{writable, readable}
use Rattle.sessions.proofs.BytesLaws.{length_starting}
use Rattle.sessions.proofs.WrittenLaws.{length_file}
use Rattle.sessions.proofs.TripLaws.{mark_of, version_of, rule_of_file, boards_of, cells_of, starting_of, records_of, head_of, body_of}

-- ---- from a file to a session to a file

pub same_file : (file : List ℕ) → Below 256 file → first_number (read_refusals file (cells_in file)) ≡ 0 →
    file_of (rule_in file) (boards_in file) (cells_in file) (starting_in file) (records_in file) ≡ file
unfolding file_of
same_file file b e =
    let r = (readable file (cells_in file)).0 e in
    ap (λ (t : List ℕ). headed (rule_in file) (boards_in file) (cells_in file) ++ t) (body_of file b r.valued) ∙ head_of file b r.headed_whole r.has_mark r.version_1

-- what a file was read as is not refused to a writer that has room
read_is_writable : (file : List ℕ) (room : ℕ) → first_number (read_refusals file (cells_in file)) ≡ 0 → length file ≤ room →
    first_number (write_refusals (rule_in file) (boards_in file) (cells_in file) (length (starting_in file)) (length (records_in file)) room) ≡ 0
read_is_writable file room e h =
    let r = (readable file (cells_in file)).0 e in
    let v : length (starting_in file) ≡ cells_in file = length_starting file in
    let d : length (records_in file) ≡ length file - (records_at (cells_in file)) = length-drop (records_at (cells_in file)) file in
    rw (v, d) ((writable (rule_in file) (boards_in file) (cells_in file) (cells_in file) (length file - (records_at (cells_in file))) room).1
    (record { sizes = r.sizes; ruled = r.ruled; recorded = r.recorded; roomy = omega (arith, r.valued) }))

-- ---- from a session to a file to a session

module _ (rule boards cells : ℕ) (starting records : List ℕ) (room : ℕ) where
  pub same_session : Below 4294967296 starting → first_number (write_refusals rule boards cells (length starting) (length records) room) ≡ 0 →
      ReadAs (file_of rule boards cells starting records) rule boards cells starting records
  same_session b e =
      let file = file_of rule boards cells starting records in
      let w = (writable rule boards cells (length starting) (length records) room).0 e in
      let z = w.sizes in
      let c : cells_in file ≡ cells = cells_of rule boards cells starting records in
      let l : length file ≡ records_at cells + length records = length_file rule boards cells starting records ∙ ap (λ (k : ℕ). records_at k + length records) z.matching in
      let n : length file - (records_at (cells_in file)) ≡ length records = rw (c, l) (omega arith) in
      record {
        accepted = (readable file cells).1 (record {
          headed_whole = omega arith;
          has_mark = mark_of rule boards cells starting records;
          version_1 = version_of rule boards cells starting records;
          sizes = rw (c, boards_of rule boards cells starting records) (record { some_boards = z.some_boards; few_boards = z.few_boards; some_cells = z.some_cells; few_cells = z.few_cells; matching = refl });
          ruled = rw (rule_of_file rule boards cells starting records) w.ruled;
          valued = omega arith;
          recorded = rw n w.recorded;
        });
        same_rule = rule_of_file rule boards cells starting records;
        same_boards = boards_of rule boards cells starting records;
        same_cells = c;
        same_starting = starting_of rule boards cells starting records z.matching b;
        same_records = records_of rule boards cells starting records z.matching;
      }

-- ---- the same of the two functions, by what they promise

when_accepted : {A : Type 0} (n : ℕ) (a b : A) → n ≡ 0 → accepting n a b ≡ a
when_accepted n a b e = rw (eq-eqb n 0 e)

-- `read` accepted a file, and `write` was given what it gave and room enough: `out` starts with the file, and behind it is as it was
pub read_then_write : (file old : List ℕ) (p : ReadReply) (starting : List ℕ) → Below 256 file → Reads file old p starting → p.number ≡ 0 →
    (before : List ℕ) (r : Answer) (out : List ℕ) → length file ≤ length before → Writes p.rule p.boards p.cells starting p.records before r out →
    (r.number ≡ 0) × (take (length file) out ≡ file) × (drop (length file) out ≡ drop (length file) before)
read_then_write file old p starting b s z before r out h w =
    let e : first_number (read_refusals file (length old)) ≡ 0 = sym s.number_is ∙ z in
    let m : length old ≡ cells_in file = ((readable file (length old)).0 e).sizes.matching in
    let g : first_number (read_refusals file (cells_in file)) ≡ 0 = ap (λ (k : ℕ). first_number (read_refusals file k)) (sym m) ∙ e in
    let a1 : p.rule ≡ rule_in file = s.rule_is ∙ when_accepted p.number _ _ z in
    let a2 : p.boards ≡ boards_in file = s.boards_is ∙ when_accepted p.number _ _ z in
    let a3 : p.cells ≡ cells_in file = s.cells_is ∙ when_accepted p.number _ _ z in
    let a4 : starting ≡ starting_in file = s.filled ∙ when_accepted p.number _ _ z in
    let a5 : p.records ≡ records_in file = s.part ∙ when_accepted p.number _ _ z in
    let n : r.number ≡ 0 = w.number_is ∙ rw (a1, a2, a3, a4, a5) (read_is_writable file (length before) g h) in
    let f : file_of p.rule p.boards p.cells starting p.records ≡ file = rw (a1, a2, a3, a4, a5) (same_file file b g) in
    let o : out ≡ file ++ drop (length file) before = w.bytes ∙ when_accepted r.number _ _ n ∙ ap (λ (l : List ℕ). l ++ drop (length l) before) f in
    (n, rw o (take_at file (drop (length file) before) (length file) refl), rw o (drop_at file (drop (length file) before) (length file) refl))

-- `write` accepted a session, and `read` was given exactly the bytes of its file and a slice for its values: the session as it was
module _ (rule boards cells : ℕ) (starting records before : List ℕ) (r : Answer) (out : List ℕ) where
  pub write_then_read : Below 4294967296 starting → Writes rule boards cells starting records before r out → r.number ≡ 0 →
      (old : List ℕ) (p : ReadReply) (starting' : List ℕ) → length old ≡ cells → Reads (take (records_at cells + length records) out) old p starting' →
      (p.number ≡ 0) × (p.rule ≡ rule) × (p.boards ≡ boards) × (p.cells ≡ cells) × (starting' ≡ starting) × (p.records ≡ records)
  write_then_read b w z old p starting' l s =
      let file = file_of rule boards cells starting records in
      let e : first_number (write_refusals rule boards cells (length starting) (length records) (length before)) ≡ 0 = sym w.number_is ∙ z in
      let m = ((writable rule boards cells (length starting) (length records) (length before)).0 e).sizes.matching in
      let n : length file ≡ records_at cells + length records = length_file rule boards cells starting records ∙ ap (λ (k : ℕ). records_at k + length records) m in
      let o : out ≡ file ++ drop (length file) before = w.bytes ∙ when_accepted r.number _ _ z in
      let t : take (records_at cells + length records) out ≡ file = rw o (take_at file (drop (length file) before) (records_at cells + length records) n) in
      let q : Reads file old p starting' = rw t at s in
      let same = same_session rule boards cells starting records (length before) b e in
      let y : p.number ≡ 0 = q.number_is ∙ rw l same.accepted in (
        y,
        q.rule_is ∙ when_accepted p.number _ _ y ∙ same.same_rule,
        q.boards_is ∙ when_accepted p.number _ _ y ∙ same.same_boards,
        q.cells_is ∙ when_accepted p.number _ _ y ∙ same.same_cells,
        q.filled ∙ when_accepted p.number _ _ y ∙ same.same_starting,
        q.part ∙ when_accepted p.number _ _ y ∙ same.same_records,
      )
