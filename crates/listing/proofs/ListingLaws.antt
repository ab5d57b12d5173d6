-- The lines of a run's listing one by one. Assumes nothing.
use mathlib.Core.Path.{◌≡◌, ap, sym, ◌∙◌}
use mathlib.Core.List.{List, [], ◌∷◌, ◌++◌, append_assoc, append-nil}
use Prim.Native.Nat.{ℕ, suc, ◌+◌, ◌<◌, ◌≤◌}
use native.Mathlib.Omega.{arith}
use native.Mathlib.Numerals.{add-one}
use lib.ListN.{length, get_or, take, drop, length-append, take-append-drop}
use lib.Seq.{take-suc, length-take-le, take-length}
use Rattle.protocol.specs.Runs.{Line}
use Rattle.sessions.specs.Run.{log_of, no_line, line_of_record}
use Rattle.sessions.specs.declared.Head.{Head}
use Rattle.sessions.specs.declared.Report.{Report}
use Rattle.listing.specs.Listing.{first_line, last_line, line, record_numbers, record_lines, run_listing}
use Rattle.listing.specs.Code.{Told}

lines_append : (index : ℕ) (ks ls : List Line) → record_lines index (ks ++ ls) ≡ record_lines index ks ++ record_lines (index + length ks) ls
unfolding record_lines
lines_append index [] ls = let z : index + 0 ≡ index = omega arith in rw z
lines_append index (k ∷ ks) ls =
    let z : index + suc (length ks) ≡ suc index + length ks = omega arith in
    rw (lines_append (suc index) ks ls, z) (sym (append_assoc (line (record_numbers index k)) (record_lines (suc index) ks) (record_lines (suc index + length ks) ls)))

one_more : (index : ℕ) (ls : List Line) (l : Line) → record_lines index (ls ++ (l ∷ [])) ≡ record_lines index ls ++ line (record_numbers (index + length ls) l)
unfolding record_lines
one_more index ls l = lines_append index ls (l ∷ []) ∙ rw append-nil

-- the first line and the lines of the first i records
unfoldable pub up_to : (file : List ℕ) → (i : ℕ) → List ℕ
up_to file i = first_line file ++ record_lines 0 (take i (log_of file))

pub up_to_none : (file : List ℕ) → up_to file 0 ≡ first_line file
unfolding up_to record_lines
up_to_none file = rw append-nil

pub length_first : (file : List ℕ) → length (first_line file) ≤ length (run_listing file)
unfolding run_listing
length_first file = omega (arith, length-append (first_line file) (record_lines 0 (log_of file) ++ last_line file))

module _ (file : List ℕ) (head : Head) (report : Report) (numbers values : List ℕ) (t : Told file head report numbers values) where
  pub up_to_all : up_to file head.count ++ last_line file ≡ run_listing file
  unfolding up_to run_listing
  up_to_all =
      let all : take head.count (log_of file) ≡ log_of file = rw (sym t.lines) (take-length (log_of file)) in
      rw all (append_assoc (first_line file) (record_lines 0 (log_of file)) (last_line file))

  module _ (i : ℕ) (h : i < head.count) where
    -- the line of the next record
    abbrev pub next : List ℕ
    next = line (record_numbers i (line_of_record file i))

    pub up_to_more : up_to file (i + 1) ≡ up_to file i ++ next
    unfolding up_to line_of_record
    up_to_more =
        let inside : i < length (log_of file) = omega (arith, t.lines) in
        let n : 0 + length (take i (log_of file)) ≡ i = omega (arith, length-take-le i (log_of file) (omega arith)) in
        rw (add-one, take-suc (log_of file) i no_line inside, one_more 0 (take i (log_of file)) (get_or (log_of file) i no_line), n)
        (sym (append_assoc (first_line file) (record_lines 0 (take i (log_of file))) next))

    pub length_more : length (up_to file (i + 1)) ≡ length (up_to file i) + length next
    length_more = ap length up_to_more ∙ length-append (up_to file i) next

    -- they are within the listing
    pub within : length (up_to file i) + length next ≤ length (run_listing file)
    unfolding up_to run_listing
    within =
        let first = take (i + 1) (log_of file) in
        let rest = drop (i + 1) (log_of file) in
        let e : record_lines 0 (log_of file) ≡ record_lines 0 first ++ record_lines (0 + length first) rest = ap (record_lines 0) (sym (take-append-drop (i + 1) (log_of file))) ∙ lines_append 0 first rest in
        omega
        (arith, length_more, ap length e, length-append (record_lines 0 first) (record_lines (0 + length first) rest), length-append (first_line file) (record_lines 0 first), length-append (first_line file) (record_lines 0 (log_of file) ++ last_line file), length-append (record_lines 0 (log_of file)) (last_line file))

pub length_listing : (file : List ℕ) (head : Head) (report : Report) (numbers values : List ℕ) → Told file head report numbers values →
    length (up_to file head.count) + length (last_line file) ≡ length (run_listing file)
length_listing file head report numbers values t = sym (length-append (up_to file head.count) (last_line file)) ∙ ap length (up_to_all file head report numbers values t)
