-- The listing of a run has at most 94,232 bytes, and `list` never answers 20 where that many are lent. Assumes nothing.
use mathlib.Core.Path.{◌≡◌, ap, ◌∙◌}
use mathlib.Core.List.{List, [], ◌∷◌, ◌++◌}
use Prim.Native.Nat.{ℕ, suc, ◌+◌, ◌-◌, ◌*◌, ◌<◌, ◌≤◌}
use native.Mathlib.Omega.{arith}
use native.Mathlib.Nat.{mul-le-mul_left}
use borrow.Author.Tests.{le-ltb}
use lib.ListN.{length, length-append}
use Rattle.protocol.specs.Runs.{Line}
use Rattle.protocol.proofs.SmallNumbers.{SmallLines}
use Rattle.sessions.specs.File.{Below, rule_in, boards_in, cells_in, records_at}
use Rattle.sessions.specs.FileRefusals.{count_in}
use Rattle.sessions.specs.Run.{log_of, accepted_in, stale_of}
use Rattle.sessions.proofs.AcceptedLaws.{readable, few_records}
use Rattle.sessions.proofs.LogLaws.{logged}
use Rattle.sessions.proofs.SmallRun.{log_of_bytes, accepted_at_most, stale_at_most}
use Rattle.std.proofs.Common.{Result, Ok}
use Rattle.protocol.specs.declared.Refused.{Refused}
use Rattle.listing.specs.Statements.{Lists}
use Rattle.listing.specs.Decimal.{digits}
use Rattle.listing.specs.Listing.{first_line, last_line, line, record_numbers, record_lines, run_listing, refusal_of, listing_of}
use Rattle.listing.proofs.DigitLaws.{fewer}
use Rattle.listing.proofs.LineLaws.{line_of_none, length_line}

-- ---- one line

length_three : (a b c : ℕ) → length (line (a ∷ b ∷ c ∷ [])) ≡ length (digits a) + length (digits b) + length (digits c) + 3
length_three a b c = omega (arith, length_line a (b ∷ c ∷ []), length_line b (c ∷ []), length_line c [], ap length line_of_none)

-- ---- the lines of the records

-- an index below 4,096, a code below 256, a number up to 16, a value below 2^32, and four bytes between and behind: 4 + 3 + 2 + 10 + 4
line_short : (index : ℕ) (l : Line) → index < 4096 → l.action.code < 256 → l.told.number ≤ 16 → l.told.value < 4294967296 → length (line (record_numbers index l)) ≤ 23
line_short index l h c n v =
    omega (arith, length_line index (l.action.code ∷ l.told.number ∷ l.told.value ∷ []), length_three l.action.code l.told.number l.told.value, fewer 3 index (omega arith), fewer 2 l.action.code (omega arith), fewer 1 l.told.number (omega arith), fewer 9 l.told.value (omega arith))

lines_short : (index : ℕ) (ls : List Line) → index + length ls ≤ 4096 → SmallLines 4294967296 ls → length (record_lines index ls) ≤ 23 * length ls
unfolding record_lines
lines_short index [] h s = omega arith
lines_short index (l ∷ ls) h s =
    omega (arith, length-append (line (record_numbers index l)) (record_lines (suc index) ls), line_short index l (omega arith) s.0 s.1 s.2, lines_short (suc index) ls (omega arith) s.3)

-- ---- a run

length_run : (file : List ℕ) → length (run_listing file) ≡ length (first_line file) + length (record_lines 0 (log_of file)) + length (last_line file)
unfolding run_listing
length_run file = omega (arith, length-append (first_line file) (record_lines 0 (log_of file) ++ last_line file), length-append (record_lines 0 (log_of file)) (last_line file))

-- the first line has up to 1 + 2 + 3 + 3 bytes, the last one 4 + 4 + 4 + 3: in all 9 + 4,096 x 23 + 15
pub run_has_room : (file : List ℕ) → Below 256 file → refusal_of file ≡ 0 → length (run_listing file) ≤ 94232
run_has_room file b e =
    let y = (readable file (cells_in file)).0 e in
    let z = y.sizes in
    let few : count_in file ≤ 4096 = omega (arith, few_records (length file - (records_at (cells_in file))) y.recorded) in
    let accepted : accepted_in (log_of file) ≤ 4096 = omega (arith, accepted_at_most (log_of file), logged file) in
    let stale : stale_of file ≤ 8192 = omega (arith, stale_at_most file, mul-le-mul_left (cells_in file) z.few_boards, z.few_cells) in
    let first = length_three (rule_in file) (boards_in file) (cells_in file) in
    let lines = lines_short 0 (log_of file) (omega (arith, logged file)) (log_of_bytes file b) in
    let last = length_three (count_in file) (accepted_in (log_of file)) (stale_of file) in
    omega
    (arith, length_run file, logged file, fewer 0 (rule_in file) (omega (arith, y.ruled)), fewer 1 (boards_in file) (omega (arith, z.few_boards)), fewer 2 (cells_in file) (omega (arith, z.few_cells)), fewer 3 (count_in file) (omega arith), fewer 3 (accepted_in (log_of file)) (omega arith), fewer 3 (stale_of file) (omega arith))

-- ---- any file

-- a refused file has one short line, so `enough` holds of every file
pub never_20 : (file old : List ℕ) (r : Result ℕ Refused) (out : List ℕ) → 94232 ≤ length old → Lists file old r out → r ≡ Ok (length (listing_of file))
never_20 file old r out h s = s.result_is ∙ rw (le-ltb (length old) (length (listing_of file)) (omega (arith, s.enough)))
