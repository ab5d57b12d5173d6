-- The listing of a session file, in the words of document 01. Assumes nothing.
use Rattle.std.specs.Prelude.{cond, List, [], ◌∷◌, ◌++◌, ℕ, suc, eqb}
use Rattle.protocol.specs.First.{first_number}
use Rattle.protocol.specs.Runs.{Line}
use Rattle.sessions.specs.File.{rule_in, boards_in, cells_in}
use Rattle.sessions.specs.FileRefusals.{read_refusals, count_in}
use Rattle.sessions.specs.Run.{log_of, accepted_in, stale_of}
use Rattle.listing.specs.Decimal.{digits}

-- "separated by one blank, each line ended by one newline": the byte behind a number is 32 where another follows it in its line, else 10
unfoldable pub behind : (following : List ℕ) → ℕ
behind [] = 10
behind (m ∷ ms) = 32

-- each number of a line, with the byte behind it
unfoldable pub line : (numbers : List ℕ) → List ℕ
line [] = []
line (n ∷ ms) = digits n ++ (behind ms ∷ line ms)

-- "for each record: its index from 0, code, answer number, value answered"
abbrev pub record_numbers : (index : ℕ) → Line → List ℕ
record_numbers index l = index ∷ l.action.code ∷ l.told.number ∷ l.told.value ∷ []

-- the lines of records, the first with this index
unfoldable pub record_lines : (index : ℕ) → List Line → List ℕ
record_lines index [] = []
record_lines index (l ∷ ls) = line (record_numbers index l) ++ record_lines (suc index) ls

-- the bytes of the word "refused"
abbrev pub refused_word : List ℕ
refused_word = 114 ∷ 101 ∷ 102 ∷ 117 ∷ 115 ∷ 101 ∷ 100 ∷ []

-- "A refused file gives one line: `refused` and the number"
unfoldable pub refused_listing : (number : ℕ) → List ℕ
refused_listing number = (refused_word ++ (32 ∷ [])) ++ line (number ∷ [])

-- "First line: rule, P, N"
abbrev pub first_line : (file : List ℕ) → List ℕ
first_line file = line (rule_in file ∷ boards_in file ∷ cells_in file ∷ [])

-- "Last line: records, accepted, stale"
abbrev pub last_line : (file : List ℕ) → List ℕ
last_line file = line (count_in file ∷ accepted_in (log_of file) ∷ stale_of file ∷ [])

unfoldable pub run_listing : (file : List ℕ) → List ℕ
run_listing file = first_line file ++ (record_lines 0 (log_of file) ++ last_line file)

-- the reader's order, with the right number of places lent
abbrev pub refusal_of : (file : List ℕ) → ℕ
refusal_of file = first_number (read_refusals file (cells_in file))

unfoldable pub listing_of : (file : List ℕ) → List ℕ
listing_of file = cond (eqb (refusal_of file) 0) (run_listing file) (refused_listing (refusal_of file))
