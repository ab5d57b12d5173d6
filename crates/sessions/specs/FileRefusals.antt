-- What refuses a session file, for the reader, the writer and the run: one ordered list, shared where it is the same. Assumes nothing.
use Rattle.std.specs.Prelude.{Bool, not, ◌||◌, List, [], ◌∷◌, ◌++◌, ℕ, ◌+◌, ◌-◌, ◌/◌, ◌%◌, eqb, ltb, length}
use Rattle.protocol.specs.Names.{last_rule}
use Rattle.protocol.specs.Slices.{Table, in_range, sizes_good}
use Rattle.protocol.specs.First.{Refusal, when}
use Rattle.sessions.specs.File.{marked, version_in, rule_in, boards_in, cells_in, records_at}

-- "under 9 bytes 19, mark 17, version 18"
unfoldable pub head_refusals : (file : List ℕ) → List Refusal
head_refusals file = when 19 (ltb (length file) 9) ∷ when 17 (not (marked file)) ∷ when 18 (not (eqb (version_in file) 1)) ∷ []

-- "sizes 1, rule 2, body 19"
unfoldable pub body_refusals : (sizes_bad : Bool) → (rule : ℕ) → (body_bad : Bool) → List Refusal
body_refusals sizes_bad rule body_bad = when 1 sizes_bad ∷ when 2 (ltb last_rule rule) ∷ when 19 body_bad ∷ []

-- "a part of a record at the end, or over 4,096 records": n is the number of record bytes
unfoldable pub records_bad : (n : ℕ) → Bool
records_bad n = not (eqb (n % 9) 0) || ltb 4096 (n / 9)

-- "body shorter than the starting values", or its records are bad
unfoldable pub body_bad : (file : List ℕ) → Bool
body_bad file = ltb (length file) (records_at (cells_in file)) || records_bad (length file - records_at (cells_in file))

-- the reader, where `lent` places are lent for the starting values: "its length judged with the sizes"
unfoldable pub read_refusals : (file : List ℕ) → (lent : ℕ) → List Refusal
read_refusals file lent = head_refusals file ++ body_refusals (not (in_range (boards_in file) (cells_in file)) || not (eqb lent (cells_in file))) (rule_in file) (body_bad file)

-- the writer: "the same order without 17 and 18", then room 20
unfoldable pub write_refusals : (rule boards cells starting records room : ℕ) → List Refusal
write_refusals rule boards cells starting records room =
    body_refusals (not (in_range boards cells) || not (eqb starting cells)) rule (records_bad records) ++ (when 20 (ltb room (records_at cells + records)) ∷ [])

-- how many records a file has: none where it ends before they begin, and a part of a record does not count
abbrev pub count_in : (file : List ℕ) → ℕ
count_in file = (length file - records_at (cells_in file)) / 9

-- the run: the lent table's lengths are judged with the sizes, the answer slices' with room
unfoldable pub run_refusals : (file : List ℕ) → Table → (numbers values : ℕ) → List Refusal
run_refusals file t numbers values =
    head_refusals file ++ (body_refusals (not (sizes_good (boards_in file) (cells_in file) t)) (rule_in file) (body_bad file)
    ++ (when 20 (ltb numbers (count_in file) || ltb values (count_in file)) ∷ []))
