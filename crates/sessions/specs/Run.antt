-- The run of a session file: "makes a fresh table from the file .. and performs its records in order", and its two counts. Assumes nothing.
use Rattle.std.specs.Prelude.{◌≡◌, Bool, true, cond, not, ◌&&◌, List, [], ◌∷◌, ℕ, zero, suc, ◌+◌, ◌*◌, ◌<◌, eqb, get_or, take}
use Rattle.protocol.specs.declared.Action.{Action}
use Rattle.protocol.specs.Masks.{has_board}
use Rattle.protocol.specs.Slices.{Table}
use Rattle.protocol.specs.Cell.{copy_at, live_mask, cell_of}
use Rattle.protocol.specs.Fresh.{fresh_table}
use Rattle.protocol.specs.Runs.{Line, log, table_after_all, latest_write, naming}
use Rattle.sessions.specs.File.{rule_in, boards_in, cells_in, starting_in, records_in, action_at, actions_in}

-- the records of a file as actions, the table at the end, and the log
abbrev pub actions_of : (file : List ℕ) → List Action
actions_of file = actions_in (records_in file)

unfoldable pub end_of : (file : List ℕ) → Table
end_of file = table_after_all (rule_in file) (boards_in file) (cells_in file) (fresh_table (boards_in file) (starting_in file)) (actions_of file)

unfoldable pub log_of : (file : List ℕ) → List Line
log_of file = log (rule_in file) (boards_in file) (cells_in file) (fresh_table (boards_in file) (starting_in file)) (actions_of file)

-- what stands where a log has no line
abbrev pub no_line : Line
no_line = record { action = action_at [] 0; told = record { number = 0; value = 0 } }

-- the line of the i-th record
unfoldable pub line_of_record : (file : List ℕ) → (i : ℕ) → Line
line_of_record file i = get_or (log_of file) i no_line

-- the i-th record, as an action
abbrev pub record_of : (file : List ℕ) → (i : ℕ) → Action
record_of file i = action_at (records_in file) (9 * i)

-- the latest accepted write to a cell before the i-th record; the starting value where there is none
unfoldable pub latest_before : (file : List ℕ) → (i cell : ℕ) → ℕ
latest_before file i cell = latest_write cell (get_or (starting_in file) cell 0) (take i (log_of file))

-- "accepted records"
unfoldable pub accepted_in : List Line → ℕ
accepted_in [] = 0
accepted_in (l ∷ ls) = cond (eqb l.told.number 0) 1 0 + accepted_in ls

-- how many of the numbers below n pass a test, and the sum of a count over them
unfoldable pub count_below : (n : ℕ) → (ℕ → Bool) → ℕ
count_below zero test = 0
count_below (suc n) test = cond (test n) 1 0 + count_below n test

unfoldable pub sum_below : (n : ℕ) → (ℕ → ℕ) → ℕ
sum_below zero count = 0
sum_below (suc n) count = count n + sum_below n count

-- "A copy is stale at the end when it is live and its value differs from the latest accepted write to its cell in this session, or from the
-- starting value where there is none"
abbrev pub is_stale : (live board copy latest : ℕ) → Bool
is_stale live board copy latest = has_board live board && not (eqb copy latest)

-- the stale copies of a table: latest gives the latest accepted write of each cell, or its starting value
unfoldable pub stale_in : (boards cells : ℕ) → Table → (latest : ℕ → ℕ) → ℕ
stale_in boards cells t latest =
    sum_below cells (λ c. count_below boards (λ p. is_stale (live_mask (cell_of boards cells t c)) p (copy_at (cell_of boards cells t c) p) (latest c)))

unfoldable pub stale_of : (file : List ℕ) → ℕ
stale_of file = stale_in (boards_in file) (cells_in file) (end_of file) (λ c. latest_write c (get_or (starting_in file) c 0) (log_of file))

-- no copy is stale at the end: each live copy is the latest accepted write to its cell, or its starting value
abbrev pub NoneStale : (file : List ℕ) → Type 0
NoneStale file =
    (c p : ℕ) → c < cells_in file → p < boards_in file → has_board (live_mask (cell_of (boards_in file) (cells_in file) (end_of file) c)) p ≡ true →
    copy_at (cell_of (boards_in file) (cells_in file) (end_of file) c) p ≡ latest_write c (get_or (starting_in file) c 0) (log_of file)

-- the cell number that a line names
abbrev pub cell_of_line : Line → ℕ
cell_of_line line = line.action.cell

-- two files with the same head and starting values, "holding the same actions in the same order for each cell number"
pub record Alike (file other : List ℕ) : Type 0 where
  pub same_rule : rule_in file ≡ rule_in other
  pub same_boards : boards_in file ≡ boards_in other
  pub same_cells : cells_in file ≡ cells_in other
  pub same_starting : starting_in file ≡ starting_in other
  pub same_order : (cell : ℕ) → naming (λ (a : Action). a.cell) cell (actions_of file) ≡ naming (λ (a : Action). a.cell) cell (actions_of other)

-- what the caller of a run was told: each action with its number and its value from the two answer slices
unfoldable pub told_in : (numbers values : List ℕ) → List Action → List Line
told_in numbers values [] = []
told_in [] values (a ∷ l) = []
told_in (n ∷ numbers) [] (a ∷ l) = []
told_in (n ∷ numbers) (v ∷ values) (a ∷ l) = record { action = a; told = record { number = n; value = v } } ∷ told_in numbers values l
