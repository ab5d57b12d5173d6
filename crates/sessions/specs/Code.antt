-- What the private functions ask and answer. Assumes nothing.
use Rattle.std.specs.Prelude.{◌≡◌, true, cond, List, ◌++◌, map, ℕ, ◌*◌, ◌/◌, ◌≤◌, eqb, length, get_or, drop, Result, IfOk}
use Rattle.protocol.specs.declared.Action.{Action}
use Rattle.protocol.specs.declared.Answer.{Answer}
use Rattle.protocol.specs.declared.Refused.{Refused}
use Rattle.protocol.specs.First.{Refusal, first_number}
use Rattle.protocol.specs.Replies.{number_of_reply}
use Rattle.protocol.specs.Slices.{copies, masks, Table, sizes_good}
use Rattle.protocol.specs.Runs.{Line, log, table_after_all, written_after, latest_write}
use Rattle.table.specs.Statements.{Holds}
use Rattle.sessions.specs.Run.{accepted_in, stale_in}
use Rattle.sessions.specs.Statements.{HeadOf}
use Rattle.sessions.specs.declared.Head.{Head}

-- a file that is judged by a list of refusals: the first that holds, or its head
pub record Judged (file : List ℕ) (refusals : List Refusal) (r : Result Head Refused) : Type 0 where
  pub number_is : number_of_reply r ≡ first_number refusals
  pub head_is : IfOk r (HeadOf file)

-- the slices that the count of stale copies reads; `latest` has a place for each cell
pub record Counted (boards : ℕ) (in_copies in_masks latest : List ℕ) : Type 0 where
  pub few_boards : boards ≤ 16
  pub few_cells : length latest ≤ 512
  pub copied : length in_copies ≡ length latest * boards
  pub masked : length in_masks ≡ length latest * 3

-- r is the number of stale copies of every table that has these copies and masks
abbrev pub CountsStale : (boards : ℕ) → (in_copies in_masks latest : List ℕ) → (r : ℕ) → Type 0
CountsStale boards in_copies in_masks latest r =
    (t : Table) → t copies ≡ in_copies → t masks ≡ in_masks → sizes_good boards (length latest) t ≡ true → r ≡ stale_in boards (length latest) t (λ c. get_or latest c 0)

-- what one answered action leaves of the latest accepted writes; r is 1 where it is accepted
pub record Noted (a : Action) (told : Answer) (latest : List ℕ) (r : ℕ) (latest' : List ℕ) : Type 0 where
  pub counts : r ≡ cond (eqb told.number 0) 1 0
  pub keeps_length : length latest' ≡ length latest
  pub notes : (c : ℕ) → get_or latest' c 0 ≡ written_after c (get_or latest c 0) (record { action = a; told = told })

-- room for what is told of the records, and for the latest writes
pub record Prepared (cells : ℕ) (records numbers values latest : List ℕ) : Type 0 where
  pub room_numbers : length records / 9 ≤ length numbers
  pub room_values : length records / 9 ≤ length values
  pub room_latest : cells ≤ length latest

-- a run of actions from a table: what it leaves behind
pub record Ran (rule boards cells : ℕ) (t : Table) (numbers values latest : List ℕ) (l : List Action) (r : ℕ) (t' : Table) (numbers' values' latest' : List ℕ) : Type 0 where
  pub accepted : r ≡ accepted_in (log rule boards cells t l)
  pub table : Holds t' (table_after_all rule boards cells t l)
  pub numbers_are : numbers' ≡ map (λ (line : Line). line.told.number) (log rule boards cells t l) ++ drop (length l) numbers
  pub values_are : values' ≡ map (λ (line : Line). line.told.value) (log rule boards cells t l) ++ drop (length l) values
  pub same_length : length latest' ≡ length latest
  pub latest_are : (c : ℕ) → get_or latest' c 0 ≡ latest_write c (get_or latest c 0) (log rule boards cells t l)
