-- What the private functions ask and answer. Assumes nothing.
use Rattle.std.specs.Prelude.{◌≡◌, List, ◌++◌, ℕ, ◌+◌, ◌*◌, ◌<◌, ◌≤◌, length, get_or, drop}
use Rattle.sessions.specs.File.{rule_in, boards_in, cells_in}
use Rattle.sessions.specs.FileRefusals.{count_in}
use Rattle.sessions.specs.Run.{log_of, line_of_record, accepted_in, stale_of}
use Rattle.sessions.specs.declared.Head.{Head}
use Rattle.sessions.specs.declared.Report.{Report}
use Rattle.listing.specs.Listing.{run_listing}

-- what a slice holds that held `old`, once bytes are put at its start
unfoldable pub overwritten : (bytes old : List ℕ) → List ℕ
overwritten bytes old = bytes ++ drop (length bytes) old

-- what a run that is not refused has told: the head of its file, its two counts, and for each record a number and a value
pub record Told (file : List ℕ) (head : Head) (report : Report) (numbers values : List ℕ) : Type 0 where
  pub short : length (run_listing file) ≤ 94232
  pub rule_is : head.rule ≡ rule_in file
  pub boards_is : head.boards ≡ boards_in file
  pub cells_is : head.cells ≡ cells_in file
  pub count_is : head.count ≡ count_in file
  pub accepted_is : report.accepted ≡ accepted_in (log_of file)
  pub stale_is : report.stale ≡ stale_of file
  pub few : head.count ≤ 4096
  pub whole : head.from + 9 * head.count ≤ length file
  pub room_numbers : head.count ≤ length numbers
  pub room_values : head.count ≤ length values
  pub lines : length (log_of file) ≡ head.count
  pub codes_are : (i : ℕ) → i < head.count → get_or file (head.from + 9 * i) 0 ≡ (line_of_record file i).action.code
  pub numbers_are : (i : ℕ) → i < head.count → get_or numbers i 0 ≡ (line_of_record file i).told.number
  pub values_are : (i : ℕ) → i < head.count → get_or values i 0 ≡ (line_of_record file i).told.value
