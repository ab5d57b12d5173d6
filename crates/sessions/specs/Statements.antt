-- What the public functions promise: the whole result and the end contents of every lent slice, for all inputs. Assumes nothing.
use Rattle.std.specs.Prelude.{◌≡◌, cond, List, [], ◌++◌, map, ℕ, ◌<◌, eqb, ltb, length, drop, Result, Ok, Err}
use Rattle.protocol.specs.declared.Answer.{Answer}
use Rattle.protocol.specs.declared.Refused.{Refused}
use Rattle.protocol.specs.Replies.{reply_number}
use Rattle.protocol.specs.First.{first_number}
use Rattle.sessions.specs.File.{rule_in, boards_in, cells_in, starting_in, records_at, records_in, file_of}
use Rattle.sessions.specs.FileRefusals.{read_refusals, write_refusals, count_in, run_refusals}
use Rattle.sessions.specs.Run.{end_of, log_of, accepted_in, stale_of}
use Rattle.sessions.specs.declared.Head.{Head}
use Rattle.sessions.specs.declared.Report.{Report}
use Rattle.sessions.specs.declared.Session.{Session}
use Rattle.table.specs.Statements.{Holds}
use Rattle.protocol.specs.Slices.{Table}

-- a where the number is 0, else b
abbrev pub accepting {ℓ} : {A : Type ℓ} → (number : ℕ) → A → A → A
accepting number a b = cond (eqb number 0) a b

-- `head_of`: rule, P and N, where the records begin and how many there are; all 0 where the file has fewer than nine bytes. N is a 16-bit number.
pub record HeadOf (file : List ℕ) (r : Head) : Type 0 where
  pub rule_is : r.rule ≡ cond (ltb (length file) 9) 0 (rule_in file)
  pub boards_is : r.boards ≡ cond (ltb (length file) 9) 0 (boards_in file)
  pub cells_is : r.cells ≡ cond (ltb (length file) 9) 0 (cells_in file)
  pub from_is : r.from ≡ cond (ltb (length file) 9) 0 (records_at (cells_in file))
  pub count_is : r.count ≡ cond (ltb (length file) 9) 0 (count_in file)
  pub few_cells : r.cells < 65536

-- what `read` tells: a number, the file's three numbers and the bytes of its records; "for a refused file the three are 0 and the part is empty"
pub record ReadReply : Type 0 where
  pub number : ℕ
  pub rule : ℕ
  pub boards : ℕ
  pub cells : ℕ
  pub records : List ℕ

abbrev pub read_reply : Result Session Refused → ReadReply
read_reply (Ok s) = record { number = 0; rule = s.rule; boards = s.boards; cells = s.cells; records = s.records.now }
read_reply (Err e) = record { number = reply_number e; rule = 0; boards = 0; cells = 0; records = [] }

-- `read`: "answers rule, P and N, fills a lent slice .. and hands back the record bytes as a part of the caller's file"
pub record Reads (file old : List ℕ) (r : ReadReply) (starting : List ℕ) : Type 0 where
  pub number_is : r.number ≡ first_number (read_refusals file (length old))
  pub rule_is : r.rule ≡ accepting r.number (rule_in file) 0
  pub boards_is : r.boards ≡ accepting r.number (boards_in file) 0
  pub cells_is : r.cells ≡ accepting r.number (cells_in file) 0
  pub part : r.records ≡ accepting r.number (records_in file) []
  pub filled : starting ≡ accepting r.number (starting_in file) old

-- `write`: "It changes exactly the bytes of the file and nothing behind them"
pub record Writes (rule boards cells : ℕ) (starting records old : List ℕ) (r : Answer) (out : List ℕ) : Type 0 where
  pub number_is : r.number ≡ first_number (write_refusals rule boards cells (length starting) (length records) (length old))
  pub value_is : r.value ≡ 0
  pub bytes : out ≡ accepting r.number (file_of rule boards cells starting records ++ drop (length (file_of rule boards cells starting records)) old) old

-- what `run` tells: a number and its two counts, which are 0 where it is refused
pub record RunReply : Type 0 where
  pub number : ℕ
  pub accepted : ℕ
  pub stale : ℕ

abbrev pub run_reply : Result Report Refused → RunReply
run_reply (Ok r) = record { number = 0; accepted = r.accepted; stale = r.stale }
run_reply (Err e) = record { number = reply_number e; accepted = 0; stale = 0 }

-- `run`: it fills the answer slices up to the record count and leaves the table as the last record left it; refused, nothing changes and both
-- counts are 0
pub record Runs (file : List ℕ) (t : Table) (numbers values : List ℕ) (r : RunReply) (t' : Table) (numbers' values' : List ℕ) : Type 0 where
  pub number_is : r.number ≡ first_number (run_refusals file t (length numbers) (length values))
  pub accepted_is : r.accepted ≡ accepting r.number (accepted_in (log_of file)) 0
  pub stale_is : r.stale ≡ accepting r.number (stale_of file) 0
  pub table_is : Holds t' (accepting r.number (end_of file) t)
  pub numbers_are : numbers' ≡ accepting r.number (map (λ l. l.told.number) (log_of file) ++ drop (count_in file) numbers) numbers
  pub values_are : values' ≡ accepting r.number (map (λ l. l.told.value) (log_of file) ++ drop (count_in file) values) values

-- a file is accepted, and read as this session
pub record ReadAs (file : List ℕ) (rule boards cells : ℕ) (starting records : List ℕ) : Type 0 where
  pub accepted : first_number (read_refusals file cells) ≡ 0
  pub same_rule : rule_in file ≡ rule
  pub same_boards : boards_in file ≡ boards
  pub same_cells : cells_in file ≡ cells
  pub same_starting : starting_in file ≡ starting
  pub same_records : records_in file ≡ records

-- ---- two outcomes of a call are the same: the answer, and what each lent slice holds

pub record SameHead (r r' : Head) : Type 0 where
  pub same_rule : r.rule ≡ r'.rule
  pub same_boards : r.boards ≡ r'.boards
  pub same_cells : r.cells ≡ r'.cells
  pub same_from : r.from ≡ r'.from
  pub same_count : r.count ≡ r'.count

-- sessions of the same numbers and record bytes, or the same refusal
abbrev pub SameSession : (r r' : Result Session Refused) → Type 0
SameSession (Ok s) (Ok s') = (s.rule ≡ s'.rule) × (s.boards ≡ s'.boards) × (s.cells ≡ s'.cells) × (s.records.now ≡ s'.records.now)
SameSession (Err e) (Err e') = e ≡ e'
SameSession (Ok s) (Err e) = ⊥
SameSession (Err e) (Ok s) = ⊥

pub record SameRead (r r' : Result Session Refused) (starting starting' : List ℕ) : Type 0 where
  pub same_session : SameSession r r'
  pub same_starting : starting ≡ starting'

pub record SameWrite (r r' : Result (Unit {0}) Refused) (out out' : List ℕ) : Type 0 where
  pub same_result : r ≡ r'
  pub same_out : out ≡ out'

pub record SameRun (r r' : Result Report Refused) (t t' : Table) (numbers numbers' values values' : List ℕ) : Type 0 where
  pub same_result : r ≡ r'
  pub same_slices : Holds t t'
  pub same_numbers : numbers ≡ numbers'
  pub same_values : values ≡ values'
