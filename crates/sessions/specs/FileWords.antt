-- What is asked of a session file, in words: document 01's conditions over raw bytes and lengths, and the order of their numbers. It stands beside
-- the lists of FileRefusals and uses nothing of them. Assumes nothing.
use Rattle.std.specs.Prelude.{◌≡◌, ◌⊎◌, ◌↔◌, List, ℕ, ◌+◌, ◌-◌, ◌*◌, ◌/◌, ◌≤◌, length, get_or}
use Rattle.protocol.specs.declared.Action.{Action}
use Rattle.protocol.specs.Slices.{Slice, Table, width}

-- "Order: under 9 bytes 19, mark 17, version 18, sizes 1, rule 2, body 19, room 20": each is what must hold for the next to be looked at
pub record InOrder (number : ℕ) (nine mark version sizes rule body room : Type 0) : Type 0 where
  pub answers_17 : (number ≡ 17) ↔ (nine × ¬ mark)
  pub answers_18 : (number ≡ 18) ↔ (nine × (mark × ¬ version))
  pub answers_1 : (number ≡ 1) ↔ (nine × (mark × (version × ¬ sizes)))
  pub answers_2 : (number ≡ 2) ↔ (nine × (mark × (version × (sizes × ¬ rule))))
  pub answers_19 : (number ≡ 19) ↔ (¬ nine ⊎ (nine × (mark × (version × (sizes × (rule × ¬ body))))))
  pub answers_20 : (number ≡ 20) ↔ (nine × (mark × (version × (sizes × (rule × (body × ¬ room))))))
  pub answers_0 : (number ≡ 0) ↔ (nine × (mark × (version × (sizes × (rule × (body × room))))))

-- "the three letters `CCS`"
abbrev pub MarkBytes : (file : List ℕ) → Type 0
MarkBytes file = (get_or file 0 0 ≡ 67) × (get_or file 1 0 ≡ 67) × (get_or file 2 0 ≡ 83)

-- "a 16-bit version 1", the low byte first
abbrev pub VersionBytes : (file : List ℕ) → Type 0
VersionBytes file = (get_or file 3 0 ≡ 1) × (get_or file 4 0 ≡ 0)

-- "rule (8 bits), P (8 bits), N (16 bits)"
abbrev pub rule_byte : (file : List ℕ) → ℕ
rule_byte file = get_or file 5 0

abbrev pub boards_byte : (file : List ℕ) → ℕ
boards_byte file = get_or file 6 0

abbrev pub cells_bytes : (file : List ℕ) → ℕ
cells_bytes file = get_or file 7 0 + get_or file 8 0 * 256

-- "32 bits", the low byte first
abbrev pub value_bytes : (file : List ℕ) → (at : ℕ) → ℕ
value_bytes file at = get_or file at 0 + get_or file (at + 1) 0 * 256 + get_or file (at + 2) 0 * 65536 + get_or file (at + 3) 0 * 16777216

-- "code, p, q (8 bits each), cell (16 bits), value (32 bits)"
abbrev pub record_bytes : (file : List ℕ) → (at : ℕ) → Action
record_bytes file at = record {
  code = get_or file at 0;
  board = get_or file (at + 1) 0;
  to = get_or file (at + 2) 0;
  cell = get_or file (at + 3) 0 + get_or file (at + 4) 0 * 256;
  value = value_bytes file (at + 5);
}

-- "P boards (1 to 16 ..) and N cells (1 to 512 ..)"
abbrev pub Limits : (boards cells : ℕ) → Type 0
Limits boards cells = (1 ≤ boards) × (boards ≤ 16) × (1 ≤ cells) × (cells ≤ 512)

-- the lent slices have exactly their lengths
abbrev pub Lengths : (boards cells : ℕ) → Table → Type 0
Lengths boards cells t = (s : Slice) → length (t s) ≡ cells * width boards s

-- so many bytes are `before`, and behind it records of nine bytes, at most 4,096 of them, and no part of a record
abbrev pub WholeRecords : (before bytes : ℕ) → Type 0
WholeRecords before bytes = (n : ℕ) × (n ≤ 4096) × (bytes ≡ before + 9 * n)

-- "answer numbers and values, each at least as long as the record count"
abbrev pub Room : (before bytes numbers values : ℕ) → Type 0
Room before bytes numbers values = ((bytes - before) / 9 ≤ numbers) × ((bytes - before) / 9 ≤ values)
