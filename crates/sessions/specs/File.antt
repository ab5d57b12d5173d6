-- The session file, in the words of document 01: its numbers, what they are called, and its bytes. Assumes nothing.
use Rattle.std.specs.Prelude.{Bool, ◌&&◌, List, [], ◌∷◌, ◌++◌, ℕ, zero, suc, ◌+◌, ◌*◌, ◌/◌, ◌%◌, ◌<◌, eqb, length, get_or, drop}
use Rattle.protocol.specs.declared.Action.{Action}

-- "Little-endian": the number of two bytes at a place, and of four
unfoldable pub le16 : List ℕ → (at : ℕ) → ℕ
le16 s at = get_or s at 0 + get_or s (at + 1) 0 * 256

unfoldable pub le32 : List ℕ → (at : ℕ) → ℕ
le32 s at = get_or s at 0 + get_or s (at + 1) 0 * 256 + get_or s (at + 2) 0 * 65536 + get_or s (at + 3) 0 * 16777216

-- "Nine bytes: the three letters `CCS`, a 16-bit version 1, rule (8 bits), P (8 bits), N (16 bits)"
abbrev pub mark : List ℕ
mark = 67 ∷ 67 ∷ 83 ∷ []

unfoldable pub marked : List ℕ → Bool
marked file = eqb (get_or file 0 0) (get_or mark 0 0) && (eqb (get_or file 1 0) (get_or mark 1 0) && eqb (get_or file 2 0) (get_or mark 2 0))

abbrev pub version_in : List ℕ → ℕ
version_in file = le16 file 3

abbrev pub rule_in : List ℕ → ℕ
rule_in file = get_or file 5 0

abbrev pub boards_in : List ℕ → ℕ
boards_in file = get_or file 6 0

abbrev pub cells_in : List ℕ → ℕ
cells_in file = le16 file 7

-- "Then N starting values of 32 bits": the n numbers from a place on
unfoldable pub values : List ℕ → (at n : ℕ) → List ℕ
values s at zero = []
values s at (suc n) = le32 s at ∷ values s (at + 4) n

abbrev pub starting_in : List ℕ → List ℕ
starting_in file = values file 9 (cells_in file)

-- "Then records of nine bytes": they begin behind the nine bytes and the N starting values
abbrev pub records_at : (cells : ℕ) → ℕ
records_at cells = 9 + 4 * cells

abbrev pub records_in : List ℕ → List ℕ
records_in file = drop (records_at (cells_in file)) file

-- "code, p, q (8 bits each), cell (16 bits), value (32 bits)"
unfoldable pub action_at : List ℕ → (at : ℕ) → Action
action_at s at = record { code = get_or s at 0; board = get_or s (at + 1) 0; to = get_or s (at + 2) 0; cell = le16 s (at + 3); value = le32 s (at + 5) }

-- the n records from a place on
unfoldable pub actions : List ℕ → (at n : ℕ) → List Action
actions s at zero = []
actions s at (suc n) = action_at s at ∷ actions s (at + 9) n

abbrev pub actions_in : (records : List ℕ) → List Action
actions_in records = actions records 0 (length records / 9)

-- ---- the bytes of a file

-- every number of a list is below a bound: 256 for bytes, 2^32 for values
abbrev pub Below : (bound : ℕ) → List ℕ → Type 0
Below bound l = (i : ℕ) → i < length l → get_or l i 0 < bound

-- little-endian, for numbers of 16 and of 32 bits
abbrev pub two : ℕ → List ℕ
two x = x % 256 ∷ x / 256 ∷ []

abbrev pub four : ℕ → List ℕ
four x = x % 256 ∷ x / 256 % 256 ∷ x / 65536 % 256 ∷ x / 16777216 ∷ []

unfoldable pub packed : List ℕ → List ℕ
packed [] = []
packed (x ∷ xs) = four x ++ packed xs

unfoldable pub headed : (rule boards cells : ℕ) → List ℕ
headed rule boards cells = mark ++ (two 1 ++ (rule ∷ boards ∷ two cells))

unfoldable pub file_of : (rule boards cells : ℕ) → (starting records : List ℕ) → List ℕ
file_of rule boards cells starting records = headed rule boards cells ++ (packed starting ++ records)

-- "records of nine bytes: code, p, q (8 bits each), cell (16 bits), value (32 bits)"
unfoldable pub record_of_action : Action → List ℕ
record_of_action a = a.code ∷ a.board ∷ a.to ∷ (two a.cell ++ four a.value)

unfoldable pub records_of_actions : List Action → List ℕ
records_of_actions [] = []
records_of_actions (a ∷ l) = record_of_action a ++ records_of_actions l
