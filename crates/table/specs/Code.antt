-- What the private functions of this crate ask and answer, on plain numbers. Assumes nothing.
use Rattle.std.specs.Prelude.{◌≡◌, Bool, false, cond, not, ◌&&◌, ◌||◌, List, [], ◌∷◌, ℕ, ◌+◌, ◌*◌, ◌^◌, ◌<◌, ◌≤◌, eqb, ltb, leb, length, get_or, Result, Ok, Err}
use Rattle.std.specs.Int.Count.{ones}
use Rattle.protocol.specs.declared.Rule.{Rule}
use Rattle.protocol.specs.declared.Proc.{Proc}
use Rattle.protocol.specs.declared.Proc.TheVariants.{Read, Write, Barrier, MtoC, CtoM, CtoC, Drop, Acquire, Release}
use Rattle.protocol.specs.declared.Refused.{Refused}
use Rattle.protocol.specs.Names.{proc_of}
use Rattle.protocol.specs.Replies.{reply_number}
use Rattle.protocol.specs.Step.{malformed, missing}
use Rattle.protocol.specs.Masks.{has_board, within, lowest_board}
use Rattle.protocol.specs.Slices.{Slice, main, copies, masks, Table, table_of, width}
use Rattle.protocol.specs.Effects.{effect, value_of, stores_in}
use Rattle.protocol.specs.Cell.{Cell, cell_of, copy_at, live_mask, dirty_mask, lock_mask, current_value}
use Rattle.protocol.specs.Soundness.{every_board}
use Rattle.protocol.specs.First.{when, first_number}
use Rattle.protocol.specs.Guards.{guard}
use Rattle.protocol.specs.declared.Action.{Action}

-- a table of good sizes, and a cell of it
pub record Ready (boards cells cell : ℕ) (t : Table) : Type 0 where
  pub some_board : 1 ≤ boards
  pub few_boards : boards ≤ 16
  pub few_cells : cells ≤ 512
  pub inside : cell < cells
  pub sized : (s : Slice) → length (t s) ≡ cells * width boards s

-- the sizes of a table that has been judged
abbrev pub Sized : (boards cells : ℕ) → (in_main in_copies in_masks : List ℕ) → Type 0
Sized boards cells in_main in_copies in_masks =
    (1 ≤ boards)
    × (boards ≤ 16)
    × (1 ≤ cells)
    × (cells ≤ 512)
    × (length in_main ≡ cells)
    × (length in_copies ≡ cells * boards)
    × (length in_masks ≡ cells * 3)

-- what holds of each board that a procedure names
abbrev pub EachBoard : (ℕ → Type 0) → Proc → Type 0
EachBoard F (Read p) = F p
EachBoard F (Write p v) = F p
EachBoard F (Barrier p) = F p
EachBoard F (MtoC p) = F p
EachBoard F (CtoM p) = F p
EachBoard F (CtoC p q) = F p × F q
EachBoard F (Drop p) = F p
EachBoard F (Acquire p) = F p
EachBoard F (Release p) = F p

-- the board whose copy its guard looks at
abbrev pub board_of : Proc → ℕ
board_of (Read p) = p
board_of (Write p v) = p
board_of (Barrier p) = p
board_of (MtoC p) = p
board_of (CtoM p) = p
board_of (CtoC p q) = p
board_of (Drop p) = p
board_of (Acquire p) = p
board_of (Release p) = p

-- the masks of a cell
pub record MasksAt (in_masks : List ℕ) (cell live dirty lock : ℕ) : Type 0 where
  pub is_live : live ≡ get_or in_masks (cell * 3) 0
  pub is_dirty_mask : dirty ≡ get_or in_masks (cell * 3 + 1) 0
  pub is_lock : lock ≡ get_or in_masks (cell * 3 + 2) 0

-- the dirty copy if there is one, else main
unfoldable pub current_at : (boards cell dirty : ℕ) → (in_main in_copies : List ℕ) → ℕ
current_at boards cell dirty in_main in_copies = cond (eqb dirty 0) (get_or in_main cell 0) (get_or in_copies (cell * boards + lowest_board dirty) 0)

-- soundness, as far as the three masks show it: Inv2, Inv3, Inv5 with Inv6, and Inv7 stand last
unfoldable pub masks_sound : (rule boards live dirty lock : ℕ) → Bool
masks_sound rule boards live dirty lock =
    (ltb live (2 ^ boards) && ltb dirty (2 ^ boards) && ltb lock (2 ^ boards))
    && (ltb 2 rule || eqb lock 0)
    && within dirty live
    && (ltb rule 1 || leb (ones dirty) 1)
    && (ltb rule 3 || leb (ones lock) 1 && (eqb lock 0 || within live lock))
    && (ltb rule 4 || within dirty lock)

-- soundness of one board's copy: 0 where it is not live, the current value where it is (Inv4)
unfoldable pub copy_sound : (rule live copy current board : ℕ) → Bool
copy_sound rule live copy current board = (has_board live board || eqb copy 0) && (ltb rule 2 || (not (has_board live board) || eqb copy current))

-- and of the first copies of a cell
abbrev pub copies_sound : (rule boards cell live current : ℕ) → (in_copies : List ℕ) → (first : ℕ) → Bool
copies_sound rule boards cell live current in_copies first = every_board first (λ p. copy_sound rule live (get_or in_copies (cell * boards + p) 0) current p)

-- an action that is well formed and that the rule has is read as its procedure; another is refused with 3 or 4
abbrev pub Names : (rule : ℕ) → Action → Result Proc Refused → Type 0
Names rule a (Ok p) = (malformed a ≡ false) × (missing rule a.code ≡ false) × (p ≡ proc_of a)
Names rule a (Err e) = reply_number e ≡ first_number (when 3 (malformed a) ∷ when 4 (missing rule a.code) ∷ [])

-- n is what the guard of a procedure answers on every cell with these masks, this copy at its board, and this current value
abbrev pub GuardGives : Rule → (live dirty lock copy current : ℕ) → Proc → (n : ℕ) → Type 0
GuardGives rule live dirty lock copy current a n =
    (x : Cell) → live_mask x ≡ live → dirty_mask x ≡ dirty → lock_mask x ≡ lock → copy_at x (board_of a) ≡ copy → current_value x ≡ current →
    n ≡ first_number (guard x rule a)

-- what an accepted action leaves in a slice, whatever the rule
abbrev pub Leaves : (boards cells cell : ℕ) → Table → Proc → Slice → List ℕ → Type 0
Leaves boards cells cell t a s l = (rule : Rule) → l ≡ stores_in boards cell t (effect rule boards (cell_of boards cells t cell) a) s

-- what it answers, and leaves in main and the copies
pub record Values (boards cells cell : ℕ) (t : Table) (a : Proc) (r : ℕ) (m' k' : List ℕ) : Type 0 where
  pub value : r ≡ value_of (cell_of boards cells t cell) a
  pub leaves_main : Leaves boards cells cell t a main m'
  pub leaves_copies : Leaves boards cells cell t a copies k'

-- the same at each cell of a table, whatever stands in the masks
abbrev pub StoresValues : (boards : ℕ) → (m k : List ℕ) → (cell : ℕ) → Proc → (r : ℕ) → (m' k' : List ℕ) → Type 0
StoresValues boards m k cell a r m' k' =
    (cells : ℕ) (w : List ℕ) → Ready boards cells cell (table_of m k w) → EachBoard (λ p. p < boards) a → Values boards cells cell (table_of m k w) a r m' k'

-- and what it leaves in the masks, whatever stands in main and the copies
abbrev pub StoresMasks : (w : List ℕ) → (cell : ℕ) → Proc → (w' : List ℕ) → Type 0
StoresMasks w cell a w' =
    (boards cells : ℕ) (m k : List ℕ) → Ready boards cells cell (table_of m k w) → EachBoard (λ p. p < boards) a → Leaves boards cells cell (table_of m k w) a masks w'
