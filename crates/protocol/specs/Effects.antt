-- What an accepted action answers and stores: "everything not named under Effect stays". Assumes nothing.
use Rattle.std.specs.Prelude.{cond, List, [], ◌∷◌, ℕ, eqb, set}
use Rattle.protocol.specs.declared.Rule.{Rule}
use Rattle.protocol.specs.declared.Proc.{Proc}
use Rattle.protocol.specs.declared.Proc.TheVariants.{Read, Write, Barrier, MtoC, CtoM, CtoC, Drop, Acquire, Release}
use Rattle.protocol.specs.Masks.{with_board, without_board}
use Rattle.protocol.specs.Slices.{Slice, main, copies, masks, slice_number, Table, Places, cell_by_cell}
use Rattle.protocol.specs.Cell.{Cell, main_value, copy_at, live_mask, dirty_mask, lock_mask}

-- the k-th number of the cell in a slice becomes the value
pub data Store : Type 0 where
  put : Slice → (k value : ℕ) → Store

abbrev pub to_main : (value : ℕ) → Store
to_main value = put main 0 value

abbrev pub to_copy : (board value : ℕ) → Store
to_copy board value = put copies board value

abbrev pub to_live : (mask : ℕ) → Store
to_live mask = put masks 0 mask

abbrev pub to_dirty : (mask : ℕ) → Store
to_dirty mask = put masks 1 mask

abbrev pub to_lock : (mask : ℕ) → Store
to_lock mask = put masks 2 mask

-- the nine actions store the same under every rule, and at no board that they do not name
unfoldable pub effect : Rule → (boards : ℕ) → Cell → Proc → List Store
effect rule boards x (Read p) = []
effect rule boards x (Write p v) = to_copy p v ∷ to_live (with_board (live_mask x) p) ∷ to_dirty (with_board (dirty_mask x) p) ∷ []
effect rule boards x (Barrier p) = []
effect rule boards x (MtoC p) = to_copy p (main_value x) ∷ to_live (with_board (live_mask x) p) ∷ []
effect rule boards x (CtoM p) = to_main (copy_at x p) ∷ to_dirty (without_board (dirty_mask x) p) ∷ []
effect rule boards x (CtoC p q) = to_copy q (copy_at x p) ∷ to_live (with_board (live_mask x) q) ∷ []
effect rule boards x (Drop p) = to_copy p 0 ∷ to_live (without_board (live_mask x) p) ∷ []
effect rule boards x (Acquire p) = to_lock (with_board (lock_mask x) p) ∷ []
effect rule boards x (Release p) = to_lock (without_board (lock_mask x) p) ∷ []

-- "The value is 0 except for an accepted Read", which answers the copy
unfoldable pub value_of : Cell → Proc → ℕ
value_of x (Read p) = copy_at x p
value_of x (Write p v) = 0
value_of x (Barrier p) = 0
value_of x (MtoC p) = 0
value_of x (CtoM p) = 0
value_of x (CtoC p q) = 0
value_of x (Drop p) = 0
value_of x (Acquire p) = 0
value_of x (Release p) = 0

-- stores at a cell of a table, by an arrangement
unfoldable pub store_by : Places → (cell : ℕ) → Table → Store → Table
store_by places cell t (put s k value) = λ u. cond (eqb (slice_number u) (slice_number s)) (set (t u) (places s cell k) value) (t u)

unfoldable pub stores_by : Places → (cell : ℕ) → Table → List Store → Table
stores_by places cell t [] = t
stores_by places cell t (e ∷ es) = stores_by places cell (store_by places cell t e) es

-- and by document 01's
abbrev pub stores_in : (boards cell : ℕ) → Table → List Store → Table
stores_in boards = stores_by (cell_by_cell boards)
