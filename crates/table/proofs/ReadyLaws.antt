-- A table of good sizes: where a cell's numbers stand in its slices. Assumes nothing.
use mathlib.Core.Path.{◌≡◌, refl, sym, ◌∙◌}
use mathlib.Core.Logic.{◌≢◌}
use mathlib.Core.Bool.{Bool, true, false, cond}
use Prim.Native.Nat.{ℕ, ◌+◌, ◌*◌, ◌^◌, ◌<◌, ◌≤◌}
use native.Mathlib.Omega.{arith}
use native.Mathlib.Nat.{mul-le-mul_right}
use native.Mathlib.Decide.{dec_lt}
use lib.Dec.{eqb}
use lib.ListN.{length, get_or}
use borrow.Author.Tests.{lt-ltb, eqb-false}
use Rattle.protocol.specs.Masks.{lowest_board}
use Rattle.protocol.specs.Slices.{main, copies, masks, Table, width, cell_by_cell, sizes_good}
use Rattle.protocol.specs.Cell.{Cell, main_value, copy_at, live_mask, dirty_mask, lock_mask, cell_by, cell_of, current_value}
use Rattle.protocol.proofs.Booleans.{clash}
use Rattle.protocol.proofs.MaskLaws.{has_lowest, high_of_lt}
use Rattle.protocol.proofs.InWords.{sizes_exactly}
use Rattle.table.specs.Code.{Ready, MasksAt, current_at}

pub ready : (boards cells : ℕ) (t : Table) → sizes_good boards cells t ≡ true → (cell : ℕ) → cell < cells → Ready boards cells cell t
ready boards cells t e cell l =
    let z = (sizes_exactly boards cells t).0 e in
    record {
      some_board = z.0.0.0;
      few_boards = z.0.0.1;
      few_cells = z.0.1.1;
      inside = l;
      sized = z.1;
    }

-- the lowest board of a mask is one of the boards
pub lowest_in : (boards mask : ℕ) → mask < 2 ^ boards → mask ≢ 0 → lowest_board mask < boards
lowest_in boards mask l n = go (dec_lt (lowest_board mask) boards)
  where
    go : Dec (lowest_board mask < boards) → lowest_board mask < boards
    go (yes h) = h
    go (no h) = absurd (clash (has_lowest mask n) (high_of_lt boards mask (lowest_board mask) l (omega arith)))

module _ (boards cells cell : ℕ) (t : Table) (y : Ready boards cells cell t) where
  pub main_in : cell < length (t main)
  unfolding width
  main_in = omega (arith, y.sized main, y.inside)

  pub row_in : cell * boards + boards ≤ length (t copies)
  unfolding width
  row_in = omega (arith, y.sized copies, mul-le-mul_right boards y.inside)

  pub copy_in : (board : ℕ) → board < boards → cell * boards + board < length (t copies)
  copy_in board l = omega (arith, row_in)

  pub masks_in : cell * 3 + 2 < length (t masks)
  unfolding width
  masks_in = omega (arith, y.sized masks, y.inside)

  -- ---- the cell's numbers

  abbrev here : Cell
  here = cell_of boards cells t cell

  pub main_is : main_value here ≡ get_or (t main) cell 0
  unfolding cell_by width cell_by_cell
  main_is = let e : cell * 1 + 0 ≡ cell = omega arith in rw (lt-ltb cell cells y.inside, e)

  pub copy_is : (board : ℕ) → board < boards → copy_at here board ≡ get_or (t copies) (cell * boards + board) 0
  unfolding cell_by width cell_by_cell
  copy_is board l = rw (lt-ltb board boards l, lt-ltb cell cells y.inside)

  pub live_is : live_mask here ≡ get_or (t masks) (cell * 3) 0
  unfolding cell_by width cell_by_cell
  live_is = let e : cell * 3 + 0 ≡ cell * 3 = omega arith in rw (lt-ltb cell cells y.inside, e)

  pub dirty_is : dirty_mask here ≡ get_or (t masks) (cell * 3 + 1) 0
  unfolding cell_by width cell_by_cell
  dirty_is = rw (lt-ltb cell cells y.inside)

  pub lock_is : lock_mask here ≡ get_or (t masks) (cell * 3 + 2) 0
  unfolding cell_by width cell_by_cell
  lock_is = rw (lt-ltb cell cells y.inside)

  -- the current value, by the cell's masks
  module _ (live dirty lock : ℕ) (at : MasksAt (t masks) cell live dirty lock) where
    pub as_live : live_mask here ≡ live
    as_live = live_is ∙ sym at.is_live

    pub as_dirty : dirty_mask here ≡ dirty
    as_dirty = dirty_is ∙ sym at.is_dirty_mask

    pub as_lock : lock_mask here ≡ lock
    as_lock = lock_is ∙ sym at.is_lock

    pub current_is : dirty < 2 ^ boards → current_value here ≡ current_at boards cell dirty (t main) (t copies)
    unfolding current_value current_at
    current_is l = rw as_dirty (go (eqb dirty 0) refl)
      where
        go : (b : Bool) → eqb dirty 0 ≡ b → cond b (main_value here) (copy_at here (lowest_board dirty)) ≡ cond b (get_or (t main) cell 0) (get_or (t copies) (cell * boards + lowest_board dirty) 0)
        go true e = main_is
        go false e = copy_is (lowest_board dirty) (lowest_in boards dirty l (eqb-false dirty 0 e))
