-- The effects of the nine procedures, as the code stores them. Assumes nothing.
use mathlib.Core.Path.{◌≡◌, refl, sym}
use mathlib.Core.Logic.{◌≢◌}
use mathlib.Core.List.{List}
use Prim.Native.Nat.{ℕ, ◌+◌, ◌*◌, ◌<◌}
use native.Mathlib.Omega.{arith}
use lib.ListN.{get_or, set}
use lib.Seq.{get_or-set_other}
use Rattle.protocol.specs.declared.Proc.{Proc}
use Rattle.protocol.specs.declared.Proc.TheVariants.{Read, Write, Barrier, MtoC, CtoM, CtoC, Drop, Acquire, Release}
use Rattle.protocol.specs.Masks.{with_board, without_board}
use Rattle.protocol.specs.Slices.{main, copies, masks, slice_number, Table, width, cell_by_cell}
use Rattle.protocol.specs.Cell.{Cell, main_value, copy_at, live_mask, dirty_mask, lock_mask, cell_of}
use Rattle.protocol.specs.Effects.{effect, value_of, store_by, stores_by}
use Rattle.table.specs.Code.{Ready, Leaves, Values}
use Rattle.table.proofs.ReadyLaws.{main_is, copy_is, live_is, dirty_is, lock_is}

module _ (boards cells cell : ℕ) (t : Table) (y : Ready boards cells cell t) where
  abbrev x : Cell
  x = cell_of boards cells t cell

  a_copy : (p : ℕ) → p < boards → copy_at x p ≡ get_or (t copies) (cell * boards + p) 0
  a_copy p l = copy_is boards cells cell t y p l

  a_main : main_value x ≡ get_or (t main) cell 0
  a_main = main_is boards cells cell t y

  a_live : live_mask x ≡ get_or (t masks) (cell * 3) 0
  a_live = live_is boards cells cell t y

  a_dirty : dirty_mask x ≡ get_or (t masks) (cell * 3 + 1) 0
  a_dirty = dirty_is boards cells cell t y

  a_lock : lock_mask x ≡ get_or (t masks) (cell * 3 + 2) 0
  a_lock = lock_is boards cells cell t y

  at_0 : cell * 3 + 0 ≡ cell * 3
  at_0 = omega arith

  at_main : cell * 1 + 0 ≡ cell
  at_main = omega arith

  -- ---- main and the copies

  abbrev Answers : Proc → (r : ℕ) → (m k : List ℕ) → Type 0
  Answers a r m k = Values boards cells cell t a r m k

  pub read_values : (p : ℕ) → p < boards → Answers (Read p) (get_or (t copies) (cell * boards + p) 0) (t main) (t copies)
  unfolding value_of effect stores_by store_by slice_number cell_by_cell width
  read_values p l = record { value = sym (a_copy p l); leaves_main = λ r. refl; leaves_copies = λ r. refl }

  pub write_values : (p v : ℕ) → Answers (Write p v) 0 (t main) (set (t copies) (cell * boards + p) v)
  unfolding value_of effect stores_by store_by slice_number cell_by_cell width
  write_values p v = record { value = refl; leaves_main = λ r. refl; leaves_copies = λ r. refl }

  pub barrier_values : (p : ℕ) → Answers (Barrier p) 0 (t main) (t copies)
  unfolding value_of effect stores_by store_by slice_number cell_by_cell width
  barrier_values p = record { value = refl; leaves_main = λ r. refl; leaves_copies = λ r. refl }

  pub mtoc_values : (p : ℕ) → Answers (MtoC p) 0 (t main) (set (t copies) (cell * boards + p) (get_or (t main) cell 0))
  unfolding value_of effect stores_by store_by slice_number cell_by_cell width
  mtoc_values p = record { value = refl; leaves_main = λ r. refl; leaves_copies = λ r. rw a_main }

  pub ctom_values : (p : ℕ) → p < boards → Answers (CtoM p) 0 (set (t main) cell (get_or (t copies) (cell * boards + p) 0)) (t copies)
  unfolding value_of effect stores_by store_by slice_number cell_by_cell width
  ctom_values p l = record { value = refl; leaves_main = λ r. rw (a_copy p l, at_main); leaves_copies = λ r. refl }

  pub ctoc_values : (p q : ℕ) → p < boards → Answers (CtoC p q) 0 (t main) (set (t copies) (cell * boards + q) (get_or (t copies) (cell * boards + p) 0))
  unfolding value_of effect stores_by store_by slice_number cell_by_cell width
  ctoc_values p q l = record { value = refl; leaves_main = λ r. refl; leaves_copies = λ r. rw (a_copy p l) }

  pub drop_values : (p : ℕ) → Answers (Drop p) 0 (t main) (set (t copies) (cell * boards + p) 0)
  unfolding value_of effect stores_by store_by slice_number cell_by_cell width
  drop_values p = record { value = refl; leaves_main = λ r. refl; leaves_copies = λ r. refl }

  pub acquire_values : (p : ℕ) → Answers (Acquire p) 0 (t main) (t copies)
  unfolding value_of effect stores_by store_by slice_number cell_by_cell width
  acquire_values p = record { value = refl; leaves_main = λ r. refl; leaves_copies = λ r. refl }

  pub release_values : (p : ℕ) → Answers (Release p) 0 (t main) (t copies)
  unfolding value_of effect stores_by store_by slice_number cell_by_cell width
  release_values p = record { value = refl; leaves_main = λ r. refl; leaves_copies = λ r. refl }

  -- ---- the masks

  abbrev LeavesMasks : Proc → (w' : List ℕ) → Type 0
  LeavesMasks a w' = Leaves boards cells cell t a masks w'

  -- the mask at a place in the masks
  abbrev mask : (at : ℕ) → ℕ
  mask at = get_or (t masks) at 0

  pub read_masks : (p : ℕ) → LeavesMasks (Read p) (t masks)
  unfolding effect stores_by store_by slice_number cell_by_cell width
  read_masks p r = refl

  pub write_masks : (p v x z : ℕ) → x ≡ with_board (mask (cell * 3)) p → z ≡ with_board (get_or (set (t masks) (cell * 3) x) (cell * 3 + 1) 0) p →
      LeavesMasks (Write p v) (set (set (t masks) (cell * 3) x) (cell * 3 + 1) z)
  unfolding effect stores_by store_by slice_number cell_by_cell width
  write_masks p v x z e d r =
      let n : cell * 3 + 1 ≢ cell * 3 = omega arith in
      let b = get_or-set_other (t masks) (cell * 3) (cell * 3 + 1) x 0 n in
      rw (d, b, e, a_live, a_dirty, at_0)

  pub barrier_masks : (p : ℕ) → LeavesMasks (Barrier p) (t masks)
  unfolding effect stores_by store_by slice_number cell_by_cell width
  barrier_masks p r = refl

  pub mtoc_masks : (p x : ℕ) → x ≡ with_board (mask (cell * 3)) p → LeavesMasks (MtoC p) (set (t masks) (cell * 3) x)
  unfolding effect stores_by store_by slice_number cell_by_cell width
  mtoc_masks p x e r = rw (e, a_live, at_0)

  pub ctom_masks : (p x : ℕ) → x ≡ without_board (mask (cell * 3 + 1)) p → LeavesMasks (CtoM p) (set (t masks) (cell * 3 + 1) x)
  unfolding effect stores_by store_by slice_number cell_by_cell width
  ctom_masks p x e r = rw (e, a_dirty)

  pub ctoc_masks : (p q x : ℕ) → x ≡ with_board (mask (cell * 3)) q → LeavesMasks (CtoC p q) (set (t masks) (cell * 3) x)
  unfolding effect stores_by store_by slice_number cell_by_cell width
  ctoc_masks p q x e r = rw (e, a_live, at_0)

  pub drop_masks : (p x : ℕ) → x ≡ without_board (mask (cell * 3)) p → LeavesMasks (Drop p) (set (t masks) (cell * 3) x)
  unfolding effect stores_by store_by slice_number cell_by_cell width
  drop_masks p x e r = rw (e, a_live, at_0)

  pub acquire_masks : (p x : ℕ) → x ≡ with_board (mask (cell * 3 + 2)) p → LeavesMasks (Acquire p) (set (t masks) (cell * 3 + 2) x)
  unfolding effect stores_by store_by slice_number cell_by_cell width
  acquire_masks p x e r = rw (e, a_lock)

  pub release_masks : (p x : ℕ) → x ≡ without_board (mask (cell * 3 + 2)) p → LeavesMasks (Release p) (set (t masks) (cell * 3 + 2) x)
  unfolding effect stores_by store_by slice_number cell_by_cell width
  release_masks p x e r = rw (e, a_lock)
