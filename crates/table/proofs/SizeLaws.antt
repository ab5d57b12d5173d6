-- Good sizes as the code tests them: the range first, so that no product wraps, then the lengths. Assumes nothing.
use mathlib.Core.Path.{◌≡◌}
use mathlib.Core.Bool.{true, false, ◌&&◌, and-true}
use Rattle.std.proofs.Math.Bool.{and_assoc}
use Prim.Native.Nat.{ℕ, ◌*◌, ◌≤◌}
use native.Mathlib.Omega.{arith}
use native.Mathlib.Nat.{mul-le-mul_left}
use lib.Dec.{eqb}
use lib.ListN.{length}
use mathlib.Core.List.{List}
use Rattle.protocol.specs.Slices.{Slice, Table, table_of, main, copies, masks, width, every, in_range, sizes_good}
use Rattle.protocol.proofs.InWords.{range_exactly, sizes_exactly}
use Rattle.table.specs.Code.{Sized}

module _ (boards cells : ℕ) (t : Table) where
  pub out_of_range : in_range boards cells ≡ false → sizes_good boards cells t ≡ false
  unfolding sizes_good
  out_of_range e = rw e

  pub by_lengths : in_range boards cells ≡ true →
      ((eqb (length (t main)) cells && eqb (length (t copies)) (cells * boards)) && eqb (length (t masks)) (cells * 3)) ≡ sizes_good boards cells t
  unfolding sizes_good every width
  by_lengths e = let one : cells * 1 ≡ cells = omega arith in rw (e, one, and-true (eqb (length (t masks)) (cells * 3))) (and_assoc (eqb (length (t main)) cells) (eqb (length (t copies)) (cells * boards)) (eqb (length (t masks)) (cells * 3)))

pub small_product : (boards cells : ℕ) → in_range boards cells ≡ true → cells * boards ≤ 8192
small_product boards cells e = let r = (range_exactly boards cells).0 e in omega (arith, mul-le-mul_left cells r.0.1, r.1.1)

pub small_cells : (boards cells : ℕ) → in_range boards cells ≡ true → cells ≤ 512
small_cells boards cells e = ((range_exactly boards cells).0 e).1.1

-- good sizes, by the lists of a table
module _ (boards cells : ℕ) (m k w : List ℕ) where
  pub good_sized : sizes_good boards cells (table_of m k w) ≡ true → Sized boards cells m k w
  unfolding width
  good_sized e =
      let z = (sizes_exactly boards cells (table_of m k w)).0 e in
      (z.0.0.0, z.0.0.1, z.0.1.0, z.0.1.1, omega (arith, z.1 main), z.1 copies, z.1 masks)

  pub sized_good : Sized boards cells m k w → sizes_good boards cells (table_of m k w) ≡ true
  sized_good (p0, p1, n0, n1, a, b, c) = (sizes_exactly boards cells (table_of m k w)).1 (((p0, p1), (n0, n1)), lengths)
    where
      lengths : (s : Slice) → length (table_of m k w s) ≡ cells * width boards s
      lengths main = unfold width in omega (arith, a)
      lengths copies = unfold width in b
      lengths masks = unfold width in c
