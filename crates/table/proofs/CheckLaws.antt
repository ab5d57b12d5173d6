-- The whole-table check as its loops go, and what each way out has to show. Assumes nothing.
use mathlib.Core.Path.{◌≡◌, sym, ◌∙◌}
use mathlib.Core.Bool.{true, false, not}
use Rattle.std.specs.Prelude.{Option, Some, None, Ok, Err}
use Rattle.protocol.specs.declared.Refused.TheVariants.{BadSizes, BadRule}
use Prim.Native.Nat.{ℕ, suc, ◌+◌, ◌-◌, ◌<◌, ◌≤◌}
use native.Mathlib.Omega.{arith}
use Rattle.protocol.specs.Names.{rule_of}
use Rattle.protocol.specs.Slices.{Table, sizes_good}
use Rattle.protocol.specs.Cell.{cell_of}
use Rattle.protocol.specs.Soundness.{sound}
use Rattle.protocol.specs.Check.{lowest_from, lowest_unsound_by, lowest_unsound}
use Rattle.protocol.proofs.CheckExactly.{check_1, check_2, check_accepted, check_value}
use Rattle.table.specs.Statements.{Checks}

module _ (rule boards cells : ℕ) (t : Table) where
  -- what is left to find, from a cell on
  abbrev pub left_from : (cell : ℕ) → Option ℕ
  left_from cell = lowest_from (λ c. not (sound (rule_of rule) boards (cell_of boards cells t c))) cell (cells - cell)

  one_more : (cell : ℕ) → cell < cells → cells - cell ≡ suc (cells - (cell + 1))
  one_more cell l = omega arith

  next_cell : (cell : ℕ) → suc cell ≡ cell + 1
  next_cell cell = omega arith

  pub left_step : (cell : ℕ) → cell < cells → sound (rule_of rule) boards (cell_of boards cells t cell) ≡ true → left_from cell ≡ left_from (cell + 1)
  unfolding lowest_from
  left_step cell l s = rw (one_more cell l, s, next_cell cell)

  pub left_stop : (cell : ℕ) → cell < cells → sound (rule_of rule) boards (cell_of boards cells t cell) ≡ false → left_from cell ≡ Some cell
  unfolding lowest_from
  left_stop cell l s = rw (one_more cell l, s)

  pub left_end : (cell : ℕ) → cells ≤ cell → left_from cell ≡ None
  unfolding lowest_from
  left_end cell l = let z : cells - cell ≡ 0 = omega arith in rw z

  left_start : lowest_unsound rule boards cells t ≡ left_from 0
  unfolding lowest_unsound_by
  left_start = let z : cells - 0 ≡ cells = omega arith in rw z

  -- ---- the ways out

  pub refused_1 : sizes_good boards cells t ≡ false → Checks boards cells t rule (Err BadSizes)
  refused_1 s = record { number = sym ((check_1 rule boards cells t).1 s); value = sym (check_value rule boards cells t); accepted = tt }

  pub refused_2 : sizes_good boards cells t ≡ true → 4 < rule → Checks boards cells t rule (Err BadRule)
  refused_2 s h = record { number = sym ((check_2 rule boards cells t).1 (s, h)); value = sym (check_value rule boards cells t); accepted = tt }

  pub found : sizes_good boards cells t ≡ true → rule ≤ 4 → (o : Option ℕ) → o ≡ left_from 0 → Checks boards cells t rule (Ok o)
  found s h o e = record { number = sym ((check_accepted rule boards cells t).1 (s, h)); value = sym (check_value rule boards cells t); accepted = e ∙ sym left_start }
