-- One action on a table: the whole order of refusals, its answer, and the table after it. Assumes nothing.
use Rattle.std.specs.Prelude.{Bool, cond, not, ◌&&◌, ◌||◌, List, ◌∷◌, ℕ, eqb, ltb, leb}
use Rattle.protocol.specs.declared.Action.{Action}
use Rattle.protocol.specs.declared.Answer.{Answer}
use Rattle.protocol.specs.Names.{last_rule, last_code, rule_of, proc_of}
use Rattle.protocol.specs.Slices.{Table, Places, cell_by_cell, sizes_good}
use Rattle.protocol.specs.Cell.{Cell, cell_by}
use Rattle.protocol.specs.Soundness.{sound}
use Rattle.protocol.specs.First.{Refusal, when, first}
use Rattle.protocol.specs.Guards.{guard}
use Rattle.protocol.specs.Effects.{effect, value_of, stores_by}

-- "code above 8, or an unused field not 0": q is used by code 5 only, value by code 1 only
unfoldable pub malformed : Action → Bool
malformed a = ltb last_code a.code || not (eqb a.code 5) && not (eqb a.to 0) || not (eqb a.code 1) && not (eqb a.value 0)

-- "the action doesn't exist under this rule": Barrier is of rule 0, Acquire and Release of rules 3 and 4
unfoldable pub missing : (rule code : ℕ) → Bool
missing rule code = eqb code 2 && not (eqb rule 0) || (eqb code 7 || eqb code 8) && ltb rule 3

-- "p, or q of code 5, is not below P"
unfoldable pub off_board : (boards : ℕ) → Action → Bool
off_board boards a = leb boards a.board || eqb a.code 5 && leb boards a.to

-- what a step sees of a table: whether its sizes are good, and the named cell
pub record Seen : Type 0 where
  pub sizes : Bool
  pub cell : Cell

-- "For an action the order is 1 to 7, then the guard"
unfoldable pub refusals : (rule boards cells : ℕ) → Seen → Action → List Refusal
refusals rule boards cells s a =
    when 1 (not s.sizes)
    ∷ when 2 (ltb last_rule rule)
    ∷ when 3 (malformed a)
    ∷ when 4 (missing rule a.code)
    ∷ when 5 (off_board boards a)
    ∷ when 6 (leb cells a.cell)
    ∷ when 7 (not (sound (rule_of rule) boards s.cell))
    ∷ guard s.cell (rule_of rule) (proc_of a)

unfoldable pub answer_to : (rule boards cells : ℕ) → Seen → Action → Answer
answer_to rule boards cells s a = first (refusals rule boards cells s a) (record { number = 0; value = value_of s.cell (proc_of a) })

-- the step by any arrangement of the table
module _ (places : Places) where
  unfoldable pub seen_by : (boards cells : ℕ) → Table → (cell : ℕ) → Seen
  seen_by boards cells t cell = record { sizes = sizes_good boards cells t; cell = cell_by places boards cells t cell }

  unfoldable pub answer_by : (rule boards cells : ℕ) → Table → Action → Answer
  answer_by rule boards cells t a = answer_to rule boards cells (seen_by boards cells t a.cell) a

  -- accepted, the action's effect is stored; "a refusal changes nothing lent"
  unfoldable pub table_after_by : (rule boards cells : ℕ) → Table → Action → Table
  table_after_by rule boards cells t a =
      cond (eqb (answer_by rule boards cells t a).number 0)
      (stores_by places a.cell t (effect (rule_of rule) boards (cell_by places boards cells t a.cell) (proc_of a)))
      t

-- and by document 01's
abbrev pub seen : (boards cells : ℕ) → Table → (cell : ℕ) → Seen
seen boards cells = seen_by (cell_by_cell boards) boards cells

abbrev pub answer : (rule boards cells : ℕ) → Table → Action → Answer
answer rule boards cells = answer_by (cell_by_cell boards) rule boards cells

abbrev pub table_after : (rule boards cells : ℕ) → Table → Action → Table
table_after rule boards cells = table_after_by (cell_by_cell boards) rule boards cells
