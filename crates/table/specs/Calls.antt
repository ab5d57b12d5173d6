-- Calls of `step`, one after another on the same lent slices: each finds what the one before it left. Assumes nothing.
use Rattle.std.specs.Prelude.{List, [], ◌∷◌, map, ℕ}
use Rattle.protocol.specs.declared.Action.{Action}
use Rattle.protocol.specs.Slices.{Table}
use Rattle.protocol.specs.Runs.{Line}
use Rattle.table.specs.Statements.{Steps}

-- a call: its action with what its caller was told, and what it left in the slices
pub record Call : Type 0 where
  pub line : Line
  pub left : Table

-- the calls were made in this order, all under one rule, the first on the table t; each did what `step` promises, and nothing is known beyond that
abbrev pub Calls : (rule boards cells : ℕ) → (t : Table) → List Call → Type 0
Calls rule boards cells t [] = Unit {0}
Calls rule boards cells t (c ∷ rest) = Steps boards cells t rule c.line.action c.line.told c.left × Calls rule boards cells c.left rest

-- what the last call left
unfoldable pub left_by : (t : Table) → List Call → Table
left_by t [] = t
left_by t (c ∷ rest) = left_by c.left rest

abbrev pub lines_of : List Call → List Line
lines_of calls = map (λ (c : Call). c.line) calls

abbrev pub actions_of : List Call → List Action
actions_of calls = map (λ (c : Call). c.line.action) calls
