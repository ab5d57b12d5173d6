-- A run of a list of actions: the table at its end, its log, and what a log tells of a cell, the latest accepted write above all. Assumes nothing.
use Rattle.std.specs.Prelude.{Bool, cond, ◌&&◌, List, [], ◌∷◌, ℕ, ◌≤◌, eqb}
use Rattle.protocol.specs.declared.Action.{Action}
use Rattle.protocol.specs.declared.Answer.{Answer}
use Rattle.protocol.specs.Names.{last_rule}
use Rattle.protocol.specs.Slices.{Table, Places, cell_by_cell}
use Rattle.protocol.specs.Step.{answer_by, table_after_by}

-- "Rules 1 to 4 are the coherent ones"
abbrev pub CoherentRule : (rule : ℕ) → Type 0
CoherentRule rule = (1 ≤ rule) × (rule ≤ last_rule)

-- a line of a log: an action, and what its caller was told
pub record Line : Type 0 where
  pub action : Action
  pub told : Answer

-- the run by any arrangement of the table
module _ (places : Places) where
  unfoldable pub table_after_all_by : (rule boards cells : ℕ) → Table → List Action → Table
  table_after_all_by rule boards cells t [] = t
  table_after_all_by rule boards cells t (a ∷ rest) = table_after_all_by rule boards cells (table_after_by places rule boards cells t a) rest

  -- the line that an action adds
  abbrev pub line_by : (rule boards cells : ℕ) → Table → Action → Line
  line_by rule boards cells t a = record { action = a; told = answer_by places rule boards cells t a }

  unfoldable pub log_by : (rule boards cells : ℕ) → Table → List Action → List Line
  log_by rule boards cells t [] = []
  log_by rule boards cells t (a ∷ rest) = line_by rule boards cells t a ∷ log_by rule boards cells (table_after_by places rule boards cells t a) rest

-- and by document 01's
abbrev pub table_after_all : (rule boards cells : ℕ) → Table → List Action → Table
table_after_all rule boards cells = table_after_all_by (cell_by_cell boards) rule boards cells

abbrev pub line_of : (rule boards cells : ℕ) → Table → Action → Line
line_of rule boards cells = line_by (cell_by_cell boards) rule boards cells

abbrev pub log : (rule boards cells : ℕ) → Table → List Action → List Line
log rule boards cells = log_by (cell_by_cell boards) rule boards cells

unfoldable pub is_read : (code : ℕ) → Bool
is_read code = eqb code 0

unfoldable pub is_write : (code : ℕ) → Bool
is_write code = eqb code 1

unfoldable pub accepted_read : Line → Bool
accepted_read l = eqb l.told.number 0 && is_read l.action.code

unfoldable pub accepted_write : Line → Bool
accepted_write l = eqb l.told.number 0 && is_write l.action.code

-- an accepted action at the cell is followed; any other line leaves s as it was
abbrev pub followed_by {ℓ} : {S : Type ℓ} → (cell : ℕ) → (follow : S → Action → S) → (s : S) → Line → S
followed_by cell follow s l = cond (eqb l.told.number 0 && eqb l.action.cell cell) (follow s l.action) s

-- what a log tells of a cell: from s on, line by line. It looks at actions and answers alone.
unfoldable pub followed {ℓ} : {S : Type ℓ} → (cell : ℕ) → (follow : S → Action → S) → (s : S) → List Line → S
followed cell follow s [] = s
followed cell follow s (l ∷ ls) = followed cell follow (followed_by cell follow s l) ls

-- a write's value, where v was written before
abbrev pub written : (v : ℕ) → Action → ℕ
written v a = cond (is_write a.code) a.value v

-- what a cell was last written, after one more line; v before
abbrev pub written_after : (cell v : ℕ) → Line → ℕ
written_after cell v l = followed_by cell written v l

-- the latest accepted write to a cell by any board; the starting value where there is none
unfoldable pub latest_write : (cell starting : ℕ) → List Line → ℕ
latest_write cell starting = followed cell written starting

-- the members of a list that name a cell, in their order
unfoldable pub naming {ℓ} : {A : Type ℓ} → (cell_number : A → ℕ) → (cell : ℕ) → List A → List A
naming cell_number cell [] = []
naming cell_number cell (a ∷ rest) = cond (eqb (cell_number a) cell) (a ∷ naming cell_number cell rest) (naming cell_number cell rest)
