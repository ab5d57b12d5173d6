-- What a log tells of a cell is so of the cell at the end of the run, where every accepted action there keeps it so. Assumes nothing.
use mathlib.Core.Path.{◌≡◌, refl, sym}
use mathlib.Core.Bool.{and-false}
use mathlib.Core.List.{List, [], ◌∷◌}
use Prim.Native.Nat.{ℕ}
use native.Mathlib.Decide.{ℕ_discrete}
use lib.Dec.{eqb}
use borrow.Author.Tests.{eq-eqb, ne_eqb}
use Rattle.protocol.specs.declared.Action.{Action}
use Rattle.protocol.specs.Slices.{Table}
use Rattle.protocol.specs.Cell.{Cell, cell_of}
use Rattle.protocol.specs.Step.{answer, table_after}
use Rattle.protocol.specs.Runs.{line_of, log_by, log, table_after_all_by, table_after_all, followed_by, followed}
use Rattle.protocol.proofs.StepLaws.{step_there}
use Rattle.protocol.proofs.Demand1.{refused_changes_nothing}

-- F s x: s is so of the cell x
module _ {S : Type 0} (rule boards cells : ℕ) (c : ℕ) (F : S → Cell → Type 0) (follow : S → Action → S)
    (step : (s : S) (t : Table) (a : Action) → (answer rule boards cells t a).number ≡ 0 → F s (cell_of boards cells t a.cell) → F (follow s a) (cell_of boards cells (table_after rule boards cells t a) a.cell)) where
  pub line_tells : (s : S) (t : Table) (a : Action) → F s (cell_of boards cells t c) → F (followed_by c follow s (line_of rule boards cells t a)) (cell_of boards cells (table_after rule boards cells t a) c)
  line_tells s t a f = go (ℕ_discrete a.cell c) (ℕ_discrete (answer rule boards cells t a).number 0)
    where
      go : Dec (a.cell ≡ c) → Dec ((answer rule boards cells t a).number ≡ 0) → F (followed_by c follow s (line_of rule boards cells t a)) (cell_of boards cells (table_after rule boards cells t a) c)
      go (yes q) (yes e) = rw (← q, eq-eqb (answer rule boards cells t a).number 0 e, eq-eqb a.cell a.cell refl) (step s t a e (rw q f))
      go d (no n) = rw ((refused_changes_nothing rule boards cells t a n).0, ne_eqb (answer rule boards cells t a).number 0 n) f
      go (no n) (yes e) = rw (step_there rule boards cells t a c (λ q. n (sym q)), ne_eqb a.cell c n, and-false (eqb (answer rule boards cells t a).number 0)) f

  pub run_tells : (s : S) (t : Table) (actions : List Action) → F s (cell_of boards cells t c) →
      F (followed c follow s (log rule boards cells t actions)) (cell_of boards cells (table_after_all rule boards cells t actions) c)
  unfolding followed log_by table_after_all_by
  run_tells s t [] f = f
  run_tells s t (a ∷ rest) f = run_tells (followed_by c follow s (line_of rule boards cells t a)) (table_after rule boards cells t a) rest (line_tells s t a f)
