-- A run with one action more: its table, its log, and what is counted of it. Assumes nothing.
use mathlib.Core.Path.{◌≡◌, refl, ap}
use mathlib.Core.Bool.{Bool, true, false, cond}
use mathlib.Core.List.{List, [], ◌∷◌, ◌++◌}
use Prim.Native.Nat.{ℕ, zero, suc, ◌+◌, ◌*◌, ◌≤◌}
use native.Mathlib.Omega.{arith}
use lib.Dec.{eqb}
use lib.ListN.{length}
use Rattle.protocol.specs.declared.Action.{Action}
use Rattle.protocol.specs.Slices.{Table}
use Rattle.protocol.specs.Step.{table_after}
use Rattle.protocol.specs.Runs.{Line, line_of, log_by, log, table_after_all_by, table_after_all, followed, written_after, latest_write}
use Rattle.sessions.specs.File.{action_at, actions}
use Rattle.sessions.specs.Run.{accepted_in}

-- ---- the records

pub length_actions : (s : List ℕ) (at n : ℕ) → length (actions s at n) ≡ n
unfolding actions
length_actions s at zero = refl
length_actions s at (suc n) = ap suc (length_actions s (at + 9) n)

pub actions_more : (s : List ℕ) (at n : ℕ) → actions s at (suc n) ≡ actions s at n ++ (action_at s (at + 9 * n) ∷ [])
unfolding actions
actions_more s at zero = let z : at + 9 * 0 ≡ at = omega arith in rw z
actions_more s at (suc n) =
    let z : at + 9 * suc n ≡ at + 9 + 9 * n = omega arith in
    rw z (ap (λ (l : List Action). action_at s at ∷ l) (actions_more s (at + 9) n))

-- ---- the table and the log

module _ (rule boards cells : ℕ) where
  pub table_more : (t : Table) (l : List Action) (a : Action) → table_after_all rule boards cells t (l ++ (a ∷ [])) ≡ table_after rule boards cells (table_after_all rule boards cells t l) a
  unfolding table_after_all_by
  table_more t [] a = refl
  table_more t (b ∷ l) a = table_more (table_after rule boards cells t b) l a

  pub log_more : (t : Table) (l : List Action) (a : Action) →
      log rule boards cells t (l ++ (a ∷ [])) ≡ log rule boards cells t l ++ (line_of rule boards cells (table_after_all rule boards cells t l) a ∷ [])
  unfolding log_by table_after_all_by
  log_more t [] a = refl
  log_more t (b ∷ l) a = ap (λ (ls : List Line). line_of rule boards cells t b ∷ ls) (log_more (table_after rule boards cells t b) l a)

  pub length_log : (t : Table) (l : List Action) → length (log rule boards cells t l) ≡ length l
  unfolding log_by
  length_log t [] = refl
  length_log t (a ∷ l) = ap suc (length_log (table_after rule boards cells t a) l)

-- ---- what is counted

pub one_at_most : (b : Bool) → cond {A = ℕ} b 1 0 ≤ 1
one_at_most true = omega arith
one_at_most false = omega arith

pub accepted_more : (ls : List Line) (l : Line) → accepted_in (ls ++ (l ∷ [])) ≡ accepted_in ls + cond (eqb l.told.number 0) 1 0
unfolding accepted_in
accepted_more [] l = omega arith
accepted_more (b ∷ ls) l = omega (arith, accepted_more ls l)

pub latest_more : (cell v : ℕ) (ls : List Line) (l : Line) → latest_write cell v (ls ++ (l ∷ [])) ≡ written_after cell (latest_write cell v ls) l
unfolding latest_write followed
latest_more cell v [] l = refl
latest_more cell v (b ∷ ls) l = latest_more cell (written_after cell v b) ls l
