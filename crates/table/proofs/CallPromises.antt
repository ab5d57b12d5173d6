-- Demand 3 over calls: a fresh table and then any calls of `step` on the lent slices, from what the two functions promise alone. Assumes nothing.
use mathlib.Core.Path.{◌≡◌, refl, sym, ap, ◌∙◌}
use mathlib.Core.Bool.{true}
use mathlib.Core.List.{List, [], ◌∷◌, ◌++◌}
use Prim.Native.Nat.{ℕ}
use lib.ListN.{length, get_or}
use Rattle.protocol.specs.declared.Action.{Action}
use Rattle.protocol.specs.declared.Answer.{Answer}
use Rattle.protocol.specs.Slices.{Table}
use Rattle.protocol.specs.Step.{answer, table_after}
use Rattle.protocol.specs.Fresh.{fresh_table}
use Rattle.protocol.specs.Runs.{CoherentRule, Line, log_by, log, table_after_all_by, table_after_all, accepted_read, latest_write, naming}
use Rattle.protocol.proofs.Demand3Reads.{reads_latest}
use Rattle.protocol.proofs.Demand3Order.{same_answers, same_end}
use Rattle.protocol.proofs.ReplyLaws.{same_answer}
use Rattle.table.specs.Statements.{Holds, Freshens}
use Rattle.table.specs.Calls.{Call, Calls, left_by, lines_of, actions_of}
use Rattle.table.proofs.Promises.{held, fresh_is_accepted, fresh_gives}

-- ---- the calls are a run of their actions

module _ (rule boards cells : ℕ) where
  lines_are : (t : Table) (calls : List Call) → Calls rule boards cells t calls → lines_of calls ≡ log rule boards cells t (actions_of calls)
  unfolding log_by
  lines_are t [] chain = refl
  lines_are t (c ∷ rest) (s, chain) =
      rw (same_answer c.line.told (answer rule boards cells t c.line.action) s.number s.value, lines_are c.left rest chain, held c.left (table_after rule boards cells t c.line.action) s.slices)

  left_is : (t : Table) (calls : List Call) → Calls rule boards cells t calls → left_by t calls ≡ table_after_all rule boards cells t (actions_of calls)
  unfolding left_by table_after_all_by
  left_is t [] chain = refl
  left_is t (c ∷ rest) (s, chain) = left_is c.left rest chain ∙ ap (λ (u : Table). table_after_all rule boards cells u (actions_of rest)) (held c.left (table_after rule boards cells t c.line.action) s.slices)

-- ---- the promises

-- reads: wherever the calls are cut before an accepted Read, it was told the latest accepted write before it, or the starting value
pub calls_read_latest : (rule boards cells : ℕ) → CoherentRule rule → (t : Table) (starting : List ℕ) (r : Answer) (u : Table) → Freshens boards cells t starting r u → r.number ≡ 0 →
    (calls : List Call) → Calls rule boards cells u calls → (before rest : List Line) (l : Line) → lines_of calls ≡ before ++ (l ∷ rest) → accepted_read l ≡ true →
    l.told.value ≡ latest_write l.action.cell (get_or starting l.action.cell 0) before
calls_read_latest rule boards cells co t starting r u made ok calls chain before rest l cut =
    reads_latest rule boards starting co (actions_of calls) before rest l (sym from_fresh ∙ cut)
  where
    from_fresh : lines_of calls ≡ log rule boards (length starting) (fresh_table boards starting) (actions_of calls)
    from_fresh =
        rw (((fresh_is_accepted boards cells t starting r u made).0 ok).1, sym (fresh_gives boards cells t starting r u made ok)) (lines_are rule boards cells u calls chain)

-- order: from tables that hold the same, calls whose actions are the same in the same order for each cell number ..
module _ (rule boards cells : ℕ) (t t' : Table) (same : Holds t t') (calls calls' : List Call) (chain : Calls rule boards cells t calls) (chain' : Calls rule boards cells t' calls')
    (alike : (k : ℕ) → naming (λ (a : Action). a.cell) k (actions_of calls) ≡ naming (λ (a : Action). a.cell) k (actions_of calls')) where
  -- .. tell each action the same answer
  pub calls_told_alike : (k : ℕ) → naming (λ (line : Line). line.action.cell) k (lines_of calls) ≡ naming (λ (line : Line). line.action.cell) k (lines_of calls')
  calls_told_alike k =
      rw (lines_are rule boards cells t calls chain, lines_are rule boards cells t' calls' chain', held t t' same) (same_answers rule boards cells t' (actions_of calls) (actions_of calls') alike k)

  -- .. and end in the same slices
  pub calls_end_alike : Holds (left_by t calls) (left_by t' calls')
  calls_end_alike s =
      let e : left_by t calls ≡ left_by t' calls' =
      rw (left_is rule boards cells t calls chain, left_is rule boards cells t' calls' chain', held t t' same) (same_end rule boards cells t' (actions_of calls) (actions_of calls') alike) in
      ap (λ (u : Table). u s) e
