-- What the public functions promise: the whole result and the end contents of every lent slice, for all inputs. Assumes nothing.
use Rattle.std.specs.Prelude.{◌≡◌, List, ℕ, Option, Result, IfOk}
use Rattle.protocol.specs.declared.Action.{Action}
use Rattle.protocol.specs.declared.Answer.{Answer}
use Rattle.protocol.specs.declared.Refused.{Refused}
use Rattle.protocol.specs.Replies.{number_of_reply, done_of}
use Rattle.protocol.specs.Slices.{Slice, Table}
use Rattle.protocol.specs.Step.{answer, table_after}
use Rattle.protocol.specs.Check.{check_answer, lowest_unsound}
use Rattle.protocol.specs.Fresh.{fresh_answer, fresh_after}

-- a table holds what another does: in every slice the same numbers
abbrev pub Holds : (t u : Table) → Type 0
Holds t u = (s : Slice) → t s ≡ u s

-- t is the table before the call, t' the one after it
module _ (boards cells : ℕ) (t : Table) where
  -- `fresh`
  pub record Freshens (starting : List ℕ) (r : Answer) (t' : Table) : Type 0 where
    pub number : r.number ≡ (fresh_answer boards cells starting t).number
    pub value : r.value ≡ (fresh_answer boards cells starting t).value
    pub slices : Holds t' (fresh_after boards cells starting t)

  -- `check`: nothing is found where every cell is sound
  pub record Checks (rule : ℕ) (r : Result (Option ℕ) Refused) : Type 0 where
    pub number : number_of_reply r ≡ (check_answer rule boards cells t).number
    pub value : (done_of r).value ≡ (check_answer rule boards cells t).value
    pub accepted : IfOk r (λ found. found ≡ lowest_unsound rule boards cells t)

  -- `step`
  pub record Steps (rule : ℕ) (a : Action) (r : Answer) (t' : Table) : Type 0 where
    pub number : r.number ≡ (answer rule boards cells t a).number
    pub value : r.value ≡ (answer rule boards cells t a).value
    pub slices : Holds t' (table_after rule boards cells t a)

-- two outcomes of a call are the same: the result, and what each lent slice holds
pub record Same {A : Type 0} (r r' : Result A Refused) (t t' : Table) : Type 0 where
  pub same_result : r ≡ r'
  pub same_slices : Holds t t'
