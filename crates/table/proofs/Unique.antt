-- No two different outcomes meet the statement of a public function. Assumes nothing.
use mathlib.Core.Path.{◌≡◌, refl, sym, ap, ◌∙◌}
use mathlib.Core.Bool.{Bool}
use mathlib.Core.List.{List}
use Prim.Native.Nat.{ℕ}
use Rattle.std.specs.Prelude.{Option, Result}
use Rattle.protocol.specs.declared.Action.{Action}
use Rattle.protocol.specs.declared.Answer.{Answer}
use Rattle.protocol.specs.declared.Refused.{Refused}
use Rattle.protocol.specs.Replies.{answer_of, done_of}
use Rattle.protocol.specs.Slices.{Table, in_range, sizes_good}
use Rattle.protocol.proofs.ReplyLaws.{same_answer, one_result, one_answer}
use Rattle.table.specs.Statements.{Holds, Freshens, Checks, Steps, Same}

pub one_range : (boards cells : ℕ) (r r' : Bool) → r ≡ in_range boards cells → r' ≡ in_range boards cells → r ≡ r'
one_range boards cells r r' e d = e ∙ sym d

module _ (boards cells : ℕ) (t : Table) where
  pub one_sizes : (r r' : Bool) → r ≡ sizes_good boards cells t → r' ≡ sizes_good boards cells t → r ≡ r'
  one_sizes r r' e d = e ∙ sym d

  pub one_fresh_answer : (starting : List ℕ) (r r' : Answer) (t₁ t₂ : Table) → Freshens boards cells t starting r t₁ → Freshens boards cells t starting r' t₂ → (r ≡ r') × Holds t₁ t₂
  one_fresh_answer starting r r' t₁ t₂ f g = (same_answer r r' (f.number ∙ sym g.number) (f.value ∙ sym g.value), λ s. f.slices s ∙ sym (g.slices s))

  pub one_fresh : (starting : List ℕ) (r r' : Result (Unit {0}) Refused) (t₁ t₂ : Table) → Freshens boards cells t starting (done_of r) t₁ → Freshens boards cells t starting (done_of r') t₂ → Same r r' t₁ t₂
  one_fresh starting r r' t₁ t₂ f g =
      let (told, held) = one_fresh_answer starting (done_of r) (done_of r') t₁ t₂ f g in
      record { same_result = one_result r r' (ap (λ a. a.number) told) (λ a b p q. refl); same_slices = held }

  pub one_check : (rule : ℕ) (r r' : Result (Option ℕ) Refused) → Checks boards cells t rule r → Checks boards cells t rule r' → r ≡ r'
  one_check rule r r' f g = one_result r r' (f.number ∙ sym g.number) (λ a b p q. rw p at f.accepted ∙ sym (rw q at g.accepted))

  pub one_step_answer : (rule : ℕ) (a : Action) (r r' : Answer) (t₁ t₂ : Table) → Steps boards cells t rule a r t₁ → Steps boards cells t rule a r' t₂ → (r ≡ r') × Holds t₁ t₂
  one_step_answer rule a r r' t₁ t₂ f g = (same_answer r r' (f.number ∙ sym g.number) (f.value ∙ sym g.value), λ s. f.slices s ∙ sym (g.slices s))

  pub one_step : (rule : ℕ) (a : Action) (r r' : Result ℕ Refused) (t₁ t₂ : Table) → Steps boards cells t rule a (answer_of r) t₁ → Steps boards cells t rule a (answer_of r') t₂ → Same r r' t₁ t₂
  one_step rule a r r' t₁ t₂ f g =
      let (told, held) = one_step_answer rule a (answer_of r) (answer_of r') t₁ t₂ f g in
      record { same_result = one_answer r r' (ap (λ x. x.number) told) (ap (λ x. x.value) told); same_slices = held }
