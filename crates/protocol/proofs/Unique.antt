-- No two different outcomes meet the statement of a public function, where it is no equation of the result. Assumes nothing.
use mathlib.Core.Path.{◌≡◌, refl, sym, ap, ◌∙◌}
use mathlib.Core.Logic.{◌≢◌}
use Prim.Native.Nat.{ℕ, ◌≤◌}
use native.Mathlib.Omega.{arith}
use Rattle.std.specs.Prelude.{Option, Some, None, Result, Ok, Err, MatchOption}
use Rattle.protocol.specs.declared.Refused.{Refused}
use Rattle.protocol.specs.declared.Rule.{Rule}
use Rattle.protocol.specs.declared.Rule.TheVariants.{IncoherentMemory, GlobalImpl, CurrentCaches, ExclusiveLocks0, ExclusiveLocks}
use Rattle.protocol.specs.Names.{rule_number, rule_of}
use Rattle.protocol.specs.Masks.{lowest_board}
use Rattle.protocol.specs.Replies.{Ruled}

-- a rule is the one of its number
pub rule_is : (rule : Rule) → rule_of (rule_number rule) ≡ rule
unfolding rule_of rule_number
rule_is IncoherentMemory = refl
rule_is GlobalImpl = refl
rule_is CurrentCaches = refl
rule_is ExclusiveLocks0 = refl
rule_is ExclusiveLocks = refl

pub low_number : (rule : Rule) → rule_number rule ≤ 4
unfolding rule_number
low_number IncoherentMemory = omega arith
low_number GlobalImpl = omega arith
low_number CurrentCaches = omega arith
low_number ExclusiveLocks0 = omega arith
low_number ExclusiveLocks = omega arith

-- `Rule::try_from`
pub one_rule : (number : ℕ) (r r' : Result Rule Refused) → Ruled number r → Ruled number r' → r ≡ r'
one_rule number (Ok a) (Ok b) e d = ap Ok (sym (rule_is a) ∙ ap rule_of (e ∙ sym d) ∙ rule_is b)
one_rule number (Ok a) (Err e) f g = absurd (omega (arith, low_number a, f, g.1))
one_rule number (Err e) (Ok a) f g = absurd (omega (arith, low_number a, g, f.1))
one_rule number (Err e) (Err d) f g = ap Err (f.0 ∙ sym g.0)

-- what `Mask::lowest` says of a mask's bits
abbrev pub IsLowest : (bits : ℕ) → Option ℕ → Type 0
IsLowest bits r = MatchOption r (bits ≡ 0) (λ p. (bits ≢ 0) × (p ≡ lowest_board bits))

pub one_lowest : (bits : ℕ) (r r' : Option ℕ) → IsLowest bits r → IsLowest bits r' → r ≡ r'
one_lowest bits None None e d = refl
one_lowest bits None (Some q) e d = absurd (d.0 e)
one_lowest bits (Some p) None e d = absurd (e.0 d)
one_lowest bits (Some p) (Some q) e d = ap Some (e.1 ∙ sym d.1)
