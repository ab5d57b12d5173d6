-- No two different outcomes meet the statement of `list`. Assumes nothing.
use mathlib.Core.Path.{sym, ◌∙◌}
use mathlib.Core.List.{List}
use Prim.Native.Nat.{ℕ}
use Rattle.std.proofs.Common.{Result}
use Rattle.protocol.specs.declared.Refused.{Refused}
use Rattle.listing.specs.Statements.{Lists, SameList}

pub one_listing : (file old : List ℕ) (r r' : Result ℕ Refused) (out out' : List ℕ) → Lists file old r out → Lists file old r' out' → SameList r r' out out'
one_listing file old r r' out out' f g = record { same_result = f.result_is ∙ sym g.result_is; same_out = f.bytes_are ∙ sym g.bytes_are }
