-- `tramusquet_list` answers the length that `list` does, and 0 where it is refused. Assumes nothing.
use Rattle.std.proofs.Common.{◌≡◌, ◌∙◌, refl, Bool, true, false, cond, ℕ, Result, Ok, Err}
use Rattle.std.specs.Result.{result_unwrap_or}
use Rattle.protocol.specs.declared.Refused.{Refused}
use Rattle.protocol.specs.declared.Refused.TheVariants.{NoRoom}
use Rattle.tramusquet.proofs.tramusquet_list.Goals as goal

or_0 : (short : Bool) (r : Result ℕ Refused) (n : ℕ) → r ≡ cond short (Err NoRoom) (Ok n) → result_unwrap_or r 0 ≡ cond short 0 n
or_0 true r n e = rw e refl
or_0 false r n e = rw e refl

pub returns : goal.returns
returns c = record { length_is = c.unwrap_or.ensures ∙ or_0 _ _ _ c.list.ensures.result_is; bytes_are = c.list.ensures.bytes_are }
