-- `first` has passed tests that do not refuse. Assumes nothing.
use Rattle.std.proofs.Common.{◌≡◌, map, drop}
use Rattle.protocol.specs.First.{when, first_number}
use Rattle.protocol.specs.Replies.{reply_number}
use Rattle.table.proofs.rules.first.Given as goal

abbrev pub invariant-loop-refuses : goal.invariant-loop-refuses
invariant-loop-refuses l = first_number (map (λ t. when (reply_number t.1) t.0) l.tests) ≡ first_number (map (λ t. when (reply_number t.1) t.0) (drop l.refuses-index l.tests))
