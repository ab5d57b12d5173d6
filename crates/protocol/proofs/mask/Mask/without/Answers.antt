-- `without` clears one bit. Assumes nothing.
use Rattle.std.proofs.Common.{rules}
use Rattle.protocol.proofs.WordLaws.{without_code}
use Rattle.protocol.proofs.mask.Mask.without.Goals as goal

pub returns : goal.returns
returns c = without_code _ _ (search rules) c.args.board.low
