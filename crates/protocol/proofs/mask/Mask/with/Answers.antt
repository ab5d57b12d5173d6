-- `with` sets one bit. Assumes nothing.
use Rattle.protocol.proofs.WordLaws.{with_code}
use Rattle.protocol.proofs.mask.Mask.with.Goals as goal

pub returns : goal.returns
returns c = with_code _ _ c.args.board.low
