-- `lowest` counts the zeros below the lowest bit. Assumes nothing.
use Rattle.std.proofs.Common.{rules, sym, ◌∙◌}
use borrow.Author.Tests.{eqb-true, eqb-false}
use Rattle.protocol.proofs.WordLaws.{lowest_code}
use Rattle.protocol.proofs.mask.Mask.lowest.Goals as goal

pub returns-then-is_empty : goal.returns-then-is_empty
returns-then-is_empty c = eqb-true _ _ (sym c.is_empty.ensures ∙ c.if-is_empty.true)

pub returns : goal.returns
returns c = let some = eqb-false _ _ (sym c.is_empty.ensures ∙ c.if-is_empty.false) in (some, lowest_code _ (search rules) some)
