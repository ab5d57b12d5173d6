-- `width` sums the numbers' digits and the bytes behind them. Assumes nothing.
use Rattle.std.proofs.Common.{◌+◌, length, sym, ◌∙◌, rules, arith}
use Rattle.std.proofs.lemmas.Iterator.{YieldsList-from_slice, YieldsList-from_map}
use Rattle.std.proofs.lemmas.Iterator.Consumers.{sum_by_from_yields_List}
use Rattle.listing.specs.Decimal.{digits}
use Rattle.listing.proofs.LineLaws.{length_line_by_sum, short_line}
use Rattle.listing.proofs.line.width.Goals as goal

pub returns : goal.returns
returns c =
    let numbers = c.args.numbers.now in
    let e = sum_by_from_yields_List _ numbers c.map.result c.sum.result c.sum.ensures.ran (YieldsList-from_map _ (λ n. length (digits n) + 1) (YieldsList-from_slice numbers cc) c.map.ensures.closure (λ x r q k. search rules)) ∙ sym (length_line_by_sum numbers) in
    record { length = e; few = omega (arith, e, short_line numbers (λ i h. omega (arith, c.type_inv.numbers i)), c.requires) }
