-- `width` by the power of ten that the number reaches. Assumes nothing.
use Rattle.std.proofs.Common.{◌≡◌, ℕ, ◌+◌, ◌*◌, ◌^◌, ◌<◌, ◌≤◌, Option, None, Some, IfSome, length, sym, arith}
use Rattle.std.specs.Option.{IfNone, unwrap_or}
use Rattle.listing.specs.Decimal.{digits}
use Rattle.listing.proofs.DigitLaws.{length_small, counted, few_digits}
use Rattle.listing.proofs.decimal.width.Goals as goal

by_power : (n : ℕ) (r : Option ℕ) → IfNone r (n ≡ 0) → IfSome r (λ k. 10 ^ k ≤ n) → IfSome r (λ k. n < 10 * 10 ^ k) → unwrap_or r 0 + 1 ≡ length (digits n)
by_power n None none some next = sym (length_small n (omega arith))
by_power n (Some k) none some next = sym (counted k n some next)

pub returns : goal.returns
returns c =
    let n = c.args.n in
    let log = c.checked_ilog10.ensures in
    let e = by_power n _ log.none log.power_le log.next_power_gt in
    record { length = omega (arith, c.unwrap_or.ensures, e); few = omega (arith, c.unwrap_or.ensures, e, few_digits n (omega arith)) }
