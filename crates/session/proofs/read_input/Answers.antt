-- What a read gave stands behind what the reads before it gave. Assumes nothing.
use Rattle.std.proofs.Common.{◌≡◌, ℕ, ◌+◌, ◌≤◌, List, ◌++◌, length, take, drop, rules, ap, sym, ◌∙◌, subst, drop_at, length-take-le, arith}
use Rattle.std.specs.Io.KnownBytes.{Consumes}
use Rattle.std.proofs.KnownBytes.{Consumes-trans}
use Rattle.std.proofs.lemmas.Slice.{take-put_mid_below}
use borrow.Rule.Slice.PartMut.{put_mid, post_of}
use lib.Seq.{take-add, take-append-le}
use Rattle.session.proofs.read_input.Goals as goal

front_more : (from room n : ℕ) (old part : List ℕ) → from ≤ length old → n ≤ length part → take from old ++ take n part ≡ take (from + n) (put_mid from room old part)
front_more from room n old part within fits =
    let new = put_mid from room old part in
    let rest = post_of from room old in
    let behind : take n part ≡ take n (drop from new) = sym (ap (take n) (drop_at (take from old) (part ++ rest) from (length-take-le from old within)) ∙ take-append-le n part rest fits) in
    ap (λ bytes. take from old ++ bytes) behind ∙ ap (λ bytes. bytes ++ take n (drop from new)) (sym (take-put_mid_below from room old part from (omega arith) within)) ∙ sym (take-add from n new)

pub loop-length-preserved : goal.loop-length-preserved
loop-length-preserved g c =
    let l = c.loop-length in
    let read = c.in_ok-more.ensures in
    (search rules, subst (Consumes _ _) (front_more l.length _ c.in_ok-more.more l.buffer _ l.invariant.0 read.bound.0) (Consumes-trans _ _ _ _ _ l.invariant.1 read.bytes.0))
