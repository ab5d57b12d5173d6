-- `list` puts the word and the number, where there is room. Assumes nothing.
use Rattle.std.proofs.Common.{◌≡◌, [], ◌∷◌, ◌++◌, ◌+◌, ◌≤◌, length, drop, List, ℕ, refl, ap, ◌∙◌, arith}
use Rattle.protocol.specs.Replies.{reply_number}
use Rattle.listing.specs.Code.{overwritten}
use Rattle.listing.specs.Listing.{line, refused_word}
use Rattle.listing.proofs.OverwrittenLaws.{put_behind}
use Rattle.listing.proofs.PutsLaws.{no_room, room, refused_parts, length_refused}
use Rattle.listing.proofs.refused.list.Goals as goal

abbrev word : List ℕ
word = refused_word ++ (32 ∷ [])

starts : (part old : List ℕ) → part ≡ word → part ++ drop 8 old ≡ overwritten word old
unfolding overwritten
starts part old e = rw e

pub returns-then-out-length : goal.returns-then-out-length
returns-then-out-length c =
    let number = reply_number c.args.refused in
    let w = rw c.number.ensures at c.width-length.ensures in
    no_room _ _ (omega (arith, length_refused number, w.length, w.few)) (omega (arith, length_refused number, w.length, c.if-out-length.true))

pub returns : goal.returns
returns c =
    let number = reply_number c.args.refused in
    let old = c.args.out.now in
    let w = rw c.number.ensures at c.width-length.ensures in
    let p = rw c.number.ensures at c.put.ensures in
    let long = length_refused number in
    let h : 8 + length (line (number ∷ [])) ≤ length old = omega (arith, w.length, c.if-out-length.false) in
    let all = put_behind word (line (number ∷ [])) old _ 8 h refl (starts _ old c.copy_from_slice.ensures.after) _ p.bytes in
    room _ _ (omega (arith, long, w.length, w.few)) (omega (arith, long, h)) _ _ (omega (arith, long, w.length)) (all ∙ ap (λ bytes. overwritten bytes old) (refused_parts number))
