-- Bytes put at the start of a slice: nothing, one more, and a run behind another. Assumes nothing.
use mathlib.Core.Path.{◌≡◌, refl, ap, sym, ◌∙◌}
use mathlib.Core.List.{List, [], ◌∷◌, ◌++◌, append_assoc, append-nil}
use Prim.Native.Nat.{ℕ, suc, ◌+◌, ◌-◌, ◌<◌, ◌≤◌}
use native.Mathlib.Omega.{arith}
use lib.ListN.{length, get_or, take, drop, set, length-append, length-take, length-drop}
use lib.Seq.{drop-cons, set_at, take_at, drop_at, take_all, drop-drop, drop-length}
use borrow.Rule.Slice.PartMut.{put_mid}
use Rattle.listing.specs.Code.{overwritten}

pub overwritten_none : (old : List ℕ) → old ≡ overwritten [] old
unfolding overwritten
overwritten_none old = refl

pub length_overwritten : (bytes old : List ℕ) → length bytes ≤ length old → length (overwritten bytes old) ≡ length old
unfolding overwritten
length_overwritten bytes old h = simp (length-append, length-drop) (omega arith)

-- one byte at the start, and one behind a run
pub overwritten_first : (v : ℕ) (old : List ℕ) → 0 < length old → set old 0 v ≡ overwritten (v ∷ []) old
unfolding overwritten
overwritten_first v [] h = absurd (omega arith)
overwritten_first v (x ∷ xs) h = refl

pub overwritten_one : (bytes : List ℕ) (v : ℕ) (old : List ℕ) → length bytes < length old → set (overwritten bytes old) (length bytes) v ≡ overwritten (bytes ++ (v ∷ [])) old
unfolding overwritten
overwritten_one bytes v old h =
    let n : length (bytes ++ (v ∷ [])) ≡ suc (length bytes) = simp length-append (omega arith) in
    rw (drop-cons old (length bytes) 0 h, set_at bytes (get_or old (length bytes) 0) (drop (suc (length bytes)) old) v (length bytes) refl, n) (sym (append_assoc bytes (v ∷ []) (drop (suc (length bytes)) old)))

-- ---- more bytes, put into the part of a slice that is behind the first: `end` is where they begin

module _ (done more old out : List ℕ) (end : ℕ) (h : length done + length more ≤ length old) (e : end ≡ length done) (o : out ≡ overwritten done old) where
  pub length_out : length out ≡ length old
  length_out = ap length o ∙ length_overwritten done old (omega arith)

  pub room_behind : length more ≤ length (take (length out - end) (drop end out))
  room_behind = simp (length-take, length-drop) (omega (arith, length_out))

  module _ (part : List ℕ) (p : part ≡ overwritten more (take (length out - end) (drop end out))) where
    pub put_behind : put_mid end (length out - end) out part ≡ overwritten (done ++ more) old
    unfolding overwritten
    put_behind =
        let q = drop (length done) old in
        let t : take end out ≡ done = rw (o, e) (take_at done q (length done) refl) in
        let d : drop end out ≡ q = rw (o, e) (drop_at done q (length done) refl) in
        let n : length out - end ≡ length q = ap (λ (xs : List ℕ). length xs - end) o ∙ simp (length-append, length-drop) (omega arith) in
        let s : length (done ++ more) ≡ length done + length more = length-append done more in
        rw (p, t, d, n, take_all (length q) q (omega arith), drop-length q, append-nil, s)
        (rw (drop-drop (length more) (length done) old) (sym (append_assoc done more (drop (length done + length more) old))))

    pub length_behind : length (put_mid end (length out - end) out part) ≡ length old
    length_behind = ap length put_behind ∙ length_overwritten (done ++ more) old (omega (arith, length-append done more))
