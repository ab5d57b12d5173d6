-- The parts of a file that was written, and the bytes of parts that were read. Assumes nothing.
use mathlib.Core.Path.{◌≡◌, refl, ap, sym, ◌∙◌}
use mathlib.Core.List.{List, [], ◌∷◌, ◌++◌}
use mathlib.Core.Bool.{true, ◌&&◌}
use Prim.Native.Nat.{ℕ, zero, suc, ◌+◌, ◌-◌, ◌*◌, ◌/◌, ◌%◌, ◌<◌, ◌≤◌}
use native.Mathlib.Omega.{arith}
use native.Mathlib.Nat.{add-zero}
use lib.Dec.{eqb}
use lib.ListN.{length, get_or, drop, length-drop}
use lib.Seq.{get_or-drop, drop-drop, drop_at, drop-cons}
use borrow.Author.Tests.{eqb-true}
use Rattle.protocol.proofs.Booleans.{and_left, and_right}
use Rattle.sessions.specs.File.{Below, le16, le32, values, marked, version_in, rule_in, boards_in, cells_in, starting_in, records_in, packed, headed, file_of, records_at}
use Rattle.sessions.proofs.WrittenLaws.{length_packed}

below_drop : (k n : ℕ) (l : List ℕ) → Below k l → Below k (drop n l)
below_drop k n l b i h = let g : i < length l - n = rw length-drop at h in rw get_or-drop (b (n + i) (omega arith))

-- ---- the values

-- the values at the start of a list
unfoldable unpacked : ℕ → List ℕ → List ℕ
unpacked zero l = []
unpacked (suc n) l = le32 l 0 ∷ unpacked n (drop 4 l)

le32_drop : (s : List ℕ) (at : ℕ) → le32 s at ≡ le32 (drop at s) 0
unfolding le32
le32_drop s at = rw (get_or-drop, get_or-drop, get_or-drop, get_or-drop, add-zero)

values_drop : (s : List ℕ) (at n : ℕ) → values s at n ≡ unpacked n (drop at s)
unfolding values unpacked
values_drop s at zero = refl
values_drop s at (suc n) = rw (le32_drop s at, values_drop s (at + 4) n, drop-drop)

unpacked_packed : (xs r : List ℕ) → Below 4294967296 xs → unpacked (length xs) (packed xs ++ r) ≡ xs
unfolding unpacked packed le32
unpacked_packed [] r b = refl
unpacked_packed (x ∷ xs) r b =
    let e : x % 256 + x / 256 % 256 * 256 + x / 65536 % 256 * 65536 + x / 16777216 * 16777216 ≡ x = omega (arith, b 0 (omega arith)) in
    rw (e, unpacked_packed xs r (λ i h. b (suc i) (omega arith)))

low : (p k : ℕ) → p < 256 → (n : ℕ) → n ≡ p + k * 256 → n % 256 ≡ p
low p k h n e = omega arith

packed_unpacked : (n : ℕ) (l : List ℕ) → Below 256 l → 4 * n ≤ length l → packed (unpacked n l) ++ drop (4 * n) l ≡ l
unfolding unpacked packed le32
packed_unpacked zero l b h = refl
packed_unpacked (suc n) [] b h = absurd (omega arith)
packed_unpacked (suc n) (p ∷ []) b h = absurd (omega arith)
packed_unpacked (suc n) (p ∷ q ∷ []) b h = absurd (omega arith)
packed_unpacked (suc n) (p ∷ q ∷ r ∷ []) b h = absurd (omega arith)
packed_unpacked (suc n) (p ∷ q ∷ r ∷ s ∷ l) b h =
    let x = p + q * 256 + r * 65536 + s * 16777216 in
    let b0 : p < 256 = b 0 (omega arith) in
    let b1 : q < 256 = b 1 (omega arith) in
    let b2 : r < 256 = b 2 (omega arith) in
    let b3 : s < 256 = b 3 (omega arith) in
    let p' : x % 256 ≡ p = omega arith in
    let y : x / 256 ≡ q + r * 256 + s * 65536 = omega arith in
    let z : x / 65536 ≡ r + s * 256 = omega arith in
    let q' : x / 256 % 256 ≡ q = rw y (low q (r + s * 256) b1 (q + r * 256 + s * 65536) (omega arith)) in
    let r' : x / 65536 % 256 ≡ r = rw z (low r s b2 (r + s * 256) (omega arith)) in
    let s' : x / 16777216 ≡ s = omega arith in
    let e : 4 * suc n ≡ suc (suc (suc (suc (4 * n)))) = omega arith in
    rw (e, p', q', r', s') (ap (λ (t : List ℕ). p ∷ q ∷ r ∷ s ∷ t) (packed_unpacked n l (λ i k. b (suc (suc (suc (suc i)))) (omega arith)) (omega arith)))

-- ---- the parts of a file that was written

module _ (rule boards cells : ℕ) (starting records : List ℕ) where
  abbrev file : List ℕ
  file = file_of rule boards cells starting records

  pub mark_of : marked file ≡ true
  unfolding file_of headed marked
  mark_of = refl

  pub version_of : version_in file ≡ 1
  unfolding file_of headed le16
  version_of = refl

  pub rule_of_file : rule_in file ≡ rule
  unfolding file_of headed
  rule_of_file = refl

  pub boards_of : boards_in file ≡ boards
  unfolding file_of headed
  boards_of = refl

  pub cells_of : cells_in file ≡ cells
  unfolding file_of headed le16
  cells_of = omega arith

  module _ (n : length starting ≡ cells) where
    pub starting_of : Below 4294967296 starting → starting_in file ≡ starting
    unfolding file_of headed
    starting_of b = ap (values file 9) (cells_of ∙ sym n) ∙ values_drop file 9 (length starting) ∙ unpacked_packed starting records b

    pub records_of : records_in file ≡ records
    unfolding file_of headed
    records_of =
        ap (λ (k : ℕ). drop (records_at k) file) (cells_of ∙ sym n) ∙ sym (drop-drop (4 * length starting) 9 file) ∙ drop_at (packed starting) records (4 * length starting) (length_packed starting)

-- ---- the bytes of parts that were read

nine : (s : List ℕ) → 9 ≤ length s →
    s ≡ get_or s 0 0 ∷ get_or s 1 0 ∷ get_or s 2 0 ∷ get_or s 3 0 ∷ get_or s 4 0 ∷ get_or s 5 0 ∷ get_or s 6 0 ∷ get_or s 7 0 ∷ get_or s 8 0 ∷ drop 9 s
nine s h =
    drop-cons s 0 0 (omega arith) ∙ ap (λ (t : List ℕ). get_or s 0 0 ∷ t) (drop-cons s 1 0 (omega arith)
    ∙ ap (λ (t : List ℕ). get_or s 1 0 ∷ t) (drop-cons s 2 0 (omega arith) ∙ ap (λ (t : List ℕ). get_or s 2 0 ∷ t) (drop-cons s 3 0 (omega arith)
    ∙ ap (λ (t : List ℕ). get_or s 3 0 ∷ t) (drop-cons s 4 0 (omega arith) ∙ ap (λ (t : List ℕ). get_or s 4 0 ∷ t) (drop-cons s 5 0 (omega arith)
    ∙ ap (λ (t : List ℕ). get_or s 5 0 ∷ t) (drop-cons s 6 0 (omega arith) ∙ ap (λ (t : List ℕ). get_or s 6 0 ∷ t) (drop-cons s 7 0 (omega arith)
    ∙ ap (λ (t : List ℕ). get_or s 7 0 ∷ t) (drop-cons s 8 0 (omega arith)))))))))

module _ (s : List ℕ) (b : Below 256 s) where
  pub head_of : 9 ≤ length s → marked s ≡ true → version_in s ≡ 1 → headed (rule_in s) (boards_in s) (cells_in s) ++ drop 9 s ≡ s
  unfolding marked le16 headed
  head_of h m v =
      let m1 = and_right (eqb (get_or s 0 0) 67) (eqb (get_or s 1 0) 67 && eqb (get_or s 2 0) 83) m in
      let b3 : get_or s 3 0 < 256 = b 3 (omega arith) in
      let b7 : get_or s 7 0 < 256 = b 7 (omega arith) in
      let e0 : get_or s 0 0 ≡ 67 = eqb-true _ _ (and_left (eqb (get_or s 0 0) 67) (eqb (get_or s 1 0) 67 && eqb (get_or s 2 0) 83) m) in
      let e1 : get_or s 1 0 ≡ 67 = eqb-true _ _ (and_left (eqb (get_or s 1 0) 67) (eqb (get_or s 2 0) 83) m1) in
      let e2 : get_or s 2 0 ≡ 83 = eqb-true _ _ (and_right (eqb (get_or s 1 0) 67) (eqb (get_or s 2 0) 83) m1) in
      let e3 : get_or s 3 0 ≡ 1 = omega arith in
      let e4 : get_or s 4 0 ≡ 0 = omega arith in
      let e7 : (get_or s 7 0 + get_or s 8 0 * 256) % 256 ≡ get_or s 7 0 = omega arith in
      let e8 : (get_or s 7 0 + get_or s 8 0 * 256) / 256 ≡ get_or s 8 0 = omega arith in
      sym (nine s h ∙ rw (e0, e1, e2, e3, e4, e7, e8))

  pub body_of : records_at (cells_in s) ≤ length s → packed (starting_in s) ++ records_in s ≡ drop 9 s
  body_of h =
      rw (values_drop s 9 (cells_in s), ← drop-drop (4 * cells_in s) 9 s)
      (packed_unpacked (cells_in s) (drop 9 s) (below_drop 256 9 s b) (rw length-drop (omega arith)))
