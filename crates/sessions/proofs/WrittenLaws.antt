-- Bytes put into a list from a place on: nothing, one more, a run behind another, and all of a file. Assumes nothing.
use mathlib.Core.Path.{◌≡◌, refl, ap, sym, ◌∙◌}
use mathlib.Core.List.{List, [], ◌∷◌, ◌++◌, append_assoc}
use Prim.Native.Nat.{ℕ, ◌+◌, ◌*◌, ◌<◌, ◌≤◌}
use native.Mathlib.Numerals.{add-one}
use native.Mathlib.Omega.{arith}
use native.Mathlib.Nat.{add-zero}
use lib.ListN.{length, get_or, take, drop, length-append, take-append-drop}
use lib.Seq.{length-take-le, take-suc, take_at, drop-append-add, drop-drop}
use Rattle.std.specs.Int.{w16, w32, to_le_bytes}
use Rattle.std.proofs.Common.{Fits, ◌/◌, ◌%◌}
use Rattle.sessions.specs.File.{mark, two, four, packed, headed, file_of, records_at}
use Rattle.sessions.specs.Written.{written}

pub written_none : (at : ℕ) (old : List ℕ) → old ≡ written [] at old
unfolding written
written_none at old = rw add-zero (sym (take-append-drop at old))

-- one run behind another
pub written_more : (ds es : List ℕ) (at : ℕ) (old : List ℕ) → at + length ds + length es ≤ length old → written es (at + length ds) (written ds at old) ≡ written (ds ++ es) at old
unfolding written
written_more ds es at old h =
    let p = take at old ++ ds in
    let q = drop (at + length ds) old in
    let n : length (take at old ++ ds) ≡ at + length ds = rw (length-append, length-take-le at old (omega arith)) in
    let w : take at old ++ (ds ++ q) ≡ p ++ q = sym (append_assoc (take at old) ds q) in
    let t : take (at + length ds) (p ++ q) ≡ p = take_at p q (at + length ds) n in
    let s : at + length ds + length es ≡ at + length (ds ++ es) = rw length-append (omega arith) in
    let d : drop (at + length ds + length es) (p ++ q) ≡ drop (at + length (ds ++ es)) old =
    ap (λ (k : ℕ). drop (k + length es) (p ++ q)) (sym n) ∙ drop-append-add p q (length es) ∙ drop-drop (length es) (at + length ds) old
    ∙ ap (λ (k : ℕ). drop k old) s in
    rw (w, t, d) (simp append_assoc)

-- a value's four bytes, as std says them
pub four_stored : (x : ℕ) → Fits w32 x → to_le_bytes w32 x ≡ four x
four_stored x h =
    let e : x / 16777216 % 256 ≡ x / 16777216 = omega (arith, h.fits) in
    rw e

pub length_packed : (xs : List ℕ) → length (packed xs) ≡ 4 * length xs
unfolding packed
length_packed [] = refl
length_packed (x ∷ xs) = rw (length_packed xs) (omega arith)

packed_append : (xs ys : List ℕ) → packed (xs ++ ys) ≡ packed xs ++ packed ys
unfolding packed
packed_append [] ys = refl
packed_append (x ∷ xs) ys = rw (packed_append xs ys)

packed_suc : (xs : List ℕ) (i : ℕ) → i < length xs → packed (take (i + 1) xs) ≡ packed (take i xs) ++ four (get_or xs i 0)
unfolding packed
packed_suc xs i h = rw (add-one, take-suc xs i 0 h, packed_append)

-- one more value of a list
pub one_more_value : (xs : List ℕ) (i at : ℕ) (old : List ℕ) → i < length xs → at + 4 * length xs ≤ length old →
    written (four (get_or xs i 0)) (at + 4 * i) (written (packed (take i xs)) at old) ≡ written (packed (take (i + 1) xs)) at old
one_more_value xs i at old h k =
    let n : length (packed (take i xs)) ≡ 4 * i = length_packed (take i xs) ∙ ap (λ (j : ℕ). 4 * j) (length-take-le i xs (omega arith)) in
    rw (packed_suc xs i h, ← n) (written_more (packed (take i xs)) (four (get_or xs i 0)) at old (omega arith))

-- the mark, the version, rule and P, and N, one behind the other
pub written_header : (rule boards cells : ℕ) (old : List ℕ) → cells ≤ 512 → 9 ≤ length old →
    written (to_le_bytes w16 cells) 7 (written (rule ∷ boards ∷ []) 5 (written (to_le_bytes w16 1) 3 (written mark 0 old))) ≡ written (headed rule boards cells) 0 old
unfolding headed
written_header rule boards cells old h k =
    let e : cells / 256 % 256 ≡ cells / 256 = omega arith in
    rw (e, written_more mark (two 1) 0 old (omega arith), written_more (mark ++ two 1) (rule ∷ boards ∷ []) 0 old (omega arith), written_more (mark ++ two 1 ++ (rule ∷ boards ∷ [])) (two cells) 0 old (omega arith))

pub length_file : (rule boards cells : ℕ) (starting records : List ℕ) → length (file_of rule boards cells starting records) ≡ records_at (length starting) + length records
unfolding file_of headed
length_file rule boards cells starting records = rw (length-append, length-append (packed starting) records, length_packed) (omega arith)

-- at the start
pub in_front : (ds old : List ℕ) → written ds 0 old ≡ ds ++ drop (length ds) old
unfolding written
in_front ds old = let z : 0 + length ds ≡ length ds = omega arith in rw z

-- the header, the values and the records are the file
pub written_file : (rule boards cells : ℕ) (starting records old : List ℕ) → records_at (length starting) + length records ≤ length old →
    written records (records_at (length starting)) (written (packed starting) 9 (written (headed rule boards cells) 0 old))
    ≡ file_of rule boards cells starting records ++ drop (length (file_of rule boards cells starting records)) old
unfolding headed file_of
written_file rule boards cells starting records old h =
    let hd = headed rule boards cells in
    let n : length (packed starting) ≡ 4 * length starting = length_packed starting in
    let l : 0 + length (hd ++ packed starting) ≡ records_at (length starting) = rw length-append (omega arith) in
    ap (written records (records_at (length starting))) (written_more hd (packed starting) 0 old (omega arith))
    ∙ ap (λ (k : ℕ). written records k (written (hd ++ packed starting) 0 old)) (sym l)
    ∙ written_more (hd ++ packed starting) records 0 old (omega arith)
    ∙ ap (λ (f : List ℕ). written f 0 old) (append_assoc hd (packed starting) records)
    ∙ in_front (hd ++ (packed starting ++ records)) old
