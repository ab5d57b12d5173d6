-- Counts that grow from below, and the stale copies by the numbers in the slices. Assumes nothing.
use mathlib.Core.Path.{◌≡◌, refl, ◌∙◌}
use mathlib.Core.List.{List}
use mathlib.Core.Bool.{Bool, true, cond}
use Prim.Native.Nat.{ℕ, zero, suc, ◌+◌, ◌*◌, ◌<◌, ◌≤◌}
use native.Mathlib.Omega.{arith}
use native.Mathlib.Numerals.{add-one}
use lib.ListN.{length, get_or}
use Rattle.std.specs.List.{between}
use Rattle.std.proofs.Math.Nat.{add-mul, mul-le-mul_right}
use Rattle.std.proofs.lemmas.List.Edits.{length-between, get_or-between}
use Rattle.protocol.specs.Slices.{copies, masks, Table, sizes_good}
use Rattle.table.proofs.ReadyLaws.{ready, copy_is, live_is}
use Rattle.sessions.specs.Run.{is_stale, count_below, sum_below, stale_in}

pub count_more : (n : ℕ) (test : ℕ → Bool) → count_below (n + 1) test ≡ count_below n test + cond (test n) 1 0
unfolding count_below
count_more n test = rw (add-one n) (omega arith)

pub sum_more : (n : ℕ) (f : ℕ → ℕ) → sum_below (n + 1) f ≡ sum_below n f + f n
unfolding sum_below
sum_more n f = rw (add-one n) (omega arith)

-- the stale copies of the first boards
module _ (live latest : ℕ) (copy : ℕ → ℕ) where
  abbrev pub stale_copies : (boards : ℕ) → ℕ
  stale_copies k = count_below k (λ p. is_stale live p (copy p) latest)

count_same : (n : ℕ) (f g : ℕ → Bool) → ((p : ℕ) → p < n → f p ≡ g p) → count_below n f ≡ count_below n g
unfolding count_below
count_same zero f g e = refl
count_same (suc n) f g e = rw (e n (omega arith), count_same n f g (λ p l. e p (omega arith)))

sum_same : (n : ℕ) (f g : ℕ → ℕ) → ((c : ℕ) → c < n → f c ≡ g c) → sum_below n f ≡ sum_below n g
unfolding sum_below
sum_same zero f g e = refl
sum_same (suc n) f g e = rw (e n (omega arith), sum_same n f g (λ c l. e c (omega arith)))

-- a cell's copies, cut out of the slice
pub cell_cut : (boards cells cell : ℕ) (xs : List ℕ) (live latest : ℕ) → cell < cells → length xs ≡ cells * boards →
    let cut = between (cell * boards) ((cell + 1) * boards) xs in
    stale_copies live latest (λ p. get_or cut p 0) (length cut) ≡ stale_copies live latest (λ p. get_or xs (cell * boards + p) 0) boards
cell_cut boards cells cell xs live latest h n =
    let to = (cell + 1) * boards in
    let e : to ≡ cell * boards + boards = add-mul cell 1 boards ∙ omega arith in
    let m : to ≤ cells * boards = mul-le-mul_right boards (omega arith) in
    let l : length (between (cell * boards) to xs) ≡ boards = length-between xs (cell * boards) to (omega arith) ∙ omega arith in
    rw l (count_same boards _ _ (λ p k. rw (get_or-between xs (cell * boards) to p 0 (omega arith))))

pub by_slices : (boards cells : ℕ) (t : Table) (latest : ℕ → ℕ) → sizes_good boards cells t ≡ true →
    sum_below cells (λ c. count_below boards (λ p. is_stale (get_or (t masks) (c * 3) 0) p (get_or (t copies) (c * boards + p) 0) (latest c))) ≡ stale_in boards cells t latest
unfolding stale_in
by_slices boards cells t latest s =
    sum_same cells _ _
    (λ c l. let y = ready boards cells t s c l in count_same boards _ _ (λ p h. rw (live_is boards cells c t y, copy_is boards cells c t y p h)))
