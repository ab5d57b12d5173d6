-- Stores at a cell are stores of that cell, and leave every other cell alone, by any proper arrangement; a table is what its cells are.
-- Assumes nothing.
use mathlib.Core.Path.{◌≡◌, refl, sym, ap, ◌∙◌, fun_ext}
use mathlib.Core.Logic.{◌≢◌}
use mathlib.Core.Bool.{Bool, true, false, cond, ◌&&◌}
use mathlib.Core.List.{List, [], ◌∷◌}
use Prim.Native.Nat.{ℕ, ◌*◌, ◌<◌, ◌≤◌}
use native.Mathlib.Omega.{arith}
use native.Mathlib.Decide.{ℕ_discrete}
use lib.Dec.{eqb, ltb}
use lib.ListN.{length, get_or, set, length-set}
use lib.Seq.{get_or-set_same, get_or-set_other, ext_get_or}
use borrow.Author.Tests.{eq-eqb, ne_eqb, eqb-true, ltb-true, lt-ltb, le-ltb}
use Rattle.protocol.specs.Slices.{slice_number, Slice, main, copies, masks, slices, Table, Places, width, every, in_range, sizes_good}
use Rattle.protocol.specs.Cell.{Cell, cell_by}
use Rattle.protocol.specs.Effects.{Store, put, store_by, stores_by}
use Rattle.protocol.proofs.Booleans.{and_left, and_right, every_at}
use Rattle.protocol.proofs.PlaceLaws.{Proper}

-- ---- stores read on a cell

unfoldable pub store : Cell → Store → Cell
store x (put s k v) = λ u j. cond (eqb (slice_number u) (slice_number s)) (cond (eqb j k) v (x u j)) (x u j)

unfoldable pub stores : Cell → List Store → Cell
stores x [] = x
stores x (e ∷ es) = stores (store x e) es

-- a store names one of the numbers that the cell has there
abbrev pub Fits : (boards : ℕ) → List Store → Type 0
Fits boards [] = Unit {0}
Fits boards (put s k v ∷ es) = (k < width boards s) × Fits boards es

-- each slice stands in the list of slices at its number
listed : (s : Slice) → (slice_number s < length slices) × (get_or slices (slice_number s) main ≡ s)
unfolding slice_number
listed main = (omega arith, refl)
listed copies = (omega arith, refl)
listed masks = (omega arith, refl)

same_slice : (s u : Slice) → slice_number s ≡ slice_number u → s ≡ u
same_slice s u e = sym (listed s).1 ∙ ap (λ (n : ℕ). get_or slices n main) e ∙ (listed u).1

-- ---- lengths

abbrev Sized : (boards cells : ℕ) → Table → Type 0
Sized boards cells t = (s : Slice) → length (t s) ≡ cells * width boards s

length_store : (places : Places) (c : ℕ) (t : Table) (e : Store) (u : Slice) → length (store_by places c t e u) ≡ length (t u)
unfolding store_by
length_store places c t (put s k v) u = go (eqb (slice_number u) (slice_number s))
  where
    go : (b : Bool) → length (cond b (set (t u) (places s c k) v) (t u)) ≡ length (t u)
    go true = simp length-set
    go false = refl

pub length_stores : (places : Places) (c : ℕ) (t : Table) (es : List Store) (u : Slice) → length (stores_by places c t es u) ≡ length (t u)
unfolding stores_by
length_stores places c t [] u = refl
length_stores places c t (e ∷ es) u = length_stores places c (store_by places c t e) es u ∙ length_store places c t e u

pub sizes_of : (boards cells : ℕ) (t : Table) → sizes_good boards cells t ≡ true → Sized boards cells t
unfolding sizes_good
sizes_of boards cells t e s = eqb-true _ _ (rw (listed s).1 at (every_at slices test (slice_number s) main (listed s).0 (and_right (in_range boards cells) (every slices test) e)))
  where
    test : Slice → Bool
    test s = eqb (length (t s)) (cells * width boards s)

pub same_sizes : (boards cells : ℕ) (t u : Table) → ((s : Slice) → length (u s) ≡ length (t s)) → sizes_good boards cells u ≡ sizes_good boards cells t
unfolding sizes_good
same_sizes boards cells t u f = ap (λ (n : Slice → ℕ). in_range boards cells && every slices (λ s. eqb (n s) (cells * width boards s))) (fun_ext f)

-- ---- one store

module _ (places : Places) (boards cells : ℕ) (ok : Proper places boards cells) (c : ℕ) (inside : c < cells) where
  module _ (t : Table) (s : Slice) (k v : ℕ) (z : Sized boards cells t) (l : k < width boards s) where
    put_here : (j : ℕ) →
        cond (ltb j (width boards s) && ltb c cells) (get_or (set (t s) (places s c k) v) (places s c j) 0) 0
        ≡ cond (eqb j k) v (cond (ltb j (width boards s) && ltb c cells) (get_or (t s) (places s c j) 0) 0)
    put_here j = go (ℕ_discrete j k) (ltb j (width boards s)) refl
      where
        go : Dec (j ≡ k) → (b : Bool) → ltb j (width boards s) ≡ b →
            cond (ltb j (width boards s) && ltb c cells) (get_or (set (t s) (places s c k) v) (places s c j) 0) 0
            ≡ cond (eqb j k) v (cond (ltb j (width boards s) && ltb c cells) (get_or (t s) (places s c j) 0) 0)
        go (yes e) b q =
            rw (e, eq-eqb k k refl, lt-ltb k (width boards s) l, lt-ltb c cells inside)
            (get_or-set_same (t s) (places s c k) v 0 (omega (arith, z s, (ok s).within c k inside l)))
        go (no n) true q =
            rw (ne_eqb j k n, get_or-set_other (t s) (places s c k) (places s c j) v 0 (λ e. n ((ok s).apart c j c k inside (ltb-true j (width boards s) q) inside l e).1))
        go (no n) false q = rw (q, ne_eqb j k n)

    put_there : (d : ℕ) → d ≢ c → (j : ℕ) →
        cond (ltb j (width boards s) && ltb d cells) (get_or (set (t s) (places s c k) v) (places s d j) 0) 0
        ≡ cond (ltb j (width boards s) && ltb d cells) (get_or (t s) (places s d j) 0) 0
    put_there d n j = go (ltb j (width boards s) && ltb d cells) refl
      where
        go : (b : Bool) → (ltb j (width boards s) && ltb d cells) ≡ b →
            cond b (get_or (set (t s) (places s c k) v) (places s d j) 0) 0 ≡ cond b (get_or (t s) (places s d j) 0) 0
        go true e =
            get_or-set_other (t s) (places s c k) (places s d j) v 0
            (λ q. n ((ok s).apart d j c k (ltb-true d cells (and_right (ltb j (width boards s)) (ltb d cells) e)) (ltb-true j (width boards s) (and_left (ltb j (width boards s)) (ltb d cells) e)) inside l q).0)
        go false e = refl

  store_here : (t : Table) (s : Slice) (k v : ℕ) → Sized boards cells t → k < width boards s →
      cell_by places boards cells (store_by places c t (put s k v)) c ≡ store (cell_by places boards cells t c) (put s k v)
  unfolding cell_by store_by store
  store_here t s k v z l = fun_ext (λ u. fun_ext (λ j. go u j (eqb (slice_number u) (slice_number s)) refl))
    where
      go : (u : Slice) (j : ℕ) (b : Bool) → eqb (slice_number u) (slice_number s) ≡ b →
          cond (ltb j (width boards u) && ltb c cells) (get_or (cond b (set (t u) (places s c k) v) (t u)) (places u c j) 0) 0
          ≡ cond b (cond (eqb j k) v (cell_by places boards cells t c u j)) (cell_by places boards cells t c u j)
      go u j true e = rw (same_slice u s (eqb-true _ _ e)) (put_here t s k v z l j)
      go u j false e = refl

  store_there : (t : Table) (s : Slice) (k v d : ℕ) → Sized boards cells t → k < width boards s → d ≢ c →
      cell_by places boards cells (store_by places c t (put s k v)) d ≡ cell_by places boards cells t d
  unfolding cell_by store_by
  store_there t s k v d z l n = fun_ext (λ u. fun_ext (λ j. go u j (eqb (slice_number u) (slice_number s)) refl))
    where
      go : (u : Slice) (j : ℕ) (b : Bool) → eqb (slice_number u) (slice_number s) ≡ b →
          cond (ltb j (width boards u) && ltb d cells) (get_or (cond b (set (t u) (places s c k) v) (t u)) (places u d j) 0) 0
          ≡ cond (ltb j (width boards u) && ltb d cells) (get_or (t u) (places u d j) 0) 0
      go u j true e = rw (same_slice u s (eqb-true _ _ e)) (put_there t s k v z l d n j)
      go u j false e = refl

  -- ---- a list of stores

  pub stores_here : (t : Table) (es : List Store) → Sized boards cells t → Fits boards es →
      cell_by places boards cells (stores_by places c t es) c ≡ stores (cell_by places boards cells t c) es
  unfolding stores_by stores
  stores_here t [] z f = refl
  stores_here t (put s k v ∷ es) z f =
      stores_here (store_by places c t (put s k v)) es (λ u. length_store places c t (put s k v) u ∙ z u) f.1
      ∙ ap (λ (x : Cell). stores x es) (store_here t s k v z f.0)

  pub stores_there : (t : Table) (es : List Store) (d : ℕ) → Sized boards cells t → Fits boards es → d ≢ c →
      cell_by places boards cells (stores_by places c t es) d ≡ cell_by places boards cells t d
  unfolding stores_by
  stores_there t [] d z f n = refl
  stores_there t (put s k v ∷ es) d z f n =
      stores_there (store_by places c t (put s k v)) es d (λ u. length_store places c t (put s k v) u ∙ z u) f.1 n ∙ store_there t s k v d z f.0 n

-- ---- a table is what its cells are

module _ (places : Places) (boards cells : ℕ) (ok : Proper places boards cells) (t u : Table) (y : Sized boards cells t) (z : Sized boards cells u) where
  -- slice by slice
  pub same_list : (s : Slice) → ((c k : ℕ) → cell_by places boards cells t c s k ≡ cell_by places boards cells u c s k) → t s ≡ u s
  unfolding cell_by
  same_list s e = ext_get_or 0 (t s) (u s) (y s ∙ sym (z s)) (λ i h. let f = (ok s).onto i (omega (arith, y s, h)) in at i f.0 f.1 f.2 f.3 f.4)
    where
      at : (i c k : ℕ) → c < cells → k < width boards s → i ≡ places s c k → get_or (t s) i 0 ≡ get_or (u s) i 0
      at i c k l h q = rw q (rw (lt-ltb k (width boards s) h, lt-ltb c cells l) at (e c k))

  pub same_table : ((c : ℕ) → cell_by places boards cells t c ≡ cell_by places boards cells u c) → t ≡ u
  same_table e = fun_ext (λ s. same_list s (λ c k. ap (λ (x : Cell). x s k) (e c)))

-- a cell has nothing at board P or above
pub nothing_above : (places : Places) (boards cells : ℕ) (t : Table) (c : ℕ) (s : Slice) (k : ℕ) → width boards s ≤ k → cell_by places boards cells t c s k ≡ 0
unfolding cell_by
nothing_above places boards cells t c s k h = rw (le-ltb k (width boards s) h)
