-- What each way out of `fresh` has to show. Assumes nothing.
use mathlib.Core.Path.{◌≡◌, sym, ap, ◌∙◌}
use mathlib.Core.Logic.{◌≢◌, ◌⊎◌}
use mathlib.Core.Bool.{true, false}
use mathlib.Core.List.{List}
use Prim.Native.Nat.{ℕ}
use lib.ListN.{length, replicate}
use Rattle.protocol.specs.Slices.{Table, main, copies, masks, width, sizes_good}
use Rattle.protocol.specs.Fresh.{fresh_table}
use Rattle.protocol.proofs.CellLaws.{sizes_of}
use Rattle.protocol.proofs.FreshExactly.{fresh_1, fresh_accepted, fresh_value, fresh_refused_changes_nothing, fresh_fills}
use Rattle.table.specs.Statements.{Holds, Freshens}
use Rattle.std.specs.Prelude.{Ok, Err}
use Rattle.protocol.specs.declared.Refused.TheVariants.{BadSizes}
use Rattle.protocol.specs.Replies.{done_of}
use native.Mathlib.Omega.{arith}

module _ (boards cells : ℕ) (starting : List ℕ) (t : Table) where
  -- a size is bad
  pub not_started : (sizes_good boards cells t ≡ false) ⊎ (length starting ≢ cells) → Freshens boards cells t starting (done_of {A = Unit {0}} (Err BadSizes)) t
  not_started bad =
      let e = (fresh_1 boards cells starting t).1 bad in
      let f = fresh_refused_changes_nothing boards cells starting t (λ z. let d : ◌≡◌ {A = ℕ} 1 0 = sym e ∙ z in omega arith) in
      record { number = sym e; value = sym (fresh_value boards cells starting t); slices = λ s. ap (λ (u : Table). u s) (sym f) }

  pub started : sizes_good boards cells t ≡ true → length starting ≡ cells → (t' : Table) →
      t' main ≡ starting → t' copies ≡ replicate (length (t copies)) 0 → t' masks ≡ replicate (length (t masks)) 0 →
      Freshens boards cells t starting (done_of {A = Unit {0}} (Ok (tt {0}))) t'
  started good d t' a b c =
      let e = (fresh_accepted boards cells starting t).1 (good, d) in
      record { number = sym e; value = sym (fresh_value boards cells starting t); slices = rw (fresh_fills boards cells starting t e) go }
    where
      go : Holds t' (fresh_table boards starting)
      go main = unfold fresh_table in a
      go copies = unfold fresh_table in b ∙ rw (sizes_of boards cells t good copies, d)
      go masks = unfold fresh_table in c ∙ rw (sizes_of boards cells t good masks, d)

pub main_length : (boards cells : ℕ) (t : Table) → sizes_good boards cells t ≡ true → length (t main) ≡ cells
unfolding width
main_length boards cells t s = omega (arith, sizes_of boards cells t s main)
