-- `step`: an action that nothing stands against is stored. Assumes nothing.
use Rattle.std.proofs.Common.{◌≡◌, ℕ, List, ◌<◌, arith}
use Rattle.std.proofs.lemmas.Result.{err_from_is_err_and}
use Rattle.protocol.specs.declared.Action.{Action}
use Rattle.protocol.specs.declared.Rule.{Rule}
use Rattle.protocol.specs.Names.{rule_number}
use Rattle.table.proofs.SizeLaws.{sized_good}
use Rattle.protocol.specs.Slices.{table_of}
use Rattle.protocol.specs.Step.{answer}
use Rattle.table.specs.Code.{EachBoard}
use Rattle.table.proofs.ReadyLaws.{main_in, copy_in, masks_in}
use Rattle.table.proofs.ProcedureLaws.{each_weaker}
use Rattle.table.proofs.ActionLaws.{accepted_room, stopped, badly_sized, unruled, went}
use Rattle.table.proofs.step.Goals as goal

-- what was judged of a view is so of what it was made of
seen : (r : Rule) (rule b b' c c' : ℕ) (m m' k k' w w' : List ℕ) (a : Action) (n : ℕ) → rule_number r ≡ rule → (b ≡ b') × (c ≡ c') → (m ≡ m') × (k ≡ k') × (w ≡ w') →
    n ≡ (answer (rule_number r) b c (table_of m k w) a).number → n ≡ (answer rule b' c' (table_of m' k' w') a).number
seen r rule b b' c c' m m' k k' w w' a n ruled sizes slices e = rw (ruled, sizes.0, sizes.1, slices.0, slices.1, slices.2) at e

pub returns-in_err-view : goal.returns-in_err-view
returns-in_err-view c =
    let p = err_from_is_err_and c.from_residual.result c.from_residual.ensures.1 in
    rw (p.1, p.2, c.in_err-view.ensures.bad.0) (badly_sized _ _ _ _ _ c.in_err-view.ensures.bad.1)

pub returns-in_err-ruled : goal.returns-in_err-ruled
returns-in_err-ruled c =
    let p = err_from_is_err_and c.from_residual-in_err-ruled.result c.from_residual-in_err-ruled.ensures.1 in
    let s = sized_good _ _ _ _ _ c.in_ok-view.view.sized in
    let e = c.in_ok-view.ensures in
    let good = rw (e.sizes.0, e.sizes.1, e.slices.0, e.slices.1, e.slices.2) at s in
    rw (p.1, p.2, c.in_err-ruled.ensures.0) (unruled _ _ _ _ _ good c.in_err-ruled.ensures.1)

pub returns-in_err-procedure : goal.returns-in_err-procedure
returns-in_err-procedure c =
    let p = err_from_is_err_and c.from_residual-in_err-procedure.result c.from_residual-in_err-procedure.ensures.1 in
    rw (p.1, p.2) (stopped _ _ _ _ _ _ (seen _ _ _ _ _ _ _ _ _ _ _ _ _ _ c.in_ok-ruled.ensures c.in_ok-view.ensures.sizes c.in_ok-view.ensures.slices c.in_err-procedure.ensures.number))

pub store_masks-requires : goal.store_masks-requires
store_masks-requires c =
    let y = accepted_room _ _ _ _ _ (seen _ _ _ _ _ _ _ _ _ _ _ _ _ _ c.in_ok-ruled.ensures c.in_ok-view.ensures.sizes c.in_ok-view.ensures.slices c.in_ok-procedure.ensures.number) in
    (masks_in _ _ _ _ y.0, rw c.in_ok-procedure.ensures.ok (each_weaker (λ p. p < c.args.boards) (λ p. p < 16) (λ p l. omega (arith, l, y.0.few_boards)) _ y.1))

pub store_values-requires : goal.store_values-requires
store_values-requires c =
    let y = accepted_room _ _ _ _ _ (seen _ _ _ _ _ _ _ _ _ _ _ _ _ _ c.in_ok-ruled.ensures c.in_ok-view.ensures.sizes c.in_ok-view.ensures.slices c.in_ok-procedure.ensures.number) in
    (main_in _ _ _ _ y.0, rw c.in_ok-procedure.ensures.ok (each_weaker (λ p. p < c.args.boards) _ (λ p l. copy_in _ _ _ _ y.0 p l) _ y.1))

pub returns : goal.returns
returns c =
    let e = seen _ _ _ _ _ _ _ _ _ _ _ _ _ _ c.in_ok-ruled.ensures c.in_ok-view.ensures.sizes c.in_ok-view.ensures.slices c.in_ok-procedure.ensures.number in
    let y = accepted_room _ _ _ _ _ e in
    let b : EachBoard (λ p. p < c.args.boards) c.in_ok-procedure.procedure = rw c.in_ok-procedure.ensures.ok y.1 in
    let v = rw c.in_ok-procedure.ensures.ok at (c.store_values.ensures _ _ y.0 b) in
    let m = rw c.in_ok-procedure.ensures.ok at (c.store_masks.ensures _ _ _ _ y.0 b) in
    went _ _ _ _ _ _ _ _ _ e v m
