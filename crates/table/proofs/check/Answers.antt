-- `check`: the outer loop has passed sound cells only, and the inner one boards at which the cell is sound. Assumes nothing.
use Rattle.std.proofs.Common.{◌≡◌, ℕ, List, ◌<◌, ◌≤◌, sym, ◌∙◌, arith}
use Rattle.std.specs.Prelude.{Option, Ok}
use Rattle.std.proofs.lemmas.Result.{err_from_is_err_and}
use Rattle.protocol.specs.declared.Rule.{Rule}
use Rattle.protocol.specs.Names.{rule_number}
use Rattle.protocol.specs.Slices.{table_of}
use Rattle.table.specs.Code.{Sized, Ready}
use Rattle.table.specs.Statements.{Checks}
use Rattle.table.proofs.SizeLaws.{sized_good}
use Rattle.table.proofs.ReadyLaws.{ready}
use Rattle.table.proofs.SoundLaws.{masks_below, unsound_masks, unsound_copy, all_boards}
use Rattle.protocol.proofs.Unique.{low_number}
use Rattle.table.proofs.CheckLaws.{left_from, left_step, left_stop, left_end, refused_1, refused_2, found}
use Rattle.table.proofs.check.Goals as goal

-- a cell of a view
at : (boards cells : ℕ) (m k w : List ℕ) → Sized boards cells m k w → (cell : ℕ) → cell < cells → Ready boards cells cell (table_of m k w)
at boards cells m k w s cell l = ready boards cells (table_of m k w) (sized_good boards cells m k w s) cell l

-- what was found in a view is found in what it was made of
seen : (r : Rule) (rule b b' c c' : ℕ) (m m' k k' w w' : List ℕ) → rule_number r ≡ rule → Sized b c m k w → (b ≡ b') × (c ≡ c') → (m ≡ m') × (k ≡ k') × (w ≡ w') →
    (o : Option ℕ) → o ≡ left_from (rule_number r) b c (table_of m k w) 0 → Checks b' c' (table_of m' k' w') rule (Ok o)
seen r rule b b' c c' m m' k k' w w' n s sizes slices o e =
    rw (n, sizes.0, sizes.1, slices.0, slices.1, slices.2) at (found (rule_number r) b c (table_of m k w) (sized_good b c m k w s) (low_number r) o e)

pub returns-in_err-view : goal.returns-in_err-view
returns-in_err-view c =
    let p = err_from_is_err_and c.from_residual.result c.from_residual.ensures.1 in
    rw (p.1, p.2, c.in_err-view.ensures.bad.0) (refused_1 _ _ _ _ c.in_err-view.ensures.bad.1)

pub returns-in_err-ruled : goal.returns-in_err-ruled
returns-in_err-ruled c =
    let p = err_from_is_err_and c.from_residual-in_err-ruled.result c.from_residual-in_err-ruled.ensures.1 in
    let s = sized_good _ _ _ _ _ c.in_ok-view.view.sized in
    let e = c.in_ok-view.ensures in
    rw (p.1, p.2, c.in_err-ruled.ensures.0) (refused_2 _ _ _ _ (rw (e.sizes.0, e.sizes.1, e.slices.0, e.slices.1, e.slices.2) at s) c.in_err-ruled.ensures.1)

pub current-now-requires : goal.current-now-requires
current-now-requires c = masks_below _ _ _ _ _ (sym c.are_sound.ensures ∙ c.if-not-are_sound.false)

pub cells-preserved : goal.cells-preserved
cells-preserved c =
    let i = c.boards.invariant in
    let e : c.in_ok-view.view.boards ≤ c.boards.board = c.boards-test.false in
    let y = at _ _ _ _ _ c.in_ok-view.view.sized _ c.cells-test.true in
    let s = all_boards _ _ _ _ _ (low_number _) y _ _ _ c.masks-m.ensures (sym c.are_sound.ensures ∙ c.if-not-are_sound.false) _ c.current-now.ensures (λ p l. i.passed p (omega (arith, l, e))) in
    record { nothing = i.nothing; passed = c.cells.invariant.passed ∙ left_step _ _ _ _ _ c.cells-test.true s }

pub returns-after-cells : goal.returns-after-cells
returns-after-cells c =
    let j = c.cells.invariant in
    seen _ _ _ _ _ _ _ _ _ _ _ _ c.in_ok-ruled.ensures c.in_ok-view.view.sized c.in_ok-view.ensures.sizes c.in_ok-view.ensures.slices _ (j.nothing ∙ sym (left_end _ _ _ _ _ c.cells-test.false) ∙ sym j.passed)

pub returns-then-not-are_sound : goal.returns-then-not-are_sound
returns-then-not-are_sound c =
    let s = unsound_masks _ _ _ _ _ (low_number _) (at _ _ _ _ _ c.in_ok-view.view.sized _ c.cells-test.true) _ _ _ c.masks-m.ensures (sym c.are_sound.ensures ∙ c.if-not-are_sound.true) in
    seen _ _ _ _ _ _ _ _ _ _ _ _ c.in_ok-ruled.ensures c.in_ok-view.view.sized c.in_ok-view.ensures.sizes c.in_ok-view.ensures.slices _ (sym (left_stop _ _ _ _ _ c.cells-test.true s) ∙ sym c.cells.invariant.passed)

pub returns-then-not-copy_sound : goal.returns-then-not-copy_sound
returns-then-not-copy_sound c =
    let s =
    unsound_copy _ _ _ _ _ (low_number _) (at _ _ _ _ _ c.in_ok-view.view.sized _ c.cells-test.true) _ _ _ c.masks-m.ensures (sym c.are_sound.ensures ∙ c.if-not-are_sound.false) _ c.current-now.ensures _ c.boards-test.true
    (rw c.copy-copy.ensures at (sym c.copy_sound.ensures ∙ c.if-not-copy_sound.true))
    in
    seen _ _ _ _ _ _ _ _ _ _ _ _ c.in_ok-ruled.ensures c.in_ok-view.view.sized c.in_ok-view.ensures.sizes c.in_ok-view.ensures.slices _ (sym (left_stop _ _ _ _ _ c.cells-test.true s) ∙ sym c.cells.invariant.passed)
