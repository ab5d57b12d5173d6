-- `judge` answers the first refusal whose condition holds. Assumes nothing.
use Rattle.std.proofs.Common.{◌≡◌, ℕ, List, ◌<◌, false, sym, ◌∙◌}
use Rattle.std.specs.Prelude.{Ok}
use Rattle.std.proofs.lemmas.Result.{err_from_is_err_and}
use Rattle.protocol.specs.declared.Action.{Action}
use Rattle.protocol.specs.declared.Proc.{Proc}
use Rattle.protocol.specs.declared.Rule.{Rule}
use Rattle.protocol.specs.Names.{rule_number}
use Rattle.protocol.specs.Slices.{table_of}
use Rattle.protocol.specs.Step.{off_board}
use Rattle.protocol.proofs.RefusalOrder.{answers_5, answers_6}
use Rattle.table.specs.Code.{Sized, Names}
use Rattle.table.proofs.SizeLaws.{sized_good}
use Rattle.table.proofs.SoundLaws.{masks_below}
use Rattle.protocol.proofs.Unique.{low_number}
use Rattle.table.proofs.ActionLaws.{unformed, Cleared, cleared_boards, cleared_named, cleared_masks, cleared_copies, cleared_guard}
use Rattle.table.proofs.action.judge.Goals as goal

-- past the sixth test
past : (r : Rule) (boards cells : ℕ) (m k w : List ℕ) (a : Action) (p : Proc) → Sized boards cells m k w → Names (rule_number r) a (Ok p) → off_board boards a ≡ false → a.cell < cells →
    Cleared (rule_number r) boards cells (table_of m k w) a
past r boards cells m k w a p s n b l = record { sizes = sized_good _ _ _ _ _ s; ruled = low_number r; formed = n.0; there = n.1; boarded = b; inside = l }

pub returns-in_err-procedure-clause-number : goal.returns-in_err-procedure-clause-number
returns-in_err-procedure-clause-number c =
    let p = err_from_is_err_and c.from_residual.result c.from_residual.ensures.1 in
    rw (p.1, p.2) (unformed _ _ _ _ _ (sized_good _ _ _ _ _ c.args.view.now.sized) (low_number _) _ c.in_err-procedure.ensures)

pub returns-then-off_board-clause-number : goal.returns-then-off_board-clause-number
returns-then-off_board-clause-number c = let n = c.in_ok-procedure.ensures in (sym ((answers_5 _ _ _ _ _).1 (sized_good _ _ _ _ _ c.args.view.now.sized, low_number _, n.0, n.1, sym c.off_board.ensures ∙ c.if-off_board.true)))

pub returns-then-number-view-clause-number : goal.returns-then-number-view-clause-number
returns-then-number-view-clause-number c = let n = c.in_ok-procedure.ensures in (sym ((answers_6 _ _ _ _ _).1 (sized_good _ _ _ _ _ c.args.view.now.sized, low_number _, n.0, n.1, sym c.off_board.ensures ∙ c.if-off_board.false, c.if-number-view.true)))

pub returns-then-not-are_sound-clause-number : goal.returns-then-not-are_sound-clause-number
returns-then-not-are_sound-clause-number c =
    let k = past _ _ _ _ _ _ _ _ c.args.view.now.sized c.in_ok-procedure.ensures (sym c.off_board.ensures ∙ c.if-off_board.false) c.if-number-view.false in
    (cleared_masks _ _ _ _ _ k _ _ _ c.masks-m.ensures (sym c.are_sound.ensures ∙ c.if-not-are_sound.true))

pub current-now-requires : goal.current-now-requires
current-now-requires c = masks_below _ _ _ _ _ (sym c.are_sound.ensures ∙ c.if-not-are_sound.false)

pub returns-then-not-copies_sound-clause-number : goal.returns-then-not-copies_sound-clause-number
returns-then-not-copies_sound-clause-number c =
    let k = past _ _ _ _ _ _ _ _ c.args.view.now.sized c.in_ok-procedure.ensures (sym c.off_board.ensures ∙ c.if-off_board.false) c.if-number-view.false in
    (cleared_copies _ _ _ _ _ k _ _ _ c.masks-m.ensures (sym c.are_sound.ensures ∙ c.if-not-are_sound.false) _ c.current-now.ensures (sym c.copies_sound.ensures ∙ c.if-not-copies_sound.true))

pub copy-copy-requires : goal.copy-copy-requires
copy-copy-requires c =
    let k = past _ _ _ _ _ _ _ _ c.args.view.now.sized c.in_ok-procedure.ensures (sym c.off_board.ensures ∙ c.if-off_board.false) c.if-number-view.false in
    (cleared_boards _ _ _ _ _ k).0

pub guard-requires : goal.guard-requires
guard-requires c =
    let k = past _ _ _ _ _ _ _ _ c.args.view.now.sized c.in_ok-procedure.ensures (sym c.off_board.ensures ∙ c.if-off_board.false) c.if-number-view.false in
    cleared_named _ _ _ _ _ k _ c.in_ok-procedure.ensures.2

pub returns-in_err-guard-clause-number : goal.returns-in_err-guard-clause-number
returns-in_err-guard-clause-number c =
    let k = past _ _ _ _ _ _ _ _ c.args.view.now.sized c.in_ok-procedure.ensures (sym c.off_board.ensures ∙ c.if-off_board.false) c.if-number-view.false in
    let p = err_from_is_err_and c.from_residual-in_err-guard.result c.from_residual-in_err-guard.ensures.1 in
    rw (p.1, p.2)
    (cleared_guard _ _ _ _ _ k _ _ _ c.masks-m.ensures (sym c.are_sound.ensures ∙ c.if-not-are_sound.false) _ c.current-now.ensures (sym c.copies_sound.ensures ∙ c.if-not-copies_sound.false) _ c.copy-copy.ensures _ c.in_ok-procedure.ensures.2 _ c.in_err-guard.ensures)

pub returns-clause-number : goal.returns-clause-number
returns-clause-number c =
    let k = past _ _ _ _ _ _ _ _ c.args.view.now.sized c.in_ok-procedure.ensures (sym c.off_board.ensures ∙ c.if-off_board.false) c.if-number-view.false in
    (cleared_guard _ _ _ _ _ k _ _ _ c.masks-m.ensures (sym c.are_sound.ensures ∙ c.if-not-are_sound.false) _ c.current-now.ensures (sym c.copies_sound.ensures ∙ c.if-not-copies_sound.false) _ c.copy-copy.ensures _ c.in_ok-procedure.ensures.2 _ c.in_ok-guard.ensures)
