-- `list` lends a table of the file's sizes, and room for the answers of 4,096 records. Assumes nothing.
use Rattle.std.proofs.Common.{◌≡◌, refl, sym, ◌∙◌, arith}
use lib.Seq.{length-take-le}
use Rattle.protocol.proofs.ReplyLaws.{not_accepted}
use Rattle.sessions.specs.Statements.{run_reply}
use Rattle.listing.specs.Listing.{refusal_of}
use Rattle.listing.proofs.LentLaws.{few_cells, few_copies, few_masks, sized, refused_alike, run_told}
use Rattle.listing.proofs.PutsLaws.{lists_refused, lists_run}
use Rattle.listing.proofs.list.Goals.{After-run-told}
use Rattle.listing.proofs.list.Goals as goal

pub slice_bounds-copies-end : goal.slice_bounds-copies-end
slice_bounds-copies-end c = few_copies _ _ c.head_of-head.ensures _ _ c.min-boards.ensures c.min-cells.ensures

pub slice_bounds-run-end-2 : goal.slice_bounds-run-end-2
slice_bounds-run-end-2 c = sym (length-take-le _ _ (few_copies _ _ c.head_of-head.ensures _ _ c.min-boards.ensures c.min-cells.ensures))

-- the run is refused as the reader refuses
number : (c : After-run-told) → (run_reply c.run-told.result).number ≡ refusal_of c.args.file.now
number c =
    let head = c.head_of-head.ensures in
    let boards = c.min-boards.ensures in
    let cells = c.min-cells.ensures in
    let main = few_cells _ _ head _ _ boards cells in
    let copies = few_copies _ _ head _ _ boards cells in
    let masks = few_masks _ _ head _ _ boards cells in
    c.run-told.ensures.number_is
    ∙ refused_alike _ _ _ _ (sized _ _ head _ _ boards cells _ _ _ (length-take-le _ _ main) (length-take-le _ _ copies) (length-take-le _ _ masks)) (omega arith) (omega arith)

pub invariant_of-list : goal.invariant_of-list
invariant_of-list c =
    let e = number (goal.at.invariant_of-list c).After-run-told in
    let told = c.run-told in
    record { told = run_told _ _ _ _ _ _ _ _ (rw c.in-Ok.is at told.ensures) refl (sym (rw c.in-Ok.is at e)) (λ i h. omega (arith, c.type_inv.file i)) _ c.head_of-head.ensures (omega (arith, told.auto.numbers)) (omega (arith, told.auto.values)) }

pub returns-in-Ok : goal.returns-in-Ok
returns-in-Ok c = let e = number (goal.at.returns-in-Ok c).After-run-told in lists_run _ _ _ _ (sym (rw c.in-Ok.is at e)) c.list.ensures

pub returns-in-Err : goal.returns-in-Err
returns-in-Err c = let e = number (goal.at.returns-in-Err c).After-run-told in lists_refused _ _ _ _ _ (rw c.in-Err.is at e) (not_accepted _) c.list-in-Err.ensures
