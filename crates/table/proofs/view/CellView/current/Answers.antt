-- `current` is the dirty copy if there is one, else main. Assumes nothing.
use Rattle.std.proofs.Common.{sym}
use borrow.Author.Tests.{ne_eqb}
use Rattle.table.specs.Code.{current_at}
use Rattle.table.proofs.ReadyLaws.{lowest_in}
use Rattle.table.proofs.view.CellView.current.Goals as goal

pub copy-requires : goal.copy-requires
copy-requires c = rw c.in-Some.ensures.1 (lowest_in _ _ c.requires c.in-Some.ensures.0)

pub returns-in-None : goal.returns-in-None
unfolding current_at
returns-in-None c = rw c.in-None.ensures

pub returns-in-Some : goal.returns-in-Some
unfolding current_at
returns-in-Some c = rw (ne_eqb _ _ c.in-Some.ensures.0, sym c.in-Some.ensures.1) c.copy.ensures
