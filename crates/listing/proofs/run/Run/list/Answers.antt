-- `list` puts the listing, where there is room. Assumes nothing.
use Rattle.std.proofs.Common.{sym, ◌∙◌}
use borrow.Author.Tests.{leb-true, leb-false}
use Rattle.listing.proofs.PutsLaws.{no_room, room}
use Rattle.listing.proofs.run.Run.list.Goals as goal

pub returns-then-not-fits : goal.returns-then-not-fits
returns-then-not-fits c = no_room _ _ c.args.self.now.told.short (leb-false _ _ (sym c.fits.ensures ∙ c.if-not-fits.true))

pub returns : goal.returns
returns c = room _ _ c.args.self.now.told.short (leb-true _ _ (sym c.fits.ensures ∙ c.if-not-fits.false)) _ _ c.put.ensures.length c.put.ensures.bytes
