-- A buffer of 38,922 bytes is too long for a cut to show. Assumes nothing.
use Rattle.std.proofs.Common.{length, sym, ap, ◌∙◌}
use Rattle.listing.specs.Listing.{listing_of}
use Rattle.listing.proofs.Cut.{cut_lists_alike}
use Rattle.session.proofs.first_bytes.Goals as goal

pub returns-clause-alike : goal.returns-clause-alike
returns-clause-alike c = λ file e. ap listing_of (sym e) ∙ cut_lists_alike (length c.args.buffer.now) file c.requires.long
