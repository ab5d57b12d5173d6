-- a tenth of the number is smaller. Assumes nothing.
use Rattle.listing.proofs.decimal.+put.Given as goal

abbrev pub decreases-put : goal.decreases-put
decreases-put l = l.n
