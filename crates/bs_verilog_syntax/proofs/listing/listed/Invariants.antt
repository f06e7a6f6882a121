use Rattle.std.proofs.Common.{length}
use Rattle.bs_verilog_syntax.proofs.ListingLemmas.{IsListed}
use Rattle.bs_verilog_syntax.proofs.listing.listed.Given as goal

abbrev pub invariant-members : goal.invariant-members
invariant-members g l = IsListed (g.R.Reader.reading l.reader) l.items.items l.rest l.ts

abbrev pub decreases-members : goal.decreases-members
decreases-members g l = length l.rest
