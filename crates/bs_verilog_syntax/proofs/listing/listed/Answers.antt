use Rattle.std.proofs.lemmas.Result.{err_from_is_err_and}
use Rattle.bs_verilog_syntax.proofs.ListingLemmas.{goes_on, at_end, fault_in}
use Rattle.bs_verilog_syntax.proofs.listing.listed.Goals as goal

pub returns-in_err-one-clause-reads : goal.returns-in_err-one-clause-reads
returns-in_err-one-clause-reads g c =
    let p = err_from_is_err_and c.from_residual.result c.from_residual.ensures.1 in
    rw (p.1, p.2) (fault_in (g.R.Reader.reading c.args.reader.now) c.members.items.items c.members.rest.now c.args.ts.now _ c.members.invariant
    c.in_err-one.ensures.reads)

pub members-preserved : goal.members-preserved
members-preserved g c =
    rw c.in_ok-push.ensures.items (goes_on (g.R.Reader.reading c.args.reader.now) c.members.items.items c.members.rest.now
    c.in_ok-one.after.now c.in-Some.next.now c.args.ts.now c.in_ok-one.one c.members.invariant c.in_ok-one.ensures.reads c.in_ok-one.ensures.within
    c.in-Some.ensures)

pub returns-in-None-clause-reads : goal.returns-in-None-clause-reads
returns-in-None-clause-reads g c =
    rw (c.of.ensures, c.shrink_to_fit.ensures.items, c.in_ok-push.ensures.items) (at_end (g.R.Reader.reading c.args.reader.now) c.members.items.items
    c.members.rest.now c.in_ok-one.after.now c.args.ts.now c.in_ok-one.one c.members.invariant c.in_ok-one.ensures.reads c.in-None.ensures)
