use Rattle.std.proofs.Common.{arith}
use Rattle.bs_outside.proofs.Counting.{counts_all}
use Rattle.bs_outside.proofs.files.FileShelfShelf.fetch.Goals as goal

pub returns-clause-cause : goal.returns-clause-cause
returns-clause-cause g c =
    counts_all c.args.self.now c.fetch_with_reason.new.faults _ _ (cc (c.self.view_is, c.fetch_with_reason.ensures.counts))
    (omega (arith, c.self.view_is, c.fetch_with_reason.ensures.later))
