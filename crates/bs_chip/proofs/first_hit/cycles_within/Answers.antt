use Rattle.bs_chip.proofs.IndexLemmas.{cycles_fit, cycles_most}
use Rattle.bs_chip.proofs.first_hit.cycles_within.Goals as goal

pub returns-clause-fit : goal.returns-clause-fit
returns-clause-fit c = cycles_fit c.args.bytes c.args.words c.saturating_add.result c.ranges.bytes.fits c.saturating_add.ensures

pub returns-clause-most : goal.returns-clause-most
returns-clause-most c = cycles_most c.args.bytes c.args.words c.saturating_add.result c.ranges.bytes.fits c.saturating_add.ensures
