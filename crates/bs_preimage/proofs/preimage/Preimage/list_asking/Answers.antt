use Rattle.std.proofs.Common.{◌+◌, false}
use Rattle.std.specs.Prelude.{length, option_map}
use Rattle.bs_net.specs.Netlist.{circuit}
use Rattle.bs_preimage.specs.Listed.{HasListed}
use Rattle.bs_preimage.specs.Step.{HasMadeStep}
use Rattle.bs_preimage.proofs.AskingLemmas.{asked_so}
use Rattle.bs_preimage.proofs.SeenLemmas.{listed_again, viewed}
use Rattle.bs_preimage.proofs.preimage.Preimage.list_asking.Goals as goal

pub returns-clause-ok : goal.returns-clause-ok
returns-clause-ok g c =
    asked_so _ _ _
    (λ known. HasMadeStep (circuit c.self.inside.net.now) c.self.inside.choice.now c.self.inside.solver c.list_step.new.solver c.args.present.now
    c.args.stored.now (option_map (λ bits. bits.now) c.args.older) known c.args.k c.args.b c.in_ok-listing.listing)
    (λ known. HasListed c.args.self.now
    (viewed (circuit c.self.inside.net.now) c.self.inside.choice.now c.list_step.new.solver.proof (c.self.inside.calls + 1) false)
    c.args.present.now c.args.stored.now (option_map (λ bits. bits.now) c.args.older) known c.args.k c.args.b c.in_ok-listing.listing)
    c.args.k (length c.in_ok-listing.listing.cands) c.in_ok-listing.listing.end
    (λ known made.
    listed_again (circuit c.self.inside.net.now)
    c.self.inside.choice.now c.self.inside.solver.proof c.list_step.new.solver.proof c.args.self.now c.self.inside.failed c.self.inside.calls
    (c.self.inside.calls + 1) c.args.present.now c.args.stored.now (option_map
    (λ bits. bits.now) c.args.older) known c.args.k c.args.b c.in_ok-listing.listing c.self.view_is c.if-self.false made.listed)
    c.in_ok-listing.ensures.ok
