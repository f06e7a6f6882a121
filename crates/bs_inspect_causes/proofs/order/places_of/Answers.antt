use Rattle.std.proofs.Common.{◌≡◌, length, ap, ◌∙◌, arith}
use Rattle.bs_inspect_causes.specs.Chains.{places_of}
use Rattle.bs_inspect_causes.proofs.OrderLemmas.{places_more}
use Rattle.bs_inspect_causes.proofs.order.places_of.Goals as goal

pub chains-preserved : goal.chains-preserved
chains-preserved c =
    places_more c.args.accounts.now c.args.chains.now c.chains.i c.place_of.result c.chains.places.items c.push.new.self.items c.place_of.ensures
    c.chains.invariant c.in_ok-push.ensures.items

pub returns : goal.returns
returns c =
    let all : c.chains.i ≡ length c.args.chains.now = omega (arith, c.chains-test.false, c.chains.auto.i-end) in
    c.chains.invariant ∙ ap (places_of c.args.accounts.now c.args.chains.now) all
