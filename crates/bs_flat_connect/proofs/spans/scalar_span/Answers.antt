use Rattle.std.proofs.Common.{◌∙◌, refl}
use Rattle.bs_flat_connect.proofs.SpanLemmas.{one_bit, found_net, scalar_not_in_turn}
use Rattle.bs_flat_connect.proofs.spans.scalar_span.Goals as goal

pub returns-in-Some-clause-some : goal.returns-in-Some-clause-some
returns-in-Some-clause-some c =
    one_bit c.args.keys.now c.in-Some.net.0 c.in-Some.net c.args.name.now c.deref.result.now (c.deref.ensures ∙ c.in_ok-key.ensures) refl
    (found_net c.args.keys.now c.deref.result.now c.in-Some.net c.in-Some.ensures)

pub returns-clause-none : goal.returns-clause-none
returns-clause-none c = scalar_not_in_turn c.args.keys.now c.args.name.now c.deref.result.now (c.deref.ensures ∙ c.in_ok-key.ensures) c.in-None.ensures
