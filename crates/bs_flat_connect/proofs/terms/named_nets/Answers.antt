use Rattle.bs_flat_connect.proofs.WireLemmas.{tells_declared, tells_undeclared}
use Rattle.bs_flat_connect.proofs.terms.named_nets.Goals as goal

pub returns-in_ok-nets-in-Some : goal.returns-in_ok-nets-in-Some
returns-in_ok-nets-in-Some c =
    tells_declared c.args.table.now c.args.wiring.now c.args.name c.args.index c.in-Some.says c.first-span.result c.text-text.result.now
    c.in_ok-nets-in-Some.nets c.in-Some.ensures c.first-span.ensures c.text-text.ensures c.in_ok-nets-in-Some.ensures

pub returns-in_ok-net-in-None : goal.returns-in_ok-net-in-None
returns-in_ok-net-in-None c =
    tells_undeclared c.args.table.now c.args.wiring.now c.args.name c.args.index c.text-text.result.now c.in_ok-net-in-None.net
    c.in-None.ensures c.text-text.ensures c.in_ok-net-in-None.ensures
