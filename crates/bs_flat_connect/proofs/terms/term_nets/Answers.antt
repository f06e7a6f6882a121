use Rattle.bs_flat_connect.proofs.WireLemmas.{tells_constant}
use Rattle.bs_flat_connect.proofs.terms.term_nets.Goals as goal

pub returns-in_ok-net-in-Constant : goal.returns-in_ok-net-in-Constant
returns-in_ok-net-in-Constant c =
    tells_constant c.args.table.now c.args.wiring.now c.args.term c.in-Constant.field-0 c.in-Constant.bit c.in_ok-net-in-Constant.net c.in-Constant.is
    c.in_ok-net-in-Constant.ensures
