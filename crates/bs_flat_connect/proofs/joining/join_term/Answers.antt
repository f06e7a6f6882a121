use Rattle.std.proofs.Common.{Result, sym, subst}
use Rattle.bs_flat_nets.specs.declared.blocks.JoinedNets.{JoinedNets}
use Rattle.bs_flat_connect.specs.declared.fault.Fault.{Fault}
use Rattle.bs_flat_connect.specs.Joining.{JoinsTerm}
use Rattle.bs_flat_connect.proofs.JoinLemmas.{term_joined}
use Rattle.bs_flat_connect.proofs.joining.join_term.Goals as goal

pub returns : goal.returns
returns c =
    subst (λ (r : Result JoinedNets Fault). JoinsTerm c.args.table.now c.args.wiring.now c.args.port c.args.term r) (sym c.run_for.ensures)
    (term_joined c.args.table.now c.args.wiring.now c.args.port c.args.term c.in_ok-found.found c.in_ok-found.ensures)
