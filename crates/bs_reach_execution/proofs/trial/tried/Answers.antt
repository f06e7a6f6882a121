use Rattle.std.proofs.Common.{◌≡◌, List, Bool, length, subst, arith}
use Rattle.std.specs.Prelude.{All}
use Rattle.bs_net.specs.Netlist.{circuit}
use Rattle.bs_reach_execution.proofs.TrialLemmas.{is_execution}
use Rattle.bs_reach_execution.proofs.trial.tried.Goals as goal

pub returns : goal.returns
returns c =
    is_execution (circuit c.args.net.now) c.args.cycles c.args.state.now c.in_ok-states.states c.args.inputs
    (omega (arith, c.if-len-cycles.false, c.len.ensures))
    (subst (All (λ (x : List Bool). length x ≡ length (circuit c.args.net.now).inputs)) c.slice.ensures c.if-not-are_wide.ensures)
    c.in_ok-states.ensures (c.in_ok-there.ensures c.if-not-there.false)
