use Rattle.std.proofs.Common.{arith}
use Rattle.bs_net_facts.proofs.CycleLemmas.{stays_kept}
use Rattle.bs_net_facts.proofs.cycle.put_kept.Goals as goal

pub kept-preserved : goal.kept-preserved
kept-preserved c =
    stays_kept c.args.kept.now c.args.board.now c.kept.board c.put.new.self c.kept.one-index _ (omega (arith, c.kept-test.true))
    c.kept.invariant c.put.ensures.net c.in_ok-put.ensures.put
