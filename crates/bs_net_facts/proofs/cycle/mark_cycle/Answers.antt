use Rattle.bs_net_facts.proofs.CycleLemmas.{stays_all}
use Rattle.bs_net_facts.proofs.cycle.mark_cycle.Goals as goal

pub returns : goal.returns
returns c =
    stays_all c.args.block.now c.args.kept.now c.args.cycle c.slice.result.now c.args.board.now c.put_kept.new.board c.put_given.new.board
    c.put_begun.new.board c.put_gates.new.board c.slice.ensures c.in_ok-put_kept.ensures c.in_ok-next.ensures c.in_ok-put_begun.ensures
    c.in_ok-put_gates.ensures
