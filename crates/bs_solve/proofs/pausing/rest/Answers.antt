use Rattle.bs_solve.proofs.Pausings.{goes_to_rest}
use Rattle.bs_solve.proofs.pausing.rest.Goals as goal

pub returns : goal.returns
returns c =
    goes_to_rest c.args.watch.now c.cancel_to.new.self c.cancel_to.ensures.levels c.cancel_to.ensures.lists c.cancel_to.ensures.back
    c.cancel_to.ensures.same c.cancel_to.ensures.serves
