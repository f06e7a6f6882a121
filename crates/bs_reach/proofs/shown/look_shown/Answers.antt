use Rattle.bs_reach.proofs.shown.look_shown.Goals as goal

pub tell_shown-requires-clause-run : goal.tell_shown-requires-clause-run
tell_shown-requires-clause-run c = rw c.in-Some.is at c.in_ok-found.ensures
