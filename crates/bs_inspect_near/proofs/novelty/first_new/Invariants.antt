use Rattle.bs_inspect_near.specs.Known.{NoneNew}
use Rattle.bs_inspect_near.proofs.novelty.first_new.Given as goal

abbrev pub invariant-states : goal.invariant-states
invariant-states l = NoneNew l.own l.places l.values l.i
