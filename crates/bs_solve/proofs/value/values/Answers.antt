use Rattle.std.proofs.Common.{subst, sym}
use Rattle.bs_watch.specs.Places.{literals_of}
use Rattle.bs_solve_lemmas.specs.Values.{HasValues}
use Rattle.bs_solve.proofs.ValueLemmas.{shown}
use Rattle.bs_solve.proofs.value.values.Goals as goal

pub returns : goal.returns
returns c =
    subst (HasValues (literals_of c.args.watch.now.trail.places) c.args.vars) (sym c.new.ensures)
    (shown c.values-trues.result.now c.args.watch.now.trail c.span-span.result c.args.vars c.in_ok-front.front.items c.in_ok-back.back.items
    c.requires.vars c.values-trues.ensures.values c.holds_levels.ensures.apart c.span-span.ensures c.in_ok-front.ensures c.in_ok-back.ensures)
