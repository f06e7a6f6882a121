use Rattle.bs_gen.proofs.DrawLemmas.{after_two, after_three}
use Rattle.bs_gen.proofs.gates.push_drawn_gate.Goals as goal

pub returns-clause-text : goal.returns-clause-text
returns-clause-text c =
    let two = after_two c.args.draws.now c.pick-kind.new.self c.pick-first.new.self c.pick-kind.ensures.rest c.pick-first.ensures.rest in
    rw (← two, ← c.pick-kind.ensures.rest, ← c.pick-kind.ensures.value, ← c.pick-first.ensures.value, ← c.pick-second.ensures.value) c.push_gate.ensures

pub returns-clause-draws : goal.returns-clause-draws
returns-clause-draws c =
    after_three c.args.draws.now c.pick-kind.new.self c.pick-first.new.self c.pick-second.new.self
    c.pick-kind.ensures.rest c.pick-first.ensures.rest c.pick-second.ensures.rest
