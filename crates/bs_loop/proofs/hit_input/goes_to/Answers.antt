use Rattle.std.proofs.Common.{arith}
use Rattle.bs_loop.proofs.HitInputLemmas.{goes_not, goes_shows}
use Rattle.bs_loop.proofs.hit_input.goes_to.Goals as goal

pub shows_at-requires : goal.shows_at-requires
shows_at-requires c =
    let less = c.if-cycle-cycles.true in
    let many = c.in_ok-cycles.ensures in
    record { from_one = c.requires.from_one; recorded = c.requires.recorded; lasts = omega (arith, less, many) }

pub returns-then-cycle-cycles-clause-goes : goal.returns-then-cycle-cycles-clause-goes
returns-then-cycle-cycles-clause-goes c =
    goes_shows c.args.chip.now.recording c.args.present.now c.args.run c.args.cycle c.in_ok-cycles.cycles c.in_ok-shows.shows c.in_ok-cycles.ensures
    c.if-cycle-cycles.true c.in_ok-shows.ensures.shows

pub returns-clause-goes : goal.returns-clause-goes
returns-clause-goes c =
    goes_not c.args.chip.now.recording c.args.present.now c.args.run c.args.cycle c.in_ok-cycles.cycles c.in_ok-cycles.ensures
    (λ less. omega (arith, less, c.if-cycle-cycles.false))
