use Rattle.std.proofs.Common.{◌∙◌, sym, arith}
use Rattle.bs_flat_nets.proofs.RiseLemmas.{missed_nowhere}
use Rattle.bs_flat_nets.proofs.lookup.number_of_place.Goals as goal

pub returns-then-at-places-clause-none : goal.returns-then-at-places-clause-none
returns-then-at-places-clause-none c =
    missed_nowhere c.args.places.now c.args.starts.now c.min-stop.result c.first_from-at.result c.args.place c.requires.by_node c.min-stop.ensures
    c.first_from-at.ensures (λ lt. absurd (omega (arith, lt, c.if-at-places.true)))

pub returns-else-is_same-clause-none : goal.returns-else-is_same-clause-none
returns-else-is_same-clause-none c =
    missed_nowhere c.args.places.now c.args.starts.now c.min-stop.result c.first_from-at.result c.args.place c.requires.by_node c.min-stop.ensures
    c.first_from-at.ensures (λ lt. sym c.is_same.ensures ∙ c.if-is_same.false)
