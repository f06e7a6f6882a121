use Rattle.bs_inspect_why_words.specs.Blocks.{Appends}
use Rattle.bs_inspect_why.specs.Why.{TellsPlaces}
use Rattle.bs_inspect_why.proofs.telling.push_places.Given as goal

abbrev pub invariant-places : goal.invariant-places
invariant-places l =
    Appends (TellsPlaces l.telling.moments.now l.telling.report.now l.telling.few l.telling.stills.now l.telling.accounts.now l.chains l.ordered l.i) l.initial.text.items l.text.items
