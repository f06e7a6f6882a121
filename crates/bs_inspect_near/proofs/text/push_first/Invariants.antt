use Rattle.std.proofs.Common.{map}
use Rattle.bs_inspect_near.specs.Distance.{differs}
use Rattle.bs_inspect_near.specs.Tells.{differing_line}
use Rattle.bs_inspect_near.proofs.TextLemmas.{ToldSo}
use Rattle.bs_inspect_near.proofs.text.push_first.Given as goal

abbrev pub invariant-places : goal.invariant-places
invariant-places l =
    ToldSo (differing_line (map (λ s. s.now) l.keys) l.recorded l.seen) (differs l.recorded l.seen) l.i l.told l.initial.text.items l.text.items
