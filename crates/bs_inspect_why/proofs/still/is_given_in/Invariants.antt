use Rattle.std.proofs.Common.{◌≡◌, false, take}
use Rattle.std.specs.List.{list_any}
use Rattle.bs_net_facts.specs.declared.fact.Fact.{Fact}
use Rattle.bs_inspect_why.specs.Stills.{covers}
use Rattle.bs_inspect_why.proofs.still.is_given_in.Given as goal

abbrev pub invariant-given : goal.invariant-given
invariant-given l = list_any (λ (f : Fact). covers f l.still) (take l.fact-index l.given) ≡ false
