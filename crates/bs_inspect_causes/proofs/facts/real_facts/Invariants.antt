use Rattle.std.specs.List.{All}
use Rattle.bs_inspect_causes.specs.Accounts.{IsRealIn}
use Rattle.bs_inspect_causes.proofs.facts.real_facts.Given as goal

abbrev pub invariant-facts : goal.invariant-facts
invariant-facts l = All (IsRealIn l.moments) l.real
