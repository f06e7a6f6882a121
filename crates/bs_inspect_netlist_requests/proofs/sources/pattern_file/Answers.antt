use Rattle.std.proofs.Common.{ℕ, List, [], Option, ap}
use Rattle.std.specs.Option.{unwrap_or}
use Rattle.bs_inspect_netlist_requests.proofs.sources.pattern_file.Goals as goal

pub returns-in-Some : goal.returns-in-Some
returns-in-Some c = ap (λ (o : Option (List ℕ)). unwrap_or o []) c.in-Some.ensures

pub returns-in-None : goal.returns-in-None
returns-in-None c = ap (λ (o : Option (List ℕ)). unwrap_or o []) c.in-None.ensures
