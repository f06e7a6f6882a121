use Rattle.std.proofs.Common.{take}
use Rattle.std.specs.List.{All}
use Rattle.std.specs.Prelude.{IsTrue}
use Rattle.bs_net_facts.specs.Blocks.{is_earlier}
use Rattle.bs_net_facts.proofs.block_check.are_earlier.Given as goal

abbrev pub invariant-facts : goal.invariant-facts
invariant-facts l = All (λ f. IsTrue (is_earlier l.block f)) (take l.fact-index l.given)
