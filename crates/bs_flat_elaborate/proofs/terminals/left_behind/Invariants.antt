use Rattle.std.proofs.Common.{◌≡◌, ◌+◌, take}
use Rattle.std.specs.List.{sum_by}
use Rattle.bs_flat_elaborate.specs.Terminals.{gate_terminals}
use Rattle.bs_flat_elaborate.proofs.terminals.left_behind.Given as goal

abbrev pub invariant-gates : goal.invariant-gates
invariant-gates l = l.left + sum_by gate_terminals (take l.gate-index l.gates) ≡ l.room
