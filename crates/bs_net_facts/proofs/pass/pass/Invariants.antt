use Rattle.bs_net_facts.specs.Marked.{IsBefore}
use Rattle.bs_net_facts.proofs.pass.pass.Given as goal

abbrev pub invariant-cycles : goal.invariant-cycles
invariant-cycles l = IsBefore l.initial.board.net l.block l.cycle l.board l.kept.items
