use Rattle.std.proofs.Common.{◌≡◌, ◌++◌, take, codes}
use Rattle.std.specs.List.{flat_map}
use Rattle.bs_net.specs.Netlist.{parts_of}
use Rattle.bs_top_files.specs.Refusals.{gate_piece}
use Rattle.bs_top_files.proofs.refusals.loop_words.Given as goal

abbrev pub invariant-gates : goal.invariant-gates
invariant-gates l = l.why.items ≡ codes "Loop" ++ flat_map (gate_piece (parts_of l.raw)) (take l.gate-index l.gates)
