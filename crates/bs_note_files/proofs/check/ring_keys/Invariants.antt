use Rattle.std.proofs.Common.{◌≡◌, ◌++◌, codes, take}
use Rattle.std.specs.List.{flat_map}
use Rattle.bs_net.specs.Netlist.{parts_of}
use Rattle.bs_note_files.specs.Checks.{ring_piece}
use Rattle.bs_note_files.proofs.check.ring_keys.Given as goal

abbrev pub invariant-gates : goal.invariant-gates
invariant-gates l =
    l.said.items ≡ codes "gates read one another in a ring, by their output nets:" ++ flat_map (ring_piece (parts_of l.raw)) (take l.gate-index l.named)
