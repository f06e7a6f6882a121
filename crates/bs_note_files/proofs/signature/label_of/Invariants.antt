use Rattle.std.proofs.Common.{◌≡◌, ◌++◌, codes, take}
use Rattle.std.specs.List.{flat_map}
use Rattle.bs_net.specs.Netlist.{parts_of}
use Rattle.bs_note_files.specs.Signatures.{key_piece}
use Rattle.bs_note_files.proofs.signature.label_of.Given as goal

abbrev pub invariant-flops : goal.invariant-flops
invariant-flops l = l.label.items ≡ codes "the nearest keys of flip-flops:" ++ flat_map (key_piece (parts_of l.raw)) (take l.flop-index l.flops)
