use Rattle.std.proofs.Common.{◌≡◌, ◌++◌, map, take}
use Rattle.std.specs.List.{flat_map}
use Rattle.bs_inspect_signature.specs.Proposal.{xor_line}
use Rattle.bs_inspect_signature.proofs.item_lines.push_xors.Given as goal

abbrev pub invariant-items : goal.invariant-items
invariant-items l = l.text.items ≡ l.initial.text.items ++ flat_map (xor_line (map (λ s. s.now) l.keys)) (take l.i l.items)
