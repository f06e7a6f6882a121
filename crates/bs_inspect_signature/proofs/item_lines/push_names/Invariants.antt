use Rattle.std.proofs.Common.{◌≡◌, ◌++◌, map, take}
use Rattle.std.specs.List.{flat_map}
use Rattle.bs_inspect_signature.specs.Proposal.{name_words}
use Rattle.bs_inspect_signature.proofs.item_lines.push_names.Given as goal

abbrev pub invariant-flops : goal.invariant-flops
invariant-flops l = l.text.items ≡ l.initial.text.items ++ flat_map (name_words (map (λ s. s.now) l.keys)) (take l.i l.item)
