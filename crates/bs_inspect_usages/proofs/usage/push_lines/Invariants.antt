use Rattle.std.proofs.Common.{◌≡◌, ◌++◌, take}
use Rattle.std.specs.List.{flat_map}
use Rattle.bs_bits.specs.Lines.{line}
use Rattle.bs_inspect_usages.proofs.usage.push_lines.Given as goal

abbrev pub invariant-entries : goal.invariant-entries
invariant-entries l = l.text.items ≡ l.initial.text.items ++ flat_map (λ e. line e.1.now) (take l.entry-index l.table)
