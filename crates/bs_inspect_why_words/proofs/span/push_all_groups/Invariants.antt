use Rattle.std.proofs.Common.{◌≡◌, ◌++◌, take}
use Rattle.std.specs.List.{flat_map}
use Rattle.bs_inspect_why_words.specs.Groups.{group_line}
use Rattle.bs_inspect_why_words.proofs.span.push_all_groups.Given as goal

abbrev pub invariant-groups : goal.invariant-groups
invariant-groups l = l.text.items ≡ l.initial.text.items ++ flat_map (group_line l.lead l.spans) (take l.group-index l.groups)
