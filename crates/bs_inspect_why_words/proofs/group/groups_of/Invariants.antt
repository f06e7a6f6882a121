use Rattle.std.proofs.Common.{◌≡◌, take}
use Rattle.bs_inspect_why_words.specs.Groups.{groups_of}
use Rattle.bs_inspect_why_words.proofs.group.groups_of.Given as goal

abbrev pub invariant-reasons : goal.invariant-reasons
invariant-reasons l = l.groups.items ≡ groups_of (take l.reason-index l.reasons)
