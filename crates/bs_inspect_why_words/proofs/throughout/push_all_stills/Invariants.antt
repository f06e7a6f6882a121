use Rattle.std.proofs.Common.{◌≡◌, ◌++◌, take}
use Rattle.std.specs.List.{flat_map}
use Rattle.bs_inspect_why_words.specs.Throughout.{still_line}
use Rattle.bs_inspect_why_words.proofs.throughout.push_all_stills.Given as goal

abbrev pub invariant-reasons : goal.invariant-reasons
invariant-reasons l = l.text.items ≡ l.initial.text.items ++ flat_map still_line (take l.reason-index l.reasons)
