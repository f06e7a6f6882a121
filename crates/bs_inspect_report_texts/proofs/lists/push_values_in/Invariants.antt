use Rattle.std.proofs.Common.{◌≡◌, ◌++◌, take}
use Rattle.bs_inspect_report_texts.specs.Lists.{values_in}
use Rattle.bs_inspect_report_texts.proofs.lists.push_values_in.Given as goal

abbrev pub invariant-cands : goal.invariant-cands
invariant-cands l = l.text.items ≡ l.initial.text.items ++ values_in l.places (take l.cand-index l.cands)
