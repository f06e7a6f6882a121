use Rattle.std.proofs.Common.{◌≡◌, ◌++◌, take}
use Rattle.bs_inspect_report_texts.specs.Lists.{marks_of}
use Rattle.bs_inspect_report_texts.proofs.lists.push_marks.Given as goal

abbrev pub invariant-places : goal.invariant-places
invariant-places l = l.text.items ≡ l.initial.text.items ++ marks_of l.first l.rest (take l.place-index l.places)
