use Rattle.std.proofs.Common.{◌≡◌, ◌++◌, take}
use Rattle.bs_inspect_report_texts.specs.Text.{digits}
use Rattle.bs_inspect_report_texts.proofs.cycle.push_digits.Given as goal

abbrev pub invariant-places : goal.invariant-places
invariant-places l = l.text.items ≡ l.initial.text.items ++ digits l.input (take l.place-index l.places)
