use Rattle.std.proofs.Common.{◌≡◌, ◌++◌, take, reverse}
use Rattle.bs_inspect_report_texts.specs.Text.{digits}
use Rattle.bs_inspect_report_texts.proofs.cycle.push_reversed.Given as goal

abbrev pub invariant-places : goal.invariant-places
invariant-places l = l.text.items ≡ l.initial.text.items ++ digits l.input (take l.i (reverse l.places))
