use Rattle.std.proofs.Common.{◌≡◌, ◌++◌, take}
use Rattle.std.specs.List.{flat_map}
use Rattle.bs_inspect_why_words.specs.Groups.{span_words}
use Rattle.bs_inspect_why_words.proofs.span.push_all_spans.Given as goal

abbrev pub invariant-spans : goal.invariant-spans
invariant-spans l = l.text.items ≡ l.initial.text.items ++ flat_map span_words (take l.span-index l.spans)
