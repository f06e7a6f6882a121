use Rattle.std.proofs.Common.{◌≡◌, ◌++◌, take}
use Rattle.bs_inspect_html.specs.Escapes.{html_escaped}
use Rattle.bs_inspect_html.proofs.escape.push_escaped.Given as goal

abbrev pub invariant-bytes : goal.invariant-bytes
invariant-bytes l = l.text.items ≡ l.initial.text.items ++ html_escaped (take l.byte-index l.content)
