use Rattle.std.proofs.Common.{◌≡◌, false, drop}
use Rattle.bs_lex.specs.Tokens as spec
use Rattle.bs_lex.proofs.PieceLemmas.{after}
use Rattle.bs_lex.proofs.forms.quoted_size.Given as goal

abbrev pub invariant-bytes : goal.invariant-bytes
invariant-bytes l = after l.at (spec.quoted_size l.taken (drop l.at l.text)) ≡ spec.quoted_size false l.text
