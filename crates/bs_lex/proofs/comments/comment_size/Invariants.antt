use Rattle.std.proofs.Common.{◌≡◌, drop}
use Rattle.bs_lex.specs.Tokens as spec
use Rattle.bs_lex.proofs.PieceLemmas.{after}
use Rattle.bs_lex.proofs.comments.comment_size.Given as goal

abbrev pub invariant-bytes : goal.invariant-bytes
invariant-bytes l = after l.at (spec.comment_size (drop l.at l.text)) ≡ spec.comment_size l.text
