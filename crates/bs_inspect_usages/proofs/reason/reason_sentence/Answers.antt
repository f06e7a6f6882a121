use Rattle.std.proofs.Common.{ℕ, List, map, ap, ◌∙◌}
use Rattle.std.specs.Prelude.{string_bytes}
use Rattle.bs_inspect_usages.specs.Usages.{reason_for}
use Rattle.bs_inspect_usages.proofs.reason.reason_sentence.Goals as goal

pub returns : goal.returns
returns c = c.in_ok-said.ensures ∙ ap (λ (w : List ℕ). reason_for w (map string_bytes c.args.words.now)) c.word_or-command.ensures
