use Rattle.std.proofs.Common.{ℕ, List, ◌++◌, ap, ◌∙◌}
use Rattle.bs_inspect_html.specs.Style.{rules_text}
use Rattle.bs_inspect_html.proofs.PieceLemmas.{on_ok}
use Rattle.bs_inspect_html.proofs.style.push_style.Goals as goal

pub returns : goal.returns
unfolding rules_text
returns c =
    on_ok c.push_piece.result (λ e. e ∙ ap (λ (t : List ℕ). c.args.text.now.items ++ t) c.as_bytes.ensures.value) c.push_piece.ensures.ok
