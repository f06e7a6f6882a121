use Rattle.std.proofs.Common.{sym, ◌∙◌}
use Rattle.bs_vcd_header.proofs.TokenLemmas.{first_token}
use Rattle.bs_vcd_header.proofs.token.next_token.Goals as goal

pub returns-clause-tokens : goal.returns-clause-tokens
returns-clause-tokens c =
    first_token c.args.line _ c.args.text.now _ _ _ _
    c.skip_white-spot.ensures.same c.skip_white-spot.ensures.begun (sym c.is_empty.ensures ∙ c.if-is_empty.false)
    c.word_end.ensures.within c.word_end.ensures.before c.word_end.ensures.ended c.split_at.ensures.front c.split_at.ensures.back
