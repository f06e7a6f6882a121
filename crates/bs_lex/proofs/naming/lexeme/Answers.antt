use Rattle.std.proofs.Common.{sym, ap, ◌∙◌}
use Rattle.bs_lex.proofs.NamingLemmas.{ascii_name, digits_are_ascii, great_is_digits}
use Rattle.bs_lex.specs.Lexemes.{is_name, is_great, sort_of}
use Rattle.bs_lex.proofs.naming.lexeme.Goals as goal

pub ascii_text-requires : goal.ascii_text-requires
ascii_text-requires c =
    rw c.spelling-text.ensures (ascii_name c.args.source.now c.args.token c.requires.ascii
    (ap (λ text. is_name (sort_of c.args.token.kind text)) (sym c.spelling-text.ensures)
    ∙ (ap is_name (sym c.sort_of-sort.ensures) ∙ (sym c.is_name.ensures ∙ c.if-is_name.true))))

pub ascii_text-requires-then-is_great : goal.ascii_text-requires-then-is_great
ascii_text-requires-then-is_great c =
    rw c.without_zeros.ensures (digits_are_ascii c.spelling-text.result.now (great_is_digits c.args.token.kind c.spelling-text.result.now
    (ap is_great (sym c.sort_of-sort.ensures) ∙ (sym c.is_great.ensures ∙ c.if-is_great.true))))
