use Rattle.bs_lex.proofs.NamingLemmas.{none_read, one_read, all_read}
use Rattle.bs_lex.proofs.naming.add_lexemes.Goals as goal

pub each-init : goal.each-init
each-init c = rw (c.requires.names, c.requires.lexemes) (none_read c.args.source.now)

pub each-preserved : goal.each-preserved
each-preserved c =
    rw c.in_ok-push-in-Found.ensures.ok (one_read c.args.source.now c.each.at c.each.table c.lexeme.new.table c.each.lexemes c.in-Found.token
    c.in_ok-lexeme-in-Found.lexeme c.in-Found.ensures c.in_ok-lexeme-in-Found.ensures.names c.in_ok-lexeme-in-Found.ensures.lexeme c.each.invariant)

pub returns-in-End : goal.returns-in-End
returns-in-End c =
    rw (c.in_ok-push-in-End.ensures.ok, c.end.ensures) (all_read c.args.source.now c.each.at c.each.table c.each.lexemes c.in-End.ensures c.each.invariant)
