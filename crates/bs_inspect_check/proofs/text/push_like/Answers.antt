use Rattle.bs_inspect_check.proofs.TextLemmas.{like_there}
use Rattle.bs_inspect_check.proofs.text.push_like.Goals as goal

pub returns-in-Some : goal.returns-in-Some
returns-in-Some c =
    like_there c.push_word_line.result c.args.text.now.items c.push_word_line.new.text.items c.args.number c.in-Some.i c.args.like c.in-Some.is
    c.push_word_line.ensures
