use Rattle.bs_gen.proofs.DrawLemmas.{pick_is, left_is}
use Rattle.bs_gen.proofs.draws.Draws.pick.Goals as goal

pub returns-clause-value : goal.returns-clause-value
returns-clause-value c =
    pick_is c.self.inside.generator c.args.self.now c.next_word.new.self c.next_word.result c.args.n c.self.view_is c.next_word.ensures

pub returns-clause-rest : goal.returns-clause-rest
returns-clause-rest c =
    left_is c.self.inside.generator c.args.self.now c.next_word.new.self c.next_word.result c.self.view_is c.next_word.ensures
