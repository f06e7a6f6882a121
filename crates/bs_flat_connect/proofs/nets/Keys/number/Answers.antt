use Rattle.std.proofs.Common.{ap, sym, ◌∙◌}
use Rattle.std.specs.Option.{option_map}
use Rattle.bs_net.specs.Names.{net}
use Rattle.bs_net.proofs.NamesLemmas.{number_texts}
use Rattle.bs_flat_connect.proofs.nets.Keys.number.Goals as goal

pub returns-in-Some : goal.returns-in-Some
returns-in-Some c =
    rw (← c.self.view_is) (ap (option_map net) (c.in-Some.ensures.index ∙ sym (number_texts c.args.key.now c.self.inside.keys.keys)))

pub returns-in-None : goal.returns-in-None
returns-in-None c =
    rw (← c.self.view_is) (ap (option_map net) (c.in-None.ensures.index ∙ sym (number_texts c.args.key.now c.self.inside.keys.keys)))
