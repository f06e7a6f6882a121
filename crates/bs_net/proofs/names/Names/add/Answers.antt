use Rattle.bs_net.proofs.NamesLemmas.{kept, found_number}
use Rattle.bs_net.proofs.names.Names.add.Goals as goal

pub returns-in-Some-clause-ok : goal.returns-in-Some-clause-ok
returns-in-Some-clause-ok c =
    kept c.args.self.now c.args.key.now c.in-Some.n.0 (found_number c.args.self.now c.args.key.now c.in-Some.n c.in-Some.ensures)
