use Rattle.bs_evidence.proofs.Bounds.{whole_fits}
use Rattle.std.proofs.Common.{refl}
use Rattle.bs_evidence.proofs.whole_cnf.push_whole_cnf.Goals as goal

pub push_counted-requires : goal.push_counted-requires
push_counted-requires c = record { writable = c.requires; room = c.requires.room; count = whole_fits c.args.asked.now c.requires _ refl }
