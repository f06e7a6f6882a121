use Rattle.std.proofs.Common.{◌-◌, refl, sym, arith}
use Rattle.bs_rup.proofs.Stores.{live_from-kill, others_stay}
use Rattle.bs_rup.proofs.live_clauses.remove_one.Goals as goal

pub returns-clause-live : goal.returns-clause-live
returns-clause-live c = live_from-kill 1 c.args.stored.now.items (c.args.id - 1) c.args.id _ refl (omega arith) (omega arith)

pub returns-then-id-eq0-clause-live : goal.returns-then-id-eq0-clause-live
returns-then-id-eq0-clause-live c = sym (others_stay 1 c.args.stored.now.items c.args.id (omega arith))
