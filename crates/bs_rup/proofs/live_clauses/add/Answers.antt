use Rattle.std.proofs.Common.{◌+◌, length, refl, ap, ◌∙◌, arith}
use Rattle.bs_rup.specs.LiveClauses.{live_from}
use Rattle.bs_rup.proofs.Stores.{live_from-push}
use Rattle.bs_rup.proofs.live_clauses.add.Goals as goal

pub returns-clause-live : goal.returns-clause-live
returns-clause-live c =
    ap (live_from 1) c.in_ok-push.ensures.items ∙ live_from-push 1 c.args.stored.now.items _ (length c.args.stored.now.items + 1) refl (omega arith)
