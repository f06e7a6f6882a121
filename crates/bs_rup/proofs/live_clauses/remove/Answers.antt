use Rattle.std.proofs.Common.{refl, ◌∙◌}
use Rattle.bs_rup.specs.LiveClauses.{live_from}
use Rattle.bs_rup.proofs.Stores.{keep_all, one_more_gone, all_gone}
use Rattle.bs_rup.proofs.live_clauses.remove.Goals as goal

pub loop-id-init : goal.loop-id-init
loop-id-init c = record { live = keep_all (live_from 1 c.args.stored.now.items); same_length = refl }

pub loop-id-preserved : goal.loop-id-preserved
loop-id-preserved c = record {
  live =
      one_more_gone c.args.ids.now c.loop-id.id-index (live_from 1 c.args.stored.now.items)
      (live_from 1 c.loop-id.stored.items) _ c.loop-id-test.true c.remove_one.ensures.live c.loop-id.invariant.live;
  same_length = c.remove_one.ensures.length ∙ c.loop-id.invariant.same_length;
}

pub returns-clause-live : goal.returns-clause-live
returns-clause-live c =
    all_gone c.args.ids.now c.loop-id.id-index (live_from 1 c.args.stored.now.items)
    (live_from 1 c.loop-id.stored.items) c.loop-id-test.false c.loop-id.invariant.live
