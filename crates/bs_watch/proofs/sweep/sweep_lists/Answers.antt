use Rattle.std.proofs.Common.{◌≡◌, length, refl, Some, arith}
use Rattle.std.specs.Prelude.{slice_get}
use Rattle.std.proofs.lemmas.Option.{slice_get_read}
use Rattle.bs_watch.proofs.Sweeps.{thins_trans, live_in_more}
use Rattle.bs_watch.proofs.sweep.sweep_lists.Goals as goal

pub literals-preserved : goal.literals-preserved
literals-preserved c =
    let there : slice_get c.args.literals.now c.literals.at ≡ Some c.index-literals-at.result =
    slice_get_read c.args.literals.now (length c.args.literals.now) c.literals.at c.index-literals-at.result refl
    (omega (arith, c.literals-test.true)) c.index-literals-at.is in
    record {
      thins =
          thins_trans c.args.arena.now.clauses c.args.lists.now c.literals.lists c.sweep_list.new.lists c.literals.invariant.thins c.sweep_list.ensures.thins;
      live =
          live_in_more c.args.arena.now.clauses c.literals.lists c.sweep_list.new.lists c.args.literals.now c.literals.at
          c.index-literals-at.result there c.sweep_list.ensures.thins c.sweep_list.ensures.live c.literals.invariant.live;
    }
