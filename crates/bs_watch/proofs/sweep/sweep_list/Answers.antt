use Rattle.std.proofs.Common.{◌≡◌, ◌<◌, length, false, sym, ◌∙◌, arith}
use Rattle.std.specs.Prelude.{is_some}
use Rattle.bs_clause.specs.Literal.{code_of}
use Rattle.bs_arena.specs.Arena.{held_at}
use Rattle.bs_watch.specs.Lists.{row}
use Rattle.bs_watch.proofs.Gets.{get_within}
use Rattle.bs_watch.proofs.Sweeps.{thins_trans, removed_thin, removed_live}
use Rattle.bs_watch.proofs.sweep.sweep_list.Goals as goal

pub watchers-preserved : goal.watchers-preserved
watchers-preserved c =
    let clauses = c.args.arena.now.clauses in
    let within : code_of c.args.l < length c.watchers.lists = omega (arith, c.requires.code, c.watchers.invariant.thins.rows) in
    let dead : is_some (held_at c.args.arena.now.clauses c.get.result.clause) ≡ false = sym c.is_live.ensures ∙ c.if-is_live.false in
    record {
      thins = thins_trans c.args.arena.now.clauses c.args.lists.now c.watchers.lists c.remove.new.self c.watchers.invariant.thins
          (removed_thin c.args.arena.now.clauses c.watchers.lists c.remove.new.self c.args.l c.watchers.at c.get.result c.remove.result within
          c.get.ensures dead c.remove.ensures);
      live = removed_live c.args.arena.now.clauses c.watchers.lists c.remove.new.self c.args.l c.watchers.at c.remove.result within
          (get_within (row c.watchers.lists c.args.l) c.watchers.at c.get.result c.get.ensures) c.remove.ensures c.watchers.invariant.live;
    }

pub returns-clause-live : goal.returns-clause-live
returns-clause-live c = record {
  each = λ k v e.
      let inside = get_within (row c.watchers.lists c.args.l) k v e in
      c.watchers.invariant.live.each k v (omega (arith, inside, c.watchers-test.false, c.len.ensures)) e;
}
