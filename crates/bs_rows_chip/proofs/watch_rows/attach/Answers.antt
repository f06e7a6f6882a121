use Rattle.std.proofs.Common.{◌≡◌}
use Rattle.bs_watch.proofs.CallerLemmas.{serves_more, not_attached, watchable_found, may_attach_empty, attached_serves}
use Rattle.bs_arena.specs.Arena.{literals_at}
use Rattle.bs_rows_chip.proofs.watch_rows.attach.Goals as goal

pub attach-requires-clause-serves : goal.attach-requires-clause-serves
attach-requires-clause-serves c = serves_more c.args.watch.now c.args.arena.now.clauses c.add.new.self.clauses c.requires.serves c.in_ok-r.ensures.keeps

pub attach-requires-clause-watchable : goal.attach-requires-clause-watchable
attach-requires-clause-watchable c =
    watchable_found c.args.watch.now.trail.vars c.add.new.self.clauses c.in_ok-r.r
    (record { ref = c.in_ok-r.r; id = 1; literals = c.args.lits.now }) c.in_ok-r.ensures.found c.requires.watchable

pub attach-requires-clause-fresh : goal.attach-requires-clause-fresh
attach-requires-clause-fresh c = not_attached c.args.watch.now c.args.arena.now.clauses c.in_ok-r.r c.requires.serves c.in_ok-r.ensures.fresh

pub attach-requires-clause-guarded : goal.attach-requires-clause-guarded
attach-requires-clause-guarded c = may_attach_empty c.args.watch.now (literals_at c.add.new.self.clauses c.in_ok-r.r) c.requires.empty

pub returns : goal.returns
returns c =
    record {
      serves =
          attached_serves c.args.watch.now c.attach.new.self c.add.new.self.clauses c.in_ok-r.r c.attach.result
          (serves_more c.args.watch.now c.args.arena.now.clauses c.add.new.self.clauses c.requires.serves c.in_ok-r.ensures.keeps) c.attach.ensures.ok
          c.attach.ensures.err;
    }
