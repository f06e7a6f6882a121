use Rattle.bs_watch.specs.Watch.{WatchState}
use Rattle.bs_watch.proofs.Passings.{serves_by_pass}
use Rattle.bs_watch.proofs.watch.Watch.pass.Goals as goal

pub returns-clause-serves : goal.returns-clause-serves
returns-clause-serves c =
    let old : WatchState =
    record { trail = c.self.inside.trail; levels = c.self.inside.levels.items; head = c.self.inside.head; lists = c.self.inside.lists } in
    serves_by_pass old c.args.self.now c.first_watched-self-inside.result c.self.view_is c.first_watched-self-inside.ensures
