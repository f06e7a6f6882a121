use Rattle.std.proofs.Common.{◌≡◌, [], replicate, map, List}
use Rattle.bs_watch.specs.declared.lists.Watcher.{Watcher}
use Rattle.bs_watch.proofs.lists.WatchLists.new.Given as goal

abbrev pub invariant-loop : goal.invariant-loop
invariant-loop l = map (λ v. v.items) l.rows.items ≡ replicate {A = List Watcher} l.counter []
