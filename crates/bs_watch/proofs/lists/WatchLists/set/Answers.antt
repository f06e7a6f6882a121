use Rattle.std.proofs.Common.{◌<◌, ap, ◌∙◌, [], length, set, get_or, arith}
use Rattle.std.specs.Vec.{with_item}
use Rattle.bs_watch.proofs.Rows.{row_at, row_set}
use Rattle.bs_watch.proofs.lists.WatchLists.set.Goals as goal

pub returns : goal.returns
returns c =
    let within : c.code.result < length c.args.self.now = omega (arith, c.code.ensures.code, c.requires.code) in
    row_set (λ v. v.items) c.self.inside.rows.items c.code.result (with_item c.index_mut.result.now c.args.at c.args.watcher) c.args.self.now
    (set (get_or c.args.self.now c.code.result []) c.args.at c.args.watcher)
    (ap (λ ws. set ws c.args.at c.args.watcher)
    (row_at (λ v. v.items) c.self.inside.rows.items c.code.result c.index_mut.result.now c.args.self.now within c.index_mut.ensures.value
    c.self.view_is)) c.self.view_is ∙
    ap (λ i. set c.args.self.now i (set (get_or c.args.self.now i []) c.args.at c.args.watcher)) c.code.ensures.code
