use Rattle.std.proofs.Common.{◌<◌, ap, ◌∙◌, [], length, set, get_or, arith, swap_remove}
use Rattle.bs_watch.proofs.Rows.{row_at, row_set}
use Rattle.bs_watch.proofs.lists.WatchLists.remove.Goals as goal

pub returns : goal.returns
returns c =
    let within : c.code.result < length c.args.self.now = omega (arith, c.code.ensures.code, c.requires.code) in
    row_set (λ v. v.items) c.self.inside.rows.items c.code.result c.swap_remove.new.self c.args.self.now
    (swap_remove (get_or c.args.self.now c.code.result []) c.args.at c.swap_remove.result)
    (c.swap_remove.ensures.items
    ∙ ap (λ ws. swap_remove ws c.args.at c.swap_remove.result)
    (row_at (λ v. v.items) c.self.inside.rows.items c.code.result c.index_mut.result.now c.args.self.now within c.index_mut.ensures.value
    c.self.view_is)) c.self.view_is ∙
    ap (λ i. set c.args.self.now i (swap_remove (get_or c.args.self.now i []) c.args.at c.swap_remove.result)) c.code.ensures.code
