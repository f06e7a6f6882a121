use Rattle.std.proofs.Common.{◌<◌, ap, ◌∙◌, ◌++◌, ◌∷◌, [], length, set, get_or, arith}
use Rattle.bs_watch.proofs.Rows.{row_at, row_set, row_same, on_err}
use Rattle.bs_watch.proofs.lists.WatchLists.push.Goals as goal

pub returns-in_err-push-clause-err : goal.returns-in_err-push-clause-err
returns-in_err-push-clause-err c =
    let within : c.code.result < length c.args.self.now = omega (arith, c.code.ensures.code, c.requires) in
    on_err c.from_residual.result _
    (row_same (λ v. v.items) c.self.inside.rows.items c.code.result c.index_mut.result.now c.push.new.self c.args.self.now within
    c.index_mut.ensures.value c.in_err-push.ensures.items c.self.view_is)

pub returns-clause-ok : goal.returns-clause-ok
returns-clause-ok c =
    let within : c.code.result < length c.args.self.now = omega (arith, c.code.ensures.code, c.requires) in
    row_set (λ v. v.items) c.self.inside.rows.items c.code.result c.push.new.self c.args.self.now
    (get_or c.args.self.now c.code.result [] ++ c.args.watcher ∷ [])
    (c.in_ok-push.ensures.items
    ∙ ap (λ ws. ws ++ c.args.watcher ∷ [])
    (row_at (λ v. v.items) c.self.inside.rows.items c.code.result c.index_mut.result.now c.args.self.now within c.index_mut.ensures.value
    c.self.view_is)) c.self.view_is ∙
    ap (λ i. set c.args.self.now i (get_or c.args.self.now i [] ++ c.args.watcher ∷ [])) c.code.ensures.code
