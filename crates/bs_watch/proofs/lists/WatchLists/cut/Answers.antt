use Rattle.std.proofs.Common.{map, take, ap, sym, ◌∙◌}
use Rattle.std.proofs.lemmas.List.{take-map}
use Rattle.bs_watch.proofs.lists.WatchLists.cut.Goals as goal

pub returns : goal.returns
returns c =
    ap (map (λ v. v.items)) c.truncate.ensures.items ∙ sym (take-map (λ v. v.items) c.args.count c.self.inside.rows.items) ∙
    ap (take c.args.count) c.self.view_is
