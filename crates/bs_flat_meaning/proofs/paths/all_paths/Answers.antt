use Rattle.std.proofs.Common.{[], ◌∷◌, ◌++◌, ap, ◌∙◌, List}
use Rattle.bs_flat_meaning.specs.declared.paths.Node.{Node}
use Rattle.bs_flat_meaning.proofs.PathLemmas.{all_below_top}
use Rattle.bs_flat_meaning.proofs.paths.all_paths.Goals as goal

pub returns-clause-all : goal.returns-clause-all
returns-clause-all c =
    let top : Node = record { parent = 0; instance = 0; of = c.args.top } in
    let start = c.in_ok-push.ensures.ok ∙ ap (λ (ns : List Node). ns ++ top ∷ []) c.new-nodes.ensures in
    all_below_top c.args.modules.now c.args.top c.push.new.self c.add_below.new.nodes start c.in_ok-add_below.ensures.ok
