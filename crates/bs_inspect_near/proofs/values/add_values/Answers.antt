use Rattle.std.proofs.Common.{Bool, List, [], ◌∷◌, ◌++◌, ap, ◌∙◌}
use Rattle.bs_net.specs.Netlist.{circuit}
use Rattle.bs_stim.specs.Runs.{inputs_of}
use Rattle.bs_inspect_near.proofs.ValueLemmas.{set_more}
use Rattle.bs_inspect_near.proofs.values.add_values.Goals as goal

pub values-preserved : goal.values-preserved
values-preserved c =
    set_more (circuit c.args.run.now.net.now) (inputs_of c.args.run.now.runs.now) c.args.column.now.first c.args.run.now.number c.args.column.now.cycle c.args.column.now.words.now c.args.places.now c.args.column.now.mask
    c.misses-left.result c.lowest.result c.values.counter c.args.values.now c.values.values c.push.new.self c.requires.shows c.requires.mask
    c.values.invariant c.misses-left.ensures c.lowest.ensures.small c.lowest.ensures.one
    (c.in_ok-push.ensures.ok ∙ ap (λ (v : List Bool). c.values.values ++ v ∷ []) c.in_ok-value.ensures)
