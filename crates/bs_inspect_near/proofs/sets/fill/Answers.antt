use Rattle.std.proofs.Common.{length, ap, ◌∙◌}
use Rattle.std.proofs.lemmas.List.{length-replicate}
use Rattle.bs_net.specs.Netlist.{circuit}
use Rattle.bs_stim.specs.Runs.{inputs_of}
use Rattle.bs_inspect_near.proofs.SetLemmas.{sets_none}
use Rattle.bs_inspect_near.proofs.sets.fill.Goals as goal

pub extend_cycles-done-requires-clause-sets : goal.extend_cycles-done-requires-clause-sets
extend_cycles-done-requires-clause-sets c =
    sets_none (circuit c.args.run.now.net.now) (inputs_of c.args.run.now.runs.now) c.args.run.now.number c.args.signals.now c.push_empty.new.sets.items
    c.in_ok-push_empty.ensures.long c.in_ok-push_empty.ensures.empty

pub extend_cycles-done-requires-clause-size : goal.extend_cycles-done-requires-clause-size
extend_cycles-done-requires-clause-size c =
    ap length c.in_ok-words.ensures ∙ (length-replicate c.width.result 0 ∙ c.width.ensures)
