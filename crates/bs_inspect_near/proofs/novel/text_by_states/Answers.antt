use Rattle.std.proofs.Common.{ap, ◌∙◌, take}
use Rattle.bs_net.specs.Netlist.{circuit}
use Rattle.bs_stim.specs.Runs.{inputs_of}
use Rattle.bs_inspect_near.proofs.NovelLemmas.{first_showable, tells_of}
use Rattle.bs_inspect_near.proofs.novel.text_by_states.Goals as goal

pub returns : goal.returns
returns c =
    tells_of (circuit c.args.run.now.net.now) (inputs_of c.args.run.now.runs.now) c.args.run.now.number c.args.most c.args.signals.now c.in_ok-novelties.novelties.items
    c.in_ok-ordered.ordered.items c.first_of-first.result.now c.in_ok-text.text.items c.in_ok-novelties.ensures c.in_ok-ordered.ensures.same
    c.in_ok-ordered.ensures.sorted (c.first_of-first.ensures ∙ ap (take c.args.most) c.as_slice.ensures.value) c.in_ok-text.ensures

pub novelties_text-requires-clause-showable : goal.novelties_text-requires-clause-showable
novelties_text-requires-clause-showable c =
    first_showable (circuit c.args.run.now.net.now) (inputs_of c.args.run.now.runs.now) c.args.run.now.number c.args.most c.args.signals.now
    c.in_ok-novelties.novelties.items c.in_ok-ordered.ordered.items c.first_of-first.result.now c.in_ok-novelties.ensures c.in_ok-ordered.ensures.same
    (c.first_of-first.ensures ∙ ap (take c.args.most) c.as_slice.ensures.value)
