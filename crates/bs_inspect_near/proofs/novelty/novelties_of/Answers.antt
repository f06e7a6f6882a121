use Rattle.std.proofs.Common.{ap, map, sym, ◌∙◌}
use Rattle.bs_net.specs.Netlist.{circuit}
use Rattle.bs_inspect_view.specs.Signals.{signal_in}
use Rattle.bs_inspect_view.specs.declared.signal.Signal.{Signal as CodeSignal}
use Rattle.bs_stim.specs.Runs.{inputs_of}
use Rattle.bs_inspect_near.proofs.NoveltyLemmas.{novelties_begin, novelties_more, set_there, whole_here}
use Rattle.bs_inspect_near.proofs.novelty.novelties_of.Goals as goal

pub find-requires-clause-whole : goal.find-requires-clause-whole
find-requires-clause-whole c =
    whole_here (circuit c.args.run.now.net.now) (inputs_of c.args.run.now.runs.now) c.args.run.now.number c.signals.i c.args.signals.now c.index-signals-i.result
    c.slice-places.result.now c.args.sets.now c.index-sets-i.result c.signals-test.true c.index-signals-i.is
    (c.slice-places.ensures ∙ sym (ap (λ (s : CodeSignal). s.places) c.index-signals-i.is)) c.index-sets-i.is
    c.requires.sets

pub signals-preserved : goal.signals-preserved
signals-preserved c =
    novelties_more (circuit c.args.run.now.net.now) (inputs_of c.args.run.now.runs.now) c.args.run.now.number c.signals.i c.args.signals.now c.index-signals-i.result
    c.slice-places.result.now c.signals.novelties.items c.put.new.novelties.items c.in_ok-found.found c.signals-test.true c.index-signals-i.is
    (c.slice-places.ensures ∙ sym (ap (λ (s : CodeSignal). s.places) c.index-signals-i.is)) c.signals.invariant c.in_ok-found.ensures
    c.in_ok-put.ensures

pub signals-init : goal.signals-init
signals-init c =
    novelties_begin (circuit c.args.run.now.net.now) (inputs_of c.args.run.now.runs.now) c.args.run.now.number (map signal_in c.args.signals.now) _ c.new-novelties.ensures.items

pub bounds-sets-i : goal.bounds-sets-i
bounds-sets-i c =
    set_there (circuit c.args.run.now.net.now) (inputs_of c.args.run.now.runs.now) c.args.run.now.number c.signals.i c.args.signals.now c.args.sets.now c.requires.sets
    c.signals-test.true
