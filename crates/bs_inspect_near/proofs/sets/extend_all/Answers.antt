use Rattle.std.proofs.Common.{ap, sym, ◌∙◌, arith}
use Rattle.bs_net.specs.Netlist.{circuit}
use Rattle.bs_inspect_view.specs.declared.signal.Signal.{Signal as CodeSignal}
use Rattle.bs_stim.specs.Runs.{inputs_of}
use Rattle.bs_inspect_near.proofs.SetLemmas.{sets_here, sets_more}
use Rattle.bs_inspect_near.proofs.sets.extend_all.Goals as goal

pub extend-requires-clause-set : goal.extend-requires-clause-set
extend-requires-clause-set c =
    sets_here (circuit c.args.run.now.net.now) (inputs_of c.args.run.now.runs.now) c.args.run.now.number c.args.column.now.cycle c.args.column.now.first 64 c.signals.i c.args.signals.now
    c.index-signals-i.result c.slice-places.result.now c.signals.sets.items c.index_mut.result.now
    (omega (arith, c.signals-test.true, c.len-i-end.ensures, c.signals.invariant.long, c.requires.sets.long)) c.index-signals-i.is
    (c.slice-places.ensures ∙ sym (ap (λ (s : CodeSignal). s.places) c.index-signals-i.is)) c.index_mut.ensures.value c.signals.invariant

pub signals-preserved : goal.signals-preserved
signals-preserved c =
    sets_more (circuit c.args.run.now.net.now) (inputs_of c.args.run.now.runs.now) c.args.run.now.number c.args.column.now.cycle c.args.column.now.first 64 c.signals.i c.args.signals.now
    c.index-signals-i.result c.slice-places.result.now c.signals.sets.items c.extend.new.values
    (omega (arith, c.signals-test.true, c.len-i-end.ensures, c.signals.invariant.long, c.requires.sets.long)) c.index-signals-i.is
    (c.slice-places.ensures ∙ sym (ap (λ (s : CodeSignal). s.places) c.index-signals-i.is)) c.in_ok-extend.ensures c.signals.invariant
