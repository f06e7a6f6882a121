use Rattle.std.proofs.Common.{◌∙◌, List, Bool, ap, length, subst, sym}
use Rattle.std.specs.Prelude.{option_map}
use Rattle.bs_scan.specs.declared.dump.Dump.{Dump}
use Rattle.bs_scan.specs.Moments.{run_of, state_at}
use Rattle.bs_scan.proofs.SignatureLemmas.{length_state}
use Rattle.bs_preimage.specs.Probe.{Prober, IsProbed}
use Rattle.bs_preimage_recorded.proofs.finder.ask_probe.Goals as goal

pub ask-requires-clause-state : goal.ask-requires-clause-state
ask-requires-clause-state c =
    let r = c.args.chip.now.recording in
    ap (λ (d : Dump). length d.state.bits) c.in_ok-dump.ensures.dump
    ∙ (length_state r.circuit (run_of r.runs c.args.run) c.args.cycle ∙ sym (ap (λ (p : Prober). length p.circuit.flops) c.requires.prober))

pub returns-clause-said : goal.returns-clause-said
returns-clause-said c =
    subst (λ (p : Prober). IsProbed p.circuit p.choice c.args.query.now.present.now c.args.query.now.stored.now (option_map (λ bits. bits.now)
    c.args.query.now.older) (state_at c.args.chip.now.recording.circuit (run_of c.args.chip.now.recording.runs c.args.run) c.args.cycle)
    c.args.query.now.b c.in_ok-said.said) c.requires.prober
    (subst (λ (s : List Bool). IsProbed c.args.probe.now.circuit c.args.probe.now.choice c.args.query.now.present.now c.args.query.now.stored.now (option_map
    (λ bits. bits.now) c.args.query.now.older) s c.args.query.now.b c.in_ok-said.said) (ap (λ (d : Dump). d.state.bits) c.in_ok-dump.ensures.dump) c.in_ok-said.ensures.probed)
