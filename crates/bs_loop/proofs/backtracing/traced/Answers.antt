use Rattle.std.proofs.Common.{◌≡◌, ap, sym, subst, ◌∙◌}
use Rattle.std.specs.Prelude.{All}
use Rattle.bs_scan.specs.declared.seen.Seen.{Seen}
use Rattle.bs_net.specs.Circuit.{Circuit}
use Rattle.bs_scan.specs.Crash.{crash_of}
use Rattle.bs_report.specs.Trace.{end_of, trace_end, trace_states}
use Rattle.bs_report.specs.WideCands.{HasWideCands}
use Rattle.bs_loop.proofs.backtracing.traced.Goals as goal

pub end_of-requires : goal.end_of-requires
end_of-requires c = subst (λ (k : Circuit). All (HasWideCands k) c.args.steps.now) (sym c.net.ensures) c.requires

pub returns-clause-states : goal.returns-clause-states
returns-clause-states c =
    let r = c.args.chip.now.recording in
    let is : c.in_ok-bits.field-0 ≡ trace_end (crash_of r c.args.dump.now) c.args.steps.now =
    c.in_ok-bits.ensures ∙ ap (λ (k : Circuit). end_of k c.args.dump.now.state c.args.steps.now) c.net.ensures in
    c.in_ok-states.ensures ∙ ap (λ (p : Seen). trace_states p.bits c.args.steps.now) is

pub returns-clause-free : goal.returns-clause-free
returns-clause-free c =
    let r = c.args.chip.now.recording in
    let is : c.in_ok-bits.field-0 ≡ trace_end (crash_of r c.args.dump.now) c.args.steps.now =
    c.in_ok-bits.ensures ∙ ap (λ (k : Circuit). end_of k c.args.dump.now.state c.args.steps.now) c.net.ensures in
    ap (λ (p : Seen). p.free) is
