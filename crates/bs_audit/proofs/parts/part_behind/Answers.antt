use Rattle.std.specs.Prelude.{option_map, IfOk}
use Rattle.std.proofs.Common.{◌≡◌, length, map, subst, sym, Some}
use Rattle.bs_scan.specs.declared.seen.Seen.{Seen}
use Rattle.bs_net.specs.Netlist.{circuit}
use Rattle.bs_scan.specs.Choice.{depth_of}
use Rattle.bs_encode.specs.Depth.{basis_of}
use Rattle.bs_report.specs.declared.part.Part.TheVariants as parts
use Rattle.bs_report.specs.Chain.{present_of}
use Rattle.bs_report.specs.Trace.{end_of}
use Rattle.bs_report.specs.Valid.{first_of_all}
use Rattle.bs_scan.specs.Present.{present_in}
use Rattle.bs_audit.specs.Logged.{behind_parts}
use Rattle.bs_audit.proofs.WholeLemmas.{stop_fails, trace_fails, behind_log, few_steps, fit_cands}
use Rattle.bs_audit.proofs.parts.part_behind.Goals as goal

pub returns-then-not-is_right_stop : goal.returns-then-not-is_right_stop
returns-then-not-is_right_stop c =
    stop_fails (option_map present_in c.args.due.now) (end_of (circuit c.args.net.now) c.args.dump.now.state c.args.report.now.steps)
    (basis_of (circuit c.args.net.now) c.args.choice.now (map present_of c.args.report.now.steps)) c.args.report.now
    c.is_right_stop.result c.is_right_stop.ensures c.if-not-is_right_stop.true

pub end_of-requires : goal.end_of-requires
end_of-requires c =
    rw c.slice.ensures (fit_cands (circuit c.args.net.now) (length c.args.choice.now.items) (depth_of c.args.choice.now) c.args.report.now.steps c.requires.sound)

pub returns-then-not-is_right_trace : goal.returns-then-not-is_right_trace
returns-then-not-is_right_trace c =
    let basis = basis_of (circuit c.args.net.now) c.args.choice.now (map present_of c.args.report.now.steps) in
    let is : c.in_ok-last.last ≡ end_of (circuit c.args.net.now) c.args.dump.now.state c.args.report.now.steps = rw c.slice.ensures at c.in_ok-last.ensures in
    subst (λ (last : Seen). Some parts.Trace ≡ first_of_all (behind_parts (option_map present_in c.args.due.now) last basis c.args.report.now)) is
    (trace_fails (option_map present_in c.args.due.now) c.in_ok-last.last basis c.args.report.now
    c.is_right_stop.result c.is_right_trace.result c.is_right_stop.ensures c.if-not-is_right_stop.false c.is_right_trace.ensures c.if-not-is_right_trace.true)

pub log_part-requires-clause-few : goal.log_part-requires-clause-few
log_part-requires-clause-few c =
    few_steps (option_map present_in c.args.due.now) c.args.report.now c.is_right_stop.result c.is_right_stop.ensures c.if-not-is_right_stop.false
    c.requires.budget

pub returns : goal.returns
returns c =
    let basis = basis_of (circuit c.args.net.now) c.args.choice.now (map present_of c.args.report.now.steps) in
    let is : c.in_ok-last.last ≡ end_of (circuit c.args.net.now) c.args.dump.now.state c.args.report.now.steps = rw c.slice.ensures at c.in_ok-last.ensures in
    subst
    (λ (last : Seen). IfOk c.log_part.result (λ part. part ≡ first_of_all (behind_parts (option_map present_in c.args.due.now) last basis c.args.report.now))) is
    (behind_log (option_map present_in c.args.due.now) c.in_ok-last.last basis c.args.report.now
    c.is_right_stop.result c.is_right_trace.result c.log_part.result c.is_right_stop.ensures c.if-not-is_right_stop.false c.is_right_trace.ensures
    c.if-not-is_right_trace.false c.log_part.ensures)
