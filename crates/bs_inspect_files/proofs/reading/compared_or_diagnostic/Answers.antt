use Rattle.std.proofs.Common.{map}
use Rattle.std.specs.Option.{option_map}
use Rattle.bs_vcd_header.specs.declared.fault.VcdFault.{VcdFault}
use Rattle.bs_vcd_header.specs.declared.fault.VcdFault.TheVariants.{NoMemory}
use Rattle.bs_inspect_check.specs.declared.comparison.Comparison.{Comparison}
use Rattle.bs_inspect_notes.specs.declared.name.Subject.TheVariants.{Flops}
use Rattle.bs_outside.specs.Plan.{Reason}
use Rattle.bs_top_files.specs.Causes.{Case, CheckSays, NoteSays}
use Rattle.bs_inspect_values.specs.Saying.{vcd_reason}
use Rattle.bs_inspect_values.proofs.ReadLemmas.{fault_reads, has_note, value_reads}
use Rattle.bs_inspect_values.proofs.ValueLemmas.{vcd_worded}
use Rattle.bs_inspect_files.proofs.reading.compared_or_diagnostic.Goals as goal

pub returns-in-Ok-clause-words : goal.returns-in-Ok-clause-words
returns-in-Ok-clause-words c =
    let reason : VcdFault → Reason Case =
    vcd_reason Flops c.args.sampling.vcd.now c.args.text.now (map (λ k. k.now) c.args.keys.now) (map (λ n. n.now) c.args.names.now)
    (option_map (λ s. s.now) c.args.sampling.scope) c.args.sampling.clock.now in
    value_reads CheckSays (λ (m : Comparison). m) reason _ _ c.in-Ok.ensures

pub returns-in-Ok-clause-note : goal.returns-in-Ok-clause-note
returns-in-Ok-clause-note c =
    let reason : VcdFault → Reason Case =
    vcd_reason Flops c.args.sampling.vcd.now c.args.text.now (map (λ k. k.now) c.args.keys.now) (map (λ n. n.now) c.args.names.now)
    (option_map (λ s. s.now) c.args.sampling.scope) c.args.sampling.clock.now in
    value_reads NoteSays (λ (m : Comparison). m) reason _ _ c.in-Ok.ensures

pub returns-in-Err-clause-words : goal.returns-in-Err-clause-words
returns-in-Err-clause-words c =
    let reason : VcdFault → Reason Case =
    vcd_reason Flops c.args.sampling.vcd.now c.args.text.now (map (λ k. k.now) c.args.keys.now) (map (λ n. n.now) c.args.names.now)
    (option_map (λ s. s.now) c.args.sampling.scope) c.args.sampling.clock.now in
    fault_reads CheckSays (λ (m : Comparison). m) reason _ NoMemory _ _ c.in-Err.ensures
    (vcd_worded Flops c.args.sampling.vcd.now c.args.text.now (map (λ k. k.now) c.args.keys.now) (map (λ n. n.now) c.args.names.now)
    (option_map (λ s. s.now) c.args.sampling.scope) c.args.sampling.clock.now c.in-Err.fault _ c.vcd_diagnostic.ensures.words) c.vcd_diagnostic.ensures.want

pub returns-in-Err-clause-note : goal.returns-in-Err-clause-note
returns-in-Err-clause-note c =
    let reason : VcdFault → Reason Case =
    vcd_reason Flops c.args.sampling.vcd.now c.args.text.now (map (λ k. k.now) c.args.keys.now) (map (λ n. n.now) c.args.names.now)
    (option_map (λ s. s.now) c.args.sampling.scope) c.args.sampling.clock.now in
    fault_reads NoteSays (λ (m : Comparison). m) reason _ NoMemory _ _ c.in-Err.ensures
    (has_note (reason c.in-Err.fault) _ c.vcd_diagnostic.ensures.note) c.vcd_diagnostic.ensures.none
