use Rattle.std.proofs.Common.{ℕ, List, Option, map}
use Rattle.std.specs.Option.{option_map}
use Rattle.bs_inspect_notes.specs.declared.name.Subject.TheVariants.{Flops}
use Rattle.bs_vcd_header.specs.declared.fault.VcdFault.TheVariants.{NoMemory}
use Rattle.bs_vcd.specs.declared.cycles.MarkedStates.{MarkedStates}
use Rattle.bs_top_files.specs.Causes.{CheckSays, NoteSays}
use Rattle.bs_outside.specs.Diagnostic.{note_refusal, word_refusal}
use Rattle.bs_inspect_values.specs.Saying.{taken_in, vcd_reason}
use Rattle.bs_inspect_values.proofs.ReadLemmas.{fault_reads, has_note, value_reads}
use Rattle.bs_inspect_values.proofs.ValueLemmas.{vcd_worded}
use Rattle.bs_inspect_values.proofs.values.states_or_diagnostic.Goals as goal

pub returns-in-Ok-clause-words : goal.returns-in-Ok-clause-words
returns-in-Ok-clause-words c =
    let path : List ℕ = c.args.sampling.vcd.now in
    let keys : List (List ℕ) = map (λ k. k.now) c.args.keys.now in
    let names : List (List ℕ) = map (λ n. n.now) c.args.names.now in
    let scope : Option (List ℕ) = option_map (λ s. s.now) c.args.sampling.scope in
    let clock : List ℕ = c.args.sampling.clock.now in
    value_reads {T = MarkedStates} {V = MarkedStates} CheckSays (λ taken. taken) (vcd_reason Flops path c.args.text.now keys names scope clock)
    (taken_in c.args.partial c.args.text.now scope clock names c.args.at c.args.back) _ c.in-Ok.ensures.is

pub returns-in-Ok-clause-note : goal.returns-in-Ok-clause-note
returns-in-Ok-clause-note c =
    let path : List ℕ = c.args.sampling.vcd.now in
    let keys : List (List ℕ) = map (λ k. k.now) c.args.keys.now in
    let names : List (List ℕ) = map (λ n. n.now) c.args.names.now in
    let scope : Option (List ℕ) = option_map (λ s. s.now) c.args.sampling.scope in
    let clock : List ℕ = c.args.sampling.clock.now in
    value_reads {T = MarkedStates} {V = MarkedStates} NoteSays (λ taken. taken) (vcd_reason Flops path c.args.text.now keys names scope clock)
    (taken_in c.args.partial c.args.text.now scope clock names c.args.at c.args.back) _ c.in-Ok.ensures.is

pub returns-in-Err-clause-words : goal.returns-in-Err-clause-words
returns-in-Err-clause-words c =
    let path : List ℕ = c.args.sampling.vcd.now in
    let keys : List (List ℕ) = map (λ k. k.now) c.args.keys.now in
    let names : List (List ℕ) = map (λ n. n.now) c.args.names.now in
    let scope : Option (List ℕ) = option_map (λ s. s.now) c.args.sampling.scope in
    let clock : List ℕ = c.args.sampling.clock.now in
    fault_reads {T = MarkedStates} {V = MarkedStates} CheckSays (λ taken. taken) (vcd_reason Flops path c.args.text.now keys names scope clock)
    (taken_in c.args.partial c.args.text.now scope clock names c.args.at c.args.back) NoMemory c.in-Err.fault _ c.in-Err.ensures.is
    (vcd_worded Flops path c.args.text.now keys names scope clock c.in-Err.fault (word_refusal c.vcd_diagnostic.result) c.vcd_diagnostic.ensures.words)
    c.vcd_diagnostic.ensures.want

pub returns-in-Err-clause-note : goal.returns-in-Err-clause-note
returns-in-Err-clause-note c =
    let path : List ℕ = c.args.sampling.vcd.now in
    let keys : List (List ℕ) = map (λ k. k.now) c.args.keys.now in
    let names : List (List ℕ) = map (λ n. n.now) c.args.names.now in
    let scope : Option (List ℕ) = option_map (λ s. s.now) c.args.sampling.scope in
    let clock : List ℕ = c.args.sampling.clock.now in
    fault_reads {T = MarkedStates} {V = MarkedStates} NoteSays (λ taken. taken) (vcd_reason Flops path c.args.text.now keys names scope clock)
    (taken_in c.args.partial c.args.text.now scope clock names c.args.at c.args.back) NoMemory c.in-Err.fault _ c.in-Err.ensures.is
    (has_note (vcd_reason Flops path c.args.text.now keys names scope clock c.in-Err.fault) (note_refusal c.vcd_diagnostic.result) c.vcd_diagnostic.ensures.note)
    c.vcd_diagnostic.ensures.none
