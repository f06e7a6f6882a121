use Rattle.std.proofs.Common.{ℕ, List, Option, map}
use Rattle.std.specs.Option.{option_map}
use Rattle.bs_inspect_notes.specs.declared.name.Subject.TheVariants.{Inputs}
use Rattle.bs_vcd.specs.declared.clock_edges.SampledLines.{SampledLines}
use Rattle.bs_top_files.specs.Causes.{CheckSays, NoteSays}
use Rattle.bs_outside.specs.Diagnostic.{note_refusal, word_refusal}
use Rattle.bs_inspect_values.specs.Saying.{vcd_reason}
use Rattle.bs_inspect_values.proofs.ReadLemmas.{has_note}
use Rattle.bs_inspect_values.proofs.ValueLemmas.{lines_err, lines_ok, vcd_worded}
use Rattle.bs_inspect_values.proofs.values.lines_or_diagnostic.Goals as goal

pub returns-in-Ok-clause-words : goal.returns-in-Ok-clause-words
returns-in-Ok-clause-words c =
    let path : List ℕ = c.args.sampling.vcd.now in
    let keys : List (List ℕ) = map (λ k. k.now) c.args.keys.now in
    let names : List (List ℕ) = map (λ n. n.now) c.args.names.now in
    let scope : Option (List ℕ) = option_map (λ s. s.now) c.args.sampling.scope in
    let clock : List ℕ = c.args.sampling.clock.now in
    lines_ok {T = SampledLines} CheckSays (λ sampled. sampled) path keys names scope clock c.args.text.now _ _ c.in-Ok.ensures c.few_or_diagnostic.ensures.words

pub returns-in-Ok-clause-note : goal.returns-in-Ok-clause-note
returns-in-Ok-clause-note c =
    let path : List ℕ = c.args.sampling.vcd.now in
    let keys : List (List ℕ) = map (λ k. k.now) c.args.keys.now in
    let names : List (List ℕ) = map (λ n. n.now) c.args.names.now in
    let scope : Option (List ℕ) = option_map (λ s. s.now) c.args.sampling.scope in
    let clock : List ℕ = c.args.sampling.clock.now in
    lines_ok {T = SampledLines} NoteSays (λ sampled. sampled) path keys names scope clock c.args.text.now _ _ c.in-Ok.ensures c.few_or_diagnostic.ensures.note

pub returns-in-Err-clause-words : goal.returns-in-Err-clause-words
returns-in-Err-clause-words c =
    let path : List ℕ = c.args.sampling.vcd.now in
    let keys : List (List ℕ) = map (λ k. k.now) c.args.keys.now in
    let names : List (List ℕ) = map (λ n. n.now) c.args.names.now in
    let scope : Option (List ℕ) = option_map (λ s. s.now) c.args.sampling.scope in
    let clock : List ℕ = c.args.sampling.clock.now in
    lines_err {T = SampledLines} CheckSays (λ sampled. sampled) path keys names scope clock c.args.text.now c.in-Err.fault _ c.in-Err.ensures
    (vcd_worded Inputs path c.args.text.now keys names scope clock c.in-Err.fault (word_refusal c.vcd_diagnostic.result) c.vcd_diagnostic.ensures.words)
    c.vcd_diagnostic.ensures.want

pub returns-in-Err-clause-note : goal.returns-in-Err-clause-note
returns-in-Err-clause-note c =
    let path : List ℕ = c.args.sampling.vcd.now in
    let keys : List (List ℕ) = map (λ k. k.now) c.args.keys.now in
    let names : List (List ℕ) = map (λ n. n.now) c.args.names.now in
    let scope : Option (List ℕ) = option_map (λ s. s.now) c.args.sampling.scope in
    let clock : List ℕ = c.args.sampling.clock.now in
    lines_err {T = SampledLines} NoteSays (λ sampled. sampled) path keys names scope clock c.args.text.now c.in-Err.fault _ c.in-Err.ensures
    (has_note (vcd_reason Inputs path c.args.text.now keys names scope clock c.in-Err.fault) (note_refusal c.vcd_diagnostic.result) c.vcd_diagnostic.ensures.note)
    c.vcd_diagnostic.ensures.none
