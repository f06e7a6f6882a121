use Rattle.std.proofs.Common.{ℕ, List, map}
use Rattle.bs_inspect_names.specs.declared.fault.MapFault.TheVariants.{NoMemory}
use Rattle.bs_inspect_names.specs.Mapping.{map_in}
use Rattle.bs_top_files.specs.Causes.{CheckSays}
use Rattle.bs_outside.specs.Diagnostic.{word_refusal}
use Rattle.bs_inspect_values.specs.Saying.{map_reason}
use Rattle.bs_inspect_values.proofs.ReadLemmas.{fault_reads}
use Rattle.bs_inspect_values.proofs.ValueLemmas.{map_worded}
use Rattle.bs_inspect_values.proofs.mapping.names_or_diagnostic.Goals as goal

pub returns-in-Err-clause-words : goal.returns-in-Err-clause-words
returns-in-Err-clause-words c =
    let keys : List (List ℕ) = map (λ k. k.now) c.args.keys.now in
    fault_reads {T = List (List ℕ)} {V = List (List ℕ)} CheckSays (λ names. names) (map_reason c.args.subject c.args.path.now c.args.text.now keys)
    (map_in keys c.args.text.now) NoMemory c.in-Err.fault _ c.in-Err.ensures
    (map_worded c.args.subject c.args.path.now c.args.text.now keys c.in-Err.fault (word_refusal c.map_diagnostic.result) c.map_diagnostic.ensures.words)
    c.map_diagnostic.ensures.want
