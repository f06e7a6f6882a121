-- A name for each key.
use Rattle.std.proofs.Common.{◌≡◌, ℕ, ◌<◌, ◌^◌, List, [], length, map, Bor, Result, Ok, Err, ap, ◌∙◌, arith}
use Rattle.std.proofs.lemmas.List.{length-map}
use Rattle.std.proofs.lemmas.Result.{IfOk-at_ok}
use Rattle.bs_bits.specs.Lines.{lines_of}
use Rattle.bs_bits.specs.Reading.{◌>>=◌}
use Rattle.bs_net.specs.Parts.{Parts, PartsArePlaced}
use Rattle.bs_inspect_report.specs.Keys.{flop_keys}
use Rattle.bs_inspect_report.proofs.KeyLemmas.{flops_few}
use Rattle.bs_outside.specs.Plan.{Reason}
use Rattle.bs_top_files.specs.Causes.{Case, with_reason}
use Rattle.bs_inspect_names.specs.declared.fault.MapFault.{MapFault}
use Rattle.bs_inspect_names.specs.Mapping.{MapEntry, entries_from, name_of, names_of}
use Rattle.bs_inspect_values.specs.Simulated.{names_read}
use Rattle.bs_inspect_notes.specs.declared.name.Subject.{Subject}
use Rattle.bs_inspect_values.specs.Saying.{map_reason}

each_named : (reason : MapFault → Reason Case) (keys names : List (List ℕ)) (r : Result (List MapEntry) MapFault) →
    with_reason reason (r >>= λ es. Ok (names_of es keys)) ≡ Ok names → length names ≡ length keys
each_named reason keys names (Ok es) e = IfOk-at_ok (λ (ns : List (List ℕ)). length ns ≡ length keys) e (length-map keys (name_of es))
each_named reason keys names (Err fault) e = absurd cc

-- few names, where there are few keys
pub few_names : (subject : Subject) (path : List ℕ) (keys : List (Bor (List ℕ))) (names : List (List ℕ)) (text : List ℕ) →
    names_read subject path (map (λ k. k.now) keys) text ≡ Ok names → length keys < 2 ^ 32 → length names < 2 ^ 32
few_names subject path keys names text is few =
    let shown : Bor (List ℕ) → List ℕ = λ (k : Bor (List ℕ)). k.now in
    let each : length names ≡ length (map shown keys) =
    each_named (map_reason subject path text (map shown keys)) (map shown keys) names (entries_from (map shown keys) [] (lines_of text)) is in
    omega (arith, each, few, length-map keys shown)

-- the same of these as slices
pub few_slices : (names : List (List ℕ)) (slices slice : List (Bor (List ℕ))) → slice ≡ slices → map (λ n. n.now) slices ≡ names →
    length names < 2 ^ 32 → length slice < 2 ^ 32
few_slices names slices slice same is few =
    let shown : Bor (List ℕ) → List ℕ = λ (k : Bor (List ℕ)). k.now in
    let own : length slice ≡ length slices = ap length same in
    let each : length (map shown slices) ≡ length names = ap length is in
    omega (arith, own, each, few, length-map slices shown)

-- few keys of flip-flops
pub few_flops : (raw : Parts) (keys slice : List (Bor (List ℕ))) → PartsArePlaced raw → slice ≡ keys → map (λ k. k.now) keys ≡ flop_keys raw →
    length slice < 2 ^ 32
few_flops raw keys slice placed same are =
    let own : length slice ≡ length keys = ap length same in
    omega (arith, own, flops_few raw keys placed are)
