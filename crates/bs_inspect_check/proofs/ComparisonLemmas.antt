-- The flip-flops of a run and a VCD, and then the data inputs.
use Rattle.std.proofs.Common.{◌≡◌, ◌⊎◌, inl, inr, ℕ, ◌-◌, List, Option, Result, Ok, Err, ap, sym, ◌∙◌}
use Rattle.bs_bits.specs.Reading.{◌>>=◌}
use Rattle.bs_net.specs.Netlist.{circuit_of}
use Rattle.bs_net.specs.Parts.{Parts}
use Rattle.bs_stim.specs.Runs.{run_at, Stimulus}
use Rattle.bs_vcd.specs.Stimulus.{stimulus_in}
use Rattle.bs_vcd_header.specs.declared.fault.VcdFault.{VcdFault}
use Rattle.bs_vcd_header.specs.declared.fault.VcdFault.TheVariants.{NoMemory as Want}
use Rattle.bs_inspect_report.specs.Keys.{input_keys}
use Rattle.bs_inspect_check.specs.declared.comparison.Comparison.{Comparison}
use Rattle.bs_inspect_check.specs.declared.comparison.RunOrigin.{RunOrigin}
use Rattle.bs_inspect_check.specs.declared.flops.FlopComparison.{FlopComparison}
use Rattle.bs_inspect_check.specs.Comparison.{compared_in, origin_of, whole}
use Rattle.bs_inspect_check.specs.Flops.{flops_compared}
use Rattle.bs_inspect_check.specs.Inputs.{inputs_compared}

abbrev goes_on : Parts → Stimulus → ℕ → (file text : List ℕ) → Option (List ℕ) → (clock : List ℕ) → Result FlopComparison VcdFault → Result Comparison VcdFault
goes_on raw s number file text scope clock r =
    r >>= λ flops. Ok (whole (origin_of (run_at s number) file) flops (inputs_compared s (number - 1) (stimulus_in text scope clock (input_keys raw))))

pub both_compared : (raw : Parts) (s : Stimulus) (number place : ℕ) (file text : List ℕ) (scope : Option (List ℕ)) (clock : List ℕ) (names : List (List ℕ))
    (own : RunOrigin) (flops : FlopComparison) (m : Comparison) → own ≡ origin_of (run_at s number) file → place ≡ number - 1 →
    flops_compared (circuit_of raw) (run_at s number).inputs text scope clock names ≡ Ok flops →
    m ≡ whole own flops (inputs_compared s place (stimulus_in text scope clock (input_keys raw))) → compared_in raw s number file text scope clock names ≡ Ok m
both_compared raw s number place file text scope clock names own flops m same at goes is =
    ap (goes_on raw s number file text scope clock) goes
    ∙ ap Ok (sym (is ∙ λ i. whole (same i) flops (inputs_compared s (at i) (stimulus_in text scope clock (input_keys raw)))))

pub flops_faulty : (raw : Parts) (s : Stimulus) (number : ℕ) (file text : List ℕ) (scope : Option (List ℕ)) (clock : List ℕ) (names : List (List ℕ))
    (fault : VcdFault) → (fault ≡ Want) ⊎ (flops_compared (circuit_of raw) (run_at s number).inputs text scope clock names ≡ Err fault) →
    (fault ≡ Want) ⊎ (compared_in raw s number file text scope clock names ≡ Err fault)
flops_faulty raw s number file text scope clock names fault (inl want) = inl want
flops_faulty raw s number file text scope clock names fault (inr e) = inr (ap (goes_on raw s number file text scope clock) e)
