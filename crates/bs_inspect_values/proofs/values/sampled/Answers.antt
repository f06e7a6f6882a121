use Rattle.std.proofs.Common.{ℕ, List, Option, map, subst}
use Rattle.std.specs.Option.{option_map}
use Rattle.bs_bits.specs.Reading.{Answers}
use Rattle.bs_vcd_header.specs.declared.fault.VcdFault.TheVariants.{NoMemory}
use Rattle.bs_vcd.specs.declared.clock_edges.SampledLines.{SampledLines}
use Rattle.bs_vcd.specs.Stimulus.{stimulus_in}
use Rattle.bs_inspect_values.proofs.values.sampled.Goals as goal

pub returns : goal.returns
returns c =
    let names : List (List ℕ) = map (λ n. n.now) c.args.names.now in
    subst (λ (s : Option (List ℕ)). Answers NoMemory (λ (s : SampledLines). s) c.stimulus.result (stimulus_in c.args.text.now s c.args.sampling.clock.now names))
    c.maybe_bytes-scope.ensures
    (subst (λ (k : List ℕ). Answers NoMemory (λ (s : SampledLines). s) c.stimulus.result (stimulus_in c.args.text.now (option_map (λ s. s.now) c.maybe_bytes-scope.result) k names))
    c.as_bytes-clock.ensures.value c.stimulus.ensures)
