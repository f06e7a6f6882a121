use Rattle.std.proofs.Common.{ℕ, List, Option, map, subst}
use Rattle.std.specs.Option.{option_map}
use Rattle.bs_bits.specs.Reading.{Answers}
use Rattle.bs_vcd_header.specs.declared.fault.VcdFault.TheVariants.{NoMemory}
use Rattle.bs_vcd.specs.declared.cycles.MarkedStates.{MarkedStates}
use Rattle.bs_inspect_values.specs.Saying.{taken_in}
use Rattle.bs_inspect_values.proofs.values.taken.Goals as goal

pub returns-clause-is : goal.returns-clause-is
returns-clause-is c =
    let names : List (List ℕ) = map (λ n. n.now) c.args.names.now in
    subst (λ (s : Option (List ℕ)). Answers NoMemory (λ (t : MarkedStates). t) c.taken_by.result (taken_in c.args.partial c.args.text.now s c.args.sampling.clock.now names c.args.at c.args.back))
    c.maybe_bytes-scope.ensures
    (subst (λ (k : List ℕ). Answers NoMemory (λ (t : MarkedStates). t) c.taken_by.result (taken_in c.args.partial c.args.text.now (option_map (λ s. s.now) c.maybe_bytes-scope.result) k names c.args.at c.args.back))
    c.as_bytes-clock.ensures.value c.taken_by.ensures.is)
