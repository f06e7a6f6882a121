use Rattle.std.proofs.Common.{ℕ, List, Option, map, subst}
use Rattle.std.specs.Option.{option_map}
use Rattle.bs_bits.specs.Reading.{Answers}
use Rattle.bs_vcd_header.specs.declared.fault.VcdFault.TheVariants.{NoMemory}
use Rattle.bs_inspect_check.specs.declared.comparison.Comparison.{Comparison}
use Rattle.bs_inspect_check.specs.Comparison.{compared_in}
use Rattle.bs_inspect_files.proofs.reading.compared.Goals as goal

pub returns : goal.returns
returns c =
    let names : List (List ℕ) = map (λ n. n.now) c.args.names.now in
    let scope : Option (List ℕ) = option_map (λ s. s.now) c.maybe_bytes-scope.result in
    subst (λ (s : Option (List ℕ)). Answers NoMemory (λ (m : Comparison). m) c.compare.result
    (compared_in c.args.run.net.now.raw c.args.run.runs.now c.args.run.number c.args.sampling.vcd.now c.args.text.now s c.args.sampling.clock.now names))
    c.maybe_bytes-scope.ensures
    (subst (λ (k : List ℕ). Answers NoMemory (λ (m : Comparison). m) c.compare.result
    (compared_in c.args.run.net.now.raw c.args.run.runs.now c.args.run.number c.args.sampling.vcd.now c.args.text.now scope k names))
    c.as_bytes-clock.ensures.value
    (subst (λ (f : List ℕ). Answers NoMemory (λ (m : Comparison). m) c.compare.result
    (compared_in c.args.run.net.now.raw c.args.run.runs.now c.args.run.number f c.args.text.now scope c.as_bytes-clock.result.now names))
    c.as_bytes-file.ensures.value c.compare.ensures))
