use Rattle.std.proofs.Common.{◌-◌, ◌∙◌, ap, take, ◌≡◌, ℕ, List, arith, length, drop, subst}
use Rattle.std.proofs.lemmas.List.{length-drop, take_all}
use Rattle.bs_lanes.specs.Layout.{placed_gates}
use Rattle.bs_lanes.specs.Program.{IsFirst, program_gates}
use Rattle.bs_lanes.proofs.ProgramLemmas.{one_more_stretch, length_placed}
use Rattle.bs_lanes.proofs.program.stretches_of.Goals as goal

pub stretches-preserved : goal.stretches-preserved
stretches-preserved c =
    let rest : List ℕ = drop c.stretches.at c.args.order.now in
    let whole : take (length c.args.order.now - c.stretches.at) rest ≡ rest =
    take_all (length c.args.order.now - c.stretches.at) rest (omega (arith, length-drop c.stretches.at c.args.order.now)) in
    let Q : List ℕ → Type 0 = λ is. IsFirst (placed_gates c.args.places.now is c.args.gates.now) c.in_ok-stretch.stretch c.in_ok-stretch.count in
    let first : IsFirst (placed_gates c.args.places.now rest c.args.gates.now) c.in_ok-stretch.stretch c.in_ok-stretch.count = subst Q whole
    c.in_ok-stretch.ensures in
    record {
      within = omega
          (arith, first.few, length_placed c.args.places.now rest c.args.gates.now, length-drop c.stretches.at c.args.order.now, c.stretches.invariant.within);
      so_far =
          ap program_gates c.in_ok-push.ensures.ok
          ∙ one_more_stretch c.args.places.now c.args.order.now c.args.gates.now c.stretches.stretches c.in_ok-stretch.stretch c.stretches.at
          c.in_ok-stretch.count c.stretches.invariant.so_far first;
    }
