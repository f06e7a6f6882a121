use Rattle.std.proofs.Common.{◌≡◌, false, length, refl, sym, subst, arith}
use Rattle.std.specs.Prelude.{Contains}
use Rattle.bs_net.specs.Circuit.{Circuit}
use Rattle.bs_net.specs.Netlist.{circuit}
use Rattle.bs_scan.specs.Choice.{Chosen}
use Rattle.bs_encode.specs.Encoded.{Encoded}
use Rattle.bs_encode.specs.Depth.{encoding_by}
use Rattle.bs_solve_lemmas.specs.Solver.{SolverState}
use Rattle.bs_solve_lemmas.proofs.CallerLemmas.{axioms_stand}
use Rattle.bs_preimage.specs.Rest.{IsPrepared, made}
use Rattle.bs_preimage.proofs.preimage.Preimage.over.Goals as goal

-- a solver that was just made is prepared
made_prepared : (c : Circuit) (choice : Chosen) (e : Encoded) (s : SolverState) → choice.width ≡ length c.flops → e ≡ encoding_by c choice → s ≡ made e →
    IsPrepared c choice e s 0 false
made_prepared c choice e s width encoded is = subst (λ x. IsPrepared c choice e x 0 false) (sym is) (record {
  about = record { width = width; encoding = encoded; vars = refl; clauses = refl };
  rest = λ _. record {
    well = refl;
    idle = refl;
    activations = omega arith;
    number = refl;
    count = refl;
    stand = λ x there. subst (λ cs. Contains cs x) (sym (axioms_stand (made e).proof.problem)) there;
    retired = λ n low high. absurd (omega (arith, low, high));
    whole = λ more. refl;
  };
  steps = λ _. refl;
})

pub invariant_of-result : goal.invariant_of-result
invariant_of-result c =
    made_prepared (circuit c.args.net.now) c.args.choice.now c.args.encoding c.in_ok-solver.solver c.requires.width c.requires.encoding
    c.in_ok-solver.ensures
