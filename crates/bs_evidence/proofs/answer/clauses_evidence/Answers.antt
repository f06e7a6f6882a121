use Rattle.std.proofs.Common.{◌≡◌, ◌∙◌, ◌*◌, ℕ, sym, subst, ap, arith, length}
use Rattle.std.specs.Prelude.{IfSome}
use Rattle.std.proofs.lemmas.List.FromFn.{length-map-range_with_len}
use Rattle.bs_log.specs.Walk.{IsOneOf}
use Rattle.bs_evidence.proofs.ProblemLemmas.{evidence_of, problem_over}
use Rattle.bs_reach_unrolled.specs.Unrolled.{length_assumes, reach_problem}
use Rattle.bs_evidence.proofs.LengthLemmas.{same_problem}
use Rattle.bs_evidence.proofs.answer.clauses_evidence.Goals as goal

pub log_evidence-evidence-requires : goal.log_evidence-evidence-requires
log_evidence-evidence-requires c =
    let many = ap length c.in-Ok.ensures ∙ length-map-range_with_len (length_assumes c.args.encoding.now c.args.k c.args.state.now) 1 c.args.count in
    let vars : c.args.k * c.vars.result ≡ c.args.k * c.args.encoding.now.variables = ap (λ (n : ℕ). c.args.k * n) c.vars.ensures in
    record {
      there = subst (λ n. IfSome c.args.asked (IsOneOf n)) (sym many) c.requires.there;
      room = omega (arith, many, vars, c.requires.unrollable.room, c.requires.unrollable.cycles, c.requires.within);
    }

pub returns-in-Ok : goal.returns-in-Ok
returns-in-Ok c =
    evidence_of c.args.kind (problem_over (c.args.k * c.vars.result) c.args.clauses.now c.in-Ok.steps)
    (reach_problem c.args.encoding.now c.args._reset.now c.args.k c.args.state.now c.args.count) c.args.log.now c.args.asked c.log_evidence-evidence.result
    (same_problem c.args.encoding.now c.args._reset.now c.args.k c.args.state.now c.args.count (c.args.k * c.vars.result) c.args.clauses.now c.in-Ok.steps
    (ap (λ (n : ℕ). c.args.k * n) c.vars.ensures) c.requires.clauses c.in-Ok.ensures)
    c.log_evidence-evidence.ensures
