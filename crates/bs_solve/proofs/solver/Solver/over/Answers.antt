use Rattle.std.proofs.Common.{refl, sym, ap, subst}
use Rattle.bs_solve.specs.Ground.{IsOwn}
use Rattle.bs_solve_lemmas.specs.ProofLog.{ProofLog}
use Rattle.bs_solve.proofs.Startings.{whole_new}
use Rattle.bs_solve.proofs.Engines.{engine_new}
use Rattle.bs_solve.proofs.solver.Solver.over.Goals as goal

pub invariant_of-result : goal.invariant_of-result
invariant_of-result c =
    let f = c.in_ok-filled.filled in
    let e = c.in_ok-filled.ensures in
    engine_new c.new-proof.result c.args.vars f.watch f.arena f.database c.in_ok-marks.marks (record { rows = 0; long = 0 })
    (whole_new c.args.vars c.args.axioms.now c.slice.result.now f.watch f.watch f.arena.clauses f.database
    c.in_ok-marks.marks c.new-proof.result c.requires.vars c.requires.range c.requires.distinct c.slice.ensures c.new-proof.ensures e.trail
    e.levels e.holds_entries e.serves refl refl
    c.in_ok-marks.ensures) (ap (λ (b : ProofLog). b.problem.vars) (sym c.new-proof.ensures))
    (subst (λ (b : ProofLog). IsOwn b.problem) (sym c.new-proof.ensures) c.requires.range) e.words refl
