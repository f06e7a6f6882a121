use Rattle.std.proofs.Common.{◌≡◌, refl, sym, subst, arith, None}
use Rattle.bs_log.specs.declared.line.Line.TheVariants.{Delete}
use Rattle.bs_log.specs.History.{live, state_of}
use Rattle.bs_log.specs.Refusal.{refusal}
use Rattle.bs_solve_lemmas.specs.Rows.{AreInOrder}
use Rattle.bs_solve_lemmas.specs.ProofLog.{ProofLog, IsKept}
use Rattle.bs_solve_lemmas.specs.Solver.{retired}
use Rattle.bs_solve_lemmas.proofs.ProofLogs.{retired_in_order}
use Rattle.bs_solve_lemmas.proofs.StepEnds.{leaving_is_right, stands_at_end, stands_at_bare_end}
use Rattle.bs_solve_lemmas.proofs.recording.Recording.log_end.Goals as goal

pub log_both-requires-clause-gone : goal.log_both-requires-clause-gone
log_both-requires-clause-gone c =
    let b : ProofLog = c.args.self.now in
    let order : AreInOrder (live (retired b).problem (retired b).history) =
    retired_in_order b (subst IsKept c.self.view_is c.self.invariant.kept) c.requires.phase in
    subst (λ ids. refusal b.problem (state_of b.problem (retired b).history) (Delete ids) ≡ None) (sym c.requires.leaving)
    (leaving_is_right b (retired b) refl order)

pub returns-then-ids-eq0-clause-order : goal.returns-then-ids-eq0-clause-order
returns-then-ids-eq0-clause-order c =
    retired_in_order c.args.self.now (subst IsKept c.self.view_is c.self.invariant.kept) c.requires.phase

pub returns-else-ids-eq0-clause-order : goal.returns-else-ids-eq0-clause-order
returns-else-ids-eq0-clause-order c =
    retired_in_order c.args.self.now (subst IsKept c.self.view_is c.self.invariant.kept) c.requires.phase

pub returns-then-ids-eq0-clause-stands : goal.returns-then-ids-eq0-clause-stands
returns-then-ids-eq0-clause-stands c =
    stands_at_bare_end c.log_retire.result c.args.self.now c.log_retire.new.self c.args.ids.now (omega (arith, c.if-ids-eq0.true))
    c.log_retire.ensures.ok

pub returns-else-ids-eq0-clause-stands : goal.returns-else-ids-eq0-clause-stands
returns-else-ids-eq0-clause-stands c =
    stands_at_end c.log_both.result c.args.self.now c.log_both.new.self c.args.ids.now c.log_both.ensures.ok
