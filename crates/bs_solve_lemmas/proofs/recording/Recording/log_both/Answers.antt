use Rattle.std.proofs.Common.{◌≡◌, ◌∷◌, ◌++◌, [], ap, subst, ◌∙◌, sym, arith, ◌+◌, None}
use Rattle.bs_log.specs.declared.line.Line.TheVariants.{Retire, Delete}
use Rattle.bs_log.specs.History.{state_of}
use Rattle.bs_log.specs.Refusal.{refusal}
use Rattle.bs_solve_lemmas.specs.Ids.{Rises}
use Rattle.bs_solve_lemmas.specs.ProofLog.{ProofLog, IsRecorded, with_line, next_id, without}
use Rattle.bs_solve_lemmas.specs.Solver.{retired}
use Rattle.bs_solve_lemmas.proofs.ProofLogs.{recorded_retire, recorded_delete, deleted_rise, without_some}
use Rattle.bs_solve_lemmas.proofs.Entries.{lemmas_rise}
use Rattle.bs_solve_lemmas.proofs.Lines.{seen_two}
use Rattle.bs_solve_lemmas.proofs.recording.Recording.log_both.Goals as goal

pub take_out-requires-clause-ids : goal.take_out-requires-clause-ids
take_out-requires-clause-ids c = subst Rises (sym c.self.invariant.lemmas) (lemmas_rise _ _ c.self.invariant.kept.right)

pub take_out-requires-clause-gone : goal.take_out-requires-clause-gone
take_out-requires-clause-gone c = deleted_rise c.args.self.now.problem (retired c.args.self.now).history c.args.ids.now c.requires.gone

pub invariant_of-self-2 : goal.invariant_of-self-2
invariant_of-self-2 c =
    let b : ProofLog = c.args.self.now in
    let id = c.in_ok-id.id in
    let recorded = subst (IsRecorded c.self.inside.last c.self.inside.lemmas.items) c.self.view_is c.self.invariant in
    let one : IsRecorded id c.self.inside.lemmas.items (with_line b (Retire id)) =
    recorded_retire c.self.inside.last id c.self.inside.lemmas.items b recorded (c.in_ok-id.ensures.id ∙ ap (λ n. n + 1) (sym recorded.last_is))
    (omega arith) c.requires.phase in
    let gone : refusal b.problem (state_of b.problem (Retire id ∷ b.history)) (Delete c.args.ids.now) ≡ None =
    subst (λ n. refusal b.problem (state_of b.problem (Retire n ∷ b.history)) (Delete c.args.ids.now) ≡ None) (sym c.in_ok-id.ensures.id) c.requires.gone in
    subst (IsRecorded id c.take_out.new.ids.items)
    (sym (seen_two c.self.inside.vars c.self.inside.axioms.value c.self.inside.steps c.self.inside.log c.push_two.new.self (Retire id)
    (Delete c.args.ids.now) b c.self.view_is
    (subst (λ ids. c.push_two.new.self ≡ c.self.inside.log ++ Retire id ∷ Delete ids ∷ []) c.in_ok-named.ensures c.in-Ok.ensures.ok)))
    (recorded_delete id c.self.inside.lemmas.items c.args.ids.now c.take_out.new.ids.items (with_line b (Retire id)) one (omega arith) gone
    c.requires.some c.take_out.ensures)

pub returns-clause-ok : goal.returns-clause-ok
returns-clause-ok c =
    let b : ProofLog = c.args.self.now in
    let id = c.in_ok-id.id in
    seen_two c.self.inside.vars c.self.inside.axioms.value c.self.inside.steps c.self.inside.log c.push_two.new.self (Retire id)
    (Delete c.args.ids.now) b c.self.view_is
    (subst (λ ids. c.push_two.new.self ≡ c.self.inside.log ++ Retire id ∷ Delete ids ∷ []) c.in_ok-named.ensures c.in-Ok.ensures.ok) ∙
    ap (λ n. with_line (with_line b (Retire n)) (Delete c.args.ids.now)) c.in_ok-id.ensures.id ∙
    sym (without_some (retired b) c.args.ids.now c.requires.some)
