use Rattle.std.proofs.Common.{◌≡◌, ap, subst, ◌∙◌, sym, arith, ◌+◌, ◌++◌, ◌∷◌, []}
use Rattle.bs_log.specs.declared.line.Line.TheVariants.{Lemma}
use Rattle.bs_log.specs.declared.origin.Origin.TheVariants.{Learnt}
use Rattle.bs_log.specs.History.{Entry, live}
use Rattle.bs_log.specs.Refusal.{entry_of}
use Rattle.bs_solve_lemmas.specs.ProofLog.{ProofLog, IsKept, IsRecorded, with_lemma}
use Rattle.bs_solve_lemmas.proofs.ProofLogs.{recorded_lemma, lemma_stands}
use Rattle.bs_solve_lemmas.proofs.Entries.{found_last}
use Rattle.bs_solve_lemmas.proofs.Lines.{recorded_line, seen_line}
use Rattle.bs_solve_lemmas.proofs.recording.Recording.log_lemma.Goals as goal

pub invariant_of-self-2 : goal.invariant_of-self-2
invariant_of-self-2 c =
    let recorded = subst (IsRecorded c.self.inside.last c.self.inside.lemmas.items) c.self.view_is c.self.invariant in
    let more : c.push_id.new.ids.items ≡ c.self.inside.lemmas.items ++ c.in_ok-id.id ∷ [] =
    c.push_id.ensures ∙ ap (λ xs. xs ++ c.in_ok-id.id ∷ []) c.in_ok-reserve.ensures.items in
    recorded_line c.in_ok-id.id c.push_id.new.ids.items c.self.inside.vars c.self.inside.axioms.value c.self.inside.steps c.self.inside.log c.push.new.self
    (Lemma c.in_ok-id.id c.args.lits c.args.hints) c.args.self.now c.self.view_is c.in-Ok.ensures.ok
    (subst (λ ids. IsRecorded c.in_ok-id.id ids (with_lemma c.args.self.now c.in_ok-id.id c.args.lits c.args.hints)) (sym more)
    (recorded_lemma c.self.inside.last c.in_ok-id.id c.self.inside.lemmas.items c.args.self.now c.args.lits c.args.hints recorded
    (c.in_ok-id.ensures.id ∙ ap (λ n. n + 1) (sym recorded.last_is)) (omega arith) c.requires.phase c.requires.learnt c.requires.range c.requires.new))

pub returns-clause-stands : goal.returns-clause-stands
returns-clause-stands c =
    ap (λ (b : ProofLog). live b.problem b.history)
    (seen_line c.self.inside.vars c.self.inside.axioms.value c.self.inside.steps c.self.inside.log c.push.new.self
    (Lemma c.in_ok-id.id c.args.lits c.args.hints) c.args.self.now c.self.view_is
    c.in-Ok.ensures.ok) ∙
    lemma_stands c.args.self.now c.in_ok-id.id c.args.lits c.args.hints (subst IsKept c.self.view_is c.self.invariant.kept) c.in_ok-id.ensures.id

pub returns-clause-entry : goal.returns-clause-entry
returns-clause-entry c =
    let recorded = subst (IsRecorded c.self.inside.last c.self.inside.lemmas.items) c.self.view_is c.self.invariant in
    let e : Entry = record { id = c.in_ok-id.id; origin = Learnt; literals = c.args.lits } in
    let after = recorded_lemma c.self.inside.last c.in_ok-id.id c.self.inside.lemmas.items c.args.self.now c.args.lits c.args.hints recorded
    (c.in_ok-id.ensures.id ∙ ap (λ n. n + 1) (sym recorded.last_is)) (omega arith) c.requires.phase c.requires.learnt c.requires.range c.requires.new in
    let new : ProofLog = with_lemma c.args.self.now c.in_ok-id.id c.args.lits c.args.hints in
    ap (λ (b : ProofLog). entry_of (live b.problem b.history) c.in_ok-id.id)
    (seen_line c.self.inside.vars c.self.inside.axioms.value c.self.inside.steps c.self.inside.log c.push.new.self
    (Lemma c.in_ok-id.id c.args.lits c.args.hints) c.args.self.now c.self.view_is
    c.in-Ok.ensures.ok) ∙
    found_last new.problem new.history (live c.args.self.now.problem c.args.self.now.history) e after.kept.right
    (lemma_stands c.args.self.now c.in_ok-id.id c.args.lits c.args.hints (subst IsKept c.self.view_is c.self.invariant.kept) c.in_ok-id.ensures.id)
