-- The problem of a report's log.
use Rattle.std.proofs.Common.{◌≡◌, ℕ, ◌+◌, ◌<◌, ◌≤◌, arith, Bool, true, false, cond, eqb, leb, List, length, refl, ap, subst, sym, ◌∙◌, Option, Some, None, inl, inr, ◌⊎◌}
use Rattle.std.specs.Prelude.{All, IfOk, IfSome, IsTrue, MatchOption, Result, Ok, Err, ◌&&◌}
use Rattle.std.proofs.lemmas.Bool.{and_parts, leb-true, leb-false, true≢false}
use Rattle.bs_clause.specs.Literal.{Clause}
use Rattle.bs_log.specs.declared.line.Line.{Line}
use Rattle.bs_log.specs.History.{Problem}
use Rattle.bs_net.specs.Circuit.{Circuit}
use Rattle.bs_scan.specs.Choice.{Chosen, depth_of}
use Rattle.bs_scan.specs.Present.{Present}
use Rattle.bs_encode.specs.Encoded.{Encoded}
use Rattle.bs_encode.specs.Assuming.{steps_from}
use Rattle.bs_encode.specs.Depth.{basis_of, encoding_by}
use Rattle.bs_log.specs.Walk.{IsOneOf}
use Rattle.bs_report.specs.declared.report.Report.{Report}
use Rattle.bs_report.specs.declared.report.Step.{Step}
use Rattle.bs_evidence.specs.declared.flaw.Evidence.{Evidence}
use Rattle.bs_evidence.specs.declared.flaw.Evidence.TheVariants.{Text, Flawed}
use Rattle.bs_evidence.specs.declared.flaw.Flaw.{Flaw}
use Rattle.bs_evidence.specs.declared.flaw.Flaw.TheVariants as flaws
use Rattle.bs_evidence.specs.declared.evidence.Format.{Format}
use Rattle.bs_evidence.specs.Evidence.{problem_for, HasAsked, IsLogEvidence, IsLogFlaw, IsMisfit, IsUnfit, IsFitOr, IsFlawed, IsMissing, IsNoStep, IsEvidence, is_fit, is_there, has_signatures, misfit_of}

abbrev pub problem_over : ℕ → List Clause → List Clause → Problem
problem_over vars clauses steps = record { vars = vars; clauses = clauses; steps = steps }

pub same_problem : (c : Circuit) (choice : Chosen) (presents : List Present) (e : Encoded) (vars : ℕ) (clauses assumptions : List Clause) →
    e ≡ encoding_by c choice → vars ≡ e.variables → clauses ≡ e.clauses → assumptions ≡ steps_from e 1 presents →
    problem_over vars clauses assumptions ≡ (basis_of c choice presents).problem
same_problem c choice presents e vars clauses assumptions h n d a =
    (λ i. problem_over (n i) (d i) (a i)) ∙ ap (λ (e : Encoded). problem_over e.variables e.clauses (steps_from e 1 presents)) h

pub evidence_of : {E : Type 0} (kind : Format) (p q : Problem) (log : List Line) (asked : Option ℕ) (result : Result Evidence E) → p ≡ q →
    IfOk result (IsLogEvidence kind p log asked) → IfOk result (IsLogEvidence kind q log asked)
evidence_of kind p q log asked result same h = subst (λ (p : Problem). IfOk result (IsLogEvidence kind p log asked)) same h

flaw_of : (c : Circuit) (choice : Chosen) (r : Report) (asked : Option ℕ) (flaw : Flaw) → HasAsked c choice r asked →
    IsLogFlaw (problem_for c choice r) r.log asked flaw → IsFlawed c choice r asked flaw
flaw_of c choice r asked flaws.Format there lost = absurd lost
flaw_of c choice r asked flaws.Stop there lost = absurd lost
flaw_of c choice r asked (flaws.Present i) there lost = absurd lost
flaw_of c choice r asked (flaws.Stored i) there lost = absurd lost
flaw_of c choice r asked flaws.NoStep there lost = absurd lost
flaw_of c choice r asked (flaws.Log line why) there is = (there, is)
flaw_of c choice r asked flaws.Unfinished there is = (there, is)
flaw_of c choice r asked flaws.Long there is = (there, is)

pub shown_of : (kind : Format) (c : Circuit) (choice : Chosen) (r : Report) (asked : Option ℕ) (e : Evidence) → HasAsked c choice r asked →
    IsLogEvidence kind (problem_for c choice r) r.log asked e → IsEvidence kind c choice r asked e
shown_of kind c choice r asked (Text text) there is = record { there = there; log = is }
shown_of kind c choice r asked (Flawed flaw) there is = flaw_of c choice r asked flaw there is

pub asked_shown : {E : Type 0} (kind : Format) (c : Circuit) (choice : Chosen) (r : Report) (asked : Option ℕ) (result : Result Evidence E) →
    HasAsked c choice r asked → IfOk result (IsLogEvidence kind (problem_for c choice r) r.log asked) → IfOk result (IsEvidence kind c choice r asked)
asked_shown kind c choice r asked (Ok e) there is = shown_of kind c choice r asked e there is
asked_shown kind c choice r asked (Err e) there is = tt

-- ---- a report that does not fit

no_other : (flops items depth number : ℕ) (step : Step) (flaw : Flaw) → misfit_of flops items depth number step ≡ Some flaw →
    (flaw ≡ flaws.Present number) ⊎ (flaw ≡ flaws.Stored number)
no_other flops items depth number step flaw = by (eqb (length step.present.bits) flops) (has_signatures items depth step)
  where
    by : (a b : Bool) → cond a (cond b None (Some (flaws.Stored number))) (Some (flaws.Present number)) ≡ Some flaw →
        (flaw ≡ flaws.Present number) ⊎ (flaw ≡ flaws.Stored number)
    by true true e = absurd (cc)
    by true false e = inr (let same : flaws.Stored number ≡ flaw = cc in sym same)
    by false b e = inl (let same : flaws.Present number ≡ flaw = cc in sym same)

pub misfit_unfit : (c : Circuit) (choice : Chosen) (r : Report) (flaw : Flaw) → IsMisfit (length c.flops) (length choice.items) (depth_of choice) r.steps flaw →
    IsUnfit c choice r flaw
misfit_unfit c choice r flaw m = elim (no_other (length c.flops) (length choice.items) (depth_of choice) (m.place + 1) m.step flaw m.is) [
  | inl present ↦ subst (IsUnfit c choice r) (sym present) (subst (IsMisfit (length c.flops) (length choice.items) (depth_of choice) r.steps) present m)
  | inr stored ↦ subst (IsUnfit c choice r) (sym stored) (subst (IsMisfit (length c.flops) (length choice.items) (depth_of choice) r.steps) stored m)
]

pub fit_or : (c : Circuit) (choice : Chosen) (r : Report) (result : Option Flaw) → r.depth ≡ depth_of choice → length r.steps ≤ r.budgets.steps →
    MatchOption result (All (λ step. IsTrue (is_fit (length c.flops) (length choice.items) (depth_of choice) step)) r.steps)
    (IsMisfit (length c.flops) (length choice.items) (depth_of choice) r.steps) →
    IsFitOr c choice r result
fit_or c choice r None depth few fit = record { depth = depth; few = few; fit = fit }
fit_or c choice r (Some flaw) depth few misfit = misfit_unfit c choice r flaw misfit

unfit_flawed : (c : Circuit) (choice : Chosen) (r : Report) (asked : Option ℕ) (flaw : Flaw) → IsUnfit c choice r flaw → IsFlawed c choice r asked flaw
unfit_flawed c choice r asked flaws.Format is = is
unfit_flawed c choice r asked flaws.Stop is = is
unfit_flawed c choice r asked (flaws.Present i) is = is
unfit_flawed c choice r asked (flaws.Stored i) is = is
unfit_flawed c choice r asked flaws.NoStep lost = absurd lost
unfit_flawed c choice r asked (flaws.Log line why) lost = absurd lost
unfit_flawed c choice r asked flaws.Unfinished lost = absurd lost
unfit_flawed c choice r asked flaws.Long lost = absurd lost

pub missing_some : (c : Circuit) (choice : Chosen) (r : Report) (asked : Option ℕ) (o : Option Flaw) (flaw : Flaw) → o ≡ Some flaw → IsFitOr c choice r o →
    IsMissing c choice r asked (Some flaw)
missing_some c choice r asked o flaw is unfit = unfit_flawed c choice r asked flaw (subst (IsFitOr c choice r) is unfit)

-- what is asked for is there, or it is none of so many steps
pub there_of : (count : ℕ) (asked : Option ℕ) → is_there count asked ≡ true → IfSome asked (IsOneOf count)
there_of count None is = tt
there_of count (Some step) is =
    let parts = and_parts (leb 1 step) (leb step count) is in
    (leb-true 1 step parts.0, leb-true step count parts.1)

pub none_there : (count : ℕ) (asked : Option ℕ) → is_there count asked ≡ false → IsNoStep count asked
none_there count None lost = absurd (true≢false lost)
none_there count (Some step) none = by (leb 1 step) refl (leb step count) refl none
  where
    by : (a : Bool) → leb 1 step ≡ a → (b : Bool) → leb step count ≡ b → (a && b) ≡ false → (step ≡ 0) ⊎ (count < step)
    by true _ true _ lost = absurd (true≢false lost)
    by true _ false high _ = inr (let over = leb-false step count high in omega (arith, over))
    by false low b _ _ = inl (let under = leb-false 1 step low in omega (arith, under))

pub missing_none : (c : Circuit) (choice : Chosen) (r : Report) (asked : Option ℕ) (o : Option Flaw) (count : ℕ) → o ≡ None → IsFitOr c choice r o →
    count ≡ length r.steps → is_there count asked ≡ true → IsMissing c choice r asked None
missing_none c choice r asked o count is fits many there =
    record {
      fits = subst (IsFitOr c choice r) is fits;
      there = subst (λ n. IfSome asked (IsOneOf n)) many (there_of count asked there);
    }

pub no_step : (c : Circuit) (choice : Chosen) (r : Report) (asked : Option ℕ) (count : ℕ) → count ≡ length r.steps → is_there count asked ≡ false →
    IsMissing c choice r asked (Some flaws.NoStep)
no_step c choice r asked count many none = subst (λ n. IsNoStep n asked) many (none_there count asked none)
