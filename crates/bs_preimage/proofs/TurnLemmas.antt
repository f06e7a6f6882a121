-- What a turn does.
use Rattle.std.proofs.Common.{◌≡◌, ◌≢◌, ℕ, ◌≤◌, Bool, true, false, not, List, [], ◌∷◌, ◌++◌, map, refl, ap, subst, sym, ◌∙◌, ◌⊎◌}
use Rattle.std.proofs.Common.{inl, inr, append_assoc, arith, Option, Some, None}
use Rattle.std.specs.Prelude.{Contains, All, ◌||◌}
use Rattle.std.specs.List.{AllByRecursion as Each, list_any}
use Rattle.std.specs.Bool.{beq}
use Rattle.std.proofs.lemmas.Bool.{false≢true, true≢false}
use Rattle.std.proofs.lemmas.List.Elements.{All-contains}
use Rattle.bs_clause.specs.Literal.{Literal, Clause, negation, literal_value, Satisfies}
use Rattle.bs_clause.specs.UnitRun.{IsUnitRun}
use Rattle.bs_log.specs.declared.line.Line.{Line}
use Rattle.bs_log.specs.declared.line.Line.TheVariants.{Lemma, Block}
use Rattle.bs_log.specs.History.{Problem}
use Rattle.bs_log.specs.Steps.{is_lemma_line}
use Rattle.bs_solve_lemmas.specs.declared.answer.Answer.{Answer}
use Rattle.bs_solve_lemmas.specs.declared.answer.Answer.TheVariants as answers
use Rattle.bs_solve_lemmas.specs.ProofLog.{ProofLog, standing}
use Rattle.bs_solve_lemmas.specs.Ending.{is_open_lemma}
use Rattle.bs_solve_lemmas.specs.Search.{assumed}
use Rattle.bs_solve_lemmas.specs.Stages.{is_begun, begun_proof}
use Rattle.bs_solve_lemmas.specs.Solver.{SolverState, HasSolved, HasBlocked, Follows}
use Rattle.bs_solve_lemmas.specs.Values.{value_of}
use Rattle.bs_solve_lemmas.proofs.Clauses.{all_from}
use Rattle.bs_encode.specs.Encoded.{Encoded}
use Rattle.bs_encode.specs.Assuming.{signed, block_for}
use Rattle.bs_encode.specs.Cycle.{bits_on}
use Rattle.bs_bits.specs.Bits.{bits_eq}
use Rattle.bs_scan.specs.Moments.{is_listed}
use Rattle.bs_report.specs.declared.report.Cand.{Cand}
use Rattle.bs_report.specs.Step.{listed}
use Rattle.bs_solve.specs.Opening.{HasOpened}
use Rattle.bs_preimage.specs.declared.next_candidate.TurnEnd.{TurnEnd}
use Rattle.bs_preimage.specs.declared.next_candidate.TurnEnd.TheVariants.{Listed, Refuted, Spent}
use Rattle.bs_preimage.specs.Turn.{Extends, HasSearched, MayTurn, TurnsTo, HasShown, HasShownCand, HasListedOne, block_in, activation_in, steps_after}
use Rattle.bs_preimage.specs.Turn.{HasBlockedState, HasBlockedKnown, HasTakenKnown, GoesTo}
use Rattle.bs_solve_lemmas.proofs.CallerLemmas.{begun_history, begun_vars, begun_clauses, open_are_lemmas, solved_keeps}

-- ---- the proof log as a search begins

begun_steps : (t : Bool) (b : ProofLog) (a : Clause) → (begun_proof t b a).problem.steps ≡ steps_after t b.problem.steps a
begun_steps true b a = refl
begun_steps false b a = refl

-- ---- the lines of a search

searched_by : (old new : SolverState) (a : Clause) (limit : ℕ) (answer : Answer) → HasSolved old new a limit answer → (lines : List Line) →
    new.proof.problem ≡ (begun_proof (is_begun old.stage) old.proof a).problem → new.proof.history ≡ lines ++ (begun_proof (is_begun old.stage) old.proof a).history →
    Each (λ line. is_lemma_line line ≡ true) lines → HasSearched old new a lines
searched_by old new a limit answer s lines p h all =
    let t : Bool = is_begun old.stage in
    record {
      was_well = s.was_well;
      well = s.well;
      vars = ap (λ (p : Problem). p.vars) p ∙ begun_vars t old.proof a;
      clauses = ap (λ (p : Problem). p.clauses) p ∙ begun_clauses t old.proof a;
      steps = ap (λ (p : Problem). p.steps) p ∙ begun_steps t old.proof a;
      history = h ∙ ap (λ (h : List Line). lines ++ h) (begun_history t old.proof a);
      are_lemmas = all;
      stand = solved_keeps old new a limit answer s;
      assumed_is = s.step;
      activations = s.vars;
    }

-- ---- extensions

pub follows_extends : (first : Bool) (old new : ProofLog) (a : Clause) → Follows first old new a → Extends first old new a
follows_extends first old new a f = record { vars = f.vars; clauses = f.clauses; more = f.lines; history = f.history; steps = f.steps }

pub extends_same : (first : Bool) (old new : ProofLog) (a : Clause) → new ≡ old → Extends first old new a
extends_same first old new a e =
    record {
      vars = ap (λ (b : ProofLog). b.problem.vars) e;
      clauses = ap (λ (b : ProofLog). b.problem.clauses) e;
      more = [];
      history = ap (λ (b : ProofLog). b.history) e;
      steps = inl (ap (λ (b : ProofLog). b.problem.steps) e);
    }

pub extends_line : (first : Bool) (old new : ProofLog) (line : Line) (a : Clause) → new ≡ record { problem = old.problem; history = line ∷ old.history } →
    Extends first old new a
extends_line first old new line a e =
    record {
      vars = ap (λ (b : ProofLog). b.problem.vars) e;
      clauses = ap (λ (b : ProofLog). b.problem.clauses) e;
      more = line ∷ [];
      history = ap (λ (b : ProofLog). b.history) e;
      steps = inl (ap (λ (b : ProofLog). b.problem.steps) e);
    }

-- the assumptions are added at most once
pub extends_then : (first : Bool) (a b c : ProofLog) (assumptions others : Clause) → Extends first a b assumptions → Extends false b c others →
    Extends first a c assumptions
extends_then first a b c assumptions others f g =
    record {
      vars = g.vars ∙ f.vars;
      clauses = g.clauses ∙ f.clauses;
      more = g.more ++ f.more;
      history = g.history ∙ (ap (λ (h : List Line). g.more ++ h) f.history ∙ sym (append_assoc g.more f.more a.history));
      steps = by f.steps (kept g.steps);
    }
  where
    kept : (c.problem.steps ≡ b.problem.steps) ⊎ ((false ≡ true) × (c.problem.steps ≡ b.problem.steps ++ others ∷ [])) → c.problem.steps ≡ b.problem.steps
    kept (inl same) = same
    kept (inr more) = absurd (false≢true more.0)

    by : (b.problem.steps ≡ a.problem.steps) ⊎ ((first ≡ true) × (b.problem.steps ≡ a.problem.steps ++ assumptions ∷ [])) → c.problem.steps ≡ b.problem.steps →
        (c.problem.steps ≡ a.problem.steps) ⊎ ((first ≡ true) × (c.problem.steps ≡ a.problem.steps ++ assumptions ∷ []))
    by (inl same) kept = inl (kept ∙ same)
    by (inr more) kept = inr (more.0, kept ∙ more.1)

-- nothing was added before
pub extends_from : (a b c : ProofLog) (assumptions : Clause) (first : Bool) → b.problem ≡ a.problem → (more : List Line) → b.history ≡ more ++ a.history →
    Extends first b c assumptions → Extends first a c assumptions
extends_from a b c assumptions first p more h g =
    record {
      vars = g.vars ∙ ap (λ (p : Problem). p.vars) p;
      clauses = g.clauses ∙ ap (λ (p : Problem). p.clauses) p;
      more = g.more ++ more;
      history = g.history ∙ (ap (λ (h : List Line). g.more ++ h) h ∙ sym (append_assoc g.more more a.history));
      steps = subst (λ (steps : List Clause). (c.problem.steps ≡ steps) ⊎ ((first ≡ true) × (c.problem.steps ≡ steps ++ assumptions ∷ [])))
          (ap (λ (p : Problem). p.steps) p) g.steps;
    }

-- ---- what a solution shows

not_same : (b : Bool) → beq b (not b) ≡ false
not_same true = refl
not_same false = refl

-- no literal of a state's block is true where the state is shown
block_is_false : (value : ℕ → Bool) (ls : List Literal) → list_any (literal_value value) (signed ls (map not (bits_on value ls))) ≡ false
block_is_false value [] = refl
block_is_false value (l ∷ ls) =
    ap (λ (b : Bool). b || list_any (literal_value value) (signed ls (map not (bits_on value ls)))) (not_same (value l.variable)) ∙ block_is_false value ls

negation_is_false : (value : ℕ → Bool) (l : Literal) → literal_value value l ≡ true → literal_value value (negation l) ≡ false
negation_is_false value l e = by (value l.variable) l.positive e
  where
    by : (b c : Bool) → beq b c ≡ true → beq b (not c) ≡ false
    by true true e = refl
    by false false e = refl
    by true false e = absurd (false≢true e)
    by false true e = absurd (false≢true e)

both_false : (a b : Bool) → a ≡ false → b ≡ false → (a || b) ≡ false
both_false a b e f = ap (λ (z : Bool). z || b) e ∙ f

-- a state that is shown where the activation literal is true is not blocked
pub shown_is_open : (value : ℕ → Bool) (e : Encoded) (activation : Literal) (s t : List Bool) → literal_value value activation ≡ true → s ≡ bits_on value e.states →
    Satisfies value (negation activation ∷ block_for e t) → s ≢ t
shown_is_open value e activation s t g shows meets same =
    let is_false : list_any (literal_value value) (negation activation ∷ block_for e t) ≡ false =
    both_false (literal_value value (negation activation)) (list_any (literal_value value) (block_for e t)) (negation_is_false value activation g)
    (ap (λ (t : List Bool). list_any (literal_value value) (block_for e t)) (sym same ∙ shows) ∙ block_is_false value e.states) in
    true≢false (sym meets ∙ is_false)

found_shows : (e : Encoded) (a : Clause) (old middle new : SolverState) (limit : ℕ) (values : List (Option Bool)) (cand : Cand) → MayTurn e old a →
    HasSolved old middle a limit (answers.Found values) → HasShownCand e values middle new cand → HasListedOne e a limit old new cand
found_shows e a old middle new limit values cand may s shown =
    let found = s.ends in
    let lines : List Line = found.lemmas.lines in
    let searched : HasSearched old middle a lines =
    searched_by old middle a limit (answers.Found values) s lines found.lemmas.problem found.lemmas.history (open_are_lemmas _ lines found.lemmas.open_yet) in
    let v : ℕ → Bool = value_of values in
    let holds : All (λ l. literal_value v l ≡ true) a = subst (λ (c : Clause). All (λ l. literal_value v l ≡ true) c) s.step found.solution.assumptions_met in
    record {
      middle = middle;
      lemmas = lines;
      searched = searched;
      few = omega (arith, found.lemmas.length_is, found.under);
      id = shown.id;
      blocked = shown.blocked;
      shown = record {
        value = v;
        clauses = all_from (Satisfies v) e.clauses
            (λ c there. All-contains (Satisfies v) (standing middle.proof) c found.solution.clauses_met
            (searched.stand c (may.stand c (subst (λ (cs : List Clause). Contains cs c) (sym may.clauses) there))));
        holds = holds;
        state = shown.state;
        input = shown.input;
        before = shown.before;
      };
      apart = λ t there.
          shown_is_open v e (activation_in old.proof) cand.state t (All-contains (λ l. literal_value v l ≡ true) a (activation_in old.proof) holds may.activation) shown.state
          (All-contains (Satisfies v) (standing middle.proof) (block_in e old.proof t) found.solution.clauses_met (searched.stand (block_in e old.proof t) there));
    }

pub found_turn : (e : Encoded) (a : Clause) (old middle new : SolverState) (limit : ℕ) (values : List (Option Bool)) (turn : TurnEnd) → MayTurn e old a →
    HasSolved old middle a limit (answers.Found values) → HasShown e values middle new turn → TurnsTo e a limit old new turn
found_turn e a old middle new limit values (Listed cand) may s shown = found_shows e a old middle new limit values cand may s shown
found_turn e a old middle new limit values (Refuted id) may s shown = absurd shown
found_turn e a old middle new limit values Spent may s shown = absurd shown

pub refuted_turn : (e : Encoded) (a : Clause) (old new : SolverState) (limit id : ℕ) → HasSolved old new a limit (answers.Refuted id) →
    TurnsTo e a limit old new (Refuted id)
refuted_turn e a old new limit id s =
    let r = s.ends in
    let lines : List Line = Lemma id r.last.lemma r.last.logged.hints ∷ r.before.lines in
    record {
      lemmas = lines;
      searched = searched_by old new a limit (answers.Refuted id) s lines
          (ap (λ (b : ProofLog). b.problem) r.last.logged.proof ∙ r.before.problem)
          (ap (λ (b : ProofLog). b.history) r.last.logged.proof ∙ ap (λ (h : List Line). Lemma id r.last.lemma r.last.logged.hints ∷ h) r.before.history)
          (refl, open_are_lemmas _ r.before.lines r.before.open_yet);
      few = omega (arith, r.before.length_is, r.under);
      ended = s.stage;
    }

pub spent_turn : (e : Encoded) (a : Clause) (old new : SolverState) (limit : ℕ) → HasSolved old new a limit answers.Spent → TurnsTo e a limit old new Spent
spent_turn e a old new limit s =
    let lemmas = s.ends.lemmas in
    record {
      lemmas = lemmas.lines;
      searched = searched_by old new a limit answers.Spent s lemmas.lines lemmas.problem lemmas.history (open_are_lemmas _ lemmas.lines lemmas.open_yet);
      stopped = s.stage;
      all = lemmas.length_is;
      bound = λ run unit.
          s.ends.bound run
          (subst (λ (cs : List Clause). IsUnitRun cs (assumed (begun_proof (is_begun old.stage) old.proof a)) run) (sym s.stands)
          (subst (λ (c : Clause). IsUnitRun (standing old.proof) c run) (sym s.assumed_is) unit));
      open_yet = subst (λ (c : Clause). Each (λ line. is_open_lemma c line ≡ true) lemmas.lines) s.assumed_is lemmas.open_yet;
    }

pub blocked_extends : (old new : SolverState) (lits : Clause) (id : ℕ) → HasBlocked old new lits id → Extends false old.proof new.proof []
blocked_extends old new lits id b = extends_line false old.proof new.proof (Block id (negation (activation_in old.proof) ∷ lits)) [] b.proof

-- ---- a candidate that is known

-- a solve without a search logs no lemma
opened_searches : (old new : SolverState) (a : Clause) → HasOpened old new a → HasSearched old new a []
opened_searches old new a h =
    let t : Bool = is_begun old.stage in
    record {
      was_well = h.was_well;
      well = h.well;
      vars = ap (λ (b : ProofLog). b.problem.vars) h.proof ∙ begun_vars t old.proof a;
      clauses = ap (λ (b : ProofLog). b.problem.clauses) h.proof ∙ begun_clauses t old.proof a;
      steps = ap (λ (b : ProofLog). b.problem.steps) h.proof ∙ begun_steps t old.proof a;
      history = ap (λ (b : ProofLog). b.history) h.proof ∙ begun_history t old.proof a;
      are_lemmas = tt;
      stand = λ c there. subst (λ (cs : List Clause). Contains cs c) (sym h.stands) there;
      assumed_is = h.assumed_is;
      activations = h.vars;
    }

pub known_blocked : (e : Encoded) (a : Clause) (state : List Bool) (old middle new : SolverState) → HasOpened old middle a →
    HasBlockedState e state middle new → HasBlockedKnown e a state old new
known_blocked e a state old middle new opened b =
    record { middle = middle; searched = opened_searches old middle a opened; id = b.id; blocked = b.blocked }

pub opened_vars : (e : Encoded) (a : Clause) (old new : SolverState) → MayTurn e old a → HasOpened old new a → new.proof.problem.vars ≡ e.variables
opened_vars e a old new may h = ap (λ (b : ProofLog). b.problem.vars) h.proof ∙ (begun_vars (is_begun old.stage) old.proof a ∙ may.vars)

-- ---- the next turn

pub no_known : (known cand : Cand) → None ≡ Some cand → ⊥
no_known known cand e = cc

pub none_is_known : (e : Encoded) (a : Clause) (limit : ℕ) (found : List Cand) (old new : SolverState) (turn : TurnEnd) →
    TurnsTo e a limit old new turn → GoesTo e a limit found None old new turn
none_is_known e a limit found old new (Listed cand) one =
    record {
      middle = one.middle;
      lemmas = one.lemmas;
      searched = one.searched;
      few = one.few;
      id = one.id;
      blocked = one.blocked;
      right = inl one.shown;
      apart = inl one.apart;
      last = λ c is. absurd (no_known c c is);
    }
none_is_known e a limit found old new (Refuted id) r = r
none_is_known e a limit found old new Spent r = r

same_known : (known cand : Cand) → Some known ≡ Some cand → known ≡ cand
same_known known cand e = cc

-- whether a candidate found has a state
pub found_is : (found : List Cand) (s : List Bool) → list_any (λ (cand : Cand). bits_eq s cand.state) found ≡ is_listed (listed found) s
found_is [] s = refl
found_is (c ∷ cs) s = ap (λ (b : Bool). bits_eq s c.state || b) (found_is cs s)

pub known_waits : (e : Encoded) (a : Clause) (limit : ℕ) (found : List Cand) (known : Cand) (old new : SolverState) (turn : TurnEnd) →
    is_listed (listed found) known.state ≡ true → TurnsTo e a limit old new turn → GoesTo e a limit found (Some known) old new turn
known_waits e a limit found known old new (Listed cand) there one =
    record {
      middle = one.middle;
      lemmas = one.lemmas;
      searched = one.searched;
      few = one.few;
      id = one.id;
      blocked = one.blocked;
      right = inl one.shown;
      apart = inl one.apart;
      last = λ c is. inl (subst (λ (x : Cand). is_listed (listed found) x.state ≡ true) (same_known known c is) there);
    }
known_waits e a limit found known old new (Refuted id) there r = r
known_waits e a limit found known old new Spent there r = r

pub known_comes : (e : Encoded) (a : Clause) (limit : ℕ) (found : List Cand) (known : Cand) (old new : SolverState) (turn : TurnEnd) →
    1 ≤ limit → is_listed (listed found) known.state ≡ false → HasTakenKnown e a known old new turn →
    GoesTo e a limit found (Some known) old new turn
known_comes e a limit found known old new (Listed cand) some out h =
    record {
      middle = h.way.middle;
      lemmas = [];
      searched = h.way.searched;
      few = omega (arith, some);
      id = h.way.id;
      blocked = subst (λ (x : Cand). HasBlocked h.way.middle new (block_for e x.state) h.way.id) (sym h.is) h.way.blocked;
      right = inr (ap Some (sym h.is));
      apart = inr (ap (λ (x : Cand). is_listed (listed found) x.state) h.is ∙ out);
      last = λ c is. inr (sym (same_known known c is) ∙ sym h.is);
    }
known_comes e a limit found known old new (Refuted id) some out h = absurd h
known_comes e a limit found known old new Spent some out h = absurd h
