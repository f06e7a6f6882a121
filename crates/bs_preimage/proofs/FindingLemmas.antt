-- What the search for candidates has found and logged, turn by turn.
use Rattle.std.proofs.Common.{◌≡◌, ◌≢◌, ℕ, ◌+◌, ◌-◌, ◌<◌, ◌≤◌, Bool, true, false, not, List, [], ◌∷◌, ◌++◌, length, reverse, refl, ap, subst, sym, ◌∙◌}
use Rattle.std.proofs.Common.{◌⊎◌, inl, inr, append_assoc, arith, Option, Some, None}
use Rattle.std.specs.Prelude.{◌^◌, Contains, ◌||◌, ◌&&◌, ◌==◌, filter_map, unwrap_or}
use Rattle.std.specs.List.{AllByRecursion as Each, list_any, list_all, IsDistinct}
use Rattle.std.proofs.lemmas.Bool.{false≢true, true≢false, or_right, eq-eqb}
use Rattle.std.proofs.lemmas.List.{map-append, reverse-append, length-reverse, length-append}
use Rattle.std.proofs.lemmas.List.Elements.{All-push, All-weaker, recursion_from_All, All-from_recursion, All-nil, Contains-push, Contains-append_left}
use Rattle.std.proofs.lemmas.List.Sorted.{IsPermutation-to_front, IsPermutation-sym, IsPermutation-reverse, All-permutation}
use Rattle.std.proofs.lemmas.Map.Keys.{IsDistinct-cons, IsDistinct-IsPermutation}
use Rattle.bs_bits.specs.Bits.{bits_eq}
use Rattle.bs_clause.specs.Literal.{Literal, Clause, negation}
use Rattle.bs_clause.specs.Range.{HasVariables}
use Rattle.bs_log.specs.declared.line.Line.{Line}
use Rattle.bs_log.specs.declared.line.Line.TheVariants.{Solve, Lemma, Block, Finish, Retire, Delete}
use Rattle.bs_log.specs.History.{History, step_of}
use Rattle.bs_log.specs.Refusal.{denies}
use Rattle.bs_log.specs.Steps.{is_lemma_line, block_of_line, lemma_of_line, last_solve, is_spent}
use Rattle.bs_net.proofs.NextLemmas.{bits_eq_Decides}
use Rattle.bs_scan.specs.Moments.{is_listed}
use Rattle.bs_scan.proofs.SignatureLemmas.{bits_same, bits_same_is}
use Rattle.bs_scan.proofs.MomentLemmas.{each_append}
use Rattle.bs_solve_lemmas.specs.declared.stage.Stage.{Stage}
use Rattle.bs_solve_lemmas.specs.declared.stage.Stage.TheVariants.{Begun, Blocked}
use Rattle.bs_solve_lemmas.specs.ProofLog.{ProofLog, standing}
use Rattle.bs_solve_lemmas.specs.Ending.{is_open_lemma}
use Rattle.bs_solve_lemmas.specs.Stages.{is_begun}
use Rattle.bs_solve_lemmas.specs.Solver.{SolverState, MaySolve}
use Rattle.bs_encode.specs.Encoded.{Encoded}
use Rattle.bs_encode.specs.Assuming.{block_for}
use Rattle.bs_report.specs.declared.report.Cand.{Cand}
use Rattle.bs_report.specs.declared.report.ListEnd.{ListEnd}
use Rattle.bs_report.specs.declared.report.ListEnd.TheVariants.{Finished, Candidates, Conflicts}
use Rattle.bs_report.specs.Step.{listed}
use Rattle.bs_report.specs.Valid.{blocks_due}
use Rattle.bs_solve.specs.Budget.{last_lemmas, HasFewLemmas}
use Rattle.bs_preimage.specs.declared.next_candidate.TurnEnd.TheVariants.{Listed, Refuted, Spent}
use Rattle.bs_preimage.specs.Asking.{HasAsked, IsTold}
use Rattle.bs_preimage.specs.Turn.{Extends, Keeps, HasSearched, MayTurn, TurnsTo, HasNext, HasRefutedAll, HasSpent, IsOneOf, block_in, activation_in, steps_after}
use Rattle.bs_preimage.specs.Finding.{is_inner, HasLogged, IsAgain, IsUnderWay, HasKnown, KeepsLimit, HasEndedSearch, IsSearching, HasComeTo, HasFilled}
use Rattle.bs_solve_lemmas.proofs.CallerLemmas.{runs_over}
use Rattle.bs_preimage.proofs.TurnLemmas.{extends_then, extends_from, none_is_known, no_known}
use Rattle.bs_preimage.proofs.InnerLemmas.{lemmas_inner, inner_step}

-- ---- the activation literal of the step

same_activation : (from to : ProofLog) → to.problem.vars ≡ from.problem.vars → step_of to.history ≡ step_of from.history → activation_in to ≡ activation_in from
same_activation from to v n = λ i. record { variable = v i + n i; positive = true }

activation_kept : (e : Encoded) (start s : SolverState) (found : List Cand) → HasLogged e start s found → activation_in s.proof ≡ activation_in start.proof
activation_kept e start s found h =
    same_activation start.proof s.proof h.vars (ap step_of h.history ∙ inner_step h.lines start.proof.history h.inner)

-- ---- the lines of a search behind those of the step

-- lemmas have no block
no_blocks : (lemmas rest : List Line) → Each (λ line. is_lemma_line line ≡ true) lemmas →
    filter_map block_of_line (lemmas ++ rest) ≡ filter_map block_of_line rest
no_blocks [] rest all = refl
no_blocks (Lemma id lits hints ∷ lemmas) rest all = no_blocks lemmas rest all.1
no_blocks (Solve ∷ lemmas) rest all = absurd (false≢true all.0)
no_blocks (Block id lits ∷ lemmas) rest all = absurd (false≢true all.0)
no_blocks (Finish id ∷ lemmas) rest all = absurd (false≢true all.0)
no_blocks (Retire id ∷ lemmas) rest all = absurd (false≢true all.0)
no_blocks (Delete ids ∷ lemmas) rest all = absurd (false≢true all.0)

-- after a search without a block
searched_logs : (e : Encoded) (a : Clause) (start s s2 : SolverState) (found : List Cand) (lemmas : List Line) → HasLogged e start s found →
    HasSearched s s2 a lemmas → HasLogged e start s2 found
searched_logs e a start s s2 found lemmas h r =
    record {
      activations = r.activations ∙ h.activations;
      vars = r.vars ∙ h.vars;
      clauses = r.clauses ∙ h.clauses;
      lines = lemmas ++ Solve ∷ h.lines;
      history = r.history ∙ (ap (λ (h : History). lemmas ++ Solve ∷ h) h.history ∙ sym (append_assoc lemmas (Solve ∷ h.lines) start.proof.history));
      inner = each_append (λ line. is_inner line ≡ true) lemmas (Solve ∷ h.lines) (lemmas_inner lemmas r.are_lemmas) (refl, h.inner);
      blocks = no_blocks lemmas (Solve ∷ h.lines) r.are_lemmas ∙ h.blocks;
      stand = λ c there. r.stand c (h.stand c there);
    }

-- ---- the steps

begun_stage : (s start : SolverState) → start.stage ≡ Begun → s ≡ start → s.stage ≡ Begun
begun_stage s start b e = ap (λ (s : SolverState). s.stage) e ∙ b

steps_now : (e : Encoded) (a : Clause) (known : Option Cand) (start s s2 : SolverState) (found : List Cand) (lemmas : List Line) →
    start.stage ≡ Begun → IsUnderWay e a known start s found → HasSearched s s2 a lemmas →
    s2.proof.problem.steps ≡ start.proof.problem.steps ++ a ∷ []
steps_now e a known start s s2 found lemmas b u r = by u.stage
  where
    by : ((s ≡ start) × (found ≡ [])) ⊎ IsAgain e a start s → s2.proof.problem.steps ≡ start.proof.problem.steps ++ a ∷ []
    by (inl first) =
        r.steps ∙ (ap (λ (t : Stage). steps_after (is_begun t) s.proof.problem.steps a) (begun_stage s start b first.0)
        ∙ ap (λ (s : SolverState). s.proof.problem.steps ++ a ∷ []) first.0)
    by (inr again) = r.steps ∙ (ap (λ (t : Stage). steps_after (is_begun t) s.proof.problem.steps a) again.stage ∙ again.steps)

-- ---- a candidate more

block_of_middle : (e : Encoded) (start s middle : SolverState) (found : List Cand) → HasLogged e start s found → HasLogged e start middle found →
    (state : List Bool) →
    negation (activation_in middle.proof) ∷ block_for e state ≡ block_in e start.proof state
block_of_middle e start s middle found h m state = ap (λ (g : Literal). negation g ∷ block_for e state) (activation_kept e start middle found m)

-- each state found before is another one
others : (e : Encoded) (start s : SolverState) (found cands : List Cand) (cand : Cand) → HasLogged e start s found →
    ((t : List Bool) → Contains (standing s.proof) (block_in e s.proof t) → cand.state ≢ t) →
    Each (λ c. Contains (standing s.proof) (block_in e start.proof c.state)) cands → Each (λ t. bits_eq cand.state t ≡ false) (listed cands)
others e start s found [] cand logged apart all = tt
others e start s found (c ∷ cands) cand logged apart all =
    (by (bits_eq cand.state c.state) refl, others e start s found cands cand logged apart all.1)
  where
    by : (b : Bool) → bits_eq cand.state c.state ≡ b → bits_eq cand.state c.state ≡ false
    by false e2 = e2
    by true e2 =
        absurd
        (apart c.state (subst (λ (g : Literal). Contains (standing s.proof) (negation g ∷ block_for e c.state))
        (sym (activation_kept e start s found logged)) all.0)
        (bits_same_is cand.state c.state e2))

-- what is not listed is another state than each listed one
none_listed : (states : List (List Bool)) (s : List Bool) → is_listed states s ≡ false → Each (λ t. bits_eq s t ≡ false) states
none_listed [] s e = tt
none_listed (t ∷ ts) s e = by (bits_eq s t) refl e (none_listed ts s)
  where
    by : (b : Bool) → bits_eq s t ≡ b → (b || is_listed ts s) ≡ false → (is_listed ts s ≡ false → Each (λ t. bits_eq s t ≡ false) ts) →
        (bits_eq s t ≡ false) × Each (λ t. bits_eq s t ≡ false) ts
    by true b e rest = absurd (true≢false e)
    by false b e rest = (b, rest e)

-- the next candidate's state is another one than each found
other_states : (e : Encoded) (a : Clause) (limit : ℕ) (known : Option Cand) (start s s2 : SolverState) (found : List Cand) (cand : Cand) →
    IsUnderWay e a known start s found → HasNext e a limit found known s s2 cand → Each (λ t. bits_eq cand.state t ≡ false) (listed found)
other_states e a limit known start s s2 found cand u one = by one.apart
  where
    by : ((t : List Bool) → Contains (standing s.proof) (block_in e s.proof t) → cand.state ≢ t) ⊎ (is_listed (listed found) cand.state ≡ false) →
        Each (λ t. bits_eq cand.state t ≡ false) (listed found)
    by (inl apart) =
        others e start s found found cand u.logged apart
        (recursion_from_All (λ (c : Cand). Contains (standing s.proof) (block_in e start.proof c.state)) found u.blocked)
    by (inr out) = none_listed (listed found) cand.state out

pub flips : (x y : List Bool) → bits_eq x y ≡ bits_eq y x
flips x y = by (bits_eq x y) (bits_eq y x) refl refl
  where
    by : (a b : Bool) → bits_eq x y ≡ a → bits_eq y x ≡ b → bits_eq x y ≡ bits_eq y x
    by true b e f = e ∙ sym ((bits_eq_Decides y x).1 (sym ((bits_eq_Decides x y).0 e)))
    by false true e f = absurd (false≢true (sym e ∙ (bits_eq_Decides x y).1 (sym ((bits_eq_Decides y x).0 f))))
    by false false e f = e ∙ sym f

-- one more at the end is another one
distinct_push : (xs : List (List Bool)) (x : List Bool) → IsDistinct bits_eq xs → Each (λ t. bits_eq x t ≡ false) xs → IsDistinct bits_eq (xs ++ x ∷ [])
distinct_push xs x d all =
    IsDistinct-IsPermutation bits_eq flips (x ∷ xs) (xs ++ x ∷ []) (IsPermutation-sym (xs ++ x ∷ []) (x ∷ xs) (IsPermutation-to_front xs x))
    (IsDistinct-cons bits_eq x xs all d)

pub one_more_cand : (e : Encoded) (a : Clause) (limit : ℕ) (known : Option Cand) (start s s2 : SolverState) (found : List Cand) (cand : Cand) →
    start.stage ≡ Begun → IsUnderWay e a known start s found → HasNext e a limit found known s s2 cand →
    IsUnderWay e a known start s2 (found ++ cand ∷ [])
one_more_cand e a limit known start s s2 found cand b u one =
    let m : HasLogged e start one.middle found = searched_logs e a start s one.middle found one.lemmas u.logged one.searched in
    let block : Clause = negation (activation_in one.middle.proof) ∷ block_for e cand.state in
    let same : block ≡ block_in e start.proof cand.state = block_of_middle e start s one.middle found u.logged m cand.state in
    let there : Contains (standing s2.proof) (block_in e start.proof cand.state) =
    subst (λ (cs : List Clause). Contains cs (block_in e start.proof cand.state)) (sym one.blocked.stands)
    (subst (Contains (standing one.middle.proof ++ block ∷ [])) same (Contains-push (standing one.middle.proof) block)) in
    let keeps : Keeps one.middle.proof s2.proof = λ c there.
    subst (λ (cs : List Clause). Contains cs c) (sym one.blocked.stands) (Contains-append_left (standing one.middle.proof) (block ∷ []) c there) in
    record {
      logged = record {
        activations = one.blocked.vars ∙ m.activations;
        vars = ap (λ (b : ProofLog). b.problem.vars) one.blocked.proof ∙ m.vars;
        clauses = ap (λ (b : ProofLog). b.problem.clauses) one.blocked.proof ∙ m.clauses;
        lines = Block one.id block ∷ m.lines;
        history = ap (λ (b : ProofLog). b.history) one.blocked.proof ∙ ap (λ (h : History). Block one.id block ∷ h) m.history;
        inner = (refl, m.inner);
        blocks =
            (λ i. same i ∷ m.blocks i)
            ∙ ap (λ (cs : List Cand). blocks_due (activation_in start.proof) (block_for e) cs) (sym (reverse-append found (cand ∷ [])));
        stand = λ c there. keeps c (m.stand c there);
      };
      cands = record {
        shown = All-push (IsOneOf e a known) found cand u.cands.shown one.right;
        apart = subst (IsDistinct bits_eq) (sym (map-append (λ (c : Cand). c.state) found (cand ∷ [])))
            (distinct_push (listed found) cand.state u.cands.apart (other_states e a limit known start s s2 found cand u one));
      };
      blocked = All-push (λ (c : Cand). Contains (standing s2.proof) (block_in e start.proof c.state)) found cand
          (All-weaker (λ (c : Cand). Contains (standing s.proof) (block_in e start.proof c.state))
          (λ (c : Cand). Contains (standing s2.proof) (block_in e start.proof c.state))
          (λ c there. keeps (block_in e start.proof c.state) (one.searched.stand (block_in e start.proof c.state) there)) found u.blocked) there;
      stage = inr (record {
        stage = one.blocked.stage;
        steps = ap (λ (b : ProofLog). b.problem.steps) one.blocked.proof ∙ steps_now e a known start s one.middle found one.lemmas b u one.searched;
        assumed_is = one.blocked.step ∙ one.searched.assumed_is;
      });
    }

-- ---- the next turn

blocked_is_not_begun : (t : Stage) → t ≡ Begun → t ≡ Blocked → ⊥
blocked_is_not_begun t b k = let e : Begun ≡ Blocked = sym b ∙ k in true≢false (ap is_begun e)

pub may_turn_again : (e : Encoded) (a : Clause) (known : Option Cand) (start s : SolverState) (found : List Cand) → start.stage ≡ Begun →
    MayTurn e start a → IsUnderWay e a known start s found → MayTurn e s a
may_turn_again e a known start s found b may u =
    record {
      may = by u.stage;
      range = subst (λ (n : ℕ). HasVariables n a) (sym u.logged.activations) may.range;
      distinct = may.distinct;
      activation = subst (Contains a) (sym (activation_kept e start s found u.logged)) may.activation;
      vars = u.logged.vars ∙ may.vars;
      activations = subst (λ (n : ℕ). e.variables ≤ n) (sym u.logged.activations) may.activations;
      clauses = u.logged.clauses ∙ may.clauses;
      stand = λ c there. u.logged.stand c (may.stand c (subst (λ (cs : List Clause). Contains cs c) u.logged.clauses there));
    }
  where
    by : ((s ≡ start) × (found ≡ [])) ⊎ IsAgain e a start s → MaySolve s a
    by (inl first) =
        let begun : s.stage ≡ Begun = begun_stage s start b first.0 in
        record { stage = λ _. inl begun; again = λ k. absurd (blocked_is_not_begun s.stage begun k) }
    by (inr again) = record { stage = λ _. inr again.stage; again = λ _. again.assumed_is }

none_distinct : IsDistinct bits_eq []
unfolding IsDistinct
none_distinct = tt

pub under_way_at_first : (e : Encoded) (a : Clause) (known : Option Cand) (start : SolverState) → IsUnderWay e a known start start []
under_way_at_first e a known start =
    record {
      logged = record { activations = refl; vars = refl; clauses = refl; lines = []; history = refl; inner = tt; blocks = refl; stand = λ c there. there };
      cands = record { shown = All-nil (IsOneOf e a known); apart = none_distinct };
      blocked = All-nil (λ (c : Cand). Contains (standing start.proof) (block_in e start.proof c.state));
      stage = inl (refl, refl);
    }

-- ---- the lemmas of the solves

lemmas_counted : (lemmas : List Line) (h : History) → Each (λ line. is_lemma_line line ≡ true) lemmas → last_lemmas (lemmas ++ Solve ∷ h) ≡ length lemmas
lemmas_counted [] h all = refl
lemmas_counted (Lemma id lits hints ∷ lemmas) h all = let rest = lemmas_counted lemmas h all.1 in omega (arith, rest)
lemmas_counted (Solve ∷ lemmas) h all = absurd (false≢true all.0)
lemmas_counted (Block id lits ∷ lemmas) h all = absurd (false≢true all.0)
lemmas_counted (Finish id ∷ lemmas) h all = absurd (false≢true all.0)
lemmas_counted (Retire id ∷ lemmas) h all = absurd (false≢true all.0)
lemmas_counted (Delete ids ∷ lemmas) h all = absurd (false≢true all.0)

few_lemmas : (limit : ℕ) (lemmas : List Line) (h : History) → Each (λ line. is_lemma_line line ≡ true) lemmas → length lemmas ≤ limit →
    HasFewLemmas limit h → HasFewLemmas limit (lemmas ++ Solve ∷ h)
few_lemmas limit [] h all n few = few
few_lemmas limit (Lemma id lits hints ∷ lemmas) h all n few =
    let count = lemmas_counted lemmas h all.1 in
    (omega (arith, count, n), few_lemmas limit lemmas h all.1 (omega (arith, n)) few)
few_lemmas limit (Solve ∷ lemmas) h all n few = absurd (false≢true all.0)
few_lemmas limit (Block id lits ∷ lemmas) h all n few = absurd (false≢true all.0)
few_lemmas limit (Finish id ∷ lemmas) h all n few = absurd (false≢true all.0)
few_lemmas limit (Retire id ∷ lemmas) h all n few = absurd (false≢true all.0)
few_lemmas limit (Delete ids ∷ lemmas) h all n few = absurd (false≢true all.0)

searched_few : (a : Clause) (limit : ℕ) (start s s2 : SolverState) (lemmas : List Line) → KeepsLimit limit start s → HasSearched s s2 a lemmas →
    length lemmas ≤ limit → KeepsLimit limit start s2
searched_few a limit start s s2 lemmas k r n =
    record { few = λ f. subst (HasFewLemmas limit) (sym r.history) (few_lemmas limit lemmas s.proof.history r.are_lemmas n (k.few f)) }

next_few : (e : Encoded) (a : Clause) (limit : ℕ) (known : Option Cand) (start s s2 : SolverState) (found : List Cand) (cand : Cand) →
    KeepsLimit limit start s → HasNext e a limit found known s s2 cand → KeepsLimit limit start s2
next_few e a limit known start s s2 found cand keeps one =
    let count : last_lemmas one.middle.proof.history ≡ length one.lemmas =
    ap last_lemmas one.searched.history ∙ lemmas_counted one.lemmas s.proof.history one.searched.are_lemmas in
    let middle : KeepsLimit limit start one.middle =
    searched_few a limit start s one.middle one.lemmas keeps one.searched (omega (arith, one.few)) in
    record { few = λ f. subst (λ (b : ProofLog). HasFewLemmas limit b.history) (sym one.blocked.proof) (omega (arith, count, one.few), middle.few f) }

-- ---- the known candidate

listed_more : (found : List Cand) (cand : Cand) (s : List Bool) → is_listed (listed found) s ≡ true → is_listed (listed (found ++ cand ∷ [])) s ≡ true
listed_more [] cand s e = absurd (false≢true e)
listed_more (c ∷ cs) cand s e = by (bits_eq s c.state) e (listed_more cs cand s)
  where
    by : (b : Bool) → (b || is_listed (listed cs) s) ≡ true → (is_listed (listed cs) s ≡ true → is_listed (listed (cs ++ cand ∷ [])) s ≡ true) →
        (b || is_listed (listed (cs ++ cand ∷ [])) s) ≡ true
    by true e rest = refl
    by false e rest = rest e

listed_last : (found : List Cand) (cand : Cand) → is_listed (listed (found ++ cand ∷ [])) cand.state ≡ true
listed_last [] cand = ap (λ (b : Bool). b || false) (bits_same cand.state)
listed_last (c ∷ cs) cand = or_right (bits_eq cand.state c.state) (is_listed (listed (cs ++ cand ∷ [])) cand.state) (listed_last cs cand)

next_known : (e : Encoded) (a : Clause) (limit k : ℕ) (known : Option Cand) (s s2 : SolverState) (found : List Cand) (cand : Cand) →
    HasNext e a limit found known s s2 cand → HasKnown known k (found ++ cand ∷ [])
next_known e a limit k known s s2 found cand one = record { there = λ c is _. by c (one.last c is) }
  where
    by : (c : Cand) → (is_listed (listed found) c.state ≡ true) ⊎ (c ≡ cand) → is_listed (listed (found ++ cand ∷ [])) c.state ≡ true
    by c (inl there) = listed_more found cand c.state there
    by c (inr same) = ap (λ (x : Cand). is_listed (listed (found ++ cand ∷ [])) x.state) same ∙ listed_last found cand

none_known : (known : Option Cand) (k : ℕ) (found : List Cand) → length found < k → HasKnown known k found
none_known known k found under = record { there = λ c is n. absurd (omega (arith, under, n)) }

-- ---- the ends

abbrev is_candidates : ListEnd → Bool
is_candidates Candidates = true
is_candidates end = false

abbrev pub is_conflicts : ListEnd → Bool
is_conflicts Conflicts = true
is_conflicts end = false

pub refuted_search : (e : Encoded) (a : Clause) (known : Option Cand) (k limit id : ℕ) (start s s2 : SolverState) (found : List Cand) →
    start.stage ≡ Begun → IsUnderWay e a known start s found → KeepsLimit limit start s → HasRefutedAll a limit s s2 id →
    length found < k → HasEndedSearch e a known k limit start s2 found (Finished id)
refuted_search e a known k limit id start s s2 found b u keeps r under =
    record {
      logged = searched_logs e a start s s2 found r.lemmas u.logged r.searched;
      cands = u.cands;
      with_known = none_known known k found under;
      limited = searched_few a limit start s s2 r.lemmas keeps r.searched r.few;
      steps = steps_now e a known start s s2 found r.lemmas b u r.searched;
      ended = (r.ended, under);
      bound = λ e. absurd (false≢true (ap is_conflicts e));
    }

last_solve_of : (xs ys : List Line) → last_solve ys ≡ None → last_solve (xs ++ Solve ∷ ys) ≡ Some ys
last_solve_of [] ys e = ap (λ (o : Option (List Line)). Some (unwrap_or o ys)) e
last_solve_of (Solve ∷ xs) ys e = ap (λ (o : Option (List Line)). Some (unwrap_or o (xs ++ Solve ∷ ys))) (last_solve_of xs ys e)
last_solve_of (Lemma id lits hints ∷ xs) ys e = last_solve_of xs ys e
last_solve_of (Block id lits ∷ xs) ys e = last_solve_of xs ys e
last_solve_of (Finish id ∷ xs) ys e = last_solve_of xs ys e
last_solve_of (Retire id ∷ xs) ys e = last_solve_of xs ys e
last_solve_of (Delete ids ∷ xs) ys e = last_solve_of xs ys e

-- the lemmas of a spent solve
pub record AreOpen (a : Clause) (lines : List Line) : Type 0 where
  pub no_solve : last_solve lines ≡ None
  pub are_lemmas : list_all is_lemma_line lines ≡ true
  pub no_end : list_any (denies a) (filter_map lemma_of_line lines) ≡ false

not_true : (b : Bool) → not b ≡ true → b ≡ false
not_true false e = refl
not_true true e = sym e

open_lemmas : (a : Clause) (lines : List Line) → Each (λ line. is_open_lemma a line ≡ true) lines → AreOpen a lines
open_lemmas a [] all = record { no_solve = refl; are_lemmas = refl; no_end = refl }
open_lemmas a (Lemma id lits hints ∷ lines) all =
    let rest : AreOpen a lines = open_lemmas a lines all.1 in
    record {
      no_solve = rest.no_solve;
      are_lemmas = rest.are_lemmas;
      no_end = ap (λ (b : Bool). b || list_any (denies a) (filter_map lemma_of_line lines)) (not_true (denies a lits) all.0) ∙ rest.no_end;
    }
open_lemmas a (Solve ∷ lines) all = absurd (false≢true all.0)
open_lemmas a (Block id lits ∷ lines) all = absurd (false≢true all.0)
open_lemmas a (Finish id ∷ lines) all = absurd (false≢true all.0)
open_lemmas a (Retire id ∷ lines) all = absurd (false≢true all.0)
open_lemmas a (Delete ids ∷ lines) all = absurd (false≢true all.0)

pub each_reverse : {X : Type 0} (P : X → Type 0) (xs : List X) → Each P xs → Each P (reverse xs)
each_reverse P xs all = recursion_from_All P (reverse xs) (All-permutation P xs (reverse xs) (IsPermutation-reverse xs) (All-from_recursion P xs all))

pub spent_is : (a : Clause) (limit : ℕ) (lemmas before : List Line) → length lemmas ≡ limit → Each (λ line. is_open_lemma a line ≡ true) lemmas →
    is_spent limit a (last_solve (reverse (lemmas ++ Solve ∷ before))) ≡ true
spent_is a limit lemmas before n all =
    let are : AreOpen a (reverse lemmas) = open_lemmas a (reverse lemmas) (each_reverse (λ line. is_open_lemma a line ≡ true) lemmas all) in
    let order : reverse (lemmas ++ Solve ∷ before) ≡ reverse before ++ Solve ∷ reverse lemmas =
    reverse-append lemmas (Solve ∷ before)
    ∙ (ap (λ (ls : List Line). ls ++ reverse lemmas) (reverse-append (Solve ∷ []) before) ∙ append_assoc (reverse before) (Solve ∷ []) (reverse lemmas))
    in
    ap (λ (ls : List Line). is_spent limit a (last_solve ls)) order
    ∙ (ap (is_spent limit a) (last_solve_of (reverse before) (reverse lemmas) are.no_solve)
    ∙ all_true (length (reverse lemmas) == limit) (list_all is_lemma_line (reverse lemmas)) (list_any (denies a) (filter_map lemma_of_line (reverse lemmas)))
    (eq-eqb (length (reverse lemmas)) limit (length-reverse lemmas ∙ n)) are.are_lemmas are.no_end)
  where
    all_true : (x y z : Bool) → x ≡ true → y ≡ true → z ≡ false → (x && y && not z) ≡ true
    all_true x y z e f g = rw (e, f, g) refl

pub spent_search : (e : Encoded) (a : Clause) (known : Option Cand) (k limit : ℕ) (start s s2 : SolverState) (found : List Cand) →
    start.stage ≡ Begun → IsUnderWay e a known start s found → KeepsLimit limit start s → HasSpent a limit s s2 →
    length found < k → HasEndedSearch e a known k limit start s2 found Conflicts
unfolding searched_logs
spent_search e a known k limit start s s2 found b u keeps r under =
    record {
      logged = searched_logs e a start s s2 found r.lemmas u.logged r.searched;
      cands = u.cands;
      with_known = none_known known k found under;
      limited = searched_few a limit start s s2 r.lemmas keeps r.searched (omega (arith, r.all));
      steps = steps_now e a known start s s2 found r.lemmas b u r.searched;
      ended = (r.stopped, under, spent_is a limit r.lemmas u.logged.lines r.all r.open_yet);
      bound = λ _ run unit.
          subst (λ (n : ℕ). limit < 2 ^ (n - length run)) u.logged.activations
          (r.bound run
          (record { distinct = unit.distinct; implied = runs_over (standing start.proof) (standing s.proof) a [] run u.logged.stand unit.implied }));
    }

pub full_search : (e : Encoded) (a : Clause) (known : Option Cand) (k limit : ℕ) (start s : SolverState) (found : List Cand) →
    IsUnderWay e a known start s found → KeepsLimit limit start s → HasKnown known k found → 1 ≤ k →
    length found ≡ k →
    HasEndedSearch e a known k limit start s found Candidates
full_search e a known k limit start s found u keeps with_known some n = by u.stage
  where
    by : ((s ≡ start) × (found ≡ [])) ⊎ IsAgain e a start s → HasEndedSearch e a known k limit start s found Candidates
    by (inl first) = absurd (let none : length found ≡ 0 = ap length first.1 in omega (arith, n, none, some))
    by (inr again) = record {
      logged = u.logged;
      cands = u.cands;
      with_known = with_known;
      limited = keeps;
      steps = again.steps;
      ended = (again.stage, n);
      bound =
          λ e. absurd (false≢true (ap is_conflicts e));
    }

-- ---- extensions

-- what has been logged since the step began
pub under_way_extends : (e : Encoded) (a : Clause) (known : Option Cand) (start s : SolverState) (found : List Cand) →
    IsUnderWay e a known start s found → Extends true start.proof s.proof a
under_way_extends e a known start s found u =
    record { vars = u.logged.vars; clauses = u.logged.clauses; more = u.logged.lines; history = u.logged.history; steps = by u.stage }
  where
    by : ((s ≡ start) × (found ≡ [])) ⊎ IsAgain e a start s →
        (s.proof.problem.steps ≡ start.proof.problem.steps) ⊎ ((true ≡ true) × (s.proof.problem.steps ≡ start.proof.problem.steps ++ a ∷ []))
    by (inl first) = inl (ap (λ (s : SolverState). s.proof.problem.steps) first.0)
    by (inr again) = inr (refl, again.steps)

-- and with one turn more
pub extends_on : (e : Encoded) (a : Clause) (known : Option Cand) (start s : SolverState) (new : ProofLog) (found : List Cand) → start.stage ≡ Begun →
    IsUnderWay e a known start s found → Extends (is_begun s.stage) s.proof new a →
    Extends true start.proof new a
extends_on e a known start s new found b u x = by u.stage
  where
    by : ((s ≡ start) × (found ≡ [])) ⊎ IsAgain e a start s → Extends true start.proof new a
    by (inl first) =
        let begun : is_begun s.stage ≡ true = ap is_begun (begun_stage s start b first.0) in
        let p = ap (λ (s : SolverState). s.proof.problem) first.0 in
        let h = ap (λ (s : SolverState). s.proof.history) first.0 in
        extends_from start.proof s.proof new a true p [] h (subst (λ (t : Bool). Extends t s.proof new a) begun x)
    by (inr again) =
        let late : is_begun s.stage ≡ false = ap is_begun again.stage in
        extends_then true start.proof s.proof new a a (under_way_extends e a known start s found u) (subst (λ (t : Bool). Extends t s.proof new a) late x)

-- ---- the loop

searching_at_first : (e : Encoded) (a : Clause) (known : Option Cand) (k limit : ℕ) (start : SolverState) → 1 ≤ k →
    IsSearching e a known k limit start start []
searching_at_first e a known k limit start some =
    record {
      way = under_way_at_first e a known start;
      most = omega arith;
      with_known = none_known known k [] (omega (arith, some));
      limited = record { few = λ f. f };
    }

searching_more : (e : Encoded) (a : Clause) (known : Option Cand) (k limit : ℕ) (start s s2 : SolverState) (found : List Cand) (cand : Cand) →
    start.stage ≡ Begun → IsSearching e a known k limit start s found → HasNext e a limit found known s s2 cand →
    length found < k → IsSearching e a known k limit start s2 (found ++ cand ∷ [])
searching_more e a known k limit start s s2 found cand b u one under =
    let longer = length-append found (cand ∷ []) in
    record {
      way = one_more_cand e a limit known start s s2 found cand b u.way one;
      most = omega (arith, longer, under);
      with_known = next_known e a limit k known s s2 found cand one;
      limited = next_few e a limit known start s s2 found cand u.limited one;
    }

-- one place at least is left
pub record IsBelowLast (e : Encoded) (a : Clause) (k limit : ℕ) (start s : SolverState) (found : List Cand) : Type 0 where
  pub search : IsSearching e a None k limit start s found
  pub left : length found + 1 ≤ k

pub below_at_first : (e : Encoded) (a : Clause) (k limit : ℕ) (start : SolverState) (found : List Cand) → 1 ≤ k → found ≡ [] →
    IsBelowLast e a k limit start start found
below_at_first e a k limit start found some none =
    subst (IsBelowLast e a k limit start start) (sym none) (record { search = searching_at_first e a None k limit start some; left = omega (arith, some) })

pub below_more : (e : Encoded) (a : Clause) (k limit : ℕ) (start s s2 : SolverState) (found : List Cand) (cand : Cand) (found2 : List Cand) →
    start.stage ≡ Begun → IsBelowLast e a k limit start s found → TurnsTo e a limit s s2 (Listed cand) → found2 ≡ found ++ cand ∷ [] →
    length found < k - 1 → IsBelowLast e a k limit start s2 found2
below_more e a k limit start s s2 found cand found2 b u one pushed under =
    let longer = length-append found (cand ∷ []) in
    subst (IsBelowLast e a k limit start s2) (sym pushed) (record {
      search = searching_more e a None k limit start s s2 found cand b u.search (none_is_known e a limit found s s2 (Listed cand) one)
          (omega (arith, under));
      left = omega (arith, longer, under);
    })

not_finished : (id : ℕ) → Finished id ≢ Candidates
not_finished id e = true≢false (sym (ap is_candidates e))

not_spent : Conflicts ≢ Candidates
not_spent e = true≢false (sym (ap is_candidates e))

pub refuted_sooner : (e : Encoded) (a : Clause) (k limit id : ℕ) (start s s2 : SolverState) (found : List Cand) → start.stage ≡ Begun →
    IsBelowLast e a k limit start s found → TurnsTo e a limit s s2 (Refuted id) → HasComeTo e a k limit start s2 found (Some (Finished id))
refuted_sooner e a k limit id start s s2 found b u r =
    record {
      search = refuted_search e a None k limit id start s s2 found b u.search.way u.search.limited r (omega (arith, u.left));
      sooner = not_finished id;
    }

pub spent_sooner : (e : Encoded) (a : Clause) (k limit : ℕ) (start s s2 : SolverState) (found : List Cand) → start.stage ≡ Begun →
    IsBelowLast e a k limit start s found → TurnsTo e a limit s s2 Spent → HasComeTo e a k limit start s2 found (Some Conflicts)
spent_sooner e a k limit start s s2 found b u r =
    record {
      search = spent_search e a None k limit start s s2 found b u.search.way u.search.limited r (omega (arith, u.left));
      sooner = not_spent;
    }

pub at_last : (e : Encoded) (a : Clause) (k limit : ℕ) (start s : SolverState) (found : List Cand) → IsBelowLast e a k limit start s found →
    ¬ (length found < k - 1) → HasComeTo e a k limit start s found None
at_last e a k limit start s found u over = record { search = u.search; one_left = omega (arith, u.left, over) }

-- ---- the last place

none_is_one : (e : Encoded) (a : Clause) (known : Option Cand) (cand : Cand) → IsOneOf e a None cand → IsOneOf e a known cand
none_is_one e a known cand (inl shown) = inl shown
none_is_one e a known cand (inr is) = absurd (no_known cand cand is)

-- a search with nothing known, where something is known
under_way_with : (e : Encoded) (a : Clause) (known : Option Cand) (start s : SolverState) (found : List Cand) → IsUnderWay e a None start s found →
    IsUnderWay e a known start s found
under_way_with e a known start s found u =
    record {
      logged = u.logged;
      cands = record {
        shown = All-weaker (IsOneOf e a None) (IsOneOf e a known) (λ cand h. none_is_one e a known cand h) found u.cands.shown;
        apart = u.cands.apart;
      };
      blocked = u.blocked;
      stage = u.stage;
    }

searching_with : (e : Encoded) (a : Clause) (known : Option Cand) (k limit : ℕ) (start s : SolverState) (found : List Cand) → length found < k →
    IsSearching e a None k limit start s found → IsSearching e a known k limit start s found
searching_with e a known k limit start s found under u =
    record {
      way = under_way_with e a known start s found u.way;
      most = u.most;
      with_known = none_known known k found under;
      limited = u.limited;
    }

filled_search : (e : Encoded) (a : Clause) (known : Option Cand) (k limit : ℕ) (start s s2 : SolverState) (found after : List Cand) (end : ListEnd) →
    start.stage ≡ Begun → IsSearching e a known k limit start s found → length found + 1 ≡ k → HasFilled e a limit found known s s2 after end →
    HasEndedSearch e a known k limit start s2 after end
filled_search e a known k limit start s s2 found after (Finished id) b u left h =
    subst (λ (cs : List Cand). HasEndedSearch e a known k limit start s2 cs (Finished id)) (sym h.1)
    (refuted_search e a known k limit id start s s2 found b u.way u.limited h.0 (omega (arith, left)))
filled_search e a known k limit start s s2 found after Candidates b u left h =
    let more : IsSearching e a known k limit start s2 (found ++ h.cand ∷ []) =
    searching_more e a known k limit start s s2 found h.cand b u h.next (omega (arith, left)) in
    let longer = length-append found (h.cand ∷ []) in
    subst (λ (cs : List Cand). HasEndedSearch e a known k limit start s2 cs Candidates) (sym h.pushed)
    (full_search e a known k limit start s2 (found ++ h.cand ∷ []) more.way more.limited more.with_known (omega (arith, left)) (omega (arith, longer, left)))
filled_search e a known k limit start s s2 found after Conflicts b u left h =
    subst (λ (cs : List Cand). HasEndedSearch e a known k limit start s2 cs Conflicts) (sym h.1)
    (spent_search e a known k limit start s s2 found b u.way u.limited h.0 (omega (arith, left)))

-- none that was found is lost
filled_count : (e : Encoded) (a : Clause) (limit : ℕ) (found : List Cand) (known : Option Cand) (s s2 : SolverState) (after : List Cand) (end : ListEnd) →
    HasFilled e a limit found known s s2 after end → length found ≤ length after
filled_count e a limit found known s s2 after (Finished id) h = let same = ap length h.1 in omega (arith, same)
filled_count e a limit found known s s2 after Candidates h =
    let longer = ap length h.pushed ∙ length-append found (h.cand ∷ []) in omega (arith, longer)
filled_count e a limit found known s s2 after Conflicts h = let same = ap length h.1 in omega (arith, same)

-- ---- the whole search, which asks a source

pub found_unasked : {S : Type 0} (knows : S → Option Cand → S → Type 0) (source : S) (e : Encoded) (a : Clause) (k limit : ℕ) (start s : SolverState)
    (found : List Cand) (end : ListEnd) → HasComeTo e a k limit start s found (Some end) →
    HasAsked knows source source (λ known. HasEndedSearch e a known k limit start s found end) k (length found) end
found_unasked knows source e a k limit start s found end h = inl (record { same = refl; sooner = h.sooner; made = h.search })

pub found_asking : {S : Type 0} (knows : S → Option Cand → S → Type 0) (source after : S) (e : Encoded) (a : Clause) (k limit : ℕ)
    (start s s2 : SolverState) (found found2 : List Cand) (end : ListEnd) → start.stage ≡ Begun → HasComeTo e a k limit start s found None →
    IsTold knows source after (λ known. HasFilled e a limit found known s s2 found2 end) →
    HasAsked knows source after (λ known. HasEndedSearch e a known k limit start s2 found2 end) k (length found2) end
found_asking knows source after e a k limit start s s2 found found2 end b u h =
    inr (record {
      known = h.known;
      answer = h.answer;
      late = let left = u.one_left in omega (arith, left, filled_count e a limit found h.known s s2 found2 end h.made);
      made = filled_search e a h.known k limit start s s2 found found2 end b
          (searching_with e a h.known k limit start s found (let left = u.one_left in omega (arith, left)) u.search) u.one_left h.made;
    })
