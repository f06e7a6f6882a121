-- Each line of the proof is right.
use Rattle.std.proofs.Common.{◌≡◌, ℕ, ◌+◌, arith, Bool, true, false, not, ◌&&◌, cond, eqb, List, [], ◌∷◌, ◌++◌, map, length, drop, refl, sym, ap, subst, ◌∙◌}
use Rattle.std.proofs.Common.{Option, Some, None}
use Rattle.std.specs.Prelude.{option_map, is_some, slice_get, unwrap_or}
use Rattle.std.specs.List.{list_all}
use Rattle.std.proofs.lemmas.Bool.{not-true, and_parts, and_from, false≢true}
use Rattle.std.proofs.lemmas.List.{length-append, append_assoc}
use Rattle.std.proofs.lemmas.List.Elements.{filter_map-append}
use Rattle.std.proofs.lemmas.Option.{slice_get_within}
use Rattle.bs_clause.specs.Literal.{Literal, Clause, negation, has_literal}
use Rattle.bs_log.specs.declared.line.Line.{Line}
use Rattle.bs_log.specs.declared.line.Line.TheVariants.{Solve, Lemma, Block, Finish, Retire, Delete}
use Rattle.bs_log.specs.declared.origin.Origin.TheVariants.{Axiom}
use Rattle.bs_log.specs.History.{Problem, History, Entry, step_of, activation_of, added, live, is_deleted, last_id, state_of, phase_of}
use Rattle.bs_log.specs.Propagation.{hints_are_unit, last_is_false}
use Rattle.bs_log.specs.Refusal.{NoneRefused, IsAccepted, entry_of, clauses_of, passes, is_lemma, denies, assumptions_of, in_solve, is_between_steps, has_distinct_variables}
use Rattle.bs_log.proofs.Tests.{IsRight, right_from_none}
use Rattle.bs_log.proofs.Histories.{next_given, in_range}
use Rattle.bs_log.proofs.Laws.{step_of-positive}
use Rattle.bs_log.specs.declared.id_offsets.Frame.{Frame}
use Rattle.bs_log.specs.Cnf.{closed}
use Rattle.bs_log.specs.Lines.{raised}
use Rattle.bs_log.specs.Proof.{IsProofLine, IsProof, IsRefutation, alone, lemma_in, unit_id}
use Rattle.bs_log.proofs.Found.{axiom_at, get_behind, get_front, found_filter}
use Rattle.bs_log.proofs.Lemmas.{IsLemmaOf, lemma_found}
use Rattle.bs_log.proofs.Lines.{Stands, one_stands, one_clause, copy_is_right, get_map}
use Rattle.bs_log.proofs.Raising.{raised_high}
use Rattle.bs_log.proofs.Standing.{Fits, new_entry, last_front}
use Rattle.bs_log.proofs.Units.{follows_from_itself, IsPlace, place_there, ending_is_unit, ending_is_false}
use Rattle.bs_evidence.specs.WholeCnf.{finish_of, finished, rest_of, guarded, said_of, one_of, whole_behind, whole_cnf_of}
use Rattle.bs_evidence.specs.WholeProof.{under_of, so_far, place_of, besides, off_hints, whole_shown, whole_frame, ended, whole_proof_of}
use Rattle.bs_evidence.specs.WholeLaw.{IsLed, AreLed, WholeProofsAreRight, AcceptedIsUnmet}
use Rattle.bs_evidence.specs.WholeWalk.{given_at}
use Rattle.bs_evidence.proofs.Giving.{top, so_far_next, finished_are, behind_is}
use Rattle.bs_evidence.proofs.Finishes.{IsFinished, is_finished}
use Rattle.bs_evidence.proofs.Propagating.{guard, off_is_unit, off_is_false, all_off, besides_denied}
use Rattle.bs_evidence.proofs.Same.{whole_named, whole_kept, whole_hints, whole_hints_stand, whole_deleted_stand, whole_last}
use Rattle.bs_evidence.proofs.Ended.{id_in, ended_stand, ended_clauses, steps_distinct, closed_all}
use Rattle.bs_log.proofs.Sound.{refuted_is_unmet}

map_twice : {X Y Z : Type 0} (g : Y → Z) (k : X → Y) (xs : List X) → map (λ x. g (k x)) xs ≡ map g (map k xs)
map_twice g k [] = refl
map_twice {X} {Y} {Z} g k (x ∷ xs) = ap (λ (zs : List Z). g (k x) ∷ zs) (map_twice g k xs)

all_join : {X : Type 0} (t : X → Bool) (xs ys : List X) → list_all t xs ≡ true → list_all t ys ≡ true → list_all t (xs ++ ys) ≡ true
all_join t [] ys a b = b
all_join t (x ∷ xs) ys a b =
    let parts = and_parts (t x) (list_all t xs) a in
    and_from (t x) (list_all t (xs ++ ys)) parts.0 (all_join t xs ys parts.1 b)

module _ (p : Problem) (log : List Line) (ok : IsAccepted p log) where
  abbrev pub end : History
  end = top p log ok

  abbrev pub f : Frame
  f = whole_frame p end

  abbrev pub q : Problem
  q = alone (whole_cnf_of p end)

  abbrev pub fits : Fits f p q
  fits = record { extra = whole_behind p end; clauses = refl; front = refl; by = refl }

  front_is : f.front ≡ length p.clauses
  front_is = refl

  by_is : f.by ≡ length (whole_behind p end)
  by_is = refl

  -- the clauses at the end of a front are there
  abbrev pub shows : History → List Clause → Type 0
  shows h rest = whole_behind p end ≡ so_far p h ++ rest

  stands_behind : (h : History) (k id : ℕ) (c : Clause) → slice_get (whole_behind p end) k ≡ Some c → id ≡ length p.clauses + k + 1 →
      Stands (live q (whole_shown f p h)) id c
  stands_behind h k id c there at =
      let less = slice_get_within (whole_behind p end) k c there in
      record {
        entry = record { id = id; origin = Axiom; literals = c };
        found =
            whole_kept f p q fits h id (omega (arith, at, front_is)) (omega (arith, at, less, front_is, by_is))
            ∙ axiom_at 1 q.clauses (length p.clauses + k) id c (get_behind p.clauses (whole_behind p end) k (length p.clauses + k) refl ∙ there) (omega (arith, at));
        is = refl;
      }

  -- a clause that stands so far behind those of these lines
  given : (h : History) (rest : List Clause) (k id : ℕ) (c : Clause) → shows h rest → slice_get rest k ≡ Some c → id ≡ place_of p h + k + 1 →
      Stands (live q (whole_shown f p h)) id c
  given h rest k id c is there at =
      stands_behind h (length (so_far p h) + k) id c
      (ap (λ (cs : List Clause). slice_get cs (length (so_far p h) + k)) is ∙ (get_behind (so_far p h) rest k (length (so_far p h) + k) refl ∙ there))
      (omega (arith, at))

  next : (h : History) (id : ℕ) → NoneRefused p h → id ≡ last_id p h + 1 → raised f id ≡ last_id q (whole_shown f p h) + 1
  next h id right at =
      let front = last_front f p q fits h right in
      let last = whole_last f p q fits h right in
      let up = raised_high f id (omega (arith, front, at)) in
      omega (arith, up, last, at, front_is)

  -- ---- the end of a step

  hints_of_guards : (h : History) (more : List Clause) → shows h (guarded p (step_of h) (rest_of p (step_of h)) ++ more) → (last : ℕ) (lemma : Clause) →
      Stands (live q (whole_shown f p h)) last lemma → (ls : Clause) → denies (rest_of p (step_of h)) ls ≡ true →
      (clauses_of (live q (whole_shown f p h)) (map (unit_id (place_of p h) (rest_of p (step_of h))) ls ++ last ∷ [])
      ≡ map (guard (p.vars + step_of h)) ls ++ lemma ∷ [])
      × (list_all (λ i. is_some (entry_of (live q (whole_shown f p h)) i)) (map (unit_id (place_of p h) (rest_of p (step_of h))) ls ++ last ∷ []) ≡ true)
  hints_of_guards h more is last lemma s [] denied =
      (one_clause (live q (whole_shown f p h)) last lemma [] s, one_stands (live q (whole_shown f p h)) last lemma s)
  hints_of_guards h more is last lemma s (l ∷ ls) denied =
      let rest : Clause = rest_of p (step_of h) in
      let parts = and_parts (has_literal rest (negation l)) (denies rest ls) denied in
      let there : IsPlace rest (negation l) = place_there rest (negation l) parts.0 in
      let id : ℕ = unit_id (place_of p h) rest l in
      let at : id ≡ place_of p h + there.place + 1 = ap (λ (o : Option ℕ). place_of p h + unwrap_or o 0 + 1) there.is in
      let stands : Stands (live q (whole_shown f p h)) id (guard (p.vars + step_of h) l) =
      given h (guarded p (step_of h) rest ++ more) there.place id (guard (p.vars + step_of h) l) is
      (get_front (guarded p (step_of h) rest) more there.place (guard (p.vars + step_of h) l)
      (get_map (λ (a : Literal). negation (activation_of p (step_of h)) ∷ a ∷ []) rest there.place (negation l) there.holds)) at in
      let behind = hints_of_guards h more is last lemma s ls parts.1 in
      let later : List ℕ = map (unit_id (place_of p h) rest) ls ++ last ∷ [] in (
        one_clause (live q (whole_shown f p h)) id (guard (p.vars + step_of h) l) later stands
            ∙ ap (λ (cs : List Clause). guard (p.vars + step_of h) l ∷ cs) behind.0,
        and_from (is_some (entry_of (live q (whole_shown f p h)) id)) (list_all (λ i. is_some (entry_of (live q (whole_shown f p h)) i)) later)
            (ap is_some stands.found) behind.1,
      )

  module _ (led : AreLed p) where
    led_is : (step : ℕ) → IsLed p step → assumptions_of p step ≡ activation_of p step ∷ rest_of p step
    led_is step l = l.is ∙ ap (λ (c : Clause). activation_of p step ∷ c) (sym (ap (drop 1) l.is))

    refuted_is_right : (h : History) (id last : ℕ) (e : Entry) (more : List Clause) → NoneRefused p (Retire id ∷ h) → IsLed p (step_of h) →
        shows h (guarded p (step_of h) (rest_of p (step_of h)) ++ more) → entry_of (live p h) last ≡ Some e → is_lemma e ≡ true →
        denies (assumptions_of p (step_of h)) e.literals ≡ true → raised f id ≡ last_id q (whole_shown f p h) + 1 →
        IsProofLine q (whole_shown f p h) (Lemma (raised f id) (closed p (step_of h)) (off_hints f p (lemma_in h) (step_of h) (place_of p h) (Some last)))
    refuted_is_right h id last e more right l is found one denied at =
        let rest : Clause = rest_of p (step_of h) in
        let v : ℕ = p.vars + step_of h in
        let added_too : entry_of (added p h) last ≡ Some e = taken (is_deleted h last) (sym (found_filter (is_deleted h) (added p h) last) ∙ found) in
        let lemma : IsLemmaOf h last e = lemma_found p h last e right.1 one added_too in
        let c : Clause = lemma_in h last in
        let stands : Stands (live q (whole_shown f p h)) (raised f last) c =
        record { entry = new_entry f e; found = whole_named f p q fits h last ∙ ap (option_map (new_entry f)) found; is = sym lemma.is } in
        let distinct : has_distinct_variables c ≡ true = ap has_distinct_variables lemma.is ∙ lemma.distinct in
        let apart : has_distinct_variables (activation_of p (step_of h) ∷ rest) ≡ true =
        sym (ap has_distinct_variables (led_is (step_of h) l)) ∙ l.distinct in
        let denies_it : denies (activation_of p (step_of h) ∷ rest) c ≡ true =
        sym (ap (λ (a : Clause). denies a c) (led_is (step_of h) l)) ∙ (ap (denies (assumptions_of p (step_of h))) lemma.is ∙ denied) in
        let hints = hints_of_guards h more is (raised f last) c stands (besides v c) (besides_denied v rest apart c denies_it) in (
          at,
          hints.1,
          ap (hints_are_unit (closed p (step_of h))) hints.0 ∙ off_is_unit v c distinct,
          ap (last_is_false (closed p (step_of h))) hints.0 ∙ off_is_false v c distinct (all_off v rest apart c denies_it),
        )
      where
        taken : (b : Bool) → cond b None (entry_of (added p h) last) ≡ Some e → entry_of (added p h) last ≡ Some e
        taken true none = absurd (cc)
        taken false there = there

    retire_is_right : (h : History) (id : ℕ) (more : List Clause) → NoneRefused p (Retire id ∷ h) →
        shows h (said_of p (step_of h) (finish_of h (step_of h)) ++ more) →
        IsProofLine q (whole_shown f p h)
        (Lemma (raised f id) (closed p (step_of h)) (off_hints f p (lemma_in h) (step_of h) (place_of p h) (finish_of h (step_of h))))
    retire_is_right h id more right is = by (finish_of h (step_of h)) refl is
      where
        order : (not (is_between_steps (phase_of h)) && eqb id (last_id p h + 1)) ≡ true
        order = (right_from_none p (state_of p h) (Retire id) right.0).order

        at : raised f id ≡ last_id q (whole_shown f p h) + 1
        at = next h id right.1 (next_given p h (not (is_between_steps (phase_of h))) id order)

        l : IsLed p (step_of h)
        l =
            led.each (step_of h) (step_of-positive h)
            ((in_range p h right.1).inside
            (not-true (is_between_steps (phase_of h)) (and_parts (not (is_between_steps (phase_of h))) (eqb id (last_id p h + 1)) order).0))

        ends : (last : ℕ) (o : Option Entry) → entry_of (live p h) last ≡ o → IsFinished p h last →
            shows h (guarded p (step_of h) (rest_of p (step_of h)) ++ more) →
            IsProofLine q (whole_shown f p h) (Lemma (raised f id) (closed p (step_of h)) (off_hints f p (lemma_in h) (step_of h) (place_of p h) (Some last)))
        ends last None found fin all = absurd (false≢true (sym (ap (passes is_lemma) found) ∙ fin.names))
        ends last (Some e) found fin all =
            refuted_is_right h id last e more right l all found (sym (ap (passes is_lemma) found) ∙ fin.names)
            (sym (ap (passes (λ e. denies (assumptions_of p (step_of h)) e.literals)) found) ∙ fin.denied) at

        by : (o : Option ℕ) → finish_of h (step_of h) ≡ o → shows h (said_of p (step_of h) o ++ more) →
            IsProofLine q (whole_shown f p h) (Lemma (raised f id) (closed p (step_of h)) (off_hints f p (lemma_in h) (step_of h) (place_of p h) o))
        by None found all =
            copy_is_right q (whole_shown f p h) (raised f id) (place_of p h + 1) (closed p (step_of h)) (closed p (step_of h)) at
            (given h (closed p (step_of h) ∷ more) 0 (place_of p h + 1) (closed p (step_of h)) all refl (omega arith)) (follows_from_itself (closed p (step_of h)))
        by (Some last) found all = ends last (entry_of (live p h) last) refl (is_finished p h last right.1 found) all

    -- ---- the lines

    back : (line : Line) (h : History) (rest : List Clause) → shows (line ∷ h) rest → shows h (given_at p (under_of h) line ++ rest)
    back line h rest is =
        is ∙ (ap (λ (cs : List Clause). cs ++ rest) (so_far_next p line h) ∙ append_assoc (so_far p h) (given_at p (under_of h) line) rest)

    lines_are_right : (h : History) (rest : List Clause) → NoneRefused p h → shows h rest → IsProof q (whole_shown f p h)
    lines_are_right [] rest right is = tt
    lines_are_right (Solve ∷ h) rest right is = lines_are_right h rest right.1 (back Solve h rest is)
    lines_are_right (Finish id ∷ h) rest right is = lines_are_right h rest right.1 (back (Finish id) h rest is)
    lines_are_right (Delete ids ∷ h) rest right is = (
      whole_deleted_stand f p q fits h ids (right_from_none p (state_of p h) (Delete ids) right.0).names,
      lines_are_right h rest right.1 (back (Delete ids) h rest is),
    )
    lines_are_right (Lemma id lits hints ∷ h) rest right is =
        let is_right : IsRight p (state_of p h) (Lemma id lits hints) = right_from_none p (state_of p h) (Lemma id lits hints) right.0 in
        let same = whole_hints f p q fits h hints in (
          (
            next h id right.1 (next_given p h (in_solve (phase_of h)) id is_right.order),
            whole_hints_stand f p q fits h hints is_right.names,
            ap (hints_are_unit lits) same ∙ is_right.unit,
            ap (last_is_false lits) same ∙ is_right.last,
          ),
          lines_are_right h rest right.1 (back (Lemma id lits hints) h rest is),
        )
    lines_are_right (Block id lits ∷ h) rest right is =
        let order = (right_from_none p (state_of p h) (Block id lits) right.0).order in
        let before : shows h (lits ∷ rest) = back (Block id lits) h rest is in (
          copy_is_right q (whole_shown f p h) (raised f id) (place_of p h + 1) lits lits
              (next h id right.1 (next_given p h (in_solve (phase_of h)) id order))
              (given h (lits ∷ rest) 0 (place_of p h + 1) lits before refl (omega arith)) (follows_from_itself lits),
          lines_are_right h (lits ∷ rest) right.1 before,
        )
    lines_are_right (Retire id ∷ h) rest right is =
        let before : shows h (said_of p (step_of h) (finish_of h (step_of h)) ++ rest) = back (Retire id) h rest is in
        (retire_is_right h id rest right before, lines_are_right h (said_of p (step_of h) (finish_of h (step_of h)) ++ rest) right.1 before)

    -- ---- the empty clause

    abbrev last_clause : Clause
    last_clause = one_of p (finished p end)

    ids_are : map (λ (e : ℕ × ℕ). raised f e.0) (ended end) ≡ map (raised f) (map id_in (ended end))
    ids_are = map_twice (raised f) id_in (ended end)

    last_stands : Stands (live q (whole_shown f p end)) (f.front + f.by) last_clause
    last_stands =
        let long = length-append (so_far p end) (last_clause ∷ []) in
        let all : length (whole_behind p end) ≡ length (so_far p end ++ last_clause ∷ []) = ap length (behind_is p log ok) in
        given end (last_clause ∷ []) 0 (f.front + f.by) last_clause (behind_is p log ok) refl (omega (arith, long, all, front_is, by_is))

    clauses_are : clauses_of (live q (whole_shown f p end)) (map (raised f) (map id_in (ended end)) ++ (f.front + f.by) ∷ []) ≡
        map (λ l. negation l ∷ []) last_clause ++ last_clause ∷ []
    clauses_are =
        let es : List Entry = live q (whole_shown f p end) in
        let front : clauses_of es (map (raised f) (map id_in (ended end))) ≡ map (λ l. negation l ∷ []) last_clause =
        whole_hints f p q fits end (map id_in (ended end))
        ∙ (ended_clauses p end ok.lines ∙ (ap (map (closed p)) (finished_are p log ok) ∙ sym (closed_all p (finished p end)))) in
        filter_map-append (λ id. option_map (λ (e : Entry). e.literals) (entry_of es id)) (map (raised f) (map id_in (ended end))) ((f.front + f.by) ∷ [])
        ∙ (λ i. front i ++ one_clause es (f.front + f.by) last_clause [] last_stands i)

    names_are : list_all (λ i. is_some (entry_of (live q (whole_shown f p end)) i)) (map (raised f) (map id_in (ended end)) ++ (f.front + f.by) ∷ []) ≡ true
    names_are =
        all_join (λ i. is_some (entry_of (live q (whole_shown f p end)) i)) (map (raised f) (map id_in (ended end))) ((f.front + f.by) ∷ [])
        (whole_hints_stand f p q fits end (map id_in (ended end)) (ended_stand p end ok.lines))
        (one_stands (live q (whole_shown f p end)) (f.front + f.by) last_clause last_stands)

    last_distinct : has_distinct_variables last_clause ≡ true
    last_distinct = steps_distinct p (λ step. is_some (finish_of end step)) 1 (length p.steps)

    pub is_refutation : IsRefutation (whole_cnf_of p end) (whole_proof_of p end)
    is_refutation =
        record {
          right = (
            subst (λ (ids : List ℕ). IsProofLine q (whole_shown f p end)
                (Lemma (last_id q (whole_shown f p end) + 1) [] (ids ++ (f.front + f.by) ∷ []))) (sym ids_are) (
                  refl,
                  names_are,
                  ap (hints_are_unit []) clauses_are ∙ ending_is_unit last_clause last_distinct,
                  ap (last_is_false []) clauses_are ∙ ending_is_false last_clause last_distinct,
                ),
            lines_are_right end (last_clause ∷ []) ok.lines (behind_is p log ok),
          );
          last = tt;
        }

pub whole_proofs_are_right : WholeProofsAreRight
whole_proofs_are_right p log ok led = is_refutation p log ok led

pub accepted_is_unmet : AcceptedIsUnmet
accepted_is_unmet p log v ok led met =
    refuted_is_unmet v (whole_cnf_of p (end p log ok)) (whole_proof_of p (end p log ok)) (is_refutation p log ok led) met
