-- A learnt clause in the proof log and on the trail.
use Rattle.std.proofs.Common.{◌≡◌, ℕ, ◌+◌, ◌-◌, ◌<◌, ◌≤◌, ◌^◌, arith, true, List, [], ◌∷◌, ◌++◌, map, length, take, refl, sym, ap, subst}
use Rattle.std.proofs.Common.{◌∙◌, inl, inr, Option, Some, None}
use Rattle.std.specs.Prelude.{All, Any, Contains, option_map}
use Rattle.std.specs.List.{cons_option}
use Rattle.std.proofs.lemmas.List.{take-take, length-take-le, length_push, take-append-le}
use Rattle.std.proofs.lemmas.List.Elements.{All-contains, All-weaker}
use Rattle.bs_clause.specs.Literal.{Literal, Clause, negation}
use Rattle.bs_clause.specs.Range.{IsWithin, HasVariables}
use Rattle.bs_log.specs.History.{Entry, live}
use Rattle.bs_log.specs.Refusal.{entry_of, clauses_of, denies}
use Rattle.bs_log.specs.Lean.{IsContained, IsNew}
use Rattle.bs_log.specs.LineForms.{HasVariable}
use Rattle.bs_solve_lemmas.specs.Place.{LoggedPlace}
use Rattle.bs_watch.specs.Trail.{IsTrueOn}
use Rattle.bs_solve_lemmas.specs.Places.{logged_literals, AreWarranted}
use Rattle.bs_solve_lemmas.specs.Walk.{IsLoggedLearnt}
use Rattle.bs_solve_lemmas.specs.Point.{IsLoggedPoint, IsCut, IsLoggedReasonless, AreImplied}
use Rattle.bs_solve_lemmas.specs.Learning.{after_learning}
use Rattle.bs_solve_lemmas.specs.ProofLog.{ProofLog, standing}
use Rattle.bs_solve_lemmas.specs.Search.{assumed, HasLemma, HasLearnt}
use Rattle.bs_watch.proofs.Gets.{get_within}
use Rattle.bs_solve_lemmas.proofs.Clauses.{all_from, nothing_in, contains_cases, map_contains}
use Rattle.bs_solve_lemmas.proofs.Entries.{found_stands}
use Rattle.bs_solve_lemmas.proofs.Backjumps.{Learns, learns, not_denying, denies_from_reasonless, learning_rises}

-- a clause that an id names is an entry's
named_stands : (entries : List Entry) (ids : List ℕ) (c : Clause) → Contains (clauses_of entries ids) c → Contains (map (λ (e : Entry). e.literals) entries) c
named_stands entries [] c there = absurd (nothing_in c there)
named_stands entries (id ∷ ids) c there = by (entry_of entries id) refl there (named_stands entries ids c)
  where
    by : (o : Option Entry) → entry_of entries id ≡ o →
        Contains (cons_option (option_map (λ (e : Entry). e.literals) o) (clauses_of entries ids)) c →
        (Contains (clauses_of entries ids) c → Contains (map (λ (e : Entry). e.literals) entries) c) → Contains (map (λ (e : Entry). e.literals) entries) c
    by None found there rest = rest there
    by (Some e) found there rest = elim (contains_cases e.literals (clauses_of entries ids) c there) [
      | inl same ↦ subst (Contains (map (λ (x : Entry). x.literals) entries)) same
          (map_contains (λ (x : Entry). x.literals) entries e (found_stands entries id e found))
      | inr later ↦ rest later
    ]

-- a learnt clause is over the clauses' variables
pub learnt_range : (entries : List Entry) (vars : ℕ) (lemma : Clause) (hints : List ℕ) → IsLoggedLearnt entries lemma hints →
    All (HasVariables vars) (map (λ (e : Entry). e.literals) entries) → HasVariables vars lemma
learnt_range entries vars lemma hints learnt range = all_from (IsWithin vars) lemma (λ l in_lemma.
    let stands : Any (λ c. Contains c l) (clauses_of entries hints) = ((learnt.resolvent.literals l).0 in_lemma).0 in
    let in_hints : Contains (clauses_of entries hints) stands.1 = (stands.0, stands.2, stands.3) in
    let in_clauses : Contains (map (λ (e : Entry). e.literals) entries) stands.1 = named_stands entries hints stands.1 in_hints in
    All-contains (IsWithin vars) stands.1 l
    (All-contains (HasVariables vars) (map (λ (e : Entry). e.literals) entries) stands.1 range in_clauses) stands.4)

-- variables that are few are those of literals
pub have_variables : (vars : ℕ) (c : Clause) → vars < 2 ^ 30 → HasVariables vars c → All HasVariable c
have_variables vars c bound range = All-weaker (IsWithin vars) HasVariable
    (λ l within. let low = within.0 in let high = within.1 in (low, omega (arith, high, bound))) c range

-- no standing clause is contained in what was learnt
pub new_lemma : (b : ProofLog) (lemma : Clause) → All (λ d. ¬ IsContained d lemma) (standing b) → IsNew b.problem b.history lemma
new_lemma b lemma new = inr (all_from (λ (e : Entry). ¬ IsContained e.literals lemma) (live b.problem b.history) (λ e there.
    All-contains (λ d. ¬ IsContained d lemma) (standing b) e.literals new (map_contains (λ (x : Entry). x.literals) (live b.problem b.history) e there)))

-- what conflict analysis above the first level leads to
pub learns_at : (b : ProofLog) (base start cut : ℕ) (places : List LoggedPlace) (lits : Clause) (at : ℕ) →
    AreWarranted (standing b) base (assumed b) places → (p : IsLoggedPoint places start lits at) → IsCut places base start (negation p.place.literal) lits cut →
    Learns (standing b) base (assumed b) places lits (negation p.place.literal) cut
learns_at b base start cut places lits at s p k = learns (standing b) base start at (assumed b) places lits p.place cut s p.there p.low p.denied k

pub has_learnt : (old new : ProofLog) (vars base start cut at id : ℕ) (places : List LoggedPlace) (lits : Clause) (hints : List ℕ) (denied : Literal) →
    AreWarranted (standing old) base (assumed old) places → All (IsTrueOn (logged_literals (take base places))) (assumed old) →
    All (HasVariables vars) (standing old) →
    base ≤ start → length places ≤ vars →
    IsLoggedLearnt (live old.problem old.history) lits hints → (p : IsLoggedPoint places start lits at) → denied ≡ negation p.place.literal →
    IsCut places base start denied lits cut → HasLemma old new id lits →
    HasLearnt base old new (record { vars = vars; places = places })
    (record { vars = vars; places = take cut places ++ record { literal = denied; implied = true } ∷ [] })
has_learnt old new vars base start cut at id places lits hints denied s given range low room learnt p is_denied k logged =
    let u : Literal = negation p.place.literal in
    let cut_u : IsCut places base start u lits cut = subst (λ l. IsCut places base start l lits cut) is_denied k in
    let learning : Learns (standing old) base (assumed old) places lits u cut = learns_at old base start cut places lits at s p cut_u in
    let within = get_within places cut k.decided.place k.decided.there in
    let after : List LoggedPlace = after_learning places u cut in
    let same_after : take cut places ++ record { literal = denied; implied = true } ∷ [] ≡ after =
    ap (λ l. take cut places ++ record { literal = l; implied = true } ∷ []) is_denied in
    let length_front : length (take cut places) ≡ cut = length-take-le cut places (omega (arith, within)) in
    let low_cut = k.low in
    let same_assumed : assumed new ≡ assumed old = ap assumed logged.proof in
    subst (λ ps. HasLearnt base old new (record { vars = vars; places = places }) (record { vars = vars; places = ps })) (sym same_after) (record {
      id = id;
      lemma = lits;
      logged = logged;
      open_yet = not_denying (standing old) base start at (assumed old) places lits p.place s p.there low p.low p.denied given;
      range = learnt_range (live old.problem old.history) vars lits hints learnt range;
      distinct = learnt.distinct;
      vars = refl;
      sound = subst (λ cs. AreWarranted cs base (assumed new) after) (sym logged.stands)
          (subst (λ a. AreWarranted (standing old ++ lits ∷ []) base a after) (sym same_assumed) learning.sound);
      low = omega (arith, low_cut, length_front, length_push (take cut places) (record { literal = u; implied = true }));
      front = take-append-le base (take cut places) (record { literal = u; implied = true } ∷ [])
          (omega (arith, low_cut, length_front)) ∙ take-take base cut places low_cut;
      rises = learning_rises base vars places u cut low_cut k.decided room;
    })

-- no standing clause is contained in what is learnt above the first level
pub learnt_is_new : (b : ProofLog) (base start cut at : ℕ) (places : List LoggedPlace) (lits : Clause) (denied : Literal) →
    AreWarranted (standing b) base (assumed b) places →
    (p : IsLoggedPoint places start lits at) → denied ≡ negation p.place.literal → IsCut places base start denied lits cut → IsNew b.problem b.history lits
learnt_is_new b base start cut at places lits denied s p is_denied k =
    new_lemma b lits (learns_at b base start cut places lits at s p (subst (λ l. IsCut places base start l lits cut) is_denied k)).new

-- the last conflict
pub ending_lemma : (b : ProofLog) (base : ℕ) (places : List LoggedPlace) (lits : Clause) → AreWarranted (standing b) base (assumed b) places → AreImplied places base →
    All (λ l. IsLoggedReasonless places (negation l)) lits → denies (assumed b) lits ≡ true
ending_lemma b base places lits s implied free = denies_from_reasonless (standing b) base (assumed b) places lits s implied free
