-- Sound trails: what a push, a cut and one more clause leave of them.
use Rattle.std.proofs.Common.{◌≡◌, ℕ, ◌<◌, ◌≤◌, arith, List, [], ◌∷◌, ◌++◌, length, take, sym, ap, subst, ◌∙◌, inl, inr, Some, false}
use Rattle.std.specs.Prelude.{slice_get}
use Rattle.std.proofs.lemmas.Bool.{cases_lt, false≢true}
use Rattle.std.proofs.lemmas.List.{take-append-le, take-take, take_all, length-take-le, length_push, take_at}
use Rattle.std.proofs.lemmas.List.Elements.{Contains-append_left}
use Rattle.bs_clause.specs.Literal.{Literal, Clause}
use Rattle.bs_solve_lemmas.specs.Place.{LoggedPlace}
use Rattle.bs_watch.specs.Trail.{IsQuiet}
use Rattle.bs_solve_lemmas.specs.Places.{logged_literals, IsWarranted, AreWarranted}
use Rattle.bs_solve_lemmas.specs.Grown.{IsLoggedImplied, LoggedGrows}
use Rattle.bs_watch.proofs.Gets.{none_is_not_some, get_push_cases, get_take, take_get, get_within}

-- the empty trail
pub sound_nil : (clauses : List Clause) (base : ℕ) (a : List Literal) → AreWarranted clauses base a []
sound_nil clauses base a = record { placed = λ k p e. absurd (none_is_not_some p e) }

pub sound_push : (clauses : List Clause) (base : ℕ) (a : List Literal) (places : List LoggedPlace) (p : LoggedPlace) →
    AreWarranted clauses base a places → IsWarranted clauses base a places p → AreWarranted clauses base a (places ++ p ∷ [])
sound_push clauses base a places p s placed = record {
  placed = λ k q e. elim (get_push_cases places p q k e) [
    | inl there ↦
        let within = get_within places k q there in
        subst (λ earlier. IsWarranted clauses base a earlier q) (sym (take-append-le k places (p ∷ []) (omega arith))) (s.placed k q there)
    | inr last ↦
        let front : take k (places ++ p ∷ []) ≡ places = take_at places (p ∷ []) k (sym last.0) in
        subst (λ earlier. IsWarranted clauses base a earlier q) (sym front) (subst (IsWarranted clauses base a places) last.1 placed)
  ];
}

pub sound_take : (clauses : List Clause) (base : ℕ) (a : List Literal) (places : List LoggedPlace) (n : ℕ) → AreWarranted clauses base a places →
    AreWarranted clauses base a (take n places)
sound_take clauses base a places n s = record {
  placed = λ k p e.
      let found = get_take n places k p e in
      let before : k < n = found.0 in
      subst (λ earlier. IsWarranted clauses base a earlier p) (sym (take-take k n places (omega arith))) (s.placed k p found.1);
}

-- one more clause, where the trail is quiet for all of them at each decision
pub sound_clause : (clauses : List Clause) (c : Clause) (base : ℕ) (a : List Literal) (places : List LoggedPlace) → AreWarranted clauses base a places →
    ((k : ℕ) (p : LoggedPlace) → slice_get places k ≡ Some p → p.implied ≡ false → base ≤ k → IsQuiet (logged_literals (take k places)) (clauses ++ c ∷ [])) →
    AreWarranted (clauses ++ c ∷ []) base a places
sound_clause clauses c base a places s quiet = record {
  placed = λ k p e.
      let old = s.placed k p e in
      let within = get_within places k p e in
      let length_k : length (take k places) ≡ k = length-take-le k places (omega arith) in
      record {
        unassigned = old.unassigned;
        implied = λ is. let f = old.implied is in (f.0, Contains-append_left clauses (c ∷ []) f.0 f.1, f.2);
        assumed = old.assumed;
        quiet = λ none above. quiet k p e none (omega (arith, above, length_k));
      };
}

-- ---- propagation

pub grows_none : (clauses : List Clause) (places : List LoggedPlace) → LoggedGrows clauses places places
grows_none clauses places = record {
  longer = omega arith;
  front = take_all (length places) places (omega arith);
  implied = λ k p past e. absurd (let within = get_within places k p e in omega (arith, past, within));
}

pub grows_push : (clauses : List Clause) (old new : List LoggedPlace) (p : LoggedPlace) → LoggedGrows clauses old new → IsLoggedImplied clauses new p → LoggedGrows clauses old (new ++ p ∷ [])
grows_push clauses old new p g f = record {
  longer = omega (arith, g.longer, length_push new p);
  front = take-append-le (length old) new (p ∷ []) g.longer ∙ g.front;
  implied = λ k q past e. elim (get_push_cases new p q k e) [
    | inl there ↦
        let within = get_within new k q there in
        subst (λ earlier. IsLoggedImplied clauses earlier q) (sym (take-append-le k new (p ∷ []) (omega arith))) (g.implied k q past there)
    | inr last ↦
        subst (λ earlier. IsLoggedImplied clauses earlier q) (sym (take_at new (p ∷ []) k (sym last.0))) (subst (IsLoggedImplied clauses new) last.1 f)
  ];
}

-- an implied literal is placed on any level
pub placed_from_implied : (clauses : List Clause) (base : ℕ) (a : List Literal) (earlier : List LoggedPlace) (p : LoggedPlace) → IsLoggedImplied clauses earlier p →
    IsWarranted clauses base a earlier p
placed_from_implied clauses base a earlier p f = record {
  unassigned = f.implies.unassigned;
  implied = λ _. (f.clause, f.there, f.implies);
  assumed = λ free. absurd (false≢true (sym free ∙ f.is));
  quiet = λ free. absurd (false≢true (sym free ∙ f.is));
}

pub sound_grows : (clauses : List Clause) (base : ℕ) (a : List Literal) (old new : List LoggedPlace) → AreWarranted clauses base a old → LoggedGrows clauses old new →
    AreWarranted clauses base a new
sound_grows clauses base a old new s g = record {
  placed = λ k p e. elim (cases_lt k (length old)) [
    | inl before ↦
        let in_old : slice_get old k ≡ Some p = subst (λ xs. slice_get xs k ≡ Some p) g.front (take_get (length old) new k p before e) in
        let front : take k old ≡ take k new = ap (take k) (sym g.front) ∙ take-take k (length old) new (omega arith) in
        subst (λ earlier. IsWarranted clauses base a earlier p) front (s.placed k p in_old)
    | inr past ↦ placed_from_implied clauses base a (take k new) p (g.implied k p past e)
  ];
}

pub grows_trans : (clauses : List Clause) (a b c : List LoggedPlace) → LoggedGrows clauses a b → LoggedGrows clauses b c → LoggedGrows clauses a c
grows_trans clauses a b c g h = record {
  longer = omega (arith, g.longer, h.longer);
  front = sym (take-take (length a) (length b) c g.longer) ∙ ap (take (length a)) h.front ∙ g.front;
  implied = λ k p past e. elim (cases_lt k (length b)) [
    | inl before ↦
        let in_b : slice_get b k ≡ Some p = subst (λ xs. slice_get xs k ≡ Some p) h.front (take_get (length b) c k p before e) in
        let front : take k b ≡ take k c = ap (take k) (sym h.front) ∙ take-take k (length b) c (omega arith) in
        subst (λ earlier. IsLoggedImplied clauses earlier p) front (g.implied k p past in_b)
    | inr beyond ↦ h.implied k p beyond e
  ];
}
