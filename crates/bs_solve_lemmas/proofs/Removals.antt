-- Clauses that are taken out, one after another, and lists that lose their dead members in place.
use Rattle.std.proofs.Common.{◌≡◌, ℕ, zero, suc, ◌+◌, ◌<◌, ◌≤◌, arith, Bool, true, false, cond, List, [], ◌∷◌, ◌++◌, length, take, set}
use Rattle.std.proofs.Common.{get_or, refl, sym, ap, subst, ◌∙◌, inl, inr, ◌⊎◌, Some, None, Option, eqb}
use Rattle.std.specs.Prelude.{slice_get, is_some, option_map, All, Contains}
use Rattle.std.specs.List.{filter, find}
use Rattle.std.proofs.lemmas.Bool.{cases_eq, cases_lt, false≢true, eqb-true}
use Rattle.std.proofs.lemmas.List.{length-set, append-nil, take_all}
use Rattle.std.proofs.lemmas.List.Elements.{All-contains, Contains-get_or, Contains-append_cases, Contains-append_left, Contains-append_right}
use Rattle.bs_clause.specs.Literal.{Literal, Clause}
use Rattle.bs_clause.specs.Range.{IsWithin, HasVariables}
use Rattle.bs_arena.specs.Arena.{Held, Content, held_at, literals_at, KeepsOthers}
use Rattle.bs_watch.specs.Look.{IsFirstTwo}
use Rattle.bs_watch.specs.Watch.{WatchState, Serves}
use Rattle.bs_watch.specs.Sweep.{ArePlaced, HasServed}
use Rattle.bs_watch.proofs.CallerLemmas.{attached_is_live, has_served}
use Rattle.bs_watch.proofs.Gets.{none_is_not_some, same_some, get_from_Contains, Contains_from_get, get_within, get_take, take_get}
use Rattle.bs_watch.proofs.Members.{nothing_in, contains_first, cons_contains, contains_cases, map_cases, filter_cases, filter_from}
use Rattle.bs_solve_lemmas.specs.declared.row.LoggedClause.{LoggedClause}
use Rattle.bs_solve_lemmas.specs.Keeping.{Ascends, AreHeld, watched_in}
use Rattle.bs_solve_lemmas.specs.Notes.{GoBy, HasKilled, AreOut, IsThinned}
use Rattle.bs_solve_lemmas.proofs.Rules.{filter_push}

-- ---- members

contains_or_not : (refs : List ℕ) (r : ℕ) → Contains refs r ⊎ (¬ Contains refs r)
contains_or_not [] r = inr (nothing_in r)
contains_or_not (q ∷ refs) r = elim (cases_eq q r) as (λ _. Contains (q ∷ refs) r ⊎ (¬ Contains (q ∷ refs) r)) [
  | inl same ↦ inl (subst (Contains (q ∷ refs)) same (contains_first q refs))
  | inr other ↦ elim (contains_or_not refs r) as (λ _. Contains (q ∷ refs) r ⊎ (¬ Contains (q ∷ refs) r)) [
    | inl there ↦ inl (cons_contains q refs r there)
    | inr missing ↦ inr (λ c. elim (contains_cases q refs r c) [ inl same ↦ other same | inr there ↦ missing there ])
  ]
]

-- ---- kills

pub killed_none : (clauses : List Held) → HasKilled clauses clauses []
killed_none clauses = record { gone = λ r c. absurd (nothing_in r c); kept = λ r missing. refl }

not_live : (o : Option Held) → is_some o ≡ false → o ≡ None
not_live None e = refl
not_live (Some h) e = absurd (false≢true (sym e))

pub killed_one : (old new : List Held) (r : ℕ) → held_at new r ≡ None → KeepsOthers old new r → HasKilled old new (r ∷ [])
killed_one old new r gone others = record {
  gone = λ q c. elim (contains_cases r [] q c) [
    | inl same ↦ subst (λ n. held_at new n ≡ None) same gone
    | inr nothing ↦ absurd (nothing_in q nothing)
  ];
  kept = λ q missing. others.kept q (λ same. missing (subst (Contains (r ∷ [])) (sym same) (contains_first r [])));
}

pub killed_dead : (clauses : List Held) (r : ℕ) → is_some (held_at clauses r) ≡ false → HasKilled clauses clauses (r ∷ [])
killed_dead clauses r dead = record {
  gone = λ q c. elim (contains_cases r [] q c) [
    | inl same ↦ subst (λ n. held_at clauses n ≡ None) same (not_live (held_at clauses r) dead)
    | inr nothing ↦ absurd (nothing_in q nothing)
  ];
  kept = λ q missing. refl;
}

pub killed_more : (a b d : List Held) (refs : List ℕ) (r : ℕ) → HasKilled a b refs → HasKilled b d (r ∷ []) → HasKilled a d (refs ++ r ∷ [])
killed_more a b d refs r h g = record {
  gone = λ q c. elim (contains_or_not (r ∷ []) q) [
    | inl last ↦ g.gone q last
    | inr other ↦ g.kept q other ∙ (elim (Contains-append_cases refs (r ∷ []) q c) [
      | inl early ↦ h.gone q early
      | inr late ↦ absurd (other late)
    ])
  ];
  kept = λ q missing.
      g.kept q (λ c. missing (Contains-append_right refs (r ∷ []) q c)) ∙
      h.kept q (λ c. missing (Contains-append_left refs (r ∷ []) q c));
}

-- what lives still is as it was
pub killed_still : (old new : List Held) (refs : List ℕ) (r : ℕ) → HasKilled old new refs → is_some (held_at new r) ≡ true → held_at new r ≡ held_at old r
killed_still old new refs r h live = elim (contains_or_not refs r) [
  | inl there ↦ absurd (false≢true (sym (ap is_some (h.gone r there)) ∙ live))
  | inr missing ↦ h.kept r missing
]

-- and what is dead was among them, where it lived
pub killed_was : (old new : List Held) (refs : List ℕ) (r : ℕ) → HasKilled old new refs → is_some (held_at old r) ≡ true → is_some (held_at new r) ≡ false →
    Contains refs r
killed_was old new refs r h live dead = elim (contains_or_not refs r) [
  | inl there ↦ there
  | inr missing ↦ absurd (false≢true (sym dead ∙ ap is_some (h.kept r missing) ∙ live))
]

-- ---- lists that lose members

take_set : {X : Type 0} (xs : List X) (k : ℕ) (x : X) → k < length xs → take (suc k) (set xs k x) ≡ take k xs ++ x ∷ []
take_set [] k x h = absurd (omega (arith, h))
take_set (y ∷ xs) zero x h = refl
take_set (y ∷ xs) (suc k) x h = ap (λ r. y ∷ r) (take_set xs k x (omega (arith, h)))

get_set_later : {X : Type 0} (xs : List X) (k j : ℕ) (x : X) → k < j → slice_get (set xs k x) j ≡ slice_get xs j
get_set_later [] k j x h = refl
get_set_later (y ∷ xs) k zero x h = absurd (omega (arith, h))
get_set_later (y ∷ xs) zero (suc j) x h = refl
get_set_later (y ∷ xs) (suc k) (suc j) x h = get_set_later xs k j x (omega (arith, h))

filter_all : {X : Type 0} (test : X → Bool) (xs : List X) → All (λ x. test x ≡ true) xs → filter test xs ≡ xs
filter_all test [] all = refl
filter_all test (x ∷ xs) all =
    ap (λ b. cond b (x ∷ filter test xs) (filter test xs)) (all 0 x (omega arith)) ∙
    ap (λ r. x ∷ r) (filter_all test xs (λ k d h. all (suc k) d (omega (arith, h))))

pub thinned_start : {X : Type 0} (test : X → Bool) (xs : List X) (start : ℕ) → All (λ x. test x ≡ true) (take start xs) → IsThinned test xs xs start start
thinned_start test xs start all = record {
  long = refl;
  few = omega arith;
  front = sym (filter_all test (take start xs) all);
  rest = λ k x low e. e;
}

none_within : {X : Type 0} (xs : List X) (k : ℕ) → k < length xs → slice_get xs k ≡ None → ⊥
none_within [] k h e = omega (arith, h)
none_within (x ∷ xs) zero h e = none_is_not_some x (sym e)
none_within (x ∷ xs) (suc k) h e = none_within xs k (omega (arith, h)) e

-- the member at the place is as it was
pub thinned_at : {X : Type 0} (test : X → Bool) (old now : List X) (place kept : ℕ) (x : X) → IsThinned test old now place kept →
    slice_get now place ≡ Some x → slice_get old place ≡ Some x
thinned_at {X = X} test old now place kept x t at = by (slice_get old place) refl
  where
    by : (o : Option X) → slice_get old place ≡ o → slice_get old place ≡ Some x
    by (Some y) e = e ∙ ap Some (same_some y x (sym (t.rest place y (omega arith) e) ∙ at))
    by None e = absurd (none_within old place (subst (λ n. place < n) t.long (get_within now place x at)) e)

pub thinned_no : {X : Type 0} (test : X → Bool) (old now : List X) (place kept : ℕ) (x : X) → slice_get now place ≡ Some x → test x ≡ false →
    IsThinned test old now place kept → IsThinned test old now (place + 1) kept
thinned_no test old now place kept x at off t = record {
  long = t.long;
  few = (let h = t.few in omega (arith, h));
  front = t.front ∙ sym (ap (λ n. filter test (take n old)) (let e : place + 1 ≡ suc place = omega arith in e) ∙
      filter_push test old place x (thinned_at test old now place kept x t at) ∙ ap (λ b. filter test (take place old) ++ cond b (x ∷ []) []) off ∙
      append-nil (filter test (take place old)));
  rest = λ k y low e. t.rest k y (omega (arith, low)) e;
}

pub thinned_yes : {X : Type 0} (test : X → Bool) (old now : List X) (place kept : ℕ) (x : X) → slice_get now place ≡ Some x → test x ≡ true →
    IsThinned test old now place kept → IsThinned test old (set now kept x) (place + 1) (kept + 1)
thinned_yes test old now place kept x at on t = record {
  long = length-set now kept x ∙ t.long;
  few = (let h = t.few in omega (arith, h));
  front = ap (λ n. take n (set now kept x)) (let e : kept + 1 ≡ suc kept = omega arith in e) ∙
      take_set now kept x (let w = get_within now place x at in let h = t.few in omega (arith, w, h)) ∙ ap (λ xs. xs ++ x ∷ []) t.front ∙
      sym (ap (λ n. filter test (take n old)) (let e : place + 1 ≡ suc place = omega arith in e) ∙
      filter_push test old place x (thinned_at test old now place kept x t at) ∙ ap (λ b. filter test (take place old) ++ cond b (x ∷ []) []) on);
  rest = λ k y low e. get_set_later now kept k x (let h = t.few in omega (arith, low, h)) ∙ t.rest k y (omega (arith, low)) e;
}

pub thinned_end : {X : Type 0} (test : X → Bool) (old now : List X) (place kept : ℕ) → length old ≤ place → IsThinned test old now place kept →
    take kept now ≡ filter test old
thinned_end test old now place kept past t = t.front ∙ ap (filter test) (take_all place old past)

-- ---- the rows

-- two rows of one clause are the same
same_row : (clauses : List Held) (rows : List LoggedClause) (i j : ℕ) (a b : LoggedClause) → AreHeld clauses rows → Ascends rows → slice_get rows i ≡ Some a →
    slice_get rows j ≡ Some b →
    a.clause ≡ b.clause → a ≡ b
same_row clauses rows i j a b held ascends at_i at_j same =
    let id_a = All-contains (λ (row : LoggedClause). option_map (λ (h : Held). h.id) (held_at clauses row.clause) ≡ Some row.id) rows a held
    (Contains_from_get rows i a at_i) in
    let id_b = All-contains (λ (row : LoggedClause). option_map (λ (h : Held). h.id) (held_at clauses row.clause) ≡ Some row.id) rows b held
    (Contains_from_get rows j b at_j) in
    let ids : a.id ≡ b.id = same_some a.id b.id (sym id_a ∙ ap (λ r. option_map (λ (h : Held). h.id) (held_at clauses r)) same ∙ id_b) in
    let one : i ≡ j = elim (cases_lt i j) as (λ _. i ≡ j) [
      | inl before ↦ let h = ascends.below i j a b before at_i at_j in absurd (omega (arith, h, ids))
      | inr past ↦ elim (cases_eq i j) as (λ _. i ≡ j) [
        | inl equal ↦ equal
        | inr different ↦ let h = ascends.below j i b a (omega (arith, past, λ (e : i ≡ j). different e)) at_j at_i in absurd (omega (arith, h, ids))
      ]
    ] in
    same_some a b (sym at_i ∙ ap (slice_get rows) one ∙ at_j)

-- a row whose clause goes passes the test
pub gone_passes : (clauses : List Held) (rows : List LoggedClause) (start : ℕ) (ids refs : List ℕ) (watched : List Literal) (row : LoggedClause) → AreHeld clauses rows →
    Ascends rows →
    (g : GoBy clauses rows start ids refs watched) → Contains rows row → Contains refs row.clause → g.test row ≡ true
gone_passes clauses rows start ids refs watched row held ascends g there goes =
    let (other, in_gone, same) = map_cases (λ (x : LoggedClause). x.clause) (filter g.test rows) row.clause
    (subst (λ rs. Contains rs row.clause) g.noted.clauses_are goes) in
    let (in_rows, on) = filter_cases g.test rows other in_gone in
    let (i, at_i) = get_from_Contains rows other in_rows in
    let (j, at_j) = get_from_Contains rows row there in
    ap g.test (sym (same_row clauses rows i j other row held ascends at_i at_j same)) ∙ on

live_by_id : (o : Option Held) (n : ℕ) → option_map (λ (h : Held). h.id) o ≡ Some n → is_some o ≡ true
live_by_id None n e = absurd (none_is_not_some n e)
live_by_id (Some h) n e = refl

-- a row's clause is live
pub row_live : (clauses : List Held) (rows : List LoggedClause) (row : LoggedClause) → AreHeld clauses rows → Contains rows row → is_some (held_at clauses row.clause) ≡ true
row_live clauses rows row held there =
    live_by_id (held_at clauses row.clause) row.id
    (All-contains (λ (x : LoggedClause). option_map (λ (h : Held). h.id) (held_at clauses x.clause) ≡ Some x.id) rows row held there)

-- none of the first rows goes
pub first_stay : (clauses new : List Held) (rows : List LoggedClause) (start : ℕ) (ids refs : List ℕ) (watched : List Literal) → AreHeld clauses rows → Ascends rows →
    (g : GoBy clauses rows start ids refs watched) → HasKilled clauses new refs → All (λ (row : LoggedClause). is_some (held_at new row.clause) ≡ true) (take start rows)
first_stay clauses new rows start ids refs watched held ascends g killed =
    λ k d h. stays (get_or (take start rows) k d) (Contains-get_or (take start rows) k d h)
  where
    stays : (row : LoggedClause) → Contains (take start rows) row → is_some (held_at new row.clause) ≡ true
    stays row there =
        let (k, at) = get_from_Contains (take start rows) row there in
        let in_rows : Contains rows row = Contains_from_get rows k row (get_take start rows k row at).1 in
        elim (contains_or_not refs row.clause) [
          | inl goes ↦ absurd (nothing_in row (subst (λ xs. Contains xs row) g.none
              (filter_from g.test (take start rows) row there (gone_passes clauses rows start ids refs watched row held ascends g in_rows goes))))
          | inr missing ↦ ap is_some (killed.kept row.clause missing) ∙ row_live clauses rows row held in_rows
        ]

-- ---- watched literals

first_two_in : (c : Clause) (l : Literal) → IsFirstTwo c l → Contains (take 2 c) l
first_two_in c l (inl e) = Contains_from_get (take 2 c) 0 l (take_get 2 c 0 l (omega arith) e)
first_two_in c l (inr e) = Contains_from_get (take 2 c) 1 l (take_get 2 c 1 l (omega arith) e)

taken_in : (c : Clause) (n : ℕ) (l : Literal) → Contains (take n c) l → Contains c l
taken_in c n l there = let (k, at) = get_from_Contains (take n c) l there in Contains_from_get c k l (get_take n c k l at).1

watched_has : (clauses : List Held) (gone : List LoggedClause) (row : LoggedClause) (l : Literal) → Contains gone row → IsFirstTwo (literals_at clauses row.clause) l →
    Contains (watched_in clauses gone) l
watched_has clauses [] row l there first = absurd (nothing_in row there)
watched_has clauses (x ∷ xs) row l there first = elim (contains_cases x xs row there) [
  | inl same ↦ Contains-append_left (take 2 (literals_at clauses x.clause)) (watched_in clauses xs) l
      (first_two_in (literals_at clauses x.clause) l (subst (λ (r : LoggedClause). IsFirstTwo (literals_at clauses r.clause) l) (sym same) first))
  | inr later ↦ Contains-append_right (take 2 (literals_at clauses x.clause)) (watched_in clauses xs) l (watched_has clauses xs row l later first)
]

watched_cases : (clauses : List Held) (gone : List LoggedClause) (l : Literal) → Contains (watched_in clauses gone) l →
    (row : LoggedClause) × Contains gone row × Contains (literals_at clauses row.clause) l
watched_cases clauses [] l there = absurd (nothing_in l there)
watched_cases clauses (x ∷ xs) l there = elim (Contains-append_cases (take 2 (literals_at clauses x.clause)) (watched_in clauses xs) l there) [
  | inl here ↦ (x, contains_first x xs, taken_in (literals_at clauses x.clause) 2 l here)
  | inr later ↦ let r = watched_cases clauses xs l later in (r.0, cons_contains x xs r.0 r.1, r.2)
]

pub watched_range : (clauses : List Held) (rows : List LoggedClause) (start vars : ℕ) (ids refs : List ℕ) (watched : List Literal) →
    All (λ (row : LoggedClause). HasVariables vars (literals_at clauses row.clause)) rows → GoBy clauses rows start ids refs watched → HasVariables vars watched
watched_range clauses rows start vars ids refs watched range g = λ k d h. in_range (get_or watched k d) (Contains-get_or watched k d h)
  where
    in_range : (l : Literal) → Contains watched l → IsWithin vars l
    in_range l there =
        let (row, in_gone, in_clause) = watched_cases clauses (filter g.test rows) l (subst (λ ls. Contains ls l) g.noted.watched_are there) in
        All-contains (IsWithin vars) (literals_at clauses row.clause) l
        (All-contains (λ (x : LoggedClause). HasVariables vars (literals_at clauses x.clause)) rows row range (filter_cases g.test rows row in_gone).0) in_clause

pub served : (w : WatchState) (before : List Held) (arena : Content) (rows : List LoggedClause) (start : ℕ) (ids refs : List ℕ) (watched : List Literal) →
    Serves w before →
    ArePlaced w.lists arena.places → GoBy before rows start ids refs watched → HasKilled before arena.clauses refs → HasServed w arena watched
served w before arena rows start ids refs watched serves placed g killed =
    has_served w before arena watched serves placed (λ r live. killed_still before arena.clauses refs r killed live) (λ r l attached dead first.
    let in_refs = killed_was before arena.clauses refs r killed (attached_is_live w before serves r attached) dead in
    let (row, in_gone, same) = map_cases (λ (x : LoggedClause). x.clause) (filter g.test rows) r (subst (λ rs. Contains rs r) g.noted.clauses_are in_refs) in
    subst (λ ls. Contains ls l) (sym g.noted.watched_are)
    (watched_has before (filter g.test rows) row l in_gone (subst (λ n. IsFirstTwo (literals_at before n) l) (sym same) first)))

-- ---- places in the arena

pub live_placed : (clauses : List Held) (places : List ℕ) (r : ℕ) → All (λ h. Contains places h.ref) clauses → is_some (held_at clauses r) ≡ true →
    Contains places r
live_placed [] places r all live = absurd (false≢true live)
live_placed (h ∷ hs) places r all live =
    by (eqb h.ref r) refl live (λ rest. live_placed hs places r (λ k d w. all (suc k) d (omega (arith, w))) rest)
  where
    by : (b : Bool) → eqb h.ref r ≡ b → is_some (cond b (Some h) (find (λ (x : Held). eqb x.ref r) hs)) ≡ true →
        (is_some (find (λ (x : Held). eqb x.ref r) hs) ≡ true → Contains places r) → Contains places r
    by true e t rest = subst (Contains places) (eqb-true h.ref r e) (all 0 h (omega arith))
    by false e t rest = rest t

pub rows_placed : (clauses : List Held) (places : List ℕ) (rows : List LoggedClause) → All (λ h. Contains places h.ref) clauses → AreHeld clauses rows →
    All (λ (row : LoggedClause). Contains places row.clause) rows
rows_placed clauses places rows all held =
    λ k d h. live_placed clauses places (get_or rows k d).clause all (row_live clauses rows (get_or rows k d) held (Contains-get_or rows k d h))

pub refs_placed : (clauses : List Held) (places : List ℕ) (refs : List ℕ) → All (λ h. Contains places h.ref) clauses →
    All (λ r. is_some (held_at clauses r) ≡ true) refs → All (Contains places) refs
refs_placed clauses places refs all live = λ k d h. live_placed clauses places (get_or refs k d) all (live k d h)

pub gone_placed : (clauses : List Held) (places : List ℕ) (rows : List LoggedClause) (start : ℕ) (ids refs : List ℕ) (watched : List Literal) →
    All (λ h. Contains places h.ref) clauses → AreHeld clauses rows → GoBy clauses rows start ids refs watched → All (Contains places) refs
gone_placed clauses places rows start ids refs watched all held g = λ k d h. placed (get_or refs k d) (Contains-get_or refs k d h)
  where
    placed : (r : ℕ) → Contains refs r → Contains places r
    placed r there =
        let (row, in_gone, same) = map_cases (λ (x : LoggedClause). x.clause) (filter g.test rows) r (subst (λ rs. Contains rs r) g.noted.clauses_are there) in
        subst (Contains places) same (live_placed clauses places row.clause all (row_live clauses rows row held (filter_cases g.test rows row in_gone).0))

pub first_out : (old new : List Held) (refs gone : List ℕ) (from' : ℕ) → All (λ r. is_some (held_at old r) ≡ true) refs → AreOut refs from' gone →
    HasKilled old new gone → All (λ r. is_some (held_at new r) ≡ true) (take from' refs)
first_out old new refs gone from' live out killed = λ k d h. stays (get_or (take from' refs) k d) (Contains-get_or (take from' refs) k d h)
  where
    stays : (r : ℕ) → Contains (take from' refs) r → is_some (held_at new r) ≡ true
    stays r there =
        let (k, at) = get_from_Contains (take from' refs) r there in
        let in_refs : Contains refs r = Contains_from_get refs k r (get_take from' refs k r at).1 in
        ap is_some (killed.kept r (All-contains (λ (q : ℕ). ¬ Contains gone q) (take from' refs) r out.out there)) ∙
        All-contains (λ (q : ℕ). is_some (held_at old q) ≡ true) refs r live in_refs
