-- Conflict analysis, step by step.
use Rattle.std.proofs.Common.{◌≡◌, ◌≢◌, ℕ, zero, suc, ◌+◌, ◌<◌, arith, true, not, List, [], ◌∷◌, ◌++◌, map, length, take, drop, get_or}
use Rattle.std.proofs.Common.{refl, sym, ap, subst, ◌∙◌, inl, inr, ◌⊎◌, Some}
use Rattle.std.specs.Prelude.{All, Any, Contains, slice_get, is_some, IsTrue}
use Rattle.std.proofs.lemmas.Bool.{both_ways, not-true}
use Rattle.std.proofs.lemmas.List.{reverse-append}
use Rattle.std.proofs.lemmas.List.Elements.{All-contains, All-cons, All-head, All-tail, All-push, All-nil}
use Rattle.bs_clause.specs.Literal.{Literal, Clause, negation, same_literal, has_literal}
use Rattle.bs_clause.specs.Resolvent.{resolvent, without, once, news}
use Rattle.bs_log.specs.Refusal.{has_distinct_variables}
use Rattle.bs_log.specs.Propagation.{start_of, hints_are_unit, last_is_false}
use Rattle.bs_log.specs.Lean.{IsResolventOf}
use Rattle.bs_arena.specs.Arena.{Held, held_at, literals_at}
use Rattle.bs_watch.specs.Places.{Place, literals_of}
use Rattle.bs_watch.specs.Trail.{IsFalseOn, IsOpenOn, Implies, IsConflict}
use Rattle.bs_solve_lemmas.specs.Chain.{Link, hints_of, IsChain}
use Rattle.bs_solve_lemmas.specs.Derives.{AreFresh}
use Rattle.bs_solve_lemmas.specs.AnalysisWalk.{clauses_at, IsLearnt, IsRightBy, AreUsed, IsWalk}
use Rattle.bs_watch.proofs.Gets.{none_is_not_some, same_some, take_get, Contains_from_get, get_map}
use Rattle.bs_solve_lemmas.proofs.Literals.{has-from_Contains, negation-negation}
use Rattle.bs_solve_lemmas.proofs.Fronts.{true_later, true_at_end, open_earlier, place_of, open_apart, one_place}
use Rattle.bs_solve_lemmas.proofs.Walkable.{IsClauseAt, IsWalkablePlace, IsWalkable}
use Rattle.bs_solve_lemmas.proofs.Clauses.{cons_contains, contains_first, contains_cases, all_from, any_cases, any_first, any_later, filter_cases}
use Rattle.bs_solve_lemmas.proofs.Clauses.{same_or_not, not_same, resolvent_cases, news_cases, distinct_once, resolvent_reason, resolvent_left}
use Rattle.bs_solve_lemmas.proofs.Clauses.{distinct_cons, distinct_filter, distinct_append, distinct_parts, has_none, map_cases, map_contains}
use Rattle.bs_solve_lemmas.proofs.Derivations.{derives_at_conflict, derives_backwards, derives_lemma}
use Rattle.bs_solve_lemmas.proofs.Chains.{chains_are_right}
use Rattle.bs_solve_lemmas.proofs.Shuffles.{right_as_said}

-- where one is open and the other false, their variables differ
pub open_false_apart : (places : List Place) (a b : Literal) → IsOpenOn (literals_of places) a → IsFalseOn (literals_of places) b → a.variable ≢ b.variable
open_false_apart places a b o f same =
    let (k, p, at, is) = place_of (λ (x : Place). x.literal) places (negation b) f in
    open_apart (λ (x : Place). x.literal) places a o k p at (ap (λ (x : Literal). x.variable) is ∙ sym same)

-- two false literals of one variable are the same
pub false_same : (clauses : List Held) (places : List Place) → IsWalkable clauses places → (x y : Literal) →
    IsFalseOn (literals_of places) x → IsFalseOn (literals_of places) y → x.variable ≡ y.variable → x ≡ y
false_same clauses places s x y fx fy same =
    let (i, p, at_i, is_p) = place_of (λ (x : Place). x.literal) places (negation x) fx in
    let (j, q, at_j, is_q) = place_of (λ (x : Place). x.literal) places (negation y) fy in
    let together : i ≡ j = one_place (λ (x : Place). x.literal) places (λ k p at. (s.placed k p at).unassigned) i j p q at_i at_j
    (ap (λ (l : Literal). l.variable) is_p ∙ same ∙ sym (ap (λ (l : Literal). l.variable) is_q)) in
    let same_place : p ≡ q = same_some p q (sym at_i ∙ ap (slice_get places) together ∙ at_j) in
    let negations : negation x ≡ negation y = sym is_p ∙ ap (λ (r : Place). r.literal) same_place ∙ is_q in
    sym (negation-negation x) ∙ ap negation negations ∙ negation-negation y

-- ---- the start, and a place that is passed over

pub walk_start : (clauses : List Held) (trail : List Place) (at : ℕ) (c : Clause) → IsClauseAt clauses at c → has_distinct_variables c ≡ true →
    IsConflict (literals_of trail) c → IsWalk clauses trail (length trail) c (at ∷ [])
walk_start clauses trail at c there distinct conflict = record {
  links = [];
  last = c;
  named = ap (λ x. x ∷ []) (there.is);
  live = All-cons (λ r. is_some (held_at clauses r) ≡ true) at [] there.live (All-nil (λ r. is_some (held_at clauses r) ≡ true));
  derives = derives_at_conflict c;
  distinct = distinct;
  false_now = conflict;
  ahead = All-nil (λ (k : Link). IsOpenOn (literals_of (take (length trail) trail)) k.literal);
  links_apart = refl;
  apart = All-nil (λ (k : Link). All (λ l. k.literal.variable ≢ l.variable) c);
  is_left = λ l. (
    (λ in_c. record { stands = any_first (λ x. Contains x l) c [] in_c; apart = All-nil (λ (k : Link). k.literal.variable ≢ l.variable) }),
    (λ left. elim (any_cases (λ x. Contains x l) c [] left.stands) [ inl here ↦ here | inr later ↦ absurd (let h : later.0 < 0 = later.2 in omega arith) ]),
  );
  used = tt;
}

pub walk_past : (clauses : List Held) (trail : List Place) (i : ℕ) (left : Clause) (hints : List ℕ) → IsWalk clauses trail (suc i) left hints →
    IsWalk clauses trail i left hints
walk_past clauses trail i left hints w = record {
  links = w.links;
  last = w.last;
  named = w.named;
  live = w.live;
  derives = w.derives;
  distinct = w.distinct;
  false_now = w.false_now;
  ahead = λ k d h. open_earlier (λ (x : Place). x.literal) trail i (suc i) (get_or w.links k d).literal (omega arith) (w.ahead k d h);
  links_apart = w.links_apart;
  apart = w.apart;
  is_left = w.is_left;
  used = w.used;
}

-- ---- a literal is traded for its reason's others

pub walk_step : (clauses : List Held) (trail : List Place) (i : ℕ) (left : Clause) (hints : List ℕ) (p : Place) (r : ℕ) (c : Clause) →
    IsWalkable clauses trail → IsWalk clauses trail (suc i) left hints → slice_get trail i ≡ Some p → p.reason ≡ Some r → IsClauseAt clauses r c →
    has_distinct_variables c ≡ true → Contains left (negation p.literal) → IsWalk clauses trail i (resolvent c left p.literal) (hints ++ r ∷ [])
walk_step clauses trail i left hints p r c s w at is there distinct_c denied = record {
  links = link ∷ w.links;
  last = w.last;
  named = ap (map (literals_at clauses)) (reverse-append hints (r ∷ [])) ∙ ap (λ x. x ∷ clauses_at clauses hints) (there.is) ∙ ap (λ xs. c ∷ xs) w.named;
  live = All-push (λ x. is_some (held_at clauses x) ≡ true) hints r w.live there.live;
  derives = derives_backwards left next w.links w.last link w.derives (has-from_Contains c p.literal implies.stands) distinct_c
      (all_from (λ m. (m ≡ negation p.literal) ⊎ Contains next m) left (λ m in_left. elim (same_or_not m (negation p.literal)) [
        | inl same ↦ inl same
        | inr unlike ↦ inr (resolvent_left c left p.literal m in_left (not_same m (negation p.literal) unlike))
      ]))
      (all_from (λ m. (m ≡ p.literal) ⊎ Contains next m) c (λ m in_c. elim (same_or_not m p.literal) [
        | inl same ↦ inl same
        | inr unlike ↦ inr (resolvent_reason c left p.literal m in_c (not_same m p.literal unlike))
      ]));
  distinct = distinct_append (without p.literal c) (news (without p.literal c) (without (negation p.literal) left))
      (distinct_filter (λ m. not (same_literal p.literal m)) c distinct_c)
      (distinct_filter (λ m. not (has_literal (without p.literal c) m)) (once (without (negation p.literal) left))
      (distinct_once (without (negation p.literal) left) (distinct_filter (λ m. not (same_literal (negation p.literal) m)) left w.distinct)))
      (λ x y in_x in_y same.
      let new_x = filter_cases (λ m. not (same_literal p.literal m)) c x in_x in
      let new_y = news_cases (without p.literal c) (without (negation p.literal) left) y in_y in
      let old_y = filter_cases (λ m. not (same_literal (negation p.literal) m)) left y new_y.0 in
      let false_x : IsFalseOn (literals_of trail) x =
      true_at_end (λ (x : Place). x.literal) trail i (negation x) (reason_false x new_x.0 (λ e. not_same p.literal x (not-true (same_literal p.literal x) new_x.1) (sym e))) in
      let false_y : IsFalseOn (literals_of trail) y = All-contains (IsFalseOn (literals_of trail)) left y w.false_now old_y.0 in
      let equal : y ≡ x = false_same clauses trail s y x false_y false_x same in
      both_ways (has_literal (without p.literal c) y) new_y.1
      (has-from_Contains (without p.literal c) y (subst (Contains (without p.literal c)) (sym equal) in_x)));
  false_now = all_from (IsFalseOn (literals_of trail)) next (λ m in_next. elim (resolvent_cases c left p.literal m in_next) [
    | inl new ↦ true_at_end (λ (x : Place). x.literal) trail i (negation m) (reason_false m new.0 new.1)
    | inr old ↦ All-contains (IsFalseOn (literals_of trail)) left m w.false_now old.0
  ]);
  ahead = All-cons (λ (k : Link). IsOpenOn (literals_of (take i trail)) k.literal) link w.links placed.unassigned
      (λ k d h. open_earlier (λ (x : Place). x.literal) trail i (suc i) (get_or w.links k d).literal (omega arith) (w.ahead k d h));
  links_apart = distinct_cons p.literal (map (λ (k : Link). k.literal) w.links)
      (λ m in_links same.
      let (k, in_k, is_m) = map_cases (λ (x : Link). x.literal) w.links m in_links in
      let open_k : IsOpenOn (literals_of (take (suc i) trail)) k.literal =
      All-contains (λ (x : Link). IsOpenOn (literals_of (take (suc i) trail)) x.literal) w.links k w.ahead in_k in
      open_apart (λ (x : Place). x.literal) (take (suc i) trail) k.literal open_k i p (take_get (suc i) trail i p (omega arith) at) (sym (ap (λ (x : Literal). x.variable) is_m ∙ same)))
      w.links_apart;
  apart = All-cons (λ (k : Link). All (λ l. k.literal.variable ≢ l.variable) next) link w.links
      (all_from (λ l. p.literal.variable ≢ l.variable) next pivot_apart)
      (all_from (λ (k : Link). All (λ l. k.literal.variable ≢ l.variable) next) w.links
      (λ k in_k. all_from (λ l. k.literal.variable ≢ l.variable) next (link_apart k in_k)));
  is_left = λ l. (
    (λ in_next. record {
      stands = elim (resolvent_cases c left p.literal l in_next) [
        | inl new ↦ any_first (λ x. Contains x l) c (hints_of w.links w.last) new.0
        | inr old ↦ any_later (λ x. Contains x l) c (hints_of w.links w.last) ((w.is_left l).0 old.0).stands
      ];
      apart = All-cons (λ (k : Link). k.literal.variable ≢ l.variable) link w.links (pivot_apart l in_next)
          (all_from (λ (k : Link). k.literal.variable ≢ l.variable) w.links (λ k in_k. link_apart k in_k l in_next));
    }),
    (λ stays.
        let other : p.literal.variable ≢ l.variable = All-head (λ (k : Link). k.literal.variable ≢ l.variable) link w.links stays.apart in
        elim (any_cases (λ x. Contains x l) c (hints_of w.links w.last) stays.stands) [
          | inl in_c ↦ resolvent_reason c left p.literal l in_c (λ e. other (ap (λ (x : Literal). x.variable) (sym e)))
          | inr later ↦ resolvent_left c left p.literal l
              ((w.is_left l).1 (record { stands = later; apart = All-tail (λ (k : Link). k.literal.variable ≢ l.variable) link w.links stays.apart }))
              (λ e. other (ap (λ (x : Literal). x.variable) (sym e)))
        ]),
  );
  used = (((w.is_left (negation p.literal)).0 denied).stands, w.used);
}
  where
    link : Link
    link = record { literal = p.literal; clause = c }

    next : Clause
    next = resolvent c left p.literal

    placed : IsWalkablePlace clauses (take i trail) p
    placed = s.placed i p at

    implies : Implies (literals_of (take i trail)) c p.literal
    implies =
        let f = placed.implied r is in
        subst (λ x. Implies (literals_of (take i trail)) x p.literal) (sym f.1.is ∙ there.is) f.2

    reason_false : (m : Literal) → Contains c m → m ≢ p.literal → IsFalseOn (literals_of (take i trail)) m
    reason_false m in_c other = elim (All-contains (λ x. (x ≡ p.literal) ⊎ IsFalseOn (literals_of (take i trail)) x) c m implies.others in_c) [
      | inl same ↦ absurd (other same)
      | inr f ↦ f
    ]

    pivot_apart : (l : Literal) → Contains next l → p.literal.variable ≢ l.variable
    pivot_apart l in_next = elim (resolvent_cases c left p.literal l in_next) [
      | inl new ↦ open_false_apart (take i trail) p.literal l placed.unassigned (reason_false l new.0 new.1)
      | inr old ↦ λ same.
          let here : IsFalseOn (literals_of trail) (negation p.literal) =
          subst (Contains (literals_of trail)) (sym (negation-negation p.literal))
          (Contains_from_get (literals_of trail) i p.literal (get_map (λ (x : Place). x.literal) trail i p at)) in
          old.1 (false_same clauses trail s l (negation p.literal) (All-contains (IsFalseOn (literals_of trail)) left l w.false_now old.0) here (sym same))
    ]

    link_apart : (k : Link) → Contains w.links k → (l : Literal) → Contains next l → k.literal.variable ≢ l.variable
    link_apart k in_k l in_next = elim (resolvent_cases c left p.literal l in_next) [
      | inl new ↦
          open_false_apart (take (suc i) trail) k.literal l
          (All-contains (λ (x : Link). IsOpenOn (literals_of (take (suc i) trail)) x.literal) w.links k w.ahead in_k)
          (true_later (λ (x : Place). x.literal) trail i (suc i) (negation l) (omega arith) (reason_false l new.0 new.1))
      | inr old ↦ All-contains (λ l. k.literal.variable ≢ l.variable) left l
          (All-contains (λ (x : Link). All (λ l. x.literal.variable ≢ l.variable) left) w.links k w.apart in_k) old.0
    ]

-- ---- the end

fresh : (lemma : Clause) (trues : List Literal) (links : List Link) → has_distinct_variables (map (λ (k : Link). k.literal) links) ≡ true →
    ((k : Link) → Contains links k → (m : Literal) → Contains (trues ++ start_of lemma) m → m.variable ≢ k.literal.variable) → AreFresh lemma trues links
fresh lemma trues [] d f = tt
fresh lemma trues (k ∷ ks) d f =
    let parts = distinct_parts k.literal (map (λ (x : Link). x.literal) ks) d in (
      has_none (trues ++ start_of lemma) k.literal (f k (contains_first k ks)),
      has_none (trues ++ start_of lemma) (negation k.literal) (f k (contains_first k ks)),
      fresh lemma (k.literal ∷ trues) ks parts.1 (λ x in_x m in_m same. elim (contains_cases k.literal (trues ++ start_of lemma) m in_m) [
        | inl is ↦ parts.0 x.literal (map_contains (λ (y : Link). y.literal) ks x in_x) (sym (ap (λ (l : Literal). l.variable) is ∙ same))
        | inr there ↦ f x (cons_contains k ks x in_x) m there same
      ]),
    )

used_at : (links : List Link) (last : Clause) (k : ℕ) (l : Literal) → AreUsed links last → slice_get (map (λ (x : Link). x.literal) links) k ≡ Some l →
    Any (λ c. Contains c (negation l)) (drop (k + 1) (hints_of links last))
used_at [] last k l u e = absurd (none_is_not_some l e)
used_at (x ∷ xs) last zero l u e = subst (λ m. Any (λ c. Contains c (negation m)) (hints_of xs last)) (same_some x.literal l e) u.0
used_at (x ∷ xs) last (suc k) l u e =
    subst (λ n. Any (λ c. Contains c (negation l)) (drop n (hints_of (x ∷ xs) last))) (let e : suc (k + 1) ≡ suc k + 1 = omega arith in e)
    (used_at xs last k l u.1 e)

pub walk_end : (clauses : List Held) (trail : List Place) (i : ℕ) (left : Clause) (hints : List ℕ) → IsWalk clauses trail i left hints →
    IsLearnt clauses left hints
walk_end clauses trail i left hints w =
    let chain : IsChain left [] w.links w.last = derives_lemma left w.links w.last w.derives (fresh left [] w.links w.links_apart (λ k in_k m in_m same.
    let (l, in_left, is) = map_cases negation left m in_m in
    All-contains (λ x. k.literal.variable ≢ x.variable) left l
    (All-contains (λ (x : Link). All (λ l. x.literal.variable ≢ l.variable) left) w.links k w.apart in_k) in_left
    (sym (ap (λ (x : Literal). x.variable) is ∙ same)))) in
    let right = chains_are_right left w.links w.last chain in
    let resolvent : IsResolventOf left (hints_of w.links w.last) = record {
      used = λ k l e. used_at w.links w.last k l w.used (subst (λ xs. slice_get xs k ≡ Some l) right.2 e);
      literals = λ l. (
        (λ there.
            let stays = (w.is_left l).0 there in (
              stays.stands,
              subst (λ xs. All (λ m. m.variable ≢ l.variable) xs) (sym right.2)
                  (all_from (λ m. m.variable ≢ l.variable) (map (λ (k : Link). k.literal) w.links) (λ m in_m.
                  let (k, in_k, is) = map_cases (λ (x : Link). x.literal) w.links m in_m in
                  λ same. All-contains (λ (x : Link). x.literal.variable ≢ l.variable) w.links k stays.apart in_k
                  (ap (λ (x : Literal). x.variable) is ∙ same))),
            )),
        (λ stays.
            let apart : All (λ m. m.variable ≢ l.variable) (map (λ (k : Link). k.literal) w.links) =
            subst (λ xs. All (λ m. m.variable ≢ l.variable) xs) right.2 stays.1 in
            (w.is_left l).1 (record {
              stands = stays.0;
              apart = all_from (λ (k : Link). k.literal.variable ≢ l.variable) w.links (λ k in_k.
                  All-contains (λ m. m.variable ≢ l.variable) (map (λ (x : Link). x.literal) w.links) k.literal apart
                  (map_contains (λ (x : Link). x.literal) w.links k in_k));
            })),
      );
    } in
    let right_by : IsRightBy left (clauses_at clauses hints) = record {
      unit = subst (λ cs. IsTrue (hints_are_unit left cs)) (sym w.named) right.0;
      last = subst (λ cs. IsTrue (last_is_false left cs)) (sym w.named) right.1;
      resolvent = subst (IsResolventOf left) (sym w.named) resolvent;
    } in
    record { live = w.live; distinct = w.distinct; right = λ said s. right_as_said clauses left hints said s w.live right_by }
