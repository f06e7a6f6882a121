-- Marked literals go into a clause, one after another.
use Rattle.std.proofs.Common.{◌≡◌, ℕ, ◌<◌, arith, Bool, true, false, List, [], ◌∷◌, ◌++◌, length, set, get_or, replicate, refl, sym, ap, ◌∙◌, inl, inr, ◌⊎◌}
use Rattle.std.specs.Prelude.{All, Contains}
use Rattle.std.proofs.lemmas.Bool.{cases_Bool, cases_eq, cases_lt, false≢true}
use Rattle.std.proofs.lemmas.List.{get_or-set_same, get_or-set_other, length-set, append_assoc, append-nil, length-replicate, get_or-replicate, get_or_past}
use Rattle.std.proofs.lemmas.List.Elements.{All-contains, All-nil, All-push, Contains-append_cases, Contains-append_left, Contains-append_right}
use Rattle.bs_clause.specs.Literal.{Literal, Clause}
use Rattle.bs_log.specs.Refusal.{has_distinct_variables}
use Rattle.bs_solve_lemmas.specs.Marks.{IsClear, AreTouched, HasMoved}
use Rattle.bs_solve_lemmas.proofs.Clauses.{nothing_in, contains_first, contains_cases, all_from, distinct_append}

-- so many of the touched literals have been looked at
pub record Moving (first now : List Bool) (before after seen : List Literal) : Type 0 where
  pub more : Clause
  pub lits : after ≡ before ++ more
  pub length_is : length now ≡ length first
  pub distinct : has_distinct_variables more ≡ true
  pub from_marks : All (λ l. Contains seen l × (get_or first l.variable false ≡ true)) more
  pub fewer : (v : ℕ) → get_or now v false ≡ true → get_or first v false ≡ true
  pub moved : (v : ℕ) → get_or first v false ≡ true → (get_or now v false ≡ true) ⊎ ((l : Literal) × Contains more l × (l.variable ≡ v))
  pub gone : All (λ l. get_or now l.variable false ≡ false) more
  pub looked : All (λ l. get_or now l.variable false ≡ false) seen

pub moving_start : (first : List Bool) (before : Clause) → Moving first first before before []
moving_start first before = record {
  more = [];
  lits = sym (append-nil before);
  length_is = refl;
  distinct = refl;
  from_marks = All-nil (λ l. Contains [] l × (get_or first l.variable false ≡ true));
  fewer = λ v t. t;
  moved = λ v t. inl t;
  gone = All-nil (λ l. get_or first l.variable false ≡ false);
  looked = All-nil (λ l. get_or first l.variable false ≡ false);
}

-- a literal without a mark
pub moving_past : (first now : List Bool) (before after seen : Clause) (m : Literal) → get_or now m.variable false ≡ false →
    Moving first now before after seen →
    Moving first now before after (seen ++ m ∷ [])
moving_past first now before after seen m is_clear w = record {
  more = w.more;
  lits = w.lits;
  length_is = w.length_is;
  distinct = w.distinct;
  from_marks = all_from (λ l. Contains (seen ++ m ∷ []) l × (get_or first l.variable false ≡ true)) w.more (λ l t.
      let old = All-contains (λ x. Contains seen x × (get_or first x.variable false ≡ true)) w.more l w.from_marks t in
      (Contains-append_left seen (m ∷ []) l old.0, old.1));
  fewer = w.fewer;
  moved = w.moved;
  gone = w.gone;
  looked = All-push (λ l. get_or now l.variable false ≡ false) seen m w.looked is_clear;
}

-- a literal with a mark
pub moving_step : (first now : List Bool) (before after seen : Clause) (m : Literal) → m.variable < length now → get_or now m.variable false ≡ true →
    Moving first now before after seen →
    Moving first (set now m.variable false) before (after ++ m ∷ []) (seen ++ m ∷ [])
moving_step first now before after seen m within is_set w = record {
  more = w.more ++ m ∷ [];
  lits = ap (λ xs. xs ++ m ∷ []) w.lits ∙ append_assoc before w.more (m ∷ []);
  length_is = length-set now m.variable false ∙ w.length_is;
  distinct = distinct_append w.more (m ∷ []) w.distinct refl (λ x y in_x in_y same. elim (contains_cases m [] y in_y) [
    | inr none ↦ nothing_in y none
    | inl is ↦ false≢true (sym (All-contains (λ l. get_or now l.variable false ≡ false) w.more x w.gone in_x) ∙
        ap (λ v. get_or now v false) (sym same ∙ ap (λ (l : Literal). l.variable) (sym is)) ∙ is_set)
  ]);
  from_marks = all_from (λ l. Contains (seen ++ m ∷ []) l × (get_or first l.variable false ≡ true)) (w.more ++ m ∷ [])
      (λ l t. elim (Contains-append_cases w.more (m ∷ []) l t) [
        | inl before_l ↦
            let old = All-contains (λ x. Contains seen x × (get_or first x.variable false ≡ true)) w.more l w.from_marks before_l in
            (Contains-append_left seen (m ∷ []) l old.0, old.1)
        | inr new ↦ (
          Contains-append_right seen (m ∷ []) l new,
          elim (contains_cases m [] l new) [
            | inl is ↦ ap (λ (x : Literal). get_or first x.variable false) (sym is) ∙ w.fewer m.variable is_set
            | inr none ↦ absurd (nothing_in l none)
          ],
        )
      ]);
  fewer = λ v t. elim (cases_eq v m.variable) [
    | inl same ↦ absurd (false≢true (sym (cleared v same) ∙ t))
    | inr other ↦ w.fewer v (sym (get_or-set_other now m.variable v false false other) ∙ t)
  ];
  moved = λ v t. elim (cases_eq v m.variable) as
      (λ _. (get_or (set now m.variable false) v false ≡ true) ⊎ ((l : Literal) × Contains (w.more ++ m ∷ []) l × (l.variable ≡ v))) [
        | inl same ↦ inr (m, Contains-append_right w.more (m ∷ []) m (contains_first m []), sym same)
        | inr other ↦ elim (w.moved v t) [
          | inl still ↦ inl (get_or-set_other now m.variable v false false other ∙ still)
          | inr old ↦ inr (old.0, Contains-append_left w.more (m ∷ []) old.0 old.1, old.2)
        ]
      ];
  gone = All-push (λ l. get_or (set now m.variable false) l.variable false ≡ false) w.more m (stays w.more w.gone) (cleared m.variable refl);
  looked = All-push (λ l. get_or (set now m.variable false) l.variable false ≡ false) seen m (stays seen w.looked) (cleared m.variable refl);
}
  where
    cleared : (v : ℕ) → v ≡ m.variable → get_or (set now m.variable false) v false ≡ false
    cleared v same = ap (λ n. get_or (set now m.variable false) n false) same ∙ get_or-set_same now m.variable false false within

    stays : (xs : List Literal) → All (λ l. get_or now l.variable false ≡ false) xs → All (λ l. get_or (set now m.variable false) l.variable false ≡ false) xs
    stays xs all = all_from (λ l. get_or (set now m.variable false) l.variable false ≡ false) xs (λ l t. elim (cases_eq l.variable m.variable) [
      | inl same ↦ cleared l.variable same
      | inr other ↦ get_or-set_other now m.variable l.variable false false other ∙ All-contains (λ x. get_or now x.variable false ≡ false) xs l all t
    ])

pub moving_end : (first now : List Bool) (before after touched : Clause) → AreTouched (record { flags = first; touched = touched }) →
    Moving first now before after touched →
    HasMoved (record { flags = first; touched = touched }) (record { flags = now; touched = [] }) before after
moving_end first now before after touched known w = record {
  more = w.more;
  lits = w.lits;
  distinct = w.distinct;
  from_marks = w.from_marks;
  each = λ v t. elim (w.moved v t) as (λ _. (l : Literal) × Contains w.more l × (l.variable ≡ v)) [
    | inr there ↦ there
    | inl still ↦ absurd (false≢true (sym (none v) ∙ still))
  ];
  clear = record { length_is = w.length_is; none = none; touched = refl };
}
  where
    none : (v : ℕ) → get_or now v false ≡ false
    none v = elim (cases_Bool (get_or now v false)) [
      | inr is_clear ↦ is_clear
      | inl is_set ↦
          let (l, in_touched, same) = known.covered v (w.fewer v is_set) in
          ap (λ n. get_or now n false) (sym same) ∙ All-contains (λ x. get_or now x.variable false ≡ false) touched l w.looked in_touched
    ]

-- no marks at first
pub clear_at_first : (n : ℕ) → IsClear n (record { flags = replicate n false; touched = [] })
clear_at_first n = record {
  length_is = length-replicate n false;
  none = λ v. elim (cases_lt v n) [
    | inl within ↦ get_or-replicate n v false false within
    | inr past ↦ get_or_past (replicate n false) v false (omega (arith, past, length-replicate n false))
  ];
  touched = refl;
}
