-- Literals that do not stand in a clause yet, each once.
use Rattle.std.proofs.Common.{◌≡◌, ℕ, ◌+◌, ◌<◌, length, take, slice_index_or, Bool, true, false, not, ◌||◌, cond, [], ◌∷◌, ◌++◌, refl, sym, ap, ◌∙◌}
use Rattle.std.specs.List.{filter}
use Rattle.std.proofs.lemmas.Bool.{both_ways, or_right}
use Rattle.std.proofs.lemmas.List.{append_assoc, append-nil, take_more}
use Rattle.std.proofs.lemmas.List.Folds.{list_any-append}
use Rattle.std.proofs.lemmas.List.Elements.{filter-append}
use Rattle.bs_clause.specs.Literal.{Literal, Clause, same_literal, has_literal}
use Rattle.bs_clause.specs.Resolvent.{without, once, news}
use Rattle.bs_clause.proofs.Literals.{same_literal-true, same_literal-refl}

-- a literal that passes the test stands among those that pass it where it stands at all
has_literal-filter : (test : Literal → Bool) (c : Clause) (l : Literal) → test l ≡ true → has_literal (filter test c) l ≡ has_literal c l
has_literal-filter test [] l h = refl
has_literal-filter test (m ∷ c) l h =
    elim (test m) as (λ b. test m ≡ b → has_literal (cond b (m ∷ filter test c) (filter test c)) l ≡ (same_literal l m || has_literal c l)) [
      | true ↦ λ _. ap (λ b. same_literal l m || b) (has_literal-filter test c l h)
      | false ↦ λ fails. elim (same_literal l m) as (λ b. same_literal l m ≡ b → has_literal (filter test c) l ≡ (b || has_literal c l)) [
        | true ↦ λ same. absurd (both_ways (test m) fails (ap test (sym (same_literal-true l m same)) ∙ h))
        | false ↦ λ _. has_literal-filter test c l h
      ] refl
    ] refl

same_literal-sym : (a b : Literal) → same_literal a b ≡ false → same_literal b a ≡ false
same_literal-sym a b h =
    elim (same_literal b a) as (λ x. same_literal b a ≡ x → x ≡ false) [
      | true ↦ λ same. absurd (both_ways (same_literal a b) h (ap (same_literal a) (same_literal-true b a same) ∙ same_literal-refl a))
      | false ↦ λ _. refl
    ] refl

pub has_literal-once : (c : Clause) (l : Literal) → has_literal (once c) l ≡ has_literal c l
has_literal-once [] l = refl
has_literal-once (m ∷ c) l =
    elim (same_literal l m) as (λ b. same_literal l m ≡ b → (b || has_literal (without m (once c)) l) ≡ (b || has_literal c l)) [
      | true ↦ λ _. refl
      | false ↦ λ other. has_literal-filter (λ x. not (same_literal m x)) (once c) l (ap not (same_literal-sym l m other)) ∙ has_literal-once c l
    ] refl

-- the last literal stays where it is another one than the first
last-stays : (m : Literal) (c : Clause) (l : Literal) → without m (cond (has_literal c l) [] (l ∷ [])) ≡ cond (same_literal l m || has_literal c l) [] (l ∷ [])
last-stays m c l =
    elim (has_literal c l) as (λ b. without m (cond b [] (l ∷ [])) ≡ cond (same_literal l m || b) [] (l ∷ [])) [
      | true ↦ sym (ap (λ b. cond b [] (l ∷ [])) (or_right (same_literal l m) true refl))
      | false ↦ elim (same_literal l m) as (λ b. same_literal l m ≡ b → cond (not (same_literal m l)) (l ∷ []) [] ≡ cond (b || false) [] (l ∷ [])) [
        | true ↦ λ same. ap (λ x. cond (not (same_literal m x)) (l ∷ []) []) (same_literal-true l m same)
            ∙ ap (λ b. cond (not b) (l ∷ []) []) (same_literal-refl m)
        | false ↦ λ other. ap (λ b. cond (not b) (l ∷ []) []) (same_literal-sym l m other)
      ] refl
    ]

-- one more literal is new where it does not stand in the clause already
pub once-push : (c : Clause) (l : Literal) → once (c ++ l ∷ []) ≡ once c ++ cond (has_literal c l) [] (l ∷ [])
once-push [] l = refl
once-push (m ∷ c) l =
    ap (λ r. m ∷ without m r) (once-push c l) ∙
    ap (λ r. m ∷ r) (filter-append (λ x. not (same_literal m x)) (once c) (cond (has_literal c l) [] (l ∷ [])) ∙
    ap (λ r. without m (once c) ++ r) (last-stays m c l))

-- what has been added stands there
has_literal-news : (there c : Clause) (l : Literal) → has_literal (there ++ news there c) l ≡ (has_literal there l || has_literal c l)
has_literal-news there c l =
    list_any-append (same_literal l) there (news there c) ∙
    (elim (has_literal there l) as (λ b. has_literal there l ≡ b → (b || has_literal (news there c) l) ≡ (b || has_literal c l)) [
      | true ↦ λ _. refl
      | false ↦ λ new. has_literal-filter (λ m. not (has_literal there m)) (once c) l (ap not new) ∙ has_literal-once c l
    ] refl)

news-push : (there c : Clause) (l : Literal) → news there (c ++ l ∷ []) ≡ news there c ++ cond (has_literal there l || has_literal c l) [] (l ∷ [])
news-push there c l =
    ap (filter (λ m. not (has_literal there m))) (once-push c l) ∙
    filter-append (λ m. not (has_literal there m)) (once c) (cond (has_literal c l) [] (l ∷ [])) ∙
    ap (λ r. news there c ++ r)
    (elim (has_literal c l) as (λ b. filter (λ m. not (has_literal there m)) (cond b [] (l ∷ [])) ≡ cond (has_literal there l || b) [] (l ∷ [])) [
      | true ↦ sym (ap (λ b. cond b [] (l ∷ [])) (or_right (has_literal there l) true refl))
      | false ↦ elim (has_literal there l) as (λ b. cond (not b) (l ∷ []) [] ≡ cond (b || false) [] (l ∷ [])) [ true ↦ refl | false ↦ refl ]
    ])

-- the next literal, which stands already, adds nothing
pub old_literal : (there into c : Clause) (i : ℕ) (l : Literal) → i < length c → l ≡ slice_index_or c i l → into ≡ there ++ news there (take i c) →
    has_literal into l ≡ true → into ≡ there ++ news there (take (i + 1) c)
old_literal there into c i l lt is so_far h =
    let more : take (i + 1) c ≡ take i c ++ l ∷ [] = take_more c i l lt ∙ ap (λ x. take i c ++ x ∷ []) (sym is) in
    let stands : (has_literal there l || has_literal (take i c) l) ≡ true =
    sym (has_literal-news there (take i c) l) ∙ ap (λ x. has_literal x l) (sym so_far) ∙ h in
    so_far ∙ ap (λ r. there ++ r)
    (sym (ap (news there) more ∙ news-push there (take i c) l ∙ ap (λ b. news there (take i c) ++ cond b [] (l ∷ [])) stands
    ∙ append-nil (news there (take i c))))

-- one that does not stands at the end
pub new_literal : (there into c : Clause) (i : ℕ) (l : Literal) → i < length c → l ≡ slice_index_or c i l → into ≡ there ++ news there (take i c) →
    has_literal into l ≡ false → into ++ l ∷ [] ≡ there ++ news there (take (i + 1) c)
new_literal there into c i l lt is so_far h =
    let more : take (i + 1) c ≡ take i c ++ l ∷ [] = take_more c i l lt ∙ ap (λ x. take i c ++ x ∷ []) (sym is) in
    let misses : (has_literal there l || has_literal (take i c) l) ≡ false =
    sym (has_literal-news there (take i c) l) ∙ ap (λ x. has_literal x l) (sym so_far) ∙ h in
    ap (λ x. x ++ l ∷ []) so_far ∙ append_assoc there (news there (take i c)) (l ∷ []) ∙
    ap (λ r. there ++ r) (sym (ap (news there) more ∙ news-push there (take i c) l ∙ ap (λ b. news there (take i c) ++ cond b [] (l ∷ [])) misses))
