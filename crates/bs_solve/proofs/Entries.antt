-- Entries by their ids, and the rows beside them.
use Rattle.std.proofs.Common.{◌≡◌, ℕ, Bool, true, false, cond, List, [], ◌∷◌, ◌++◌, map, refl, sym, ap, subst, ◌∙◌, inl, inr, ◌⊎◌, Option, Some, None, eqb}
use Rattle.std.specs.Prelude.{Contains, is_some, option_map, IsPermutation}
use Rattle.std.specs.List.{filter}
use Rattle.std.proofs.lemmas.Bool.{eq-eqb}
use Rattle.std.proofs.lemmas.List.{append-nil, map-append}
use Rattle.std.proofs.lemmas.List.Sorted.{IsPermutation-trans}
use Rattle.bs_clause.specs.Literal.{Clause}
use Rattle.bs_log.specs.declared.origin.Origin.{Origin}
use Rattle.bs_log.specs.declared.origin.Origin.TheVariants.{Axiom, Learnt, Blocked, Retired}
use Rattle.bs_log.specs.History.{Entry}
use Rattle.bs_log.specs.Refusal.{entry_of, is_lemma_or_block}
use Rattle.bs_arena.specs.Arena.{Held, held_at, literals_at}
use Rattle.bs_solve_lemmas.specs.declared.row.LoggedClause.{LoggedClause}
use Rattle.bs_solve_lemmas.specs.Rows.{IsRowOf, AreRowsOf, AreRowsAmong}
use Rattle.bs_watch.proofs.Gets.{none_is_not_some}
use Rattle.bs_solve_lemmas.proofs.Clauses.{nothing_in, contains_first, cons_contains, contains_cases}
use Rattle.bs_solve_lemmas.specs.ProofLog.{ProofLog, standing}
use Rattle.bs_solve.specs.Database.{entries, rows_for}

-- the id of a live clause
abbrev pub id_of : List Held → ℕ → Option ℕ
id_of clauses r = option_map (λ (h : Held). h.id) (held_at clauses r)

-- the clauses of entries
abbrev pub clauses_in : List Entry → List Clause
clauses_in es = map (λ e. e.literals) es

-- ---- entries

pub entry_last : (es : List Entry) (e : Entry) → entry_of es e.id ≡ None → entry_of (es ++ e ∷ []) e.id ≡ Some e
entry_last [] e fresh = ap (λ b. cond b (Some e) None) (eq-eqb e.id e.id refl)
entry_last (x ∷ xs) e fresh = by (eqb x.id e.id) fresh (λ rest. entry_last xs e rest)
  where
    by : (b : Bool) → cond b (Some x) (entry_of xs e.id) ≡ None → (entry_of xs e.id ≡ None → entry_of (xs ++ e ∷ []) e.id ≡ Some e) →
        cond b (Some x) (entry_of (xs ++ e ∷ []) e.id) ≡ Some e
    by true found rest = absurd (none_is_not_some x (sym found))
    by false found rest = rest found

pub filter_last : (test : Entry → Bool) (es : List Entry) (e : Entry) → filter test (es ++ e ∷ []) ≡ filter test es ++ cond (test e) (e ∷ []) []
filter_last test [] e = refl
filter_last test (x ∷ xs) e = by (test x) (filter_last test xs e)
  where
    by : (b : Bool) → filter test (xs ++ e ∷ []) ≡ filter test xs ++ cond (test e) (e ∷ []) [] →
        cond b (x ∷ filter test (xs ++ e ∷ [])) (filter test (xs ++ e ∷ [])) ≡ cond b (x ∷ filter test xs) (filter test xs) ++ cond (test e) (e ∷ []) []
    by true rest = ap (λ ys. x ∷ ys) rest
    by false rest = rest

pub append_cases : {X : Type 0} (xs ys : List X) (y : X) → Contains (xs ++ ys) y → Contains xs y ⊎ Contains ys y
append_cases [] ys y there = inr there
append_cases (x ∷ xs) ys y there = elim (contains_cases x (xs ++ ys) y there) [
  | inl is ↦ inl (subst (Contains (x ∷ xs)) is (contains_first x xs))
  | inr later ↦ elim (append_cases xs ys y later) [
    | inl was ↦ inl (cons_contains x xs y was)
    | inr last ↦ inr last
  ]
]

pub push_cases : {X : Type 0} (xs : List X) (x y : X) → Contains (xs ++ x ∷ []) y → Contains xs y ⊎ (x ≡ y)
push_cases xs x y there = elim (append_cases xs (x ∷ []) y there) [
  | inl was ↦ inl was
  | inr last ↦ elim (contains_cases x [] y last) [
    | inl is ↦ inr is
    | inr nowhere ↦ absurd (nothing_in y nowhere)
  ]
]

-- ---- live clauses

pub live_id : (clauses : List Held) (r : ℕ) → is_some (id_of clauses r) ≡ is_some (held_at clauses r)
live_id clauses r = by (held_at clauses r)
  where
    by : (o : Option Held) → is_some (option_map (λ (h : Held). h.id) o) ≡ is_some o
    by None = refl
    by (Some h) = refl

pub id_is_live : (clauses : List Held) (r id : ℕ) → id_of clauses r ≡ Some id → is_some (held_at clauses r) ≡ true
id_is_live clauses r id is = sym (live_id clauses r) ∙ ap is_some is

-- ---- rows

pub rows_permuted : (old new : List Held) (rows : List LoggedClause) (es : List Entry) → AreRowsOf old rows es →
    ((row : LoggedClause) → Contains rows row → IsPermutation (literals_at old row.clause) (literals_at new row.clause)) → AreRowsOf new rows es
rows_permuted old new [] [] r same = tt
rows_permuted old new [] (e ∷ es) r same = absurd r
rows_permuted old new (row ∷ rows) [] r same = absurd r
rows_permuted old new (row ∷ rows) (e ∷ es) r same = (
  record {
    id_is = r.0.id_is;
    lemma_is = r.0.lemma_is;
    same = IsPermutation-trans e.literals (literals_at old row.clause) (literals_at new row.clause) r.0.same (same row (contains_first row rows));
  },
  rows_permuted old new rows es r.1 (λ x there. same x (cons_contains row rows x there)),
)

pub rows_last : (clauses : List Held) (rows : List LoggedClause) (es : List Entry) (row : LoggedClause) (e : Entry) → AreRowsOf clauses rows es → IsRowOf clauses row e →
    AreRowsOf clauses (rows ++ row ∷ []) (es ++ e ∷ [])
rows_last clauses [] [] row e r one = (one, tt)
rows_last clauses [] (x ∷ es) row e r one = absurd r
rows_last clauses (y ∷ rows) [] row e r one = absurd r
rows_last clauses (y ∷ rows) (x ∷ es) row e r one = (r.0, rows_last clauses rows es row e r.1 one)

abbrev pub with_origin : Entry → Origin → Entry
with_origin e o = record { id = e.id; origin = o; literals = e.literals }

-- one more entry, and its row if it has one
pub rows_among : (clauses : List Held) (rows : List LoggedClause) (es : List Entry) (e : Entry) (r : ℕ) → AreRowsAmong clauses rows es →
    IsPermutation e.literals (literals_at clauses r) → AreRowsAmong clauses (rows ++ rows_for e.id r e.origin) (es ++ e ∷ [])
rows_among clauses rows es e r all same = by e.origin
  where
    by : (o : Origin) → AreRowsAmong clauses (rows ++ rows_for e.id r o) (es ++ with_origin e o ∷ [])
    by Axiom =
        subst (λ rs. AreRowsOf clauses rs (filter is_lemma_or_block (es ++ with_origin e Axiom ∷ []))) (sym (append-nil rows))
        (subst (AreRowsOf clauses rows) (sym (filter_last is_lemma_or_block es (with_origin e Axiom) ∙ append-nil (filter is_lemma_or_block es))) all)
    by Learnt =
        subst (AreRowsOf clauses (rows ++ rows_for e.id r Learnt)) (sym (filter_last is_lemma_or_block es (with_origin e Learnt)))
        (rows_last clauses rows (filter is_lemma_or_block es) (record { id = e.id; clause = r; is_lemma = true }) (with_origin e Learnt) all
        (record { id_is = refl; lemma_is = refl; same = same }))
    by Blocked =
        subst (AreRowsOf clauses (rows ++ rows_for e.id r Blocked)) (sym (filter_last is_lemma_or_block es (with_origin e Blocked)))
        (rows_last clauses rows (filter is_lemma_or_block es) (record { id = e.id; clause = r; is_lemma = false }) (with_origin e Blocked) all
        (record { id_is = refl; lemma_is = refl; same = same }))
    by Retired =
        subst (λ rs. AreRowsOf clauses rs (filter is_lemma_or_block (es ++ with_origin e Retired ∷ []))) (sym (append-nil rows))
        (subst (AreRowsOf clauses rows) (sym (filter_last is_lemma_or_block es (with_origin e Retired) ∙ append-nil (filter is_lemma_or_block es))) all)

-- the clauses that stand, with one more
pub stands_grown : (proof new : ProofLog) (e : Entry) → entries new ≡ entries proof ++ e ∷ [] → standing new ≡ standing proof ++ e.literals ∷ []
stands_grown proof new e grown = ap clauses_in grown ∙ map-append (λ (x : Entry). x.literals) (entries proof) (e ∷ [])
