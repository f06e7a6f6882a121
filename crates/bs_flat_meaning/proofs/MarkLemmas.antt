-- Marks of numbers, and the modules that none instances.
use Rattle.std.proofs.Common.{◌≡◌, ℕ, ◌<◌, ◌+◌, Bool, true, false, ◌||◌, cond, not, List, [], ◌∷◌, ◌++◌, length, get_or, set, take, refl}
use Rattle.std.proofs.Common.{ap, sym, ◌∙◌, nat_eq, get_or-set_same, get_or-set_other}
use Rattle.std.specs.Prelude.{filter}
use Rattle.std.specs.List.{list_any, range_with_len}
use Rattle.std.proofs.lemmas.Bool.{eqb-true, eqb-false}
use Rattle.std.proofs.lemmas.List.{length-set}
use Rattle.std.proofs.lemmas.List.Elements.{filter-append}
use Rattle.std.proofs.lemmas.List.Folds.{list_any_more}
use Rattle.bs_bits.proofs.RangeLemmas.{range_push}
use Rattle.bs_flat_meaning.specs.Rings.{is_instanced, tops}
use Rattle.bs_flat_meaning.specs.Marks.{Marks, AreInstanced, unmarked}

or_false : (b : Bool) → (b || false) ≡ b
or_false true = refl
or_false false = refl

or_true : (b : Bool) → (b || true) ≡ true
or_true true = refl
or_true false = refl

or_or : (a b c : Bool) → ((a || b) || c) ≡ (a || (b || c))
or_or true b c = refl
or_or false b c = refl

pub marks_none : (old : List Bool) → Marks old old []
marks_none old = record { wide = refl; each = λ k. sym (or_false (get_or old k false)) }

pub marks_more : (old new after : List Bool) (modules : List ℕ) (i m d : ℕ) → i < length modules → m ≡ get_or modules i d → m < length new →
    after ≡ set new m true → Marks old new (take i modules) → Marks old after (take (i + 1) modules)
marks_more old new after modules i m d lt em inside ea h =
    record {
      wide = ap length ea ∙ (length-set new m true ∙ h.wide);
      each =
          λ k.
          ap (λ (l : List Bool). get_or l k false) ea
          ∙ (by k (nat_eq k m) refl
          ∙ (or_or (get_or old k false) (list_any (nat_eq k) (take i modules)) (nat_eq k m)
          ∙ ap (λ b. get_or old k false || b)
          (ap (λ n. list_any (nat_eq k) (take i modules) || nat_eq k n) em ∙ sym (list_any_more (nat_eq k) modules i d lt))));
    }
  where
    by : (k : ℕ) (b : Bool) → nat_eq k m ≡ b →
        get_or (set new m true) k false ≡ ((get_or old k false || list_any (nat_eq k) (take i modules)) || nat_eq k m)
    by k true e =
        ap (λ n. get_or (set new m true) n false) (eqb-true k m e)
        ∙ (get_or-set_same new m true false inside
        ∙ sym (ap (λ b. (get_or old k false || list_any (nat_eq k) (take i modules)) || b) e ∙ or_true _))
    by k false e =
        get_or-set_other new m k true false (eqb-false k m e)
        ∙ (h.each k ∙ sym (ap (λ b. (get_or old k false || list_any (nat_eq k) (take i modules)) || b) e ∙ or_false _))

-- the marks of the first modules
pub instanced_more : (below : List (List ℕ)) (marks after : List Bool) (i : ℕ) (d : List ℕ) → i < length below →
    ((k : ℕ) → get_or marks k false ≡ is_instanced (take i below) k) → Marks marks after (get_or below i d) → (k : ℕ) →
    get_or after k false ≡ is_instanced (take (i + 1) below) k
instanced_more below marks after i d lt h m k =
    m.each k
    ∙ (ap (λ b. b || list_any (nat_eq k) (get_or below i d)) (h k) ∙ sym (list_any_more (λ ns. list_any (nat_eq k) ns) below i d lt))

filter_same : (p q : ℕ → Bool) (xs : List ℕ) → ((x : ℕ) → p x ≡ q x) → filter p xs ≡ filter q xs
filter_same p q [] h = refl
filter_same p q (x ∷ xs) h = ap (λ b. cond b (x ∷ filter p xs) (filter p xs)) (h x) ∙ ap (λ l. cond (q x) (x ∷ l) l) (filter_same p q xs h)

pub unmarked_are : (below : List (List ℕ)) (marks : List Bool) → AreInstanced below marks → unmarked marks ≡ tops below
unmarked_are below marks a =
    ap (λ n. filter (λ k. not (get_or marks k false)) (range_with_len 0 n)) a.wide
    ∙ filter_same (λ k. not (get_or marks k false)) (λ k. not (is_instanced below k)) (range_with_len 0 (length below)) (λ k. ap not (a.each k))

pub unmarked_more : (marks : List Bool) (k : ℕ) → filter (λ n. not (get_or marks n false)) (range_with_len 0 (k + 1))
    ≡ filter (λ n. not (get_or marks n false)) (range_with_len 0 k) ++ cond (get_or marks k false) [] (k ∷ [])
unmarked_more marks k =
    ap (filter (λ n. not (get_or marks n false))) (range_push k)
    ∙ (filter-append (λ n. not (get_or marks n false)) (range_with_len 0 k) (k ∷ [])
    ∙ ap (λ l. filter (λ n. not (get_or marks n false)) (range_with_len 0 k) ++ l) (by (get_or marks k false)))
  where
    by : (b : Bool) → cond (not b) (k ∷ []) [] ≡ cond b [] (k ∷ [])
    by true = refl
    by false = refl
