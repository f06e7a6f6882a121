-- Which group stands first.
use Rattle.std.proofs.Common.{◌≡◌, ℕ, ◌<◌, ◌≤◌, ◌+◌, suc, Bool, List, ◌∷◌, ◌++◌, length, take, drop, get_or, le_refl, refl, ap, sym, subst, ◌∙◌, ◌⊎◌, inl, inr, arith}
use Rattle.std.specs.Prelude.{count_by, if◌then◌else◌}
use Rattle.std.specs.Str.{bytes_eq}
use Rattle.std.proofs.lemmas.Bool.{cases_lt, le-ltb, lt-ltb}
use Rattle.std.proofs.lemmas.List.{get_or_default}
use Rattle.bs_inspect_why_words.specs.declared.limits.TheConstants.{MAX_APART}
use Rattle.bs_inspect_why_words.specs.declared.reason.Reason.{Reason}
use Rattle.bs_inspect_why_words.specs.declared.group.Group.{Group}
use Rattle.bs_inspect_why_words.specs.Groups.{AreFronted, IsWidest, IsWidestOf, no_group, told_at, told_in}

-- ---- the widest

pub widest_begin : (reasons : List Reason) (groups : List Group) → IsWidestOf reasons groups 0 0 0
widest_begin reasons groups = record {
  within = omega arith;
  none = λ _. (refl, refl);
  there = λ lt. absurd (omega (arith, lt));
  most = λ i lt. absurd (omega (arith, lt));
  first = λ i lt. absurd (omega (arith, lt));
}

-- a group whose words are told in more cycles
pub widest_more : (reasons : List Reason) (groups : List Group) (count place told more : ℕ) → count < length groups →
    more ≡ told_at reasons groups count → told < more → IsWidestOf reasons groups count place told → IsWidestOf reasons groups (count + 1) count more
widest_more reasons groups count place told more early is lt h = record {
  within = omega (arith, early);
  none = λ e. absurd (omega (arith, e));
  there = λ _. (omega arith, is);
  most = λ i less. by i less (cases_lt i count);
  first = λ i less. let le : told_at reasons groups i ≤ told = h.most i less in omega (arith, le, lt);
}
  where
    by : (i : ℕ) → i < count + 1 → (i < count) ⊎ (count ≤ i) → told_at reasons groups i ≤ more
    by i less (inl before) = let le : told_at reasons groups i ≤ told = h.most i before in omega (arith, le, lt)
    by i less (inr le) =
        let same : count ≡ i = omega (arith, less, le) in
        subst (λ (k : ℕ). told_at reasons groups k ≤ more) same (subst (λ (n : ℕ). n ≤ more) is (le_refl more))

-- one whose words are told in no more
pub widest_same : (reasons : List Reason) (groups : List Group) (count place told more : ℕ) → count < length groups →
    more ≡ told_at reasons groups count → more ≤ told → IsWidestOf reasons groups count place told → IsWidestOf reasons groups (count + 1) place told
widest_same reasons groups count place told more early is le h = record {
  within = omega (arith, early);
  none = λ e. absurd (omega (arith, e));
  there = λ _. some (cases_lt 0 count);
  most = λ i less. by i less (cases_lt i count);
  first = h.first;
}
  where
    some : (0 < count) ⊎ (count ≤ 0) → (place < count + 1) × (told ≡ told_at reasons groups place)
    some (inl lt) = let old = h.there lt in (omega (arith, old.0), old.1)
    some (inr none) =
        let zero_count : count ≡ 0 = omega (arith, none) in
        let old = h.none zero_count in
        let same : count ≡ place = omega (arith, zero_count, old.0) in
        let nothing : told ≡ more = omega (arith, le, old.1) in
        (omega (arith, old.0), nothing ∙ (is ∙ ap (told_at reasons groups) same))

    by : (i : ℕ) → i < count + 1 → (i < count) ⊎ (count ≤ i) → told_at reasons groups i ≤ told
    by i less (inl before) = h.most i before
    by i less (inr over) =
        let same : count ≡ i = omega (arith, less, over) in
        subst (λ (k : ℕ). told_at reasons groups k ≤ told) same (subst (λ (n : ℕ). n ≤ told) is le)

pub widest_all : (reasons : List Reason) (groups : List Group) (count place told : ℕ) → length groups ≤ count →
    IsWidestOf reasons groups count place told → IsWidest reasons groups place
widest_all reasons groups count place told over h = record {
  there = λ lt. let at = h.there (omega (arith, lt, over)) in omega (arith, at.0, h.within);
  most = λ i lt.
      subst (λ (n : ℕ). told_at reasons groups i ≤ n) (h.there (omega (arith, lt, over))).1 (h.most i (omega (arith, lt, over)));
  first = λ i lt. by i lt (cases_lt 0 count);
}
  where
    by : (i : ℕ) → i < place → (0 < count) ⊎ (count ≤ 0) → told_at reasons groups i < told_at reasons groups place
    by i lt (inl some) = subst (λ (n : ℕ). told_at reasons groups i < n) (h.there some).1 (h.first i lt)
    by i lt (inr none) =
        let zero_count : count ≡ 0 = omega (arith, none) in
        let old = h.none zero_count in
        absurd (omega (arith, lt, old.0))

pub told_is : (reasons : List Reason) (g : Group) (words : List ℕ) (told : ℕ) → words ≡ g.words →
    told ≡ count_by (λ (r : Reason). bytes_eq r.words words) reasons → told ≡ told_in reasons g
told_is reasons g words told same is = is ∙ ap (λ (ws : List ℕ). count_by (λ (r : Reason). bytes_eq r.words ws) reasons) same

-- the words of a group that is read
pub told_there : (reasons : List Reason) (groups : List Group) (i told : ℕ) (g : Group) → i < length groups → g ≡ get_or groups i g →
    told ≡ told_in reasons g → told ≡ told_at reasons groups i
told_there reasons groups i told g lt at is = is ∙ ap (told_in reasons) (at ∙ get_or_default groups i g no_group lt)

-- ---- it comes first

abbrev put_first : List Group → ℕ → List Group
put_first groups place = get_or groups place no_group ∷ (take place groups ++ drop (place + 1) groups)

pub fronted_past : (reasons : List Reason) (groups slice few : List Group) (place : ℕ) → slice ≡ groups → few ≡ take MAX_APART slice →
    IsWidest reasons few place → length groups ≤ place → AreFronted reasons groups groups
fronted_past reasons groups slice few place same first widest le = record {
  place = place;
  widest = subst (λ (gs : List Group). IsWidest reasons gs place) (first ∙ ap (take MAX_APART) same) widest;
  are = sym (ap (λ (b : Bool). if b then put_first groups place else groups) (le-ltb place (length groups) le));
}

pub fronted_here : (reasons : List Reason) (groups slice few rest after : List Group) (place : ℕ) (g : Group) → slice ≡ groups →
    few ≡ take MAX_APART slice → IsWidest reasons few place → place < length groups → g ≡ get_or groups place g →
    rest ≡ take place groups ++ drop (suc place) groups → after ≡ g ∷ rest → AreFronted reasons groups after
fronted_here reasons groups slice few rest after place g same first widest lt at left goes =
    let here : g ≡ get_or groups place no_group = at ∙ get_or_default groups place g no_group lt in
    let next : suc place ≡ place + 1 = omega arith in
    let others : rest ≡ take place groups ++ drop (place + 1) groups = left ∙ ap (λ (n : ℕ). take place groups ++ drop n groups) next in
    let put : after ≡ put_first groups place =
    goes ∙ (ap (λ (x : Group). x ∷ rest) here ∙ ap (λ (gs : List Group). get_or groups place no_group ∷ gs) others) in
    record {
      place = place;
      widest = subst (λ (gs : List Group). IsWidest reasons gs place) (first ∙ ap (take MAX_APART) same) widest;
      are = put ∙ sym (ap (λ (b : Bool). if b then put_first groups place else groups) (lt-ltb place (length groups) lt));
    }
