-- Ascending lists with the same members are the same.
use Rattle.std.proofs.Common.{◌≡◌, ℕ, suc, zero, ◌<◌, Bool, true, false, cond, List, [], ◌∷◌, ◌++◌, map, length, get_or, refl, ap, subst, sym, ◌∙◌}
use Rattle.std.proofs.Common.{◌⊎◌, inl, inr, ⊎_elim, arith}
use Rattle.std.specs.Prelude.{filter, AllPairs}
use Rattle.std.specs.Ordering.{bool_cmp}
use Rattle.std.specs.declared.cmp.Ordering.TheVariants.{Less, Equal}
use Rattle.std.specs.Cmp.{bool_cmp_total}
use Rattle.std.specs.Cmp.Lexicographic.{slice_cmp, lists_total}
use Rattle.std.specs.List.{AllByRecursion as Each}
use Rattle.bs_net.specs.Circuit.{all_bits}
use Rattle.bs_net.proofs.NextLemmas.{Member}
use Rattle.bs_scan.proofs.MomentLemmas.{each_member, each_append, each_weaker}

abbrev pub IsLess : List Bool → List Bool → Type 0
IsLess a b = slice_cmp bool_cmp a b ≡ Less

abbrev pub Asc : List (List Bool) → Type 0
Asc [] = Unit {0}
Asc (x ∷ xs) = Each (IsLess x) xs × Asc xs

cmp_self : (b : Bool) → bool_cmp b b ≡ Equal
cmp_self false = refl
cmp_self true = refl

same_head : (b : Bool) (x y : List Bool) → IsLess x y → IsLess (b ∷ x) (b ∷ y)
same_head false x y e = e
same_head true x y e = e

itself : (x : List Bool) → slice_cmp bool_cmp x x ≡ Equal
itself [] = refl
itself (false ∷ x) = itself x
itself (true ∷ x) = itself x

irreflexive : (x : List Bool) → IsLess x x → ⊥
irreflexive x e = let h = itself x in cc

after : (x y z : List Bool) → IsLess x y → IsLess y z → IsLess x z
after x y z e f = (lists_total bool_cmp_total).trans x y z e f

asc_from_pairs : (xs : List (List Bool)) → AllPairs IsLess xs → Asc xs
asc_from_pairs [] h = tt
asc_from_pairs (x ∷ xs) h = (
  firsts xs (λ j d lt. h 0 (suc j) d (omega arith) (omega arith)),
  asc_from_pairs xs (λ i j d lt le. h (suc i) (suc j) d (omega arith) (omega arith)),
)
  where
    firsts : (ys : List (List Bool)) → ((j : ℕ) (d : List Bool) → j < length ys → IsLess x (get_or ys j d)) → Each (IsLess x) ys
    firsts [] g = tt
    firsts (y ∷ ys) g = (g 0 [] (omega arith), firsts ys (λ j d lt. g (suc j) d (omega arith)))

pub asc_of_pairs : (xs : List (List Bool)) → AllPairs IsLess xs → Asc xs
asc_of_pairs = asc_from_pairs

each_filter : (P : List Bool → Type 0) (q : List Bool → Bool) (xs : List (List Bool)) → Each P xs → Each P (filter q xs)
each_filter P q [] h = tt
each_filter P q (x ∷ xs) h = by (q x) (each_filter P q xs h.1)
  where
    by : (b : Bool) → Each P (filter q xs) → Each P (cond b (x ∷ filter q xs) (filter q xs))
    by true r = (h.0, r)
    by false r = r

pub asc_filter : (q : List Bool → Bool) (xs : List (List Bool)) → Asc xs → Asc (filter q xs)
asc_filter q [] h = tt
asc_filter q (x ∷ xs) h = by (q x) (asc_filter q xs h.1)
  where
    by : (b : Bool) → Asc (filter q xs) → Asc (cond b (x ∷ filter q xs) (filter q xs))
    by true r = (each_filter (IsLess x) q xs h.0, r)
    by false r = r

each_map : (P : List Bool → Type 0) (f : List Bool → List Bool) (xs : List (List Bool)) → Each (λ x. P (f x)) xs → Each P (map f xs)
each_map P f [] h = tt
each_map P f (x ∷ xs) h = (h.0, each_map P f xs h.1)

asc_map : (b : Bool) (xs : List (List Bool)) → Asc xs → Asc (map (λ bs. b ∷ bs) xs)
asc_map b [] h = tt
asc_map b (x ∷ xs) h = (
  each_map (IsLess (b ∷ x)) (λ bs. b ∷ bs) xs (each_weaker (IsLess x) (λ (y : List Bool). IsLess (b ∷ x) (b ∷ y)) (λ y e. same_head b x y e) xs h.0),
  asc_map b xs h.1,
)

all_above : (x : List Bool) (ys : List (List Bool)) → Each (IsLess (false ∷ x)) (map (λ bs. true ∷ bs) ys)
all_above x [] = tt
all_above x (y ∷ ys) = (refl, all_above x ys)

join : (xs ys : List (List Bool)) → Asc (map (λ bs. false ∷ bs) xs) → Asc (map (λ bs. true ∷ bs) ys) →
    Asc (map (λ bs. false ∷ bs) xs ++ map (λ bs. true ∷ bs) ys)
join [] ys hx hy = hy
join (x ∷ xs) ys hx hy = (each_append (IsLess (false ∷ x)) (map (λ bs. false ∷ bs) xs) (map (λ bs. true ∷ bs) ys) hx.0 (all_above x ys), join xs ys hx.1 hy)

pub asc_all_bits : (n : ℕ) → Asc (all_bits n)
unfolding all_bits
asc_all_bits zero = (tt, tt)
asc_all_bits (suc n) = join (all_bits n) (all_bits n) (asc_map false (all_bits n) (asc_all_bits n)) (asc_map true (all_bits n) (asc_all_bits n))

pub same_lists : (xs ys : List (List Bool)) → Asc xs → Asc ys → ((s : List Bool) → Member s xs → Member s ys) →
    ((s : List Bool) → Member s ys → Member s xs) → xs ≡ ys
same_lists [] [] ax ay f g = refl
same_lists [] (y ∷ ys) ax ay f g = absurd (g y (inl refl))
same_lists (x ∷ xs) [] ax ay f g = absurd (f x (inl refl))
same_lists (x ∷ xs) (y ∷ ys) ax ay f g =
    let head : x ≡ y = heads (f x (inl refl)) (g y (inl refl)) in
    ap (λ (z : List Bool). z ∷ xs) head
    ∙ ap (λ (l : List (List Bool)). y ∷ l)
    (same_lists xs ys ax.1 ay.1
    (λ s m. ⊎_elim (λ (e : s ≡ y). absurd (irreflexive x (subst (IsLess x) (e ∙ sym head) (each_member (IsLess x) s xs ax.0 m)))) (λ (k : Member s ys). k)
    (f s (inr m)))
    (λ s m. ⊎_elim (λ (e : s ≡ x). absurd (irreflexive y (subst (IsLess y) (e ∙ head) (each_member (IsLess y) s ys ay.0 m)))) (λ (k : Member s xs). k)
    (g s (inr m))))
  where
    heads : (x ≡ y) ⊎ Member x ys → (y ≡ x) ⊎ Member y xs → x ≡ y
    heads (inl e) k = e
    heads (inr m) (inl e) = sym e
    heads (inr m) (inr k) = absurd (irreflexive x (after x y x (each_member (IsLess x) y xs ax.0 k) (each_member (IsLess y) x ys ay.0 m)))
