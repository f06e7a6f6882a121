-- The nets that joins leave, path by path, and the flat nets among them.
use Rattle.std.proofs.Common.{◌≡◌, ℕ, zero, suc, ◌+◌, Bool, true, false, cond, ◌&&◌, List, [], ◌∷◌, ◌++◌, map, length, refl, arith, subst}
use Rattle.std.proofs.Common.{ap, sym, ◌∙◌, inl, inr, Option, Some, None}
use Rattle.std.specs.Prelude.{find, filter, unwrap_or}
use Rattle.std.specs.List.{range_with_len, flat_map}
use Rattle.std.proofs.lemmas.Bool.{false≢true}
use Rattle.std.proofs.lemmas.List.Elements.{filter-append}
use Rattle.bs_flat_meaning.specs.Design.{Design, Path, PathNet, on, own, paths, path_nets}
use Rattle.bs_flat_meaning.specs.Meaning.{is_same}
use Rattle.bs_flat_meaning.specs.Flat.{IsDesign, bit_of, is_root, is_bit, first_constant, home, flat_nets}
use Rattle.bs_flat_meaning.proofs.MemberLemmas.{Member, flattened, ranged, mapped, filtered, member_filter, filter_map_comm}
use Rattle.bs_flat_meaning.proofs.RootLemmas.{same_from, same_to, member_valid, root_bare}
use Rattle.bs_flat_meaning.proofs.HomeLemmas.{home_is, home_none, home_some}
use Rattle.bs_flat_meaning.proofs.NumberLemmas.{Apart, apart_append, paths_apart, filter_flat, flat_same}
use Rattle.bs_flat_nets.specs.Free.{free_on, roots}
use Rattle.bs_flat_nets.specs.Numbering.{no_net}
use Rattle.bs_flat_nets.specs.Tally.{is_home, found_in}
use Rattle.bs_flat_nets.proofs.NetLemmas.{apart_range, apart_nets, nets_apart}

-- ---- filters

-- a test that only members of another pass
filter_within : {X : Type 0} (p q : X → Bool) (xs : List X) → ((x : X) → Member x xs → p x ≡ true → q x ≡ true) → filter p xs ≡ filter p (filter q xs)
filter_within p q [] h = refl
filter_within {X} p q (x ∷ xs) h = by (p x) refl (q x) refl (filter_within p q xs (λ y m. h y (inr m)))
  where
    by : (b : Bool) → p x ≡ b → (c : Bool) → q x ≡ c → filter p xs ≡ filter p (filter q xs) →
        cond b (x ∷ filter p xs) (filter p xs) ≡ filter p (cond c (x ∷ filter q xs) (filter q xs))
    by true e false f rest = absurd (false≢true (sym f ∙ h x (inl refl) e))
    by true e true f rest = ap (λ u. x ∷ u) rest ∙ ap (λ b. cond b (x ∷ filter p (filter q xs)) (filter p (filter q xs))) (sym e)
    by false e true f rest = rest ∙ ap (λ b. cond b (x ∷ filter p (filter q xs)) (filter p (filter q xs))) (sym e)
    by false e false f rest = rest

find_within : {X : Type 0} (q t : X → Bool) (xs : List X) → find (λ x. q x && t x) xs ≡ find t (filter q xs)
find_within q t [] = refl
find_within {X} q t (x ∷ xs) = by (q x) (t x) refl (find_within q t xs)
  where
    by : (b c : Bool) → t x ≡ c → find (λ y. q y && t y) xs ≡ find t (filter q xs) →
        cond (b && c) (Some x) (find (λ y. q y && t y) xs) ≡ find t (cond b (x ∷ filter q xs) (filter q xs))
    by true true e rest = ap (λ b. cond b (Some x) (find t (filter q xs))) (sym e)
    by true false e rest = rest ∙ ap (λ b. cond b (Some x) (find t (filter q xs))) (sym e)
    by false c e rest = rest

apart_filter : {X : Type 0} (p : X → Bool) (xs : List X) → Apart xs → Apart (filter p xs)
apart_filter p [] a = tt
apart_filter {X} p (x ∷ xs) a = by (p x) (apart_filter p xs a.1)
  where
    by : (b : Bool) → Apart (filter p xs) → Apart (cond b (x ∷ filter p xs) (filter p xs))
    by true rest = (λ m. a.0 (filtered p x xs m).0, rest)
    by false rest = rest

-- ---- no net stands twice

pub flat_apart : (d : Design) → Apart (flat_nets d)
unfolding flat_nets
flat_apart d = apart_filter (is_home d) (path_nets d) (nets_apart d)

pub roots_apart : (d : Design) → Apart (roots d)
roots_apart d =
    apart_nets (free_on d) (paths d) (paths_apart d)
    (λ p. apart_filter _ (range_with_len 0 (length (own d p).names)) (apart_range 0 (length (own d p).names)))

-- ---- the nets to which joins lead

roots_are : (d : Design) → filter (is_root d) (path_nets d) ≡ roots d
roots_are d =
    filter_flat (is_root d) (λ p. map (on p) (range_with_len 0 (length (own d p).names))) (paths d)
    ∙ flat_same (λ p. filter (is_root d) (map (on p) (range_with_len 0 (length (own d p).names)))) (λ p. map (on p) (free_on d p)) (paths d)
    (λ p. filter_map_comm (on p) (is_root d) (range_with_len 0 (length (own d p).names)))

pub root_member : (d : Design) (a : PathNet) → Member a (roots d) → Member a (path_nets d) × (is_root d a ≡ true)
root_member d a m = filtered (is_root d) a (path_nets d) (subst (λ (l : List PathNet). Member a l) (sym (roots_are d)) m)

pub root_there : (d : Design) (a : PathNet) → Member a (path_nets d) → is_root d a ≡ true → Member a (roots d)
root_there d a m e = subst (λ (l : List PathNet). Member a l) (roots_are d) (member_filter (is_root d) a (path_nets d) m e)

-- the flat nets are nets to which joins lead
pub flat_in_roots : (d : Design) → IsDesign d → flat_nets d ≡ filter (is_home d) (roots d)
unfolding flat_nets
flat_in_roots d h =
    filter_within (is_home d) (is_root d) (path_nets d)
    (λ a m e. subst (λ (s : PathNet). is_root d s ≡ true) (same_from (home d a) a e) (home_is d h a (member_valid d a m)).bare)
    ∙ ap (filter (is_home d)) (roots_are d)

-- the first net of a constant is the first of those
pub first_in_roots : (d : Design) (b : Bool) → first_constant d b ≡ unwrap_or (found_in d b (roots d)) no_net
unfolding first_constant
first_in_roots d b =
    ap (λ (o : Option PathNet). unwrap_or o no_net)
    (find_within (is_root d) (λ a. is_bit b (bit_of d a)) (path_nets d)
    ∙ ap (λ (l : List PathNet). find (λ a. is_bit b (bit_of d a)) l) (roots_are d))

-- ---- which of them stay

pub plain_stays : (d : Design) → IsDesign d → (a : PathNet) → Member a (roots d) → bit_of d a ≡ None → is_home d a ≡ true
plain_stays d h a m e =
    let up = root_bare d h a (root_member d a m).1 in
    same_to (home d a) a (home_none d h a (ap (bit_of d) up ∙ e) ∙ up)

pub constant_stays : (d : Design) → IsDesign d → (a : PathNet) (b : Bool) → Member a (roots d) → bit_of d a ≡ Some b →
    is_home d a ≡ is_same (first_constant d b) a
constant_stays d h a b m e =
    let up = root_bare d h a (root_member d a m).1 in
    ap (λ (s : PathNet). is_same s a) (home_some d h a b (ap (bit_of d) up ∙ e))
