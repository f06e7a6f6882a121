-- The number of a flat net: the nets of the paths before, and the nets that stay before it on its own path.
use Rattle.std.proofs.Common.{◌≡◌, ℕ, zero, suc, ◌<◌, ◌≤◌, ◌+◌, ◌-◌, Bool, true, false, not, cond, ◌&&◌, List, [], ◌∷◌, ◌++◌, map, length, get_or, drop}
use Rattle.std.proofs.Common.{refl, arith, subst, ap, sym, ◌∙◌, inl, inr, ⊎_elim, nat_eq, zero-add, drop-drop}
use Rattle.std.specs.Prelude.{filter}
use Rattle.std.specs.List.{AllByRecursion, range_with_len, flat_map, position_or_len}
use Rattle.std.specs.Cmp.Lexicographic.{bytes_decides}
use Rattle.std.proofs.lemmas.Bool.{true≢false, false≢true, eqb-true, eqb-false, cases_Bool}
use Rattle.std.proofs.lemmas.List.Elements.{filter-append}
use Rattle.std.proofs.lemmas.List.Concat.{flat_map-append}
use Rattle.bs_flat_meaning.specs.Design.{Design, Path, PathNet, on, own, module_at, paths_from, paths, path_nets}
use Rattle.bs_flat_meaning.specs.Meaning.{is_same}
use Rattle.bs_flat_meaning.specs.Flat.{home, flat_nets, flat_number}
use Rattle.bs_flat_meaning.specs.Numbers.{stays, staying, nets_on, NumbersAreRanks}
use Rattle.bs_flat_meaning.specs.declared.limits.TheConstants.{MAX_DEPTH}
use Rattle.bs_flat_meaning.proofs.MemberLemmas.{Member, all_of, member_split, flattened, ranged, member_map, mapped, member_filter, filter_map_comm, in_range}
use Rattle.bs_flat_meaning.proofs.MemberLemmas.{contained, member_right}
use Rattle.bs_flat_meaning.proofs.RootLemmas.{same_from, same_to, member_valid}
use Rattle.bs_flat_meaning.proofs.HomeLemmas.{home_is}

-- ---- no path stands twice

abbrev pub Apart : {X : Type 0} → List X → Type 0
Apart [] = Unit {0}
Apart (x ∷ xs) = (Member x xs → ⊥) × Apart xs

pub apart_append : {X : Type 0} (xs ys : List X) → Apart xs → Apart ys → ((x : X) → Member x xs → Member x ys → ⊥) → Apart (xs ++ ys)
apart_append [] ys a b f = b
apart_append {X} (x ∷ xs) ys a b f = (
  λ m. ⊎_elim (λ (l : Member x xs). a.0 l) (λ (r : Member x ys). f x (inl refl) r) (member_split x xs ys m),
  apart_append xs ys a.1 b (λ y l r. f y (inr l) r),
)

-- a path ends in another
pub record Ends (q r : Path) : Type 0 where
  pub longer : length q ≤ length r
  pub same : drop (length r - length q) r ≡ q

ends_itself : (q : Path) → Ends q q
ends_itself q = let none : length q - length q ≡ 0 = omega arith in record { longer = omega arith; same = ap (λ k. drop k q) none }

ends_less : (i : ℕ) (q r : Path) → Ends (i ∷ q) r → Ends q r
ends_less i q r e =
    let le : suc (length q) ≤ length r = e.longer in
    let k = length r - suc (length q) in
    let more : length r - length q ≡ k + 1 = omega (arith, le) in
    record {
      longer = omega (arith, le);
      same = ap (λ n. drop n r) more ∙ (sym (drop-drop 1 k r) ∙ ap (λ (l : Path). drop 1 l) e.same);
    }

ends_same : (i j : ℕ) (q r : Path) → Ends (i ∷ q) r → Ends (j ∷ q) r → i ≡ j
ends_same i j q r a b = ap (λ (l : Path). get_or l 0 0) (sym a.same ∙ b.same)

ends_from : (n : ℕ) (d : Design) (q r : Path) → Member r (paths_from n d q) → Ends q r
unfolding paths_from
ends_from zero d q r m = absurd m
ends_from (suc n) d q r m =
    ⊎_elim
    (λ (e : r ≡ q). subst (λ (u : Path). Ends q u) (sym e) (ends_itself q))
    (λ (l : Member r (flat_map (λ i. paths_from n d (i ∷ q)) (range_with_len 0 (length (module_at d q).instances)))).
    let f = flattened (λ i. paths_from n d (i ∷ q)) r (range_with_len 0 (length (module_at d q).instances)) l in
    ends_less f.0 q r (ends_from n d (f.0 ∷ q) r f.2))
    m

apart_below : (n : ℕ) (d : Design) (q : Path) (a k : ℕ) → ((i : ℕ) → Apart (paths_from n d (i ∷ q))) →
    Apart (flat_map (λ i. paths_from n d (i ∷ q)) (range_with_len a k))
apart_below n d q a zero h = tt
apart_below n d q a (suc k) h =
    let F : ℕ → List Path = λ i. paths_from n d (i ∷ q) in
    apart_append (F a) (flat_map F (range_with_len (a + 1) k)) (h a) (apart_below n d q (a + 1) k h)
    (λ r l m.
    let f = flattened F r (range_with_len (a + 1) k) m in
    let same : a ≡ f.0 = ends_same a f.0 q r (ends_from n d (a ∷ q) r l) (ends_from n d (f.0 ∷ q) r f.2) in
    omega (arith, same, (ranged (a + 1) k f.0 f.1).0))

apart_from : (n : ℕ) (d : Design) (q : Path) → Apart (paths_from n d q)
unfolding paths_from
apart_from zero d q = tt
apart_from (suc n) d q = (
  λ m.
      let f = flattened (λ i. paths_from n d (i ∷ q)) q (range_with_len 0 (length (module_at d q).instances)) m in
      let e = (ends_from n d (f.0 ∷ q) q f.2).longer in
      omega (arith, e),
  apart_below n d q 0 (length (module_at d q).instances) (λ i. apart_from n d (i ∷ q)),
)

pub paths_apart : (d : Design) → Apart (paths d)
unfolding paths
paths_apart d = apart_from (MAX_DEPTH + 1) d []

-- ---- the nets that stay on a path

pub filter_flat : {X Y : Type 0} (t : Y → Bool) (f : X → List Y) (xs : List X) → filter t (flat_map f xs) ≡ flat_map (λ x. filter t (f x)) xs
filter_flat t f [] = refl
filter_flat t f (x ∷ xs) = filter-append t (f x) (flat_map f xs) ∙ ap (λ u. filter t (f x) ++ u) (filter_flat t f xs)

pub flat_same : {X Y : Type 0} (f g : X → List Y) (xs : List X) → ((x : X) → f x ≡ g x) → flat_map f xs ≡ flat_map g xs
flat_same f g [] h = refl
flat_same f g (x ∷ xs) h = ap (λ u. u ++ flat_map f xs) (h x) ∙ ap (λ u. g x ++ u) (flat_same f g xs h)

-- the flat nets path by path
pub flat_nets_are : (d : Design) → flat_nets d ≡ flat_map (nets_on d) (paths d)
unfolding flat_nets
flat_nets_are d =
    filter_flat (λ (a : PathNet). is_same (home d a) a) (λ p. map (on p) (range_with_len 0 (length (own d p).names))) (paths d)
    ∙ flat_same (λ p. filter (λ (a : PathNet). is_same (home d a) a) (map (on p) (range_with_len 0 (length (own d p).names)))) (nets_on d) (paths d)
    (λ p. filter_map_comm (on p) (λ (a : PathNet). is_same (home d a) a) (range_with_len 0 (length (own d p).names)))

-- ---- places

position_none : {X : Type 0} (t : X → Bool) (xs ys : List X) → AllByRecursion (λ x. t x ≡ false) xs →
    position_or_len t (xs ++ ys) ≡ length xs + position_or_len t ys
position_none t [] ys h = sym (zero-add (position_or_len t ys))
position_none t (x ∷ xs) ys h =
    ap (λ b. cond (not b) (1 + position_or_len t (xs ++ ys)) 0) h.0
    ∙ (ap (λ n. 1 + n) (position_none t xs ys h.1) ∙ joined (length xs) (position_or_len t ys))
  where
    joined : (a b : ℕ) → 1 + (a + b) ≡ suc a + b
    joined a b = omega arith

position_front : {X : Type 0} (t : X → Bool) (xs ys : List X) (x : X) → Member x xs → t x ≡ true → position_or_len t (xs ++ ys) ≡ position_or_len t xs
position_front t [] ys x m e = absurd m
position_front {X} t (z ∷ xs) ys x m e = by (t z) refl (position_front t xs ys x)
  where
    by : (b : Bool) → t z ≡ b → (Member x xs → t x ≡ true → position_or_len t (xs ++ ys) ≡ position_or_len t xs) →
        cond (not b) (1 + position_or_len t (xs ++ ys)) 0 ≡ cond (not b) (1 + position_or_len t xs) 0
    by true q rest = refl
    by false q rest =
        let later : Member x xs = ⊎_elim (λ (same : x ≡ z). absurd (false≢true (sym q ∙ (sym (ap t same) ∙ e)))) (λ (l : Member x xs). l) m in
        ap (λ n. 1 + n) (rest later e)

position_map : {X Y : Type 0} (t : Y → Bool) (f : X → Y) (xs : List X) → position_or_len t (map f xs) ≡ position_or_len (λ x. t (f x)) xs
position_map t f [] = refl
position_map t f (x ∷ xs) = ap (λ n. cond (not (t (f x))) (1 + n) 0) (position_map t f xs)

position_same : {X : Type 0} (s t : X → Bool) (xs : List X) → ((x : X) → s x ≡ t x) → position_or_len s xs ≡ position_or_len t xs
position_same s t [] h = refl
position_same s t (x ∷ xs) h =
    ap (λ b. cond (not b) (1 + position_or_len s xs) 0) (h x) ∙ ap (λ n. cond (not (t x)) (1 + n) 0) (position_same s t xs h)

-- the place of a number that stays: how many below it stay
pub place_in_range : (t : ℕ → Bool) (a k n : ℕ) → a ≤ n → n < a + k → t n ≡ true →
    position_or_len (nat_eq n) (filter t (range_with_len a k)) ≡ length (filter t (range_with_len a (n - a)))
place_in_range t a zero n le lt e = absurd (omega (arith, le, lt))
place_in_range t a (suc k) n le lt e = by (t a) refl (nat_eq n a) refl (place_in_range t (a + 1) k n)
  where
    Rest : Type 0
    Rest = a + 1 ≤ n → n < (a + 1) + k → t n ≡ true →
        position_or_len (nat_eq n) (filter t (range_with_len (a + 1) k)) ≡ length (filter t (range_with_len (a + 1) (n - (a + 1))))

    Goal : Bool → Type 0
    Goal b = position_or_len (nat_eq n) (cond b (a ∷ filter t (range_with_len (a + 1) k)) (filter t (range_with_len (a + 1) k))) ≡ length
        (filter t (range_with_len a (n - a)))

    first : n ≡ a → length (filter t (range_with_len a (n - a))) ≡ 0
    first q = let none : n - a ≡ 0 = omega (arith, q) in ap (λ m. length (filter t (range_with_len a m))) none

    more : (b : Bool) → t a ≡ b → (n ≡ a → ⊥) →
        length (filter t (range_with_len a (n - a))) ≡ cond b 1 0 + length (filter t (range_with_len (a + 1) (n - (a + 1))))
    more b q ne =
        let one : n - a ≡ suc (n - (a + 1)) = omega (arith, le, ne) in
        ap (λ m. length (filter t (range_with_len a m))) one
        ∙ (ap (λ c. length (cond c (a ∷ filter t (range_with_len (a + 1) (n - (a + 1)))) (filter t (range_with_len (a + 1) (n - (a + 1)))))) q ∙ sizes b)
      where
        sizes : (c : Bool) → length (cond c (a ∷ filter t (range_with_len (a + 1) (n - (a + 1))))
            (filter t (range_with_len (a + 1) (n - (a + 1))))) ≡ cond c 1 0 + length (filter t (range_with_len (a + 1) (n - (a + 1))))
        sizes true = omega arith
        sizes false = omega arith

    by : (b : Bool) → t a ≡ b → (c : Bool) → nat_eq n a ≡ c → Rest → Goal b
    by true q true w rest = ap (λ c. cond (not c) (1 + position_or_len (nat_eq n) (filter t (range_with_len (a + 1) k))) 0) w ∙ sym (first (eqb-true n a w))
    by false q true w rest = absurd (true≢false (sym e ∙ (ap t (eqb-true n a w) ∙ q)))
    by true q false w rest =
        let ne = eqb-false n a w in
        ap (λ c. cond (not c) (1 + position_or_len (nat_eq n) (filter t (range_with_len (a + 1) k))) 0) w
        ∙ (ap (λ m. 1 + m) (rest (omega (arith, le, ne)) (omega (arith, lt)) e) ∙ sym (more true q ne))
    by false q false w rest =
        let ne = eqb-false n a w in
        rest (omega (arith, le, ne)) (omega (arith, lt)) e ∙ (sym (zero-add _) ∙ sym (more false q ne))

-- ---- the number of a flat net

-- a net that stays, on a path with others before it
pub record IsSplit (d : Design) (p : Path) : Type 0 where
  pub earlier : List Path
  pub later : List Path
  pub whole : paths d ≡ earlier ++ p ∷ later
  pub apart : Member p earlier → ⊥

-- the number of a net whose home is on a path: the nets of the earlier paths, and those that stay below it
pub number_is : (d : Design) (a : PathNet) (h : PathNet) (s : IsSplit d h.path) → home d a ≡ h → h.it < length (own d h.path).names →
    stays d h.path h.it ≡ true → flat_number d a ≡ length (flat_map (nets_on d) s.earlier) + length (filter (stays d h.path) (range_with_len 0 h.it))
unfolding flat_number
number_is d a h s e lt t =
    let p = h.path in
    let n = h.it in
    let test : PathNet → Bool = is_same h in
    let front = flat_map (nets_on d) s.earlier in
    let mine = nets_on d p in
    let after = flat_map (nets_on d) s.later in
    let nets : flat_nets d ≡ front ++ (mine ++ after) =
    flat_nets_are d ∙ (ap (flat_map (nets_on d)) s.whole ∙ flat_map-append (nets_on d) s.earlier (p ∷ s.later)) in
    let none : AllByRecursion (λ (b : PathNet). test b ≡ false) front =
    all_of (λ (b : PathNet). test b ≡ false) front
    (λ b m.
    let f = flattened (nets_on d) b s.earlier m in
    let g = mapped (on f.0) b (staying d f.0) f.2 in
    ⊎_elim
    (λ (y : test b ≡ true).
    let path : p ≡ f.0 = ap (λ (u : PathNet). u.path) (same_from h b y ∙ g.2) in
    absurd (s.apart (subst (λ (u : Path). Member u s.earlier) (sym path) f.1)))
    (λ (y : test b ≡ false). y)
    (cases_Bool (test b))) in
    let here : Member n (staying d p) = member_filter (stays d p) n _ (in_range 0 _ n (omega arith) (omega (arith, lt))) t in
    let minus : n - 0 ≡ n = omega arith in
    let tests : (k : ℕ) → test (on p k) ≡ nat_eq n k = λ k. ap (λ b. b && nat_eq n k) ((bytes_decides p p).1 refl) in
    let rank : position_or_len test (mine ++ after) ≡ length (filter (stays d p) (range_with_len 0 n)) =
    position_front test mine after (on p n) (member_map (on p) n (staying d p) here) (same_to h (on p n) refl)
    ∙ (position_map test (on p) (staying d p)
    ∙ (position_same (λ k. test (on p k)) (nat_eq n) (staying d p) tests
    ∙ (place_in_range (stays d p) 0 _ n (omega arith) (omega (arith, lt)) t ∙ ap (λ m. length (filter (stays d p) (range_with_len 0 m))) minus))) in
    ap (λ (u : PathNet). position_or_len (is_same u) (flat_nets d)) e
    ∙ (ap (position_or_len test) nets ∙ (position_none test front (mine ++ after) none ∙ ap (λ m. length front + m) rank))

before_apart : (xs ys : List Path) (p : Path) → Apart (xs ++ p ∷ ys) → Member p xs → ⊥
before_apart [] ys p a m = m
before_apart (x ∷ xs) ys p a m =
    ⊎_elim
    (λ (e : p ≡ x). a.0 (subst (λ (u : Path). Member u (xs ++ p ∷ ys)) e (member_right p xs (p ∷ ys) (inl refl))))
    (λ (l : Member p xs). before_apart xs ys p a.1 l)
    m

pub numbers_are_ranks : NumbersAreRanks
numbers_are_ranks d h a c earlier later whole =
    let va = member_valid d a (contained (path_nets d) a c) in
    let k = home_is d h a va in
    let apart : Member (home d a).path earlier → ⊥ = before_apart earlier later (home d a).path (subst (λ (ps : List Path). Apart ps) whole (paths_apart d)) in
    let s : IsSplit d (home d a).path = record { earlier = earlier; later = later; whole = whole; apart = apart } in
    number_is d a (home d a) s refl k.valid.1 (same_to (home d (home d a)) (home d a) k.again)
