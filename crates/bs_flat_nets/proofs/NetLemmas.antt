-- The flat nets of a design are its plain nets, and each constant once.
use Rattle.std.proofs.Common.{◌≡◌, ℕ, zero, suc, ◌+◌, min, Bool, true, false, cond, ◌&&◌, ◌||◌, List, [], ◌∷◌, ◌++◌, map, length, refl, arith}
use Rattle.std.proofs.Common.{subst, ap, sym, ◌∙◌, inl, inr, ⊎_elim, Option, Some, None, length-append, add-one}
use Rattle.std.specs.Prelude.{find, filter, unwrap_or, is_none}
use Rattle.std.specs.List.{range_with_len, flat_map}
use Rattle.std.proofs.lemmas.Bool.{false≢true, cases_Bool}
use Rattle.std.proofs.lemmas.List.{length-map}
use Rattle.std.proofs.lemmas.List.Elements.{filter-append}
use Rattle.bs_net.specs.Parts.{Parts}
use Rattle.bs_flat_meaning.specs.declared.limits.TheConstants.{MAX_DEPTH}
use Rattle.bs_flat_meaning.specs.Design.{Design, Module, Instance, Join, Path, PathNet, on, own, no_instance, joins_at, instance_in, module_in}
use Rattle.bs_flat_meaning.specs.Design.{module_at, paths_from, paths, path_nets}
use Rattle.bs_flat_meaning.specs.Meaning.{is_same}
use Rattle.bs_flat_meaning.specs.Flat.{IsDesign, bit_of, is_root, is_bit, first_constant, home, flat_nets, flat_key, flat_parts}
use Rattle.bs_flat_meaning.specs.Counts.{sum_of}
use Rattle.bs_flat_meaning.proofs.CountLemmas.{sum_flat, sum_same, sum_places, module_below}
use Rattle.bs_flat_meaning.proofs.MemberLemmas.{Member, flattened, ranged, mapped, filter_same, filter_map_comm}
use Rattle.bs_flat_meaning.proofs.RootLemmas.{same_from, same_to, member_valid, root_bare}
use Rattle.bs_flat_meaning.proofs.HomeLemmas.{home_is, home_none, home_some}
use Rattle.bs_flat_meaning.proofs.NumberLemmas.{Apart, apart_append, paths_apart}
use Rattle.bs_flat_nets.specs.Nets.{plain_count, constant_count, below_sum}
use Rattle.bs_flat_nets.specs.Sums.{top_sum}
use Rattle.bs_flat_nets.specs.declared.joined.Counted.TheVariants.{Plain, Constant}

-- ---- counts of lists

pub count_append : {X : Type 0} (t : X → Bool) (xs ys : List X) → length (filter t (xs ++ ys)) ≡ length (filter t xs) + length (filter t ys)
count_append t xs ys = ap length (filter-append t xs ys) ∙ length-append (filter t xs) (filter t ys)

count_flat : {X Y : Type 0} (t : Y → Bool) (f : X → List Y) (xs : List X) → length (filter t (flat_map f xs)) ≡ sum_of (λ x. length (filter t (f x))) xs
unfolding sum_of
count_flat t f [] = refl
count_flat t f (x ∷ xs) = count_append t (f x) (flat_map f xs) ∙ ap (λ n. length (filter t (f x)) + n) (count_flat t f xs)

count_map : {X Y : Type 0} (t : Y → Bool) (f : X → Y) (xs : List X) → length (filter t (map f xs)) ≡ length (filter (λ x. t (f x)) xs)
count_map t f xs = ap length (filter_map_comm f t xs) ∙ length-map (filter (λ x. t (f x)) xs) f

-- two tests of which one passes at most
pub count_either : {X : Type 0} (p q : X → Bool) (xs : List X) → ((x : X) → (p x && q x) ≡ false) →
    length (filter (λ x. p x || q x) xs) ≡ length (filter p xs) + length (filter q xs)
count_either p q [] h = refl
count_either {X} p q (x ∷ xs) h = by (p x) (q x) (h x) (count_either p q xs h)
  where
    by : (a b : Bool) → (a && b) ≡ false → length (filter (λ y. p y || q y) xs) ≡ length (filter p xs) + length (filter q xs) →
        length (cond (a || b) (x ∷ filter (λ y. p y || q y) xs) (filter (λ y. p y || q y) xs))
        ≡ length (cond a (x ∷ filter p xs) (filter p xs)) + length (cond b (x ∷ filter q xs) (filter q xs))
    by true true e rest = absurd (false≢true (sym e))
    by true false e rest = omega (arith, rest)
    by false true e rest = omega (arith, rest)
    by false false e rest = rest

pub count_none : {X : Type 0} (t : X → Bool) (xs : List X) → ((x : X) → Member x xs → t x ≡ false) → length (filter t xs) ≡ 0
count_none t [] h = refl
count_none {X} t (x ∷ xs) h =
    ap (λ b. length (cond b (x ∷ filter t xs) (filter t xs))) (h x (inl refl)) ∙ count_none t xs (λ y m. h y (inr m))

-- ---- the first that passes

-- a test of equality
pub record Decides {X : Type 0} (eq : X → X → Bool) : Type 0 where
  pub from : (x y : X) → eq x y ≡ true → x ≡ y
  pub to : (x y : X) → x ≡ y → eq x y ≡ true

-- in a list without repeats, one is the first that passes, where one passes
count_first : {X : Type 0} (eq : X → X → Bool) (q : X → Bool) (e : X) (xs : List X) → Decides eq → Apart xs →
    length (filter (λ x. q x && eq (unwrap_or (find q xs) e) x) xs) ≡ min 1 (length (filter q xs))
count_first eq q e [] d a = refl
count_first {X} eq q e (x ∷ xs) d a = by (q x) (count_first eq q e xs d a.1)
  where
    chosen : Bool → X
    chosen b = unwrap_or (cond b (Some x) (find q xs)) e

    others : (y : X) → Member y xs → (q y && eq x y) ≡ false
    others y m =
        ⊎_elim
        (λ (t : (q y && eq x y) ≡ true). absurd (a.0 (subst (λ (z : X). Member z xs) (sym (d.from x y (second (q y) (eq x y) t))) m)))
        (λ (f : (q y && eq x y) ≡ false). f)
        (cases_Bool (q y && eq x y))
      where
        second : (b c : Bool) → (b && c) ≡ true → c ≡ true
        second true c t = t
        second false c t = absurd (false≢true t)

    by : (b : Bool) → length (filter (λ y. q y && eq (chosen false) y) xs) ≡ min 1 (length (filter q xs)) →
        length (cond (b && eq (chosen b) x) (x ∷ filter (λ y. q y && eq (chosen b) y) xs) (filter (λ y. q y && eq (chosen b) y) xs))
        ≡ min 1 (length (cond b (x ∷ filter q xs) (filter q xs)))
    by true rest =
        let none = count_none (λ y. q y && eq x y) xs others in
        ap (λ b. length (cond b (x ∷ filter (λ y. q y && eq x y) xs) (filter (λ y. q y && eq x y) xs))) (d.to x x refl) ∙ omega (arith, none)
    by false rest = rest

-- ---- no net stands twice

pub apart_range : (a k : ℕ) → Apart (range_with_len a k)
apart_range a zero = tt
apart_range a (suc k) = (λ m. let r = ranged (a + 1) k a m in omega (arith, r.0), apart_range (a + 1) k)

apart_on : (p : Path) (ns : List ℕ) → Apart ns → Apart (map (on p) ns)
apart_on p [] a = tt
apart_on p (n ∷ ns) a = (
  λ m. let r = mapped (on p) (on p n) ns m in a.0 (subst (λ (k : ℕ). Member k ns) (sym (ap (λ (u : PathNet). u.it) r.2)) r.1),
  apart_on p ns a.1,
)

pub apart_nets : (f : Path → List ℕ) (ps : List Path) → Apart ps → ((p : Path) → Apart (f p)) → Apart (flat_map (λ p. map (on p) (f p)) ps)
apart_nets f [] a h = tt
apart_nets f (p ∷ ps) a h =
    apart_append (map (on p) (f p)) (flat_map (λ q. map (on q) (f q)) ps) (apart_on p (f p) (h p)) (apart_nets f ps a.1 h)
    (λ x l r.
    let s = mapped (on p) x (f p) l in
    let t = flattened (λ q. map (on q) (f q)) x ps r in
    let u = mapped (on t.0) x (f t.0) t.2 in
    let same : p ≡ t.0 = sym (ap (λ (v : PathNet). v.path) s.2) ∙ ap (λ (v : PathNet). v.path) u.2 in
    a.0 (subst (λ (v : Path). Member v ps) (sym same) t.1))

pub nets_apart : (d : Design) → Apart (path_nets d)
nets_apart d =
    apart_nets (λ p. range_with_len 0 (length (own d p).names)) (paths d) (paths_apart d) (λ p. apart_range 0 (length (own d p).names))

-- ---- which nets stay

abbrev is_chosen : Bool → Option Bool → Bool → Bool → Bool
is_chosen r o s t = (r && is_none o) || (((r && is_bit false o) && s) || ((r && is_bit true o) && t))

module _ (d : Design) (h : IsDesign d) where
  abbrev plain : PathNet → Bool
  plain a = is_root d a && is_none (bit_of d a)

  abbrev constant : Bool → PathNet → Bool
  constant b a = is_root d a && is_bit b (bit_of d a)

  abbrev first : Bool → PathNet → Bool
  first b a = constant b a && is_same (first_constant d b) a

  stays_is : (a : PathNet) → Member a (path_nets d) → is_same (home d a) a ≡ is_chosen (is_root d a) (bit_of d a) (is_same (first_constant d false) a)
      (is_same (first_constant d true) a)
  stays_is a m = by (is_root d a) refl (bit_of d a) refl
    where
      by : (r : Bool) → is_root d a ≡ r → (o : Option Bool) → bit_of d a ≡ o →
          is_same (home d a) a ≡ is_chosen r o (is_same (first_constant d false) a) (is_same (first_constant d true) a)
      by false e o q =
          ⊎_elim
          (λ (t : is_same (home d a) a ≡ true).
          let k = home_is d h a (member_valid d a m) in
          absurd (false≢true (sym e ∙ subst (λ (s : PathNet). is_root d s ≡ true) (same_from (home d a) a t) k.bare)))
          (λ (f : is_same (home d a) a ≡ false). f)
          (cases_Bool (is_same (home d a) a))
      by true e None q = same_to (home d a) a (home_none d h a (ap (bit_of d) (root_bare d h a e) ∙ q) ∙ root_bare d h a e)
      by true e (Some true) q = ap (λ (s : PathNet). is_same s a) (home_some d h a true (ap (bit_of d) (root_bare d h a e) ∙ q))
      by true e (Some false) q =
          ap (λ (s : PathNet). is_same s a) (home_some d h a false (ap (bit_of d) (root_bare d h a e) ∙ q))
          ∙ sym (or_none (is_same (first_constant d false) a))
        where
          or_none : (b : Bool) → (b || false) ≡ b
          or_none true = refl
          or_none false = refl

  count_constant : (b : Bool) → length (filter (first b) (path_nets d)) ≡ min 1 (length (filter (constant b) (path_nets d)))
  unfolding first_constant
  count_constant b = count_first is_same (constant b) (record { path = []; it = 0 }) (path_nets d) (record { from = same_from; to = same_to }) (nets_apart d)

  nets_are : length (flat_nets d) ≡ length (filter plain (path_nets d))
      + (min 1 (length (filter (constant false) (path_nets d))) + min 1 (length (filter (constant true) (path_nets d))))
  unfolding flat_nets
  nets_are =
      let all = path_nets d in
      ap length (filter_same (λ a. is_same (home d a) a) (λ a. plain a || (first false a || first true a)) all stays_is)
      ∙ (count_either plain (λ a. first false a || first true a) all
      (λ a. plain_or_first (is_root d a) (bit_of d a) (is_same (first_constant d false) a) (is_same (first_constant d true) a))
      ∙ (ap (λ n. length (filter plain all) + n)
      (count_either (first false) (first true) all
      (λ a. either_first (is_root d a) (bit_of d a) (is_same (first_constant d false) a) (is_same (first_constant d true) a)))
      ∙ (ap (λ n. length (filter plain all) + (n + length (filter (first true) all))) (count_constant false)
      ∙ ap (λ n. length (filter plain all) + (min 1 (length (filter (constant false) all)) + n)) (count_constant true))))
    where
      plain_or_first : (r : Bool) (o : Option Bool) (s t : Bool) → ((r && is_none o) && (((r && is_bit false o) && s) || ((r && is_bit true o) && t))) ≡ false
      plain_or_first false o s t = refl
      plain_or_first true None s t = refl
      plain_or_first true (Some b) s t = refl

      either_first : (r : Bool) (o : Option Bool) (s t : Bool) → (((r && is_bit false o) && s) && ((r && is_bit true o) && t)) ≡ false
      either_first false o s t = refl
      either_first true None s t = refl
      either_first true (Some true) s t = refl
      either_first true (Some false) true t = refl
      either_first true (Some false) false t = refl

-- ---- path by path

count_by_path : (d : Design) (t : PathNet → Bool) →
    length (filter t (path_nets d)) ≡ sum_of (λ p. length (filter (λ n. t (on p n)) (range_with_len 0 (length (own d p).names)))) (paths d)
count_by_path d t =
    count_flat t (λ p. map (on p) (range_with_len 0 (length (own d p).names))) (paths d)
    ∙ sum_same (λ p. length (filter t (map (on p) (range_with_len 0 (length (own d p).names)))))
    (λ p. length (filter (λ n. t (on p n)) (range_with_len 0 (length (own d p).names)))) (paths d)
    (λ p. count_map t (on p) (range_with_len 0 (length (own d p).names)))

-- a weight of each module with its joins
weight_below : (d : Design) (w : Parts → List Join → ℕ) (p : Path) (i : ℕ) →
    w (own d (i ∷ p)) (joins_at d (i ∷ p)) ≡ w (module_in d (instance_in (module_at d p) i).of).own (instance_in (module_at d p) i).joins
unfolding module_at
weight_below d w p i = refl

sum_zero : {A : Type 0} (f : A → ℕ) (xs : List A) → ((x : A) → f x ≡ 0) → sum_of f xs ≡ 0
unfolding sum_of
sum_zero f [] h = refl
sum_zero f (x ∷ xs) h = let rest = sum_zero f xs h in let one = h x in omega (arith, rest, one)

-- the sum over the paths below a path, by modules
paths_sum : (d : Design) (w : Parts → List Join → ℕ) (n : ℕ) (p : Path) →
    sum_of (λ q. w (own d q) (joins_at d q)) (paths_from (suc n) d p)
    ≡ w (own d p) (joins_at d p) + below_sum n d (λ i. w (module_in d i.of).own i.joins) (module_at d p)
unfolding paths_from below_sum sum_of
paths_sum d w zero p =
    let c : Path → ℕ = λ q. w (own d q) (joins_at d q) in
    ap (λ k. c p + k)
    (sum_flat c (λ i. paths_from zero d (i ∷ p)) (range_with_len 0 (length (module_at d p).instances))
    ∙ sum_zero (λ i. sum_of c (paths_from zero d (i ∷ p))) (range_with_len 0 (length (module_at d p).instances)) (λ i. refl))
paths_sum d w (suc n) p =
    let c : Path → ℕ = λ q. w (own d q) (joins_at d q) in
    let g : Instance → ℕ = λ i. w (module_in d i.of).own i.joins in
    let m = module_at d p in
    let below : Instance → ℕ = λ i. g i + below_sum n d g (module_in d i.of) in
    ap (λ k. c p + k)
    (sum_flat c (λ i. paths_from (suc n) d (i ∷ p)) (range_with_len 0 (length m.instances))
    ∙ (sum_same (λ i. sum_of c (paths_from (suc n) d (i ∷ p))) (λ i. below (instance_in m i)) (range_with_len 0 (length m.instances))
    (λ i. paths_sum d w n (i ∷ p)
    ∙ (ap (λ k. k + below_sum n d g (module_at d (i ∷ p))) (weight_below d w p i)
    ∙ ap (λ (u : Module). g (instance_in m i) + below_sum n d g u) (module_below d p i)))
    ∙ sum_places below no_instance m.instances [] 0 refl))

all_sum : (d : Design) (w : Parts → List Join → ℕ) →
    sum_of (λ q. w (own d q) (joins_at d q)) (paths d) ≡ w (own d []) [] + below_sum MAX_DEPTH d (λ i. w (module_in d i.of).own i.joins) (module_at d [])
unfolding paths
all_sum d w = rw add-one (paths_sum d w MAX_DEPTH [])

plain_paths : (d : Design) (h : IsDesign d) → length (filter (plain d h) (path_nets d)) ≡ sum_of (λ q. plain_count (own d q) (joins_at d q)) (paths d)
unfolding plain_count
plain_paths d h = count_by_path d (plain d h)

constant_paths : (d : Design) (h : IsDesign d) (b : Bool) →
    length (filter (constant d h b) (path_nets d)) ≡ sum_of (λ q. constant_count b (own d q) (joins_at d q)) (paths d)
unfolding constant_count
constant_paths d h b = count_by_path d (constant d h b)

-- the flat nets: the plain nets of the top and below it, and each constant once
pub nets_counted : (d : Design) → IsDesign d →
    length (flat_nets d) ≡ top_sum Plain d + (min 1 (top_sum (Constant false) d) + min 1 (top_sum (Constant true) d))
nets_counted d h =
    let N : Bool → ℕ = λ b. length (filter (constant d h b) (path_nets d)) in
    nets_are d h
    ∙ (ap (λ n. n + (min 1 (N false) + min 1 (N true))) plain_by_path
    ∙ (ap (λ n. top_sum Plain d + (min 1 n + min 1 (N true))) (constant_by_path false)
    ∙ ap (λ n. top_sum Plain d + (min 1 (top_sum (Constant false) d) + min 1 n)) (constant_by_path true)))
  where
    plain_by_path : length (filter (plain d h) (path_nets d)) ≡ top_sum Plain d
    plain_by_path = plain_paths d h ∙ all_sum d plain_count

    constant_by_path : (b : Bool) → length (filter (constant d h b) (path_nets d)) ≡ top_sum (Constant b) d
    constant_by_path b = constant_paths d h b ∙ all_sum d (constant_count b)

-- each flat net has a key
pub names_counted : (d : Design) → length (flat_parts d).names ≡ length (flat_nets d)
unfolding flat_parts
names_counted d = length-map (flat_nets d) (flat_key d)
