-- Sums over all paths depend on the modules alone.
use Rattle.std.proofs.Common.{◌≡◌, ℕ, zero, suc, ◌<◌, ◌+◌, List, [], ◌∷◌, ◌++◌, map, length, get_or, refl, arith, ap, sym, ◌∙◌}
use Rattle.std.specs.List.{flat_map, range_with_len}
use Rattle.std.proofs.lemmas.List.{length-append, length-map, get_or_at, length_push, append_assoc}
use Rattle.bs_net.specs.declared.net.Gate.{Gate}
use Rattle.bs_net.specs.declared.net.Flop.{Flop}
use Rattle.bs_flat_meaning.specs.declared.limits.TheConstants.{MAX_DEPTH}
use Rattle.bs_flat_meaning.specs.Design.{Design, Module, Instance, Path, At, on, own, no_instance, instance_in, module_in, module_at, paths_from, paths, gates, flops}
use Rattle.bs_flat_meaning.specs.Counts.{sum_of, total, IsTotal, parts_in, PartsAreSummed}

pub sum_append : {A : Type 0} (f : A → ℕ) (xs ys : List A) → sum_of f (xs ++ ys) ≡ sum_of f xs + sum_of f ys
unfolding sum_of
sum_append f [] ys = let none : sum_of f ys ≡ 0 + sum_of f ys = omega arith in none
sum_append f (x ∷ xs) ys =
    let rest = sum_append f xs ys in
    omega (arith, rest)

pub sum_flat : {A B : Type 0} (g : A → ℕ) (f : B → List A) (xs : List B) → sum_of g (flat_map f xs) ≡ sum_of (λ x. sum_of g (f x)) xs
unfolding sum_of
sum_flat g f [] = refl
sum_flat g f (x ∷ xs) = sum_append g (f x) (flat_map f xs) ∙ ap (λ n. sum_of g (f x) + n) (sum_flat g f xs)

pub sum_same : {A : Type 0} (f g : A → ℕ) (xs : List A) → ((x : A) → f x ≡ g x) → sum_of f xs ≡ sum_of g xs
unfolding sum_of
sum_same f g [] h = refl
sum_same f g (x ∷ xs) h = ap (λ n. n + sum_of f xs) (h x) ∙ ap (λ n. g x + n) (sum_same f g xs h)

pub sum_members : {A : Type 0} (f g : A → ℕ) (xs : List A) (d : A) → ((i : ℕ) → i < length xs → f (get_or xs i d) ≡ g (get_or xs i d)) →
    sum_of f xs ≡ sum_of g xs
unfolding sum_of
sum_members f g [] d h = refl
sum_members f g (x ∷ xs) d h =
    ap (λ n. n + sum_of f xs) (h 0 (omega arith)) ∙ ap (λ n. g x + n) (sum_members f g xs d (λ i lt. h (suc i) (omega (arith, lt))))

-- gates, flip-flops and paths are counted by the modules on the paths
counted : (d : Design) (ps : List Path) →
    length (flat_map (λ p. map (on p) (own d p).gates) ps) + (length (flat_map (λ p. map (on p) (own d p).flops) ps) + length ps)
    ≡ sum_of (λ q. parts_in (module_at d q)) ps
unfolding sum_of
counted d [] = refl
counted d (p ∷ ps) =
    let G : Path → List (At Gate) = λ q. map (on q) (own d q).gates in
    let F : Path → List (At Flop) = λ q. map (on q) (own d q).flops in
    let gs = length-append (G p) (flat_map G ps) in
    let fs = length-append (F p) (flat_map F ps) in
    let g = length-map (own d p).gates (on p) in
    let f = length-map (own d p).flops (on p) in
    let rest = counted d ps in
    omega (arith, gs, fs, g, f, rest)

-- a sum over places is a sum over members
pub sum_places : {A : Type 0} (g : A → ℕ) (d : A) (xs front : List A) (a : ℕ) → length front ≡ a →
    sum_of (λ i. g (get_or (front ++ xs) i d)) (range_with_len a (length xs)) ≡ sum_of g xs
unfolding sum_of
sum_places g d [] front a e = refl
sum_places {A} g d (x ∷ xs) front a e =
    let here : get_or (front ++ x ∷ xs) a d ≡ x = get_or_at front x xs d a e in
    let next : length (front ++ x ∷ []) ≡ a + 1 = length_push front x ∙ ap (λ n. n + 1) e in
    let lists : (front ++ x ∷ []) ++ xs ≡ front ++ x ∷ xs = append_assoc front (x ∷ []) xs in
    ap (λ y. g y + sum_of (λ i. g (get_or (front ++ x ∷ xs) i d)) (range_with_len (a + 1) (length xs))) here
    ∙ ap (λ n. g x + n) (ap (λ (l : List A). sum_of (λ i. g (get_or l i d)) (range_with_len (a + 1) (length xs))) (sym lists)
    ∙ sum_places g d xs (front ++ x ∷ []) (a + 1) next)

pub module_below : (d : Design) (p : Path) (i : ℕ) → module_at d (i ∷ p) ≡ module_in d (instance_in (module_at d p) i).of
unfolding module_at
module_below d p i = refl

-- the sum over the paths below a path, by its module
pub paths_total : (n : ℕ) (d : Design) (f : Module → ℕ) (p : Path) → sum_of (λ q. f (module_at d q)) (paths_from n d p) ≡ total n d f (module_at d p)
unfolding paths_from total sum_of
paths_total zero d f p = refl
paths_total (suc n) d f p =
    let m = module_at d p in
    let F : Path → ℕ = λ q. f (module_at d q) in
    ap (λ k. f m + k)
    (sum_flat F (λ i. paths_from n d (i ∷ p)) (range_with_len 0 (length m.instances))
    ∙ (sum_same (λ i. sum_of F (paths_from n d (i ∷ p))) (λ i. total n d f (module_in d (instance_in m i).of)) (range_with_len 0 (length m.instances))
    (λ i. paths_total n d f (i ∷ p) ∙ ap (total n d f) (module_below d p i))
    ∙ sum_places (λ (x : Instance). total n d f (module_in d x.of)) no_instance m.instances [] 0 refl))

-- sums that are right for the instances are the totals, where the levels suffice
pub total_is : (d : Design) (f : Module → ℕ) (v rank : ℕ → ℕ) → IsTotal d f v rank → (n k : ℕ) → rank k < n → total n d f (module_in d k) ≡ v k
unfolding total
total_is d f v rank t zero k lt = absurd (omega (arith, lt))
total_is d f v rank t (suc n) k lt =
    let m = module_in d k in
    ap (λ s. f m + s)
    (sum_members (λ (i : Instance). total n d f (module_in d i.of)) (λ (i : Instance). v i.of) m.instances no_instance
    (λ i li. let less = t.falls k i li in total_is d f v rank t n (instance_in m i).of (omega (arith, less, lt))))
    ∙ sym (t.sums k)

all_counted : (d : Design) → length (gates d) + (length (flops d) + length (paths d)) ≡ sum_of (λ q. parts_in (module_at d q)) (paths d)
all_counted d = counted d (paths d)

paths_summed : (d : Design) → sum_of (λ q. parts_in (module_at d q)) (paths d) ≡ total (MAX_DEPTH + 1) d parts_in (module_at d [])
unfolding paths
paths_summed d = paths_total (MAX_DEPTH + 1) d parts_in []

top_module : (d : Design) → module_at d [] ≡ module_in d d.top
unfolding module_at
top_module d = refl

pub parts_are_summed : PartsAreSummed
parts_are_summed d v rank t le =
    all_counted d
    ∙ (paths_summed d
    ∙ (ap (total (MAX_DEPTH + 1) d parts_in) (top_module d) ∙ total_is d parts_in v rank t (MAX_DEPTH + 1) d.top (omega (arith, le))))
