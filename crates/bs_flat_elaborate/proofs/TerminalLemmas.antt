-- The inputs of all gates, the constants and the ports of the top, by sums over modules and over paths.
use Rattle.std.proofs.Common.{◌≡◌, ℕ, zero, suc, ◌+◌, ◌<◌, ◌≤◌, true, false, nat_lt, List, [], ◌∷◌, map, length, get_or, take, refl, sym, ap, ◌∙◌}
use Rattle.std.proofs.Common.{arith}
use Rattle.std.specs.List.{All, sum_by, flat_map}
use Rattle.std.specs.Prelude.{◌^◌, Bool, filter, not}
use Rattle.std.proofs.lemmas.Bool.{lt-ltb, ltb-false}
use Rattle.std.proofs.lemmas.List.{length-map}
use Rattle.std.proofs.lemmas.List.Concat.{length-flat_map}
use Rattle.std.proofs.lemmas.List.Elements.{All-nil, All-cons, All-map, All-weaker}
use Rattle.std.proofs.lemmas.List.Sums.{count_by-le-length, length-filter, sum_by-append, sum_by-cons, sum_by-take-le}
use Rattle.bs_net.specs.declared.net.Gate.{Gate}
use Rattle.bs_flat_meaning.specs.Design.{Design, Path, At, on, PathNet, own, module_at, module_in, paths, constants, flops, gates}
use Rattle.bs_flat_meaning.specs.Reading.{part_count, terminal_count}
use Rattle.bs_flat_meaning.specs.Flat.{flat_const, flat_flop, flat_gate, flat_key, flat_net, flat_nets, flat_parts, is_repeat}
use Rattle.bs_flat_meaning.specs.Paths.{ArePaths, no_node}
use Rattle.bs_flat_meaning.specs.declared.paths.Node.{Node}
use Rattle.bs_flat_meaning.specs.declared.limits.TheConstants.{MAX_PARTS, MAX_TERMINALS}
use Rattle.bs_net.specs.declared.limits.TheConstants.{MAX_NETS}
use Rattle.bs_flat_nets.specs.Blocks.{design_of}
use Rattle.bs_flat_nets.specs.declared.blocks.FlatModule.{FlatModule}
use Rattle.bs_flat_nets.specs.Numbering.{net_at}
use Rattle.bs_flat_nets.specs.declared.climbing.NetOnPath.{NetOnPath}
use Rattle.bs_flat_elaborate.specs.Whole.{AreShort}
use Rattle.bs_flat_elaborate.specs.Terminals.{gate_terminals, port_terminals, terminals_in, terminals_of}

-- ---- a sum on the way

pub one_more : {A : Type 0} (f : A → ℕ) (xs : List A) (i : ℕ) (d : A) → i < length xs
    → sum_by f (take (i + 1) xs) ≡ sum_by f (take i xs) + f (get_or xs i d)
one_more f [] i d h = absurd (omega (arith, h))
one_more f (x ∷ xs) zero d h = refl
one_more f (x ∷ xs) (suc i) d h =
    let later = one_more f xs i d (omega (arith, h)) in
    let shift : suc i + 1 ≡ suc (i + 1) = omega arith in
    let here = sum_by-cons f x (take i xs) in
    let there = sum_by-cons f x (take (i + 1) xs) in
    let both : f x + sum_by f (take (i + 1) xs) ≡ (f x + sum_by f (take i xs)) + f (get_or xs i d) = omega (arith, later) in
    ap (λ k. sum_by f (take k (x ∷ xs))) shift ∙ (there ∙ both ∙ ap (λ n. n + f (get_or xs i d)) (sym here))

-- with the next member the room is passed, and so it is with all
pub past : {A : Type 0} (f : A → ℕ) (xs : List A) (i left room : ℕ) (d : A) → i < length xs → left + sum_by f (take i xs) ≡ room
    → left < f (get_or xs i d) → room < sum_by f xs
past f xs i left room d h so_far wide =
    let more = one_more f xs i d h in
    let whole = sum_by-take-le f xs (i + 1) in
    omega (arith, more, whole, so_far, wide)

pub many : (room count : ℕ) → room < count → true ≡ nat_lt room count
many room count h = sym (lt-ltb room count h)

-- ---- paths and nodes

sum_flat : {A B : Type 0} (f : B → ℕ) (g : A → List B) (xs : List A) → sum_by f (flat_map g xs) ≡ sum_by (λ x. sum_by f (g x)) xs
sum_flat f g [] = refl
sum_flat f g (x ∷ xs) =
    sum_by-append f (g x) (flat_map g xs) ∙ ap (λ n. sum_by f (g x) + n) (sum_flat f g xs) ∙ sym (sum_by-cons (λ x. sum_by f (g x)) x xs)

sum_map : {A B : Type 0} (f : B → ℕ) (g : A → B) (xs : List A) → sum_by f (map g xs) ≡ sum_by (λ x. f (g x)) xs
sum_map f g [] = refl
sum_map f g (x ∷ xs) =
    sum_by-cons f (g x) (map g xs) ∙ ap (λ n. f (g x) + n) (sum_map f g xs) ∙ sym (sum_by-cons (λ x. f (g x)) x xs)

sum_each : {A : Type 0} (f g : A → ℕ) (xs : List A) → ((x : A) → f x ≡ g x) → sum_by f xs ≡ sum_by g xs
sum_each f g [] h = refl
sum_each f g (x ∷ xs) h =
    sum_by-cons f x xs ∙ ap (λ n. n + sum_by f xs) (h x) ∙ ap (λ n. g x + n) (sum_each f g xs h) ∙ sym (sum_by-cons g x xs)

sum_same : {A B : Type 0} (f : A → ℕ) (g : B → ℕ) (xs : List A) (ys : List B) (a : A) (b : B) → length xs ≡ length ys
    → ((k : ℕ) → k < length xs → f (get_or xs k a) ≡ g (get_or ys k b)) → sum_by f xs ≡ sum_by g ys
sum_same f g [] [] a b e h = refl
sum_same f g [] (y ∷ ys) a b e h = absurd (omega (arith, e))
sum_same f g (x ∷ xs) [] a b e h = absurd (omega (arith, e))
sum_same f g (x ∷ xs) (y ∷ ys) a b e h =
    sum_by-cons f x xs ∙ ap (λ n. n + sum_by f xs) (h 0 (omega arith))
    ∙ ap (λ n. g y + n) (sum_same f g xs ys a b (omega (arith, e)) (λ k lt. h (suc k) (omega (arith, lt))))
    ∙ sym (sum_by-cons g y ys)

sum_both : {A : Type 0} (f g : A → ℕ) (xs : List A) → sum_by (λ x. f x + g x) xs ≡ sum_by f xs + sum_by g xs
sum_both f g [] = refl
sum_both f g (x ∷ xs) =
    let both = sum_by-cons (λ y. f y + g y) x xs in
    let first = sum_by-cons f x xs in
    let second = sum_by-cons g x xs in
    let later = sum_both f g xs in
    omega (arith, both, first, second, later)

-- what stands on all paths, path by path
inputs_by_paths : (d : Design) → sum_by (λ (g : At Gate). length g.it.ins) (gates d) ≡ sum_by (λ p. sum_by gate_terminals (own d p).gates) (paths d)
inputs_by_paths d =
    sum_flat (λ (g : At Gate). length g.it.ins) (λ p. map (on p) (own d p).gates) (paths d)
    ∙ sum_each (λ p. sum_by (λ (g : At Gate). length g.it.ins) (map (on p) (own d p).gates)) (λ p. sum_by gate_terminals (own d p).gates) (paths d)
    (λ p. sum_map (λ (g : At Gate). length g.it.ins) (on p) (own d p).gates)

constants_by_paths : (d : Design) → length (constants d) ≡ sum_by (λ p. length (own d p).consts) (paths d)
constants_by_paths d =
    length-flat_map (λ p. map (on p) (own d p).consts) (paths d)
    ∙ sum_each (λ p. length (map (on p) (own d p).consts)) (λ p. length (own d p).consts) (paths d) (λ p. length-map (own d p).consts (on p))

by_paths : (d : Design) → terminal_count d ≡ sum_by (λ p. terminals_in (module_at d p)) (paths d) + port_terminals (module_at d [])
by_paths d =
    let inputs = inputs_by_paths d in
    let consts = constants_by_paths d in
    let both = sum_both (λ p. sum_by gate_terminals (own d p).gates) (λ p. length (own d p).consts) (paths d) in
    omega (arith, inputs, consts, both)

top_ports : (d : Design) → port_terminals (module_at d []) ≡ port_terminals (module_in d d.top)
unfolding module_at
top_ports d = refl

-- what stands on all paths stands on the nodes
pub terminals_are : (blocks : List FlatModule) (nodes : List Node) (top : ℕ) → ArePaths (design_of blocks top) nodes (paths (design_of blocks top))
    → terminals_of blocks nodes top ≡ terminal_count (design_of blocks top)
terminals_are blocks nodes top stand =
    let d = design_of blocks top in
    let same =
    sum_same (λ (n : Node). terminals_in (module_in d n.of)) (λ (p : Path). terminals_in (module_at d p)) nodes (paths d) no_node [] stand.count
    (λ k lt. ap terminals_in (stand.each k lt).same) in
    ap (λ n. n + port_terminals (module_in d top)) same
    ∙ ap (λ n. sum_by (λ (p : Path). terminals_in (module_at d p)) (paths d) + n) (sym (top_ports d)) ∙ sym (by_paths d)

-- ---- what the limits leave

all_within : {A : Type 0} (f : A → ℕ) (xs : List A) → All (λ x. f x ≤ sum_by f xs) xs
all_within f [] = All-nil (λ x. f x ≤ 0)
all_within f (x ∷ xs) =
    let whole = sum_by-cons f x xs in
    All-cons (λ y. f y ≤ sum_by f (x ∷ xs)) x xs (omega (arith, whole))
    (All-weaker (λ y. f y ≤ sum_by f xs) (λ y. f y ≤ sum_by f (x ∷ xs)) (λ y h. omega (arith, whole, h)) xs (all_within f xs))

filtered_few : {A : Type 0} (p : A → Bool) (xs : List A) → length (filter p xs) ≤ length xs
filtered_few p xs = let count = length-filter p xs in let few = count_by-le-length p xs in omega (arith, count, few)

-- the flat parts of a design that passes the limits
pub flat_short : (d : Design) → nat_lt MAX_PARTS (part_count d) ≡ false → nat_lt MAX_TERMINALS (terminal_count d) ≡ false → AreShort (flat_parts d)
unfolding flat_parts
flat_short d parts narrow =
    let most = ltb-false MAX_PARTS (part_count d) parts in
    let wide = ltb-false MAX_TERMINALS (terminal_count d) narrow in
    let inputs = length-map (own d []).inputs (flat_net d []) in
    let outputs = length-map (own d []).outputs (flat_net d []) in
    let kept = filtered_few (λ k. not (is_repeat d k)) (constants d) in
    let consts = length-map (filter (λ k. not (is_repeat d k)) (constants d)) (flat_const d) in
    let gate_count = length-map (gates d) (flat_gate d) in
    let flop_count = length-map (flops d) (flat_flop d) in
    record {
      inputs_few = omega (arith, inputs, wide);
      outputs_few = omega (arith, outputs, wide);
      consts_few = omega (arith, consts, kept, wide);
      gates_few = omega (arith, gate_count, most);
      narrow =
          All-map (λ (g : Gate). length g.ins < 2 ^ 32) (flat_gate d) (gates d)
          (All-weaker (λ (g : At Gate). length g.it.ins ≤ sum_by (λ (k : At Gate). length k.it.ins) (gates d))
          (λ (g : At Gate). length (flat_gate d g).ins < 2 ^ 32)
          (λ g h. let same = length-map g.it.ins (flat_net d g.path) in omega (arith, same, h, wide)) (gates d)
          (all_within (λ (g : At Gate). length g.it.ins) (gates d)));
      flops_few = omega (arith, flop_count, most);
    }

-- the paths of a design that passes the limits
pub paths_few : (d : Design) (nodes : List Node) → nat_lt MAX_PARTS (part_count d) ≡ false → ArePaths d nodes (paths d)
    → length nodes ≤ MAX_PARTS + 1
paths_few d nodes parts stand =
    let most = ltb-false MAX_PARTS (part_count d) parts in
    let count = stand.count in
    omega (arith, most, count)

-- the flat nets of a design that passes the limits
pub places_few : (d : Design) (places : List NetOnPath) → nat_lt MAX_NETS (length (flat_parts d).names) ≡ false
    → map (net_at d) places ≡ flat_nets d → length places ≤ MAX_NETS
unfolding flat_parts
places_few d places nets e =
    let most = ltb-false MAX_NETS (length (map (flat_key d) (flat_nets d))) nets in
    let named = length-map (flat_nets d) (flat_key d) in
    let placed = length-map places (net_at d) in
    let same = ap (λ (l : List PathNet). length l) e in
    omega (arith, most, named, placed, same)
