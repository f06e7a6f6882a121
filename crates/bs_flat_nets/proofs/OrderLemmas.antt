-- A table that is filled along an order follows its rule.
use Rattle.std.proofs.Common.{◌≡◌, ℕ, ◌<◌, ◌≤◌, ◌+◌, min, List, [], ◌∷◌, map, length, get_or, set, refl, arith, subst, ap, sym, ◌∙◌, ⊎_elim, nat_eq}
use Rattle.std.proofs.Common.{get_or-set_same, get_or-set_other}
use Rattle.std.proofs.lemmas.Bool.{cases_lt, eqb-true}
use Rattle.std.proofs.lemmas.List.{get_or_past, get_or-map, length-map}
use Rattle.std.specs.List.{All}
use Rattle.std.proofs.lemmas.List.Sums.{passes_at_first}
use Rattle.bs_flat_meaning.specs.Design.{Module, Instance, instance_in, no_module, no_instance}
use Rattle.bs_flat_meaning.specs.Counts.{sum_of, tallest}
use Rattle.bs_flat_nets.specs.Blocks.{instance_of, module_of}
use Rattle.bs_flat_nets.specs.declared.blocks.FlatModule.{FlatModule}
use Rattle.bs_flat_nets.specs.declared.blocks.Child.{Child}
use Rattle.bs_flat_meaning.specs.Ring.{place_in_order}
use Rattle.bs_flat_nets.specs.Order.{module_in, IsChildrenFirst}
use Rattle.bs_flat_nets.proofs.ChildrenLemmas.{all_there, each_placed, children_earlier}
use Rattle.bs_flat_nets.specs.Tables.{Follows, FollowsFirst, depth_by, count_by_parts, own_count}

-- a rule reads the numbers of the instances' modules alone
pub record IsLocal (rule : (ℕ → ℕ) → Module → ℕ) : Type 0 where
  pub same : (s t : ℕ → ℕ) (m : Module) → ((i : ℕ) → i < length m.instances → s (instance_in m i).of ≡ t (instance_in m i).of) → rule s m ≡ rule t m

pub follows_none : (rule : (ℕ → ℕ) → Module → ℕ) (past : ℕ) (modules : List Module) (order table : List ℕ) → FollowsFirst rule past modules order 0 table
follows_none rule past modules order table = record { each = λ j lt. absurd (omega (arith, lt)) }

-- the numbers of modules that stand before another in the order stay where that one's is set
kept : (past : ℕ) (order table : List ℕ) (m c v : ℕ) → place_in_order order c < place_in_order order m → get_or (set table m v) c past ≡ get_or table c past
kept past order table m c v less =
    let apart : c ≡ m → ⊥ = λ e. let same = ap (place_in_order order) e in omega (arith, less, same) in
    get_or-set_other table m c v past apart

pub follows_more : (rule : (ℕ → ℕ) → Module → ℕ) (past : ℕ) (modules : List Module) (order table after : List ℕ) (i m v : ℕ) → IsLocal rule →
    IsChildrenFirst modules order → i < length order → m ≡ get_or order i 0 → m < length table →
    v ≡ rule (λ j. get_or table j past) (module_in modules m) → after ≡ set table m v →
    FollowsFirst rule past modules order i table → FollowsFirst rule past modules order (i + 1) after
follows_more rule past modules order table after i m v l o lt em wide ev ea first =
    let here : place_in_order order m ≡ i = ap (place_in_order order) em ∙ o.once i lt in
    let At : List ℕ → ℕ → ℕ = λ t j. get_or t j past in
    let below : (k : ℕ) → place_in_order order k ≤ i → rule (At after) (module_in modules k) ≡ rule (At table) (module_in modules k) =
    λ k le.
    l.same (At after) (At table) (module_in modules k)
    (λ x lx.
    let less = children_earlier modules order o k x lx in
    ap (λ (t : List ℕ). get_or t (instance_in (module_in modules k) x).of past) ea
    ∙ kept past order table m (instance_in (module_in modules k) x).of v (omega (arith, less, le, here))) in
    record {
      each =
          λ j lj.
          let k = get_or order j 0 in
          ⊎_elim
          (λ (b : j < i).
          let place : place_in_order order k ≡ j = o.once j (omega (arith, b, lt)) in
          ap (λ (t : List ℕ). get_or t k past) ea
          ∙ (kept past order table m k v (omega (arith, b, place, here))
          ∙ (first.each j b ∙ sym (below k (omega (arith, b, place))))))
          (λ (g : i ≤ j).
          let same : j ≡ i = omega (arith, g, lj) in
          let km : k ≡ m = ap (λ n. get_or order n 0) same ∙ sym em in
          subst (λ n. At after n ≡ rule (At after) (module_in modules n)) (sym km)
          (ap (λ (t : List ℕ). get_or t m past) ea
          ∙ (get_or-set_same table m v past wide ∙ (ev ∙ sym (below m (omega (arith, here)))))))
          (cases_lt j i);
    }

pub follows_all : (rule : (ℕ → ℕ) → Module → ℕ) (past : ℕ) (modules : List Module) (order table : List ℕ) (count : ℕ) → IsChildrenFirst modules order →
    ((v : ℕ → ℕ) → rule v no_module ≡ past) → length table ≡ length modules → length order ≤ count →
    FollowsFirst rule past modules order count table → Follows rule past modules table
follows_all rule past modules order table count o rest wide all first =
    let At : ℕ → ℕ = λ j. get_or table j past in
    record {
      each =
          λ k.
          ⊎_elim
          (λ (b : k < length modules).
          let there = each_placed modules order o k b in
          let read : k ≡ get_or order (place_in_order order k) 0 = eqb-true k (get_or order (place_in_order order k) 0) (passes_at_first (nat_eq k) order 0 there) in
          subst (λ n. At n ≡ rule At (module_in modules n)) (sym read) (first.each (place_in_order order k) (omega (arith, there, all))))
          (λ (g : length modules ≤ k).
          get_or_past table k past (omega (arith, g, wide))
          ∙ (sym (rest At) ∙ ap (rule At) (sym (get_or_past modules k no_module g))))
          (cases_lt k (length modules));
    }

-- ---- the modules of blocks

pub block_is : (blocks : List FlatModule) (m : ℕ) (b : FlatModule) → m < length blocks → b ≡ get_or blocks m b → module_in (map module_of blocks) m ≡ module_of b
block_is blocks m b lt e = get_or-map module_of blocks m b no_module lt ∙ ap module_of (sym e)

pub in_order : (blocks : List FlatModule) (order : List ℕ) (i : ℕ) → IsChildrenFirst (map module_of blocks) order → i < length order →
    get_or order i 0 < length blocks
in_order blocks order i o lt = let there = all_there (map module_of blocks) order o i 0 lt in omega (arith, there, length-map blocks module_of)

-- an instance of a block is of a module that is there
pub children_within : (blocks : List FlatModule) (order : List ℕ) (m : ℕ) (b : FlatModule) → IsChildrenFirst (map module_of blocks) order → m < length blocks →
    b ≡ get_or blocks m b → All (λ (c : Child). c.of < length blocks) b.children
children_within blocks order m b o lt e =
    λ x d lx.
    let modules = map module_of blocks in
    let wide : length modules ≡ length blocks = length-map blocks module_of in
    let same = block_is blocks m b lt e in
    let k = (get_or b.children x d).of in
    let count : length (map instance_of b.children) ≡ length b.children = length-map b.children instance_of in
    let lx2 : x < length (module_in modules m).instances = subst (λ (u : Module). x < length u.instances) (sym same) (omega (arith, lx, count)) in
    let child : (instance_in (module_in modules m) x).of ≡ k =
    ap (λ (u : Module). (instance_in u x).of) same ∙ ap (λ (u : Instance). u.of) (get_or-map instance_of b.children x d no_instance lx) in
    let less : place_in_order order (instance_in (module_in modules m) x).of < place_in_order order m = children_earlier modules order o m x lx2 in
    let here : place_in_order order m < length order = each_placed modules order o m (omega (arith, lt, wide)) in
    let there : place_in_order order k < length order = subst (λ n. place_in_order order n < length order) child (omega (arith, less, here)) in
    let read : k ≡ get_or order (place_in_order order k) 0 = eqb-true k (get_or order (place_in_order order k) 0) (passes_at_first (nat_eq k) order 0 there) in
    subst (λ n. n < length blocks) (sym read) (in_order blocks order (place_in_order order k) o there)

tallest_map : {A B : Type 0} (f : B → ℕ) (g : A → B) (xs : List A) → tallest f (map g xs) ≡ tallest (λ x. f (g x)) xs
unfolding tallest
tallest_map f g [] = refl
tallest_map f g (x ∷ xs) = let rest = tallest_map f g xs in omega (arith, rest)

pub sum_map : {A B : Type 0} (f : B → ℕ) (g : A → B) (xs : List A) → sum_of f (map g xs) ≡ sum_of (λ x. f (g x)) xs
unfolding sum_of
sum_map f g [] = refl
sum_map f g (x ∷ xs) = ap (λ n. f (g x) + n) (sum_map f g xs)

-- what the rules give for a block
pub depth_rule : (blocks : List FlatModule) (m bound : ℕ) (b : FlatModule) (v : ℕ → ℕ) → m < length blocks → b ≡ get_or blocks m b →
    depth_by bound v (module_in (map module_of blocks) m) ≡ min bound (tallest (λ (c : Child). v c.of) b.children)
depth_rule blocks m bound b v lt e =
    ap (depth_by bound v) (block_is blocks m b lt e) ∙ ap (min bound) (tallest_map (λ (i : Instance). v i.of) instance_of b.children)

pub count_rule : (blocks : List FlatModule) (m bound own : ℕ) (b : FlatModule) (v : ℕ → ℕ) → m < length blocks → b ≡ get_or blocks m b →
    own ≡ min bound (own_count b) →
    count_by_parts bound v (module_in (map module_of blocks) m) ≡ min bound (own + sum_of (λ (c : Child). v c.of) b.children)
count_rule blocks m bound own b v lt e eo =
    ap (count_by_parts bound v) (block_is blocks m b lt e)
    ∙ (ap (λ n. min bound (own_count b + n)) (sum_map (λ (i : Instance). v i.of) instance_of b.children)
    ∙ ends (own_count b) own (sum_of (λ (c : Child). v c.of) b.children) eo)
  where
    ends : (a o s : ℕ) → o ≡ min bound a → min bound (a + s) ≡ min bound (o + s)
    ends a o s q = omega (arith, q)
