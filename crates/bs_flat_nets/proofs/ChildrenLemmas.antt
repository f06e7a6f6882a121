-- What an order by the numbers of modules' instances says of the modules.
use Rattle.std.proofs.Common.{◌≡◌, ℕ, zero, suc, ◌<◌, List, [], ◌∷◌, map, length, get_or, refl, arith, subst, ap, sym, ◌∙◌}
use Rattle.std.specs.List.{All}
use Rattle.std.proofs.lemmas.List.{length-map, get_or-map}
use Rattle.bs_flat_meaning.specs.Design.{Module, Instance, instance_in, no_instance}
use Rattle.bs_flat_meaning.specs.Ring as numbers
use Rattle.bs_flat_meaning.specs.Rings.{instanced_by}
use Rattle.bs_flat_meaning.specs.Ring.{place_in_order}
use Rattle.bs_flat_nets.specs.Blocks.{instance_of, module_of, numbers_of}
use Rattle.bs_flat_nets.specs.Order.{module_in, instanced, below_of, below_blocks, IsChildrenFirst, NumberedIsChildrenFirst}
use Rattle.bs_flat_nets.specs.declared.blocks.FlatModule.{FlatModule}
use Rattle.bs_flat_nets.specs.declared.blocks.Child.{Child}

instanced_at : (modules : List Module) (k : ℕ) → instanced_by (below_of modules) k ≡ instanced (module_in modules k)
instanced_at [] k = refl
instanced_at (m ∷ ms) zero = refl
instanced_at (m ∷ ms) (suc k) = instanced_at ms k

number_at : (modules : List Module) (k i : ℕ) → i < length (module_in modules k).instances →
    get_or (instanced_by (below_of modules) k) i 0 ≡ (instance_in (module_in modules k) i).of
number_at modules k i lt =
    ap (λ (ns : List ℕ). get_or ns i 0) (instanced_at modules k)
    ∙ get_or-map (λ (j : Instance). j.of) (module_in modules k).instances i no_instance 0 lt

numbers_count : (modules : List Module) (k : ℕ) → length (instanced_by (below_of modules) k) ≡ length (module_in modules k).instances
numbers_count modules k = ap length (instanced_at modules k) ∙ length-map (module_in modules k).instances (λ (j : Instance). j.of)

-- ---- what an order says

pub all_there : (modules : List Module) (order : List ℕ) → IsChildrenFirst modules order → All (λ k. k < length modules) order
all_there modules order o = λ k d lt. let there = o.placed k d lt in omega (arith, there, length-map modules instanced)

pub each_placed : (modules : List Module) (order : List ℕ) → IsChildrenFirst modules order → (k : ℕ) → k < length modules → place_in_order order k < length order
each_placed modules order o k lt = o.each k (omega (arith, lt, length-map modules instanced))

pub children_earlier : (modules : List Module) (order : List ℕ) → IsChildrenFirst modules order → (k i : ℕ) → i < length (module_in modules k).instances →
    place_in_order order (instance_in (module_in modules k) i).of < place_in_order order k
children_earlier modules order o k i lt =
    subst (λ n. place_in_order order n < place_in_order order k) (number_at modules k i lt) (o.earlier k i (omega (arith, lt, numbers_count modules k)))

-- ---- what is one

pub children_first : (modules : List Module) (order : List ℕ) → All (λ k. k < length modules) order →
    ((k : ℕ) → k < length modules → place_in_order order k < length order) → ((j : ℕ) → j < length order → place_in_order order (get_or order j 0) ≡ j) →
    ((k i : ℕ) → i < length (module_in modules k).instances → place_in_order order (instance_in (module_in modules k) i).of < place_in_order order k) →
    IsChildrenFirst modules order
children_first modules order there each once earlier =
    record {
      placed = λ k d lt. let inside = there k d lt in omega (arith, inside, length-map modules instanced);
      each = λ k lt. each k (omega (arith, lt, length-map modules instanced));
      once = once;
      earlier =
          λ k i li.
          let lt : i < length (module_in modules k).instances = omega (arith, li, numbers_count modules k) in
          subst (λ n. place_in_order order n < place_in_order order k) (sym (number_at modules k i lt)) (earlier k i lt);
    }

child_numbers : (cs : List Child) → map (λ (i : Instance). i.of) (map instance_of cs) ≡ numbers_of cs
child_numbers [] = refl
child_numbers (c ∷ cs) = ap (λ (ns : List ℕ). c.of ∷ ns) (child_numbers cs)

block_numbers : (blocks : List FlatModule) → below_of (map module_of blocks) ≡ below_blocks blocks
block_numbers [] = refl
block_numbers (b ∷ bs) =
    ap (λ (ns : List ℕ). ns ∷ below_of (map module_of bs)) (child_numbers b.children)
    ∙ ap (λ (l : List (List ℕ)). numbers_of b.children ∷ l) (block_numbers bs)

pub numbered_is_children_first : NumberedIsChildrenFirst
numbered_is_children_first blocks order o = subst (λ (l : List (List ℕ)). numbers.IsChildrenFirst l order) (sym (block_numbers blocks)) o
