-- The design of blocks has the instances that the blocks have.
use Rattle.std.proofs.Common.{◌≡◌, ℕ, zero, suc, ◌<◌, List, [], ◌∷◌, refl, length, get_or, map, arith, subst, ap, sym, ◌∙◌}
use Rattle.std.specs.List.{All}
use Rattle.std.proofs.lemmas.List.{length-map, get_or-map}
use Rattle.bs_flat_meaning.specs.Design.{Module, no_module, no_instance, instance_in, module_in}
use Rattle.bs_flat_meaning.specs.Paths.{IsOf, AreModules, no_instanced}
use Rattle.bs_flat_meaning.specs.declared.paths.Instanced.{Instanced}
use Rattle.bs_flat_nets.specs.Blocks.{design_of, instance_of, module_of, AreThere, numbers_of, shape_of}
use Rattle.bs_flat_nets.specs.declared.blocks.FlatModule.{FlatModule}
use Rattle.bs_flat_nets.specs.declared.blocks.Child.{Child}

-- the instances of a block and of its shape
same_count : (b : FlatModule) → length (module_of b).instances ≡ length (shape_of b).instances
same_count b = length-map b.children instance_of ∙ sym (length-map b.children (λ (c : Child). c.of))

same_of : (cs : List Child) (i : ℕ) → i < length (numbers_of cs) → (get_or (map instance_of cs) i no_instance).of ≡ get_or (numbers_of cs) i 0
same_of [] i lt = absurd (omega (arith, lt))
same_of (c ∷ cs) zero lt = refl
same_of (c ∷ cs) (suc i) lt = same_of cs i (omega (arith, lt))

pub block_in : (blocks : List FlatModule) (top k : ℕ) (b : FlatModule) → k < length blocks →
    (module_in (design_of blocks top) k ≡ module_of (get_or blocks k b)) × (get_or (map shape_of blocks) k no_instanced ≡ shape_of (get_or blocks k b))
block_in blocks top k b lt = (get_or-map module_of blocks k b no_module lt, get_or-map shape_of blocks k b no_instanced lt)

-- some block, where there is one
first_of : (blocks : List FlatModule) (k : ℕ) → k < length blocks → FlatModule
first_of [] k lt = absurd (omega (arith, lt))
first_of (b ∷ bs) k lt = b

pub blocks_are : (blocks : List FlatModule) (top : ℕ) → IsOf (map shape_of blocks) (design_of blocks top)
blocks_are blocks top =
    let d = design_of blocks top in
    let wide : length (map shape_of blocks) ≡ length blocks = length-map blocks shape_of in
    record {
      count =
          λ k lt.
          let there : k < length blocks = omega (arith, lt, wide) in
          let b = first_of blocks k there in
          let r = block_in blocks top k b there in
          ap (λ (m : Module). length m.instances) r.0 ∙ (same_count (get_or blocks k b) ∙ ap (λ (s : Instanced). length s.instances) (sym r.1));
      of =
          λ k i lt li.
          let there : k < length blocks = omega (arith, lt, wide) in
          let b = first_of blocks k there in
          let r = block_in blocks top k b there in
          let li2 : i < length (shape_of (get_or blocks k b)).instances = subst (λ (s : Instanced). i < length s.instances) r.1 li in
          ap (λ (m : Module). (instance_in m i).of) r.0
          ∙ (same_of (get_or blocks k b).children i li2 ∙ ap (λ (s : Instanced). get_or s.instances i 0) (sym r.1));
    }

pub shapes_within : (blocks : List FlatModule) → AreThere blocks → AreModules (map shape_of blocks)
shapes_within blocks t =
    λ k s lt i n li.
    let wide : length (map shape_of blocks) ≡ length blocks = length-map blocks shape_of in
    let there : k < length blocks = omega (arith, lt, wide) in
    let b = first_of blocks k there in
    let same : get_or (map shape_of blocks) k s ≡ shape_of (get_or blocks k b) = get_or-map shape_of blocks k b s there in
    let li2 : i < length (numbers_of (get_or blocks k b).children) = subst (λ (u : Instanced). i < length u.instances) same li in
    let inside : get_or (numbers_of (get_or blocks k b).children) i n < length blocks =
    number_within (length blocks) (get_or blocks k b).children i n (t k b there) li2 in
    subst (λ (u : Instanced). get_or u.instances i n < length (map shape_of blocks)) (sym same) (omega (arith, inside, wide))
  where
    number_within : (count : ℕ) (cs : List Child) (i n : ℕ) → All (λ (c : Child). c.of < count) cs → i < length (numbers_of cs) →
        get_or (numbers_of cs) i n < count
    number_within count [] i n a lt = absurd (omega (arith, lt))
    number_within count (c ∷ cs) zero n a lt = a 0 c (omega arith)
    number_within count (c ∷ cs) (suc i) n a lt = number_within count cs i n (λ j e lj. a (suc j) e (omega (arith, lj))) (omega (arith, lt))
