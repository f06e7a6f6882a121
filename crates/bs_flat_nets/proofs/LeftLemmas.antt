-- The nets that joins leave to the instances of blocks, and to nodes.
use Rattle.std.proofs.Common.{◌≡◌, ℕ, ◌<◌, List, [], ◌∷◌, map, length, get_or, arith, ap, sym, ◌∙◌}
use Rattle.std.proofs.lemmas.List.{length-map, get_or-map}
use Rattle.bs_flat_meaning.specs.Design.{Module, Instance, no_instance, no_module, instance_in}
use Rattle.bs_flat_meaning.specs.declared.paths.Node.{Node}
use Rattle.bs_flat_nets.specs.Blocks.{module_of, instance_of, own_of}
use Rattle.bs_flat_nets.specs.Climbing.{node_at, AreClimbable}
use Rattle.bs_flat_nets.specs.Constants.{known_constants}
use Rattle.bs_flat_nets.specs.Order.{module_in}
use Rattle.bs_flat_nets.specs.Sums.{all_bits_of}
use Rattle.bs_flat_nets.specs.declared.blocks.FlatModule.{FlatModule}
use Rattle.bs_flat_nets.specs.declared.constants.Bit.{Bit}
use Rattle.bs_flat_nets.specs.Free.{free_nets, count_in, known_in, free_of_child, free_of_block, free_of_all}

pub some_of : {X : Type 0} (xs : List X) (k : ℕ) → k < length xs → X
some_of [] k lt = absurd (omega (arith, lt))
some_of (x ∷ xs) k lt = x

-- the nets that joins leave to each child of the block with a number
pub record IsFreeRow (blocks : List FlatModule) (m : ℕ) (row : List (List ℕ)) : Type 0 where
  pub block : FlatModule
  pub same : module_in (map module_of blocks) m ≡ module_of block
  pub are : row ≡ free_of_block blocks block

pub row_is : (blocks : List FlatModule) (m : ℕ) (free : List (List (List ℕ))) (row : List (List ℕ)) → free ≡ free_of_all blocks → m < length blocks →
    row ≡ get_or free m row → IsFreeRow blocks m row
row_is blocks m free row e lt er =
    let b = some_of blocks m lt in
    let same = get_or-map module_of blocks m b _ lt in
    record {
      block = get_or blocks m b;
      same = same;
      are = er ∙ (ap (λ (f : List (List (List ℕ))). get_or f m row) e ∙ get_or-map (free_of_block blocks) blocks m b row lt);
    }

pub row_wide : (blocks : List FlatModule) (m : ℕ) (row : List (List ℕ)) → IsFreeRow blocks m row →
    length row ≡ length (module_in (map module_of blocks) m).instances
row_wide blocks m row r =
    ap length r.are
    ∙ (length-map r.block.children (free_of_child blocks)
    ∙ (sym (length-map r.block.children instance_of) ∙ ap (λ (u : Module). length u.instances) (sym r.same)))

-- the nets that joins leave to one child
pub child_is : (blocks : List FlatModule) (m i : ℕ) (row : List (List ℕ)) (nets : List ℕ) → IsFreeRow blocks m row →
    i < length (module_in (map module_of blocks) m).instances → nets ≡ get_or row i nets →
    nets ≡ free_nets (instance_in (module_in (map module_of blocks) m) i).joins (count_in blocks (instance_in (module_in (map module_of blocks) m) i).of)
child_is blocks m i row nets r lt e =
    let b = r.block in
    let wide : length b.children ≡ length (module_in (map module_of blocks) m).instances =
    sym (length-map b.children instance_of) ∙ ap (λ (u : Module). length u.instances) (sym r.same) in
    let inside : i < length b.children = omega (arith, lt, wide) in
    let c = some_of b.children i inside in
    let child = get_or b.children i c in
    let instance : instance_in (module_in (map module_of blocks) m) i ≡ instance_of child =
    ap (λ (u : Module). instance_in u i) r.same ∙ get_or-map instance_of b.children i c no_instance inside in
    e
    ∙ (ap (λ (u : List (List ℕ)). get_or u i nets) r.are
    ∙ (get_or-map (free_of_child blocks) b.children i c nets inside
    ∙ ap (λ (u : Instance). free_nets u.joins (count_in blocks u.of)) (sym instance)))

-- of a node
pub parent_there : (blocks : List FlatModule) (nodes : List Node) (at : ℕ) → AreClimbable blocks nodes → 0 < at → at < length nodes →
    (node_at nodes (node_at nodes at).parent).of < length blocks
parent_there blocks nodes at climb pos lt =
    let up = climb.parent at pos lt in
    climb.block (node_at nodes at).parent (omega (arith, up, lt))

-- the constants of the block with a number
pub bits_is : (blocks : List FlatModule) (bits : List (List Bit)) (of : ℕ) (row : List Bit) → bits ≡ all_bits_of blocks → of < length blocks →
    row ≡ get_or bits of row → row ≡ known_in blocks of
bits_is blocks bits of row e lt er =
    let b = some_of blocks of lt in
    er
    ∙ (ap (λ (u : List (List Bit)). get_or u of row) e
    ∙ (get_or-map (λ (u : FlatModule). known_constants (own_of u)) blocks of b row lt
    ∙ ap (λ (m : Module). known_constants m.own) (sym (get_or-map module_of blocks of b no_module lt))))
