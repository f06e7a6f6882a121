-- The weights of children, and the count of flat nets by sums.
use Rattle.std.proofs.Common.{◌≡◌, ℕ, ◌<◌, ◌+◌, min, Bool, true, false, List, [], map, length, get_or, nat_lt, refl, arith, subst, ap}
use Rattle.std.proofs.Common.{sym, ◌∙◌, lt-ltb, le-ltb, nat_eq}
use Rattle.std.specs.Prelude.{string_bytes}
use Rattle.std.specs.List.{All, flat_map, IsDistinct}
use Rattle.std.proofs.lemmas.Bool.{ltb-true, ltb-false}
use Rattle.std.proofs.lemmas.List.{length-map, get_or-map}
use Rattle.bs_net.specs.declared.net.Const.{Const}
use Rattle.bs_flat_meaning.specs.Design.{Design, Module, Instance, Join, no_module, no_instance, own, module_at}
use Rattle.bs_flat_meaning.specs.Flat.{IsDesign, IsModule, IsInstance, flat_parts}
use Rattle.bs_flat_meaning.specs.Counts.{sum_of}
use Rattle.bs_flat_nets.specs.Blocks.{joins_of_run, own_of, instance_of, module_of, design_of}
use Rattle.bs_flat_nets.specs.Constants.{known_constants}
use Rattle.bs_flat_nets.specs.Order.{module_in}
use Rattle.bs_flat_nets.specs.Nets.{weigh, sum_below}
use Rattle.bs_flat_nets.specs.Sums.{weight_in, top_sum, IsFit, all_bits_of}
use Rattle.bs_flat_nets.specs.declared.joined.Counted.{Counted}
use Rattle.bs_flat_nets.specs.declared.joined.Counted.TheVariants.{Plain, Constant}
use Rattle.bs_flat_nets.specs.declared.constants.Bit.{Bit}
use Rattle.bs_flat_nets.specs.declared.blocks.FlatModule.{FlatModule}
use Rattle.bs_flat_nets.specs.declared.blocks.Child.{Child}
use Rattle.bs_flat_nets.proofs.OrderLemmas.{block_is, sum_map}
use Rattle.bs_flat_nets.proofs.NetLemmas.{nets_counted, names_counted}

-- ---- what a design of blocks keeps

module_keeps : (blocks : List FlatModule) (top k : ℕ) (b : FlatModule) → IsDesign (design_of blocks top) → k < length blocks →
    IsModule (design_of blocks top) (module_of (get_or blocks k b))
module_keeps blocks top k b h lt =
    subst (λ (m : Module). IsModule (design_of blocks top) m) (get_or-map module_of blocks k b no_module lt)
    (h k no_module (omega (arith, lt, length-map blocks module_of)))

pub consts_placed : (blocks : List FlatModule) (top : ℕ) → IsDesign (design_of blocks top) →
    All (λ (b : FlatModule). All (λ (k : Const). k.net.0 < length b.names) b.consts) blocks
consts_placed blocks top h =
    λ k b lt.
    let block = get_or blocks k b in
    subst (λ n. All (λ (c : Const). c.net.0 < n) block.consts) (length-map block.names string_bytes) (module_keeps blocks top k b h lt).nets.consts

pub children_fit : (blocks : List FlatModule) (top : ℕ) → IsDesign (design_of blocks top) → All (λ (b : FlatModule). All (IsFit blocks) b.children) blocks
children_fit blocks top h =
    λ k b lt x c lx.
    let d = design_of blocks top in
    let block = get_or blocks k b in
    let count : length (map instance_of block.children) ≡ length block.children = length-map block.children instance_of in
    let s = (module_keeps blocks top k b h lt).instances x no_instance (omega (arith, lx, count)) in
    let i : IsInstance (module_of block) (module_in d.modules (get_or block.children x c).of) (instance_of (get_or block.children x c)) =
    subst (λ (u : Instance). IsInstance (module_of block) (module_in d.modules u.of) u) (get_or-map instance_of block.children x c no_instance lx) s in
    record { within = λ j e lj. (i.within j e lj).1; once = i.once }

-- ---- a child

pub known_is : (blocks : List FlatModule) (bits : List (List Bit)) (m : ℕ) (b : FlatModule) (known : List Bit) → bits ≡ all_bits_of blocks → m < length blocks →
    b ≡ get_or blocks m b → known ≡ get_or bits m known → known ≡ known_constants (own_of b)
known_is blocks bits m b known e lt eb ek =
    ek
    ∙ (ap (λ (bs : List (List Bit)). get_or bs m known) e
    ∙ (get_or-map (λ (u : FlatModule). known_constants (own_of u)) blocks m b known lt ∙ ap (λ (u : FlatModule). known_constants (own_of u)) (sym eb)))

pub fit_within : (blocks : List FlatModule) (c : Child) (b : FlatModule) → IsFit blocks c → c.of < length blocks → b ≡ get_or blocks c.of b →
    All (λ (j : Join). j.inner.0 < length b.names) (flat_map joins_of_run c.joins)
fit_within blocks c b f lt e =
    let wide : length (module_in (map module_of blocks) c.of).own.names ≡ length b.names =
    ap (λ (m : Module). length m.own.names) (block_is blocks c.of b lt e) ∙ length-map b.names string_bytes in
    subst (λ n. All (λ (j : Join). j.inner.0 < n) (flat_map joins_of_run c.joins)) wide f.within

pub weight_is : (s : Counted) (blocks : List FlatModule) (c : Child) (b : FlatModule) → c.of < length blocks → b ≡ get_or blocks c.of b →
    weight_in s (map module_of blocks) (instance_of c) ≡ weigh s (own_of b) (flat_map joins_of_run c.joins)
weight_is s blocks c b lt e = ap (λ (m : Module). weigh s m.own (flat_map joins_of_run c.joins)) (block_is blocks c.of b lt e)

-- what the rule of sums gives for a block
pub sum_rule : (blocks : List FlatModule) (m bound : ℕ) (b : FlatModule) (g : Instance → ℕ) (v : ℕ → ℕ) → m < length blocks → b ≡ get_or blocks m b →
    sum_below bound g v (module_in (map module_of blocks) m) ≡ min bound (sum_of (λ (c : Child). g (instance_of c) + v c.of) b.children)
sum_rule blocks m bound b g v lt e =
    ap (sum_below bound g v) (block_is blocks m b lt e) ∙ ap (min bound) (sum_map (λ (i : Instance). g i + v i.of) instance_of b.children)

-- ---- the whole design

pub top_own : (blocks : List FlatModule) (top : ℕ) (b : FlatModule) → top < length blocks → b ≡ get_or blocks top b → own (design_of blocks top) [] ≡ own_of b
unfolding module_at
top_own blocks top b lt e = ap (λ (m : Module). m.own) (block_is blocks top b lt e)

ends_above : (m p q r : ℕ) → nat_lt m (min (m + 1) p + (min 1 (min (m + 1) q) + min 1 (min (m + 1) r))) ≡ nat_lt m (p + (min 1 q + min 1 r))
ends_above m p q r = by (nat_lt m (p + (min 1 q + min 1 r))) refl
  where
    by : (b : Bool) → nat_lt m (p + (min 1 q + min 1 r)) ≡ b → nat_lt m (min (m + 1) p + (min 1 (min (m + 1) q) + min 1 (min (m + 1) r))) ≡ b
    by true e = let lt = ltb-true m (p + (min 1 q + min 1 r)) e in lt-ltb m _ (omega (arith, lt))
    by false e = let le = ltb-false m (p + (min 1 q + min 1 r)) e in le-ltb m _ (omega (arith, le))

pub nets_decide : (d : Design) (m p q r : ℕ) → IsDesign d → p ≡ min (m + 1) (top_sum Plain d) → q ≡ min (m + 1) (top_sum (Constant false) d) →
    r ≡ min (m + 1) (top_sum (Constant true) d) → nat_lt m (p + (min 1 q + min 1 r)) ≡ nat_lt m (length (flat_parts d).names)
nets_decide d m p q r h ep eq er =
    ap (λ n. nat_lt m (n + (min 1 q + min 1 r))) ep
    ∙ (ap (λ n. nat_lt m (min (m + 1) (top_sum Plain d) + (min 1 n + min 1 r))) eq
    ∙ (ap (λ n. nat_lt m (min (m + 1) (top_sum Plain d) + (min 1 (min (m + 1) (top_sum (Constant false) d)) + min 1 n))) er
    ∙ (ends_above m (top_sum Plain d) (top_sum (Constant false) d) (top_sum (Constant true) d) ∙ ap (nat_lt m) (sym (names_counted d ∙ nets_counted d h)))))

pub nothing_distinct : IsDistinct nat_eq []
unfolding IsDistinct
nothing_distinct = tt
