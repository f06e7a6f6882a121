-- The keys of flat nets, by nodes and blocks.
use Rattle.std.proofs.Common.{◌≡◌, ℕ, zero, suc, ◌<◌, ◌≤◌, ◌+◌, Bool, true, false, cond, ◌||◌, ◌&&◌, List, [], ◌∷◌, length, get_or, refl, arith, ap}
use Rattle.std.proofs.Common.{sym, ◌∙◌, nat_eq, Option, Some, None, ne_eqb}
use Rattle.std.specs.Prelude.{is_some, string_bytes}
use Rattle.std.specs.List.{flat_map, range_with_len}
use Rattle.std.proofs.lemmas.List.{length-map}
use Rattle.std.proofs.lemmas.List.Folds.{list_any-append}
use Rattle.bs_net.specs.Parts.{Parts}
use Rattle.bs_flat_meaning.specs.Design.{Design, Module, Path, on, own, paths}
use Rattle.bs_flat_meaning.specs.Flat.{constant_bit, path_text, key_below, flat_key}
use Rattle.bs_flat_meaning.specs.Paths.{ArePaths}
use Rattle.bs_flat_meaning.specs.declared.paths.Node.{Node}
use Rattle.bs_flat_nets.specs.Blocks.{design_of, own_of}
use Rattle.bs_flat_nets.specs.Climbing.{node_at, path_in}
use Rattle.bs_flat_nets.specs.Constants.{entry, known_constants}
use Rattle.bs_flat_nets.specs.declared.blocks.FlatModule.{FlatModule}
use Rattle.bs_flat_nets.specs.declared.climbing.NetOnPath.{NetOnPath}
use Rattle.bs_flat_nets.specs.declared.constants.Bit.{Bit}
use Rattle.bs_flat_nets.proofs.OrderLemmas.{block_is}
use Rattle.bs_flat_elaborate.specs.Keys.{IsPathText, has_net, key_on, key_of_place}
use Rattle.bs_flat_nets.proofs.ClimbLemmas.{first_path}

-- ---- constants

has_entry : (n k : ℕ) (o : Option Bool) → has_net (entry k o) n ≡ (nat_eq k n && is_some o)
has_entry n k None = by (nat_eq k n)
  where
    by : (b : Bool) → false ≡ (b && false)
    by true = refl
    by false = refl
has_entry n k (Some v) = by (nat_eq k n)
  where
    by : (b : Bool) → (b || false) ≡ (b && true)
    by true = refl
    by false = refl

has_apart : (f : ℕ → Option Bool) (n a k : ℕ) → n < a → has_net (flat_map (λ i. entry i (f i)) (range_with_len a k)) n ≡ false
has_apart f n a zero lt = refl
has_apart f n a (suc k) lt =
    let test : Bit → Bool = λ b. nat_eq b.net n in
    list_any-append test (entry a (f a)) (flat_map (λ i. entry i (f i)) (range_with_len (a + 1) k))
    ∙ (ap (λ b. b || has_net (flat_map (λ i. entry i (f i)) (range_with_len (a + 1) k)) n)
    (has_entry n a (f a) ∙ ap (λ b. b && is_some (f a)) (ne_eqb a n (λ e. omega (arith, e, lt))))
    ∙ has_apart f n (a + 1) k (omega (arith, lt)))

has_in : (f : ℕ → Option Bool) (n a k : ℕ) → a ≤ n → n < a + k → has_net (flat_map (λ i. entry i (f i)) (range_with_len a k)) n ≡ is_some (f n)
has_in f n a zero le lt = absurd (omega (arith, le, lt))
has_in f n a (suc k) le lt =
    list_any-append (λ (b : Bit). nat_eq b.net n) (entry a (f a)) (flat_map (λ i. entry i (f i)) (range_with_len (a + 1) k))
    ∙ (ap (λ b. b || has_net (flat_map (λ i. entry i (f i)) (range_with_len (a + 1) k)) n) (has_entry n a (f a)) ∙ by (nat_eq a n) refl (has_in f n (a + 1) k))
  where
    rest : List Bit
    rest = flat_map (λ i. entry i (f i)) (range_with_len (a + 1) k)

    or_none : (b : Bool) → (b || false) ≡ b
    or_none true = refl
    or_none false = refl

    by : (b : Bool) → nat_eq a n ≡ b →
        (a + 1 ≤ n → n < (a + 1) + k → has_net (flat_map (λ i. entry i (f i)) (range_with_len (a + 1) k)) n ≡ is_some (f n)) →
        ((b && is_some (f a)) || has_net (flat_map (λ i. entry i (f i)) (range_with_len (a + 1) k)) n) ≡ is_some (f n)
    by true e later =
        let same : a ≡ n = Rattle.std.proofs.lemmas.Bool.eqb-true a n e in
        ap (λ b. is_some (f a) || b) (has_apart f n (a + 1) k (omega (arith, same))) ∙ (or_none (is_some (f a)) ∙ ap (λ (i : ℕ). is_some (f i)) same)
    by false e later =
        let apart = Rattle.std.proofs.lemmas.Bool.eqb-false a n e in
        later (omega (arith, le, apart)) (omega (arith, lt))

-- a net is among the constants of its module where it has a bit
has_bit : (parts : Parts) (n : ℕ) → n < length parts.names → has_net (known_constants parts) n ≡ is_some (constant_bit parts n)
has_bit parts n lt = has_in (constant_bit parts) n 0 (length parts.names) (omega arith) (omega (arith, lt))

-- ---- blocks

-- the parts on a node's path are those of its block
pub own_is : (blocks : List FlatModule) (nodes : List Node) (top k : ℕ) (b : FlatModule) → ArePaths (design_of blocks top) nodes (paths (design_of blocks top)) →
    k < length nodes → (node_at nodes k).of < length blocks → b ≡ get_or blocks (node_at nodes k).of b →
    own (design_of blocks top) (path_in (design_of blocks top) k) ≡ own_of b
own_is blocks nodes top k b a lt there e =
    ap (λ (m : Module). m.own) (sym (a.each k lt).same ∙ block_is blocks (node_at nodes k).of b there e)

cons_is : (i : ℕ) (p : Path) (k : ℕ) → nat_eq (length (i ∷ p)) 0 ≡ nat_eq (suc k) 0
cons_is i p k = ne_eqb (length (i ∷ p)) 0 (λ e. omega (arith, e)) ∙ sym (ne_eqb (suc k) 0 (λ e. omega (arith, e)))

-- only the top's path is empty
path_empty : (blocks : List FlatModule) (nodes : List Node) (top k : ℕ) → ArePaths (design_of blocks top) nodes (paths (design_of blocks top)) →
    k < length nodes → nat_eq (length (path_in (design_of blocks top) k)) 0 ≡ nat_eq k 0
path_empty blocks nodes top zero a lt = ap (λ (p : Path). nat_eq (length p) 0) (first_path (design_of blocks top))
path_empty blocks nodes top (suc k) a lt =
    let d = design_of blocks top in
    let i = (node_at nodes (suc k)).instance in
    let q : Path = path_in d (node_at nodes (suc k)).parent in
    let e : path_in d (suc k) ≡ i ∷ q = (a.each (suc k) lt).path (omega arith) in
    ap (λ (p : Path). nat_eq (length p) 0) e ∙ cons_is i q k

-- the key of a net on a path, by the path's text and the parts there
flat_is : (d : Design) (p : Path) (n : ℕ) (text : List ℕ) (parts : Parts) (known : List Bit) (at_top : Bool) → own d p ≡ parts →
    nat_eq (length p) 0 ≡ at_top → text ≡ path_text d p → has_net known n ≡ is_some (constant_bit parts n) →
    key_on text parts known at_top n ≡ flat_key d (on p n)
unfolding flat_key
flat_is d p n text parts known at_top eo et ex eb =
    ap (λ (b : Bool). cond (at_top || b) (get_or parts.names n []) (key_below text (get_or parts.names n []))) eb
    ∙ (ap (λ (b : Bool). cond (b || is_some (constant_bit parts n)) (get_or parts.names n []) (key_below text (get_or parts.names n []))) (sym et)
    ∙ (ap
    (λ (t : List ℕ). cond (nat_eq (length p) 0 || is_some (constant_bit parts n)) (get_or parts.names n []) (key_below t (get_or parts.names n []))) ex
    ∙ ap
    (λ (o : Parts). cond (nat_eq (length p) 0 || is_some (constant_bit o n)) (get_or o.names n []) (key_below (path_text d p) (get_or o.names n [])))
    (sym eo)))

-- the key of a flat net, by its block
pub key_is : (blocks : List FlatModule) (nodes : List Node) (top : ℕ) (place : NetOnPath) (b : FlatModule) (known : List Bit) (text : List ℕ) →
    ArePaths (design_of blocks top) nodes (paths (design_of blocks top)) → place.node < length nodes → (node_at nodes place.node).of < length blocks →
    b ≡ get_or blocks (node_at nodes place.node).of b → known ≡ known_constants (own_of b) → place.net < length b.names →
    IsPathText blocks nodes place.node text →
    key_on text (own_of b) known (nat_eq place.node 0) place.net ≡ key_of_place (design_of blocks top) place
key_is blocks nodes top place b known text a lt there e ek inside t =
    let d = design_of blocks top in
    let wide = length-map b.names string_bytes in
    flat_is d (path_in d place.node) place.net text (own_of b) known (nat_eq place.node 0) (own_is blocks nodes top place.node b a lt there e)
    (path_empty blocks nodes top place.node a lt) (t.is top a)
    (ap (λ (ks : List Bit). has_net ks place.net) ek ∙ has_bit (own_of b) place.net (omega (arith, wide, inside)))
