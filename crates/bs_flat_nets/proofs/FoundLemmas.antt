-- Each net on a path has a flat net that stands for it, and a search among those of a path finds it.
use Rattle.std.proofs.Common.{◌≡◌, ℕ, zero, suc, ◌<◌, ◌≤◌, Bool, true, false, List, [], ◌∷◌, map, length, get_or, refl, arith, subst}
use Rattle.std.proofs.Common.{ap, sym, ◌∙◌, ◌⊎◌, inl, inr, ⊎_elim, Option, Some, None}
use Rattle.std.specs.List.{Contains}
use Rattle.std.proofs.lemmas.Bool.{false≢true}
use Rattle.std.proofs.lemmas.List.{get_or_default}
use Rattle.std.specs.Prelude.{IfNone}
use Rattle.bs_net.specs.Parts.{Parts}
use Rattle.bs_net.specs.declared.net.NetId.{NetId}
use Rattle.bs_flat_meaning.specs.Design.{Design, Path, PathNet, on, own, paths}
use Rattle.bs_flat_meaning.specs.Meaning.{root_of}
use Rattle.bs_flat_meaning.specs.Flat.{IsDesign, constant_bit, bit_of, is_bit, flat_nets}
use Rattle.bs_flat_meaning.specs.Paths.{ArePaths}
use Rattle.bs_flat_meaning.specs.declared.paths.Node.{Node}
use Rattle.bs_flat_meaning.proofs.MemberLemmas.{Member, member_at, member_filter, mapped, contains, missed}
use Rattle.bs_flat_meaning.proofs.RootLemmas.{Valid, valid_member, root_is}
use Rattle.bs_flat_meaning.proofs.HomeLemmas.{is_bit_same}
use Rattle.bs_flat_meaning.proofs.NumberLemmas.{Apart, paths_apart}
use Rattle.bs_flat_nets.specs.Blocks.{design_of, module_of}
use Rattle.bs_flat_nets.specs.Climbing.{node_at, path_in, IsRootOf}
use Rattle.bs_flat_nets.specs.Order.{module_in}
use Rattle.bs_flat_nets.specs.declared.blocks.FlatModule.{FlatModule}
use Rattle.bs_flat_nets.specs.declared.climbing.NetOnPath.{NetOnPath}
use Rattle.bs_flat_nets.specs.Free.{count_in, known_in, roots}
use Rattle.bs_flat_nets.specs.Numbering.{net_at, no_place, HasNoBit, IsNumbering, IsNoNumberIn, IsNowhere}
use Rattle.bs_flat_nets.specs.Tally.{bit_in, is_home}
use Rattle.bs_flat_nets.specs.declared.numbers.Numbering.{Numbering}
use Rattle.bs_flat_nets.proofs.FreeLemmas.{root_there, flat_in_roots, plain_stays}
use Rattle.bs_flat_nets.proofs.PlaceLemmas.{bit_known, node_own}
use Rattle.bs_flat_nets.proofs.RiseLemmas.{split}

-- members that are the same stand at the same place
apart_at : {X : Type 0} (xs : List X) (i j : ℕ) (d : X) → Apart xs → i < length xs → j < length xs → get_or xs i d ≡ get_or xs j d → i ≡ j
apart_at [] i j d a li lj e = absurd (omega (arith, li))
apart_at (x ∷ xs) zero zero d a li lj e = refl
apart_at {X} (x ∷ xs) zero (suc j) d a li lj e = absurd (a.0 (subst (λ (y : X). Member y xs) (sym e) (member_at xs j d (omega (arith, lj)))))
apart_at {X} (x ∷ xs) (suc i) zero d a li lj e = absurd (a.0 (subst (λ (y : X). Member y xs) e (member_at xs i d (omega (arith, li)))))
apart_at (x ∷ xs) (suc i) (suc j) d a li lj e = let same = apart_at xs i j d a.1 (omega (arith, li)) (omega (arith, lj)) e in omega (arith, same)

same_place : (p q : NetOnPath) → p.node ≡ q.node → p.net ≡ q.net → p ≡ q
same_place p q e f = λ i. record { node = e i; net = f i }

-- a flat net stands at a place
place_there : (d : Design) (nodes : List Node) (n : Numbering) (place : NetOnPath) → length nodes ≡ length (paths d)
    → map (net_at d) n.places ≡ flat_nets d → ((i : ℕ) (e : NetOnPath) → i < length n.places → (get_or n.places i e).node < length nodes)
    → place.node < length nodes → Member (net_at d place) (flat_nets d) → IsNowhere n.places place → ⊥
place_there d nodes n place count nets placed there m none =
    let k = mapped (net_at d) (net_at d place) n.places (subst (λ (l : List PathNet). Member (net_at d place) l) (sym nets) m) in
    let c = contains n.places k.0 k.1 in
    let low = placed c.0 k.0 c.1 in
    let inside : k.0.node < length nodes = subst (λ (p : NetOnPath). p.node < length nodes) c.2 low in
    let path : path_in d place.node ≡ path_in d k.0.node = ap (λ (a : PathNet). a.path) k.2 in
    let node : place.node ≡ k.0.node =
    apart_at (paths d) place.node k.0.node [] (paths_apart d) (omega (arith, there, count)) (omega (arith, inside, count)) path in
    let same : k.0 ≡ place = same_place k.0 place (sym node) (sym (ap (λ (a : PathNet). a.it) k.2)) in
    none.is c.0 c.1 (get_or_default n.places c.0 no_place k.0 c.1 ∙ (c.2 ∙ same))

-- a constant was met
constant_there : (d : Design) (b : Bool) (r : PathNet) → Member r (roots d) → bit_of d r ≡ Some b → HasNoBit d b → ⊥
constant_there d b r m e none =
    false≢true (sym (missed (λ a. is_bit b (bit_of d a)) (roots d) r none m) ∙ (ap (is_bit b) e ∙ is_bit_same b))

pub number_there : (blocks : List FlatModule) (nodes : List Node) (top : ℕ) (n : Numbering) (node net : ℕ) (place : NetOnPath) →
    IsDesign (design_of blocks top) → ArePaths (design_of blocks top) nodes (paths (design_of blocks top)) → IsNumbering blocks nodes top n →
    node < length nodes → place.node < length nodes → IsRootOf blocks nodes node net place → net < count_in blocks (node_at nodes node).of →
    (count_in blocks (node_at nodes place.node).of ≤ place.net) ⊎ IsNoNumberIn n (bit_in (known_in blocks (node_at nodes place.node).of) place.net) place → ⊥
number_there blocks nodes top n node net place h a k here there r low none =
    ⊎_elim
    (λ (le : count_in blocks (node_at nodes place.node).of ≤ place.net). omega (arith, le, inside))
    (λ (m : IsNoNumberIn n (bit_in (known_in blocks (node_at nodes place.node).of) place.net) place).
    by (bit_in (known_in blocks (node_at nodes place.node).of) place.net) refl m)
    none
  where
    d : Design
    d = design_of blocks top

    s : PathNet
    s = on (path_in d node) net

    counted : length nodes ≡ length (paths d)
    counted = a.count

    valid : Valid d s
    valid = (
      member_at (paths d) node [] (omega (arith, here, counted)),
      subst (λ (p : Parts). net < length p.names) (node_own blocks nodes top node a here) low,
    )

    up : root_of d s ≡ net_at d place
    up = r.is top a

    root_valid : Valid d (net_at d place)
    root_valid = subst (Valid d) up (root_is d h s valid).valid

    in_roots : Member (net_at d place) (roots d)
    in_roots =
        subst (λ (x : PathNet). Member x (roots d)) up
        (root_there d (root_of d s) (valid_member d (root_of d s) (root_is d h s valid).valid) (root_is d h s valid).bare)

    parts : (module_in (map module_of blocks) (node_at nodes place.node).of).own ≡ own d (path_in d place.node)
    parts = node_own blocks nodes top place.node a there

    inside : place.net < count_in blocks (node_at nodes place.node).of
    inside = subst (λ (p : Parts). place.net < length p.names) (sym parts) root_valid.1

    bit : bit_of d (net_at d place) ≡ bit_in (known_in blocks (node_at nodes place.node).of) place.net
    bit =
        ap (λ (p : Parts). constant_bit p place.net) (sym parts)
        ∙ sym (bit_known (module_in (map module_of blocks) (node_at nodes place.node).of).own place.net inside)

    by : (o : Option Bool) → bit_in (known_in blocks (node_at nodes place.node).of) place.net ≡ o → IsNoNumberIn n o place → ⊥
    by None e m =
        place_there d nodes n place counted k.nets (λ i q lt. k.placed i q lt) there
        (subst (λ (l : List PathNet). Member (net_at d place) l) (sym (flat_in_roots d h))
        (member_filter (is_home d) (net_at d place) (roots d) in_roots (plain_stays d h (net_at d place) in_roots (bit ∙ e))))
        m
    by (Some true) e m = constant_there d true (net_at d place) in_roots (bit ∙ e) (k.no_one m)
    by (Some false) e m = constant_there d false (net_at d place) in_roots (bit ∙ e) (k.no_zero m)

pub none_found : (blocks : List FlatModule) (nodes : List Node) (top : ℕ) (n : Numbering) (node net : ℕ) (place : NetOnPath) (o : Option NetId) →
    IsDesign (design_of blocks top) → ArePaths (design_of blocks top) nodes (paths (design_of blocks top)) → IsNumbering blocks nodes top n →
    node < length nodes → place.node < length nodes → IsRootOf blocks nodes node net place →
    (count_in blocks (node_at nodes place.node).of ≤ place.net) ⊎ IsNoNumberIn n (bit_in (known_in blocks (node_at nodes place.node).of) place.net) place →
    IfNone o ((count_in blocks (node_at nodes node).of ≤ net) ⊎ (4294967296 < length n.places))
none_found blocks nodes top n node net place (Some x) h a k here there r none = tt
none_found blocks nodes top n node net place None h a k here there r none =
    ⊎_elim
    (λ (low : net < count_in blocks (node_at nodes node).of). absurd (number_there blocks nodes top n node net place h a k here there r low none))
    (λ (le : count_in blocks (node_at nodes node).of ≤ net). inl le)
    (split net (count_in blocks (node_at nodes node).of))
