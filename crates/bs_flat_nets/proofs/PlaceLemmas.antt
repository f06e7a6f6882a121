-- Nodes stand for paths, and places for flat nets.
use Rattle.std.proofs.Common.{◌≡◌, ℕ, zero, suc, ◌<◌, ◌≤◌, ◌+◌, Bool, true, false, not, cond, List, [], ◌∷◌, ◌++◌, map, length, get_or, take, drop, refl, arith}
use Rattle.std.proofs.Common.{subst, ap, sym, ◌∙◌, ⊎_elim, nat_eq, Option, Some, None, IfSome, add-one, append-nil, append_assoc}
use Rattle.std.specs.Prelude.{find, option_map}
use Rattle.std.specs.List.{All, range_with_len, flat_map, position_or_len}
use Rattle.std.proofs.lemmas.Bool.{cases_Bool, eqb-true, eqb-false}
use Rattle.std.proofs.lemmas.List.{take_more, take_all, length-map, get_or-map}
use Rattle.std.proofs.lemmas.List.Concat.{flat_map-append}
use Rattle.bs_net.specs.Parts.{Parts}
use Rattle.bs_flat_meaning.specs.Design.{Design, Module, Path, PathNet, on, own, instance_in, module_at, paths, paths_from}
use Rattle.bs_flat_meaning.specs.Meaning.{is_same, root_of}
use Rattle.bs_flat_meaning.specs.Flat.{IsDesign, constant_bit, bit_of, home, flat_nets, flat_number}
use Rattle.bs_flat_meaning.specs.Paths.{ArePaths}
use Rattle.bs_flat_meaning.specs.declared.paths.Node.{Node}
use Rattle.bs_flat_meaning.specs.declared.limits.TheConstants.{MAX_DEPTH}
use Rattle.bs_flat_meaning.proofs.MemberLemmas.{Member, member_at, filtered, ranged}
use Rattle.bs_flat_meaning.proofs.RootLemmas.{same_from, same_to, top_is_path}
use Rattle.bs_flat_meaning.proofs.HomeLemmas.{home_none, home_some}
use Rattle.bs_flat_meaning.proofs.NumberLemmas.{Apart}
use Rattle.bs_flat_nets.specs.Blocks.{design_of, module_of}
use Rattle.bs_flat_nets.specs.Climbing.{node_at, path_in, IsRootOf}
use Rattle.bs_flat_nets.specs.Constants.{entry, known_constants}
use Rattle.bs_flat_nets.specs.Order.{module_in}
use Rattle.bs_flat_nets.specs.Sums.{all_bits_of}
use Rattle.bs_flat_nets.specs.declared.blocks.FlatModule.{FlatModule}
use Rattle.bs_flat_nets.specs.declared.climbing.NetOnPath.{NetOnPath}
use Rattle.bs_flat_nets.specs.declared.constants.Bit.{Bit}
use Rattle.bs_flat_nets.specs.Free.{free_nets, free_on, free_of, roots, count_in, known_in, free_of_node}
use Rattle.bs_flat_nets.specs.Numbering.{net_at, no_net, no_place, IsFirst, IsNumbering, IsNumberIn, AreByNode}
use Rattle.bs_flat_nets.specs.Rows.{AreRows}
use Rattle.bs_flat_nets.specs.Tally.{bit_in, no_tally, with_nets, IsFound, IsTally, IsWholeTally}
use Rattle.bs_flat_nets.specs.declared.numbers.Numbering.{Numbering}
use Rattle.bs_flat_nets.specs.declared.tally.NetTally.{NetTally}
use Rattle.bs_flat_nets.proofs.FreeLemmas.{flat_apart, flat_in_roots}
use Rattle.bs_flat_nets.proofs.TallyLemmas.{nets_tally, tally_none, Placed}
use Rattle.bs_flat_nets.proofs.ClimbLemmas.{first_path}

-- ---- the constants of a block

bit_missed : (f : ℕ → Option Bool) (a k n : ℕ) → n < a → find (λ (b : Bit). nat_eq b.net n) (flat_map (λ m. entry m (f m)) (range_with_len a k)) ≡ None
bit_missed f a zero n lt = refl
bit_missed f a (suc k) n lt = by (f a) (bit_missed f (a + 1) k n (omega (arith, lt)))
  where
    rest : List Bit
    rest = flat_map (λ m. entry m (f m)) (range_with_len (a + 1) k)

    other : nat_eq a n ≡ false
    other =
        ⊎_elim
        (λ (t : nat_eq a n ≡ true). let e = eqb-true a n t in absurd (omega (arith, e, lt)))
        (λ (u : nat_eq a n ≡ false). u)
        (cases_Bool (nat_eq a n))

    by : (o : Option Bool) → find (λ (b : Bit). nat_eq b.net n) rest ≡ None → find (λ (b : Bit). nat_eq b.net n) (entry a o ++ rest) ≡ None
    by None e = e
    by (Some v) e = ap (λ (c : Bool). cond c (Some (record { net = a; value = v })) (find (λ (b : Bit). nat_eq b.net n) rest)) other ∙ e

bit_found : (f : ℕ → Option Bool) (a k n : ℕ) → a ≤ n → n < a + k → bit_in (flat_map (λ m. entry m (f m)) (range_with_len a k)) n ≡ f n
bit_found f a zero n le lt = absurd (omega (arith, le, lt))
bit_found f a (suc k) n le lt = by (nat_eq a n) refl (f a) refl (bit_found f (a + 1) k n)
  where
    rest : List Bit
    rest = flat_map (λ m. entry m (f m)) (range_with_len (a + 1) k)

    by : (c : Bool) → nat_eq a n ≡ c → (o : Option Bool) → f a ≡ o → (a + 1 ≤ n → n < (a + 1) + k → bit_in rest n ≡ f n) → bit_in (entry a o ++ rest) n ≡ f n
    by true t None e more =
        let same = eqb-true a n t in
        ap (option_map (λ (b : Bit). b.value)) (bit_missed f (a + 1) k n (omega (arith, same))) ∙ (sym e ∙ ap f same)
    by true t (Some v) e more =
        let same = eqb-true a n t in
        ap (λ (c : Bool). option_map (λ (b : Bit). b.value) (cond c (Some (record { net = a; value = v })) (find (λ (b : Bit). nat_eq b.net n) rest))) t
        ∙ (sym e ∙ ap f same)
    by false t None e more = let apart = eqb-false a n t in more (omega (arith, le, apart)) (omega (arith, lt))
    by false t (Some v) e more =
        let apart = eqb-false a n t in
        ap (λ (c : Bool). option_map (λ (b : Bit). b.value) (cond c (Some (record { net = a; value = v })) (find (λ (b : Bit). nat_eq b.net n) rest))) t
        ∙ more (omega (arith, le, apart)) (omega (arith, lt))

-- the bit of a net by the list of its module's constants
pub bit_known : (parts : Parts) (n : ℕ) → n < length parts.names → bit_in (known_constants parts) n ≡ constant_bit parts n
bit_known parts n lt = bit_found (constant_bit parts) 0 (length parts.names) n (omega arith) (omega (arith, lt))

-- ---- nodes

-- the nets that joins leave to the top
pub top_free : (blocks : List FlatModule) (top : ℕ) → free_nets [] (count_in blocks top) ≡ free_on (design_of blocks top) (path_in (design_of blocks top) 0)
unfolding module_at
top_free blocks top = ap (free_on (design_of blocks top)) (sym (first_path (design_of blocks top)))

-- those that they leave to a node
pub node_free : (blocks : List FlatModule) (nodes : List Node) (top k : ℕ) → ArePaths (design_of blocks top) nodes (paths (design_of blocks top)) → 0 < k →
    k < length nodes → free_of_node blocks nodes k ≡ free_on (design_of blocks top) (path_in (design_of blocks top) k)
unfolding module_at
node_free blocks nodes top k a pos lt =
    let d = design_of blocks top in
    let s = a.each k lt in
    let up = s.parent pos in
    let i = (node_at nodes k).instance in
    sym
    (ap (free_on d) (s.path pos)
    ∙ ap (λ (m : Module). free_nets (instance_in m i).joins (count_in blocks (instance_in m i).of))
    (sym (a.each (node_at nodes k).parent (omega (arith, up, lt))).same))

-- the own parts of a node's module
pub node_own : (blocks : List FlatModule) (nodes : List Node) (top k : ℕ) → ArePaths (design_of blocks top) nodes (paths (design_of blocks top)) →
    k < length nodes → (module_in (map module_of blocks) (node_at nodes k).of).own ≡ own (design_of blocks top) (path_in (design_of blocks top) k)
node_own blocks nodes top k a lt = ap (λ (m : Module). m.own) (a.each k lt).same

top_node_own : (blocks : List FlatModule) (top : ℕ) → (module_in (map module_of blocks) top).own ≡ own (design_of blocks top) (path_in (design_of blocks top) 0)
unfolding module_at
top_node_own blocks top = ap (own (design_of blocks top)) (sym (first_path (design_of blocks top)))

pub some_node : (blocks : List FlatModule) (nodes : List Node) (top : ℕ) → ArePaths (design_of blocks top) nodes (paths (design_of blocks top)) → 0 < length nodes
some_node blocks nodes top a =
    let n = some_member (paths (design_of blocks top)) [] (top_is_path (design_of blocks top)) in
    omega (arith, n, a.count)
  where
    some_member : (ps : List Path) (p : Path) → Member p ps → 0 < length ps
    some_member [] p m = absurd m
    some_member (q ∷ qs) p m = omega arith

-- ---- the nets of one path more

free_more : (d : Design) (ps : List Path) (k : ℕ) → k < length ps →
    free_of d (take (k + 1) ps) ≡ free_of d (take k ps) ++ map (on (get_or ps k [])) (free_on d (get_or ps k []))
free_more d ps k lt =
    let F : Path → List PathNet = λ p. map (on p) (free_on d p) in
    ap (free_of d) (take_more ps k [] lt)
    ∙ (flat_map-append F (take k ps) (get_or ps k [] ∷ []) ∙ ap (λ (u : List PathNet). free_of d (take k ps) ++ u) (append-nil (F (get_or ps k []))))

free_whole : (d : Design) (ps : List Path) (k : ℕ) → k < length ps →
    free_of d (take k ps) ++ (map (on (get_or ps k [])) (free_on d (get_or ps k [])) ++ free_of d (drop (k + 1) ps)) ≡ free_of d ps
free_whole d ps k lt =
    let F : Path → List PathNet = λ p. map (on p) (free_on d p) in
    sym (append_assoc (free_of d (take k ps)) (F (get_or ps k [])) (free_of d (drop (k + 1) ps)))
    ∙ (ap (λ (u : List PathNet). u ++ free_of d (drop (k + 1) ps)) (sym (free_more d ps k lt))
    ∙ (sym (flat_map-append F (take (k + 1) ps) (drop (k + 1) ps)) ∙ ap (free_of d) (whole ps (k + 1))))
  where
    whole : (qs : List Path) (n : ℕ) → take n qs ++ drop n qs ≡ qs
    whole [] zero = refl
    whole [] (suc n) = refl
    whole (q ∷ qs) zero = refl
    whole (q ∷ qs) (suc n) = ap (λ (u : List Path). q ∷ u) (whole qs n)

-- one node more
tally_more : (d : Design) → IsDesign d → (k : ℕ) (bits : List Bit) (ns : List ℕ) (t : NetTally) → k < length (paths d) →
    bits ≡ known_constants (own d (path_in d k)) → ns ≡ free_on d (path_in d k) → IsTally d (free_of d (take k (paths d))) t →
    IsTally d (free_of d (take (k + 1) (paths d))) (with_nets t k bits ns)
tally_more d h k bits ns t lt eb en it =
    let p = path_in d k in
    let count = length (own d p).names in
    subst (λ (l : List PathNet). IsTally d l (with_nets t k bits ns)) (sym (free_more d (paths d) k lt))
    (subst (λ (ms : List ℕ). IsTally d (free_of d (take k (paths d)) ++ map (on p) (free_on d p)) (with_nets t k bits ms)) (sym en)
    (nets_tally d h k p bits (free_on d p) (free_of d (take k (paths d))) (free_of d (drop (k + 1) (paths d))) t refl (free_whole d (paths d) k lt)
    (λ n m.
    let inside : n < count = omega (arith, (ranged 0 count n (filtered _ n (range_with_len 0 count) m).0).1) in
    ap (λ (bs : List Bit). bit_in bs n) eb ∙ bit_known (own d p) n inside)
    it))

pub tally_top : (blocks : List FlatModule) (nodes : List Node) (top : ℕ) → IsDesign (design_of blocks top) →
    ArePaths (design_of blocks top) nodes (paths (design_of blocks top)) →
    IsTally (design_of blocks top) (free_of (design_of blocks top) (take 1 (paths (design_of blocks top))))
    (with_nets no_tally 0 (known_in blocks top) (free_nets [] (count_in blocks top)))
tally_top blocks nodes top h a =
    let d = design_of blocks top in
    let some = some_node blocks nodes top a in
    tally_more d h 0 (known_in blocks top) (free_nets [] (count_in blocks top)) no_tally (omega (arith, some, a.count))
    (ap known_constants (top_node_own blocks top)) (top_free blocks top) (tally_none d)

pub tally_node : (blocks : List FlatModule) (nodes : List Node) (top k : ℕ) (t : NetTally) → IsDesign (design_of blocks top) →
    ArePaths (design_of blocks top) nodes (paths (design_of blocks top)) → 0 < k → k < length nodes →
    IsTally (design_of blocks top) (free_of (design_of blocks top) (take k (paths (design_of blocks top)))) t →
    IsTally (design_of blocks top) (free_of (design_of blocks top) (take (k + 1) (paths (design_of blocks top))))
    (with_nets t k (known_in blocks (node_at nodes k).of) (free_of_node blocks nodes k))
tally_node blocks nodes top k t h a pos lt it =
    let d = design_of blocks top in
    tally_more d h k (known_in blocks (node_at nodes k).of) (free_of_node blocks nodes k) t (omega (arith, lt, a.count))
    (ap known_constants (node_own blocks nodes top k a lt)) (node_free blocks nodes top k a pos lt) it

-- ---- all nodes

first_is : (d : Design) (b : Bool) (places : List NetOnPath) (o : Option ℕ) → map (net_at d) places ≡ flat_nets d → IsFound d b (roots d) places o →
    IfSome o (IsFirst d b)
first_is d b places None e f = tt
first_is d b places (Some n) e f =
    let wide : length (flat_nets d) ≡ length places = ap length (sym e) ∙ length-map places (net_at d) in
    let lt = f.within n refl in
    (omega (arith, lt, wide), ap (λ (l : List PathNet). get_or l n no_net) (sym e) ∙ f.is n refl)

pub whole_tally : (blocks : List FlatModule) (nodes : List Node) (top k : ℕ) (t : NetTally) →
    ArePaths (design_of blocks top) nodes (paths (design_of blocks top)) → length nodes ≤ k →
    IsTally (design_of blocks top) (free_of (design_of blocks top) (take k (paths (design_of blocks top)))) t →
    IsTally (design_of blocks top) (roots (design_of blocks top)) t
whole_tally blocks nodes top k t a le it =
    let d = design_of blocks top in
    let all : take k (paths d) ≡ paths d = take_all k (paths d) (omega (arith, le, a.count)) in
    subst (λ (ps : List Path). IsTally d (free_of d ps) t) all it

pub numbering_is : (blocks : List FlatModule) (nodes : List Node) (top : ℕ) (t : NetTally) (n : Numbering) → IsDesign (design_of blocks top) →
    IsWholeTally blocks nodes top t n.starts → n.places ≡ t.places → n.bits ≡ all_bits_of blocks → n.zero ≡ t.zero → n.one ≡ t.one →
    AreRows blocks n.rows → IsNumbering blocks nodes top n
numbering_is blocks nodes top t n h whole ep eb ez eo rows =
    let d = design_of blocks top in
    let nets : map (net_at d) t.places ≡ flat_nets d = whole.nets.are ∙ sym (flat_in_roots d h) in
    record {
      nets = ap (map (net_at d)) ep ∙ nets;
      placed = subst (λ (ps : List NetOnPath). All (λ (p : NetOnPath). p.node < length nodes) ps) (sym ep) whole.placed;
      known = eb;
      first_zero = subst (λ (o : Option ℕ). IfSome o (IsFirst d false)) (sym ez) (first_is d false t.places t.zero nets (whole.nets.first false));
      first_one = subst (λ (o : Option ℕ). IfSome o (IsFirst d true)) (sym eo) (first_is d true t.places t.one nets (whole.nets.first true));
      no_zero = λ e. (whole.nets.first false).none (sym ez ∙ e);
      no_one = λ e. (whole.nets.first true).none (sym eo ∙ e);
      by_node = subst (λ (ps : List NetOnPath). AreByNode ps n.starts) (sym ep) whole.by_node;
      rows = rows;
    }

-- ---- the number of a net

position_is : (x e : PathNet) (xs : List PathNet) (i : ℕ) → Apart xs → i < length xs → get_or xs i e ≡ x → position_or_len (is_same x) xs ≡ i
position_is x e [] i a lt q = absurd (omega (arith, lt))
position_is x e (y ∷ ys) zero a lt q = ap (λ (b : Bool). cond (not b) (1 + position_or_len (is_same x) ys) 0) (same_to x y (sym q))
position_is x e (y ∷ ys) (suc i) a lt q =
    let below : i < length ys = omega (arith, lt) in
    let other : is_same x y ≡ false =
    ⊎_elim
    (λ (t : is_same x y ≡ true).
    absurd (a.0 (subst (λ (z : PathNet). Member z ys) (q ∙ same_from x y t) (member_at ys i e below))))
    (λ (f : is_same x y ≡ false). f)
    (cases_Bool (is_same x y)) in
    let more = position_is x e ys i a.1 below q in
    ap (λ (b : Bool). cond (not b) (1 + position_or_len (is_same x) ys) 0) other ∙ omega (arith, more)

number_is : (d : Design) (a : PathNet) (i : ℕ) → i < length (flat_nets d) → get_or (flat_nets d) i no_net ≡ home d a → i ≡ flat_number d a
unfolding flat_number
number_is d a i lt e = sym (position_is (home d a) no_net (flat_nets d) i (flat_apart d) lt e)

-- what a number is
pub record IsNumberOf (d : Design) (count : ℕ) (a : PathNet) (i : ℕ) : Type 0 where
  pub is : i ≡ flat_number d a
  pub within : i < count

pub home_number_is : (blocks : List FlatModule) (nodes : List Node) (top : ℕ) (n : Numbering) (node net : ℕ) (place : NetOnPath) (i : ℕ) →
    IsDesign (design_of blocks top) → ArePaths (design_of blocks top) nodes (paths (design_of blocks top)) → IsNumbering blocks nodes top n →
    place.node < length nodes → IsRootOf blocks nodes node net place → place.net < count_in blocks (node_at nodes place.node).of →
    IsNumberIn n (bit_in (known_in blocks (node_at nodes place.node).of) place.net) place i →
    IsNumberOf (design_of blocks top) (length n.places) (on (path_in (design_of blocks top) node) net) i
home_number_is blocks nodes top n node net place i h a k there r low m =
    by (bit_in (known_in blocks (node_at nodes place.node).of) place.net) refl m
  where
    d : Design
    d = design_of blocks top

    s : PathNet
    s = on (path_in d node) net

    up : root_of d s ≡ net_at d place
    up = r.is top a

    parts : (module_in (map module_of blocks) (node_at nodes place.node).of).own ≡ own d (path_in d place.node)
    parts = node_own blocks nodes top place.node a there

    bit : bit_of d (root_of d s) ≡ bit_in (known_in blocks (node_at nodes place.node).of) place.net
    bit =
        ap (bit_of d) up
        ∙ (ap (λ (p : Parts). constant_bit p place.net) (sym parts)
        ∙ sym (bit_known (module_in (map module_of blocks) (node_at nodes place.node).of).own place.net low))

    wide : length (flat_nets d) ≡ length n.places
    wide = ap length (sym k.nets) ∙ length-map n.places (net_at d)

    first : (b : Bool) (o : Option ℕ) → IfSome o (IsFirst d b) → o ≡ Some i → IsFirst d b i
    first b None f e = absurd cc
    first b (Some j) f e = let same : j ≡ i = cc in subst (λ u. IsFirst d b u) same f

    constant : (b : Bool) → bit_in (known_in blocks (node_at nodes place.node).of) place.net ≡ Some b → IsFirst d b i → IsNumberOf d (length n.places) s i
    constant b e f =
        let lt = f.0 in
        record {
          is = number_is d s i f.0 (f.1 ∙ sym (home_some d h s b (bit ∙ e)));
          within = omega (arith, lt, wide);
        }

    by : (o : Option Bool) → bit_in (known_in blocks (node_at nodes place.node).of) place.net ≡ o → IsNumberIn n o place i →
        IsNumberOf d (length n.places) s i
    by None e q =
        let lt = q.0 in
        record {
          is =
              number_is d s i (omega (arith, lt, wide))
              (ap (λ (l : List PathNet). get_or l i no_net) (sym k.nets)
              ∙ (get_or-map (net_at d) n.places i no_place no_net q.0
              ∙ (ap (net_at d) q.1 ∙ sym (home_none d h s (bit ∙ e) ∙ up))));
          within = q.0;
        }
    by (Some true) e q = constant true e (first true n.one k.first_one q)
    by (Some false) e q = constant false e (first false n.zero k.first_zero q)
