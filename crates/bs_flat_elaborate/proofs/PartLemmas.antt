-- The flat parts, path by path.
use Rattle.std.proofs.Common.{◌≡◌, ℕ, zero, suc, ◌<◌, ◌≤◌, Bool, true, false, not, cond, ◌&&◌, List, [], ◌∷◌, ◌++◌, map, length, get_or, take, refl, arith}
use Rattle.std.proofs.Common.{subst, ap, sym, ◌∙◌, nat_eq, eq-eqb, ne_eqb}
use Rattle.std.specs.Prelude.{filter, is_none, string_bytes}
use Rattle.std.specs.List.{flat_map}
use Rattle.std.specs.Str.{bytes_eq}
use Rattle.std.specs.Cmp.Lexicographic.{bytes_decides}
use Rattle.std.proofs.lemmas.Bool.{true≢false, false≢true, eqb-true}
use Rattle.std.proofs.lemmas.List.{length-map, map-append, take_all, get_or-map}
use Rattle.std.proofs.lemmas.List.Concat.{flat_map-append}
use Rattle.bs_net.specs.declared.net.Const.{Const}
use Rattle.bs_net.specs.Parts.{Parts}
use Rattle.bs_verilog_scope.specs.Keys.{constant_key}
use Rattle.bs_flat_meaning.specs.Design.{Design, Module, Join, Path, At, PathNet, on, on_each, own, joins_at, instance_in, paths, gates, flops, constants}
use Rattle.bs_flat_meaning.specs.Meaning.{joined_with, is_same}
use Rattle.bs_flat_meaning.specs.Flat.{flat_nets, flat_number, home, is_root, is_named_so, is_repeat, flat_gate, flat_flop, flat_const, flat_parts}
use Rattle.bs_flat_meaning.specs.Paths.{ArePaths}
use Rattle.bs_flat_meaning.specs.declared.paths.Node.{Node}
use Rattle.bs_flat_meaning.proofs.MemberLemmas.{Member, map_twice, member_at}
use Rattle.bs_flat_meaning.proofs.RootLemmas.{Valid}
use Rattle.bs_flat_meaning.proofs.HomeLemmas.{number_home, number_within}
use Rattle.bs_flat_meaning.proofs.NumberLemmas.{Apart, paths_apart, flat_same}
use Rattle.bs_flat_nets.specs.Blocks.{design_of, own_of}
use Rattle.bs_flat_nets.specs.Climbing.{node_at, joins_of_node, path_in}
use Rattle.bs_flat_nets.specs.declared.blocks.FlatModule.{FlatModule}
use Rattle.bs_flat_nets.specs.Numbering.{net_at, no_net, no_place}
use Rattle.bs_flat_nets.specs.declared.numbers.Numbering.{Numbering}
use Rattle.bs_flat_elaborate.specs.Laid.{IsLaid}
use Rattle.bs_flat_elaborate.specs.Parts.{gates_on, flops_on, consts_on, is_root_at, is_itself}
use Rattle.bs_flat_nets.proofs.ClimbLemmas.{first_path}
use Rattle.bs_flat_elaborate.proofs.KeyLemmas.{own_is}

-- ---- one path after another

map_flat : {X Y Z : Type 0} (g : Y → Z) (f : X → List Y) (xs : List X) → map g (flat_map f xs) ≡ flat_map (λ x. map g (f x)) xs
map_flat g f [] = refl
map_flat g f (x ∷ xs) = map-append g (f x) (flat_map f xs) ∙ ap (λ u. map g (f x) ++ u) (map_flat g f xs)

-- what each path gives is what all that stands on paths gives
each_all : {A B : Type 0} (d : Design) (f : Path → List A) (g : At A → B) → flat_map (λ p. map (λ a. g (on p a)) (f p)) (paths d) ≡ map g (on_each d f)
each_all d f g =
    sym
    (map_flat g (λ p. map (on p) (f p)) (paths d)
    ∙ flat_same (λ p. map g (map (on p) (f p))) (λ p. map (λ a. g (on p a)) (f p)) (paths d) (λ p. map_twice (on p) g (f p)))

pub gates_are : (d : Design) → flat_map (gates_on d) (paths d) ≡ map (flat_gate d) (gates d)
gates_are d = each_all d (λ p. (own d p).gates) (flat_gate d)

pub flops_are : (d : Design) → flat_map (flops_on d) (paths d) ≡ map (flat_flop d) (flops d)
flops_are d = each_all d (λ p. (own d p).flops) (flat_flop d)

flat_flat : {X Y Z : Type 0} (g : Y → List Z) (f : X → List Y) (xs : List X) → flat_map g (flat_map f xs) ≡ flat_map (λ x. flat_map g (f x)) xs
flat_flat g f [] = refl
flat_flat g f (x ∷ xs) = flat_map-append g (f x) (flat_map f xs) ∙ ap (λ u. flat_map g (f x) ++ u) (flat_flat g f xs)

flat_mapped : {X Y Z : Type 0} (g : Y → List Z) (f : X → Y) (xs : List X) → flat_map g (map f xs) ≡ flat_map (λ x. g (f x)) xs
flat_mapped g f [] = refl
flat_mapped g f (x ∷ xs) = ap (λ u. g (f x) ++ u) (flat_mapped g f xs)

-- what is left out gives nothing
kept_are : {X Y : Type 0} (t : X → Bool) (g : X → Y) (xs : List X) → flat_map (λ x. cond (t x) [] (g x ∷ [])) xs ≡ map g (filter (λ x. not (t x)) xs)
kept_are t g [] = refl
kept_are {X} {Y} t g (x ∷ xs) = by (t x) (kept_are t g xs)
  where
    by : (b : Bool) → flat_map (λ y. cond (t y) [] (g y ∷ [])) xs ≡ map g (filter (λ y. not (t y)) xs) →
        cond b [] (g x ∷ []) ++ flat_map (λ y. cond (t y) [] (g y ∷ [])) xs
        ≡ map g (cond (not b) (x ∷ filter (λ y. not (t y)) xs) (filter (λ y. not (t y)) xs))
    by true e = e
    by false e = ap (λ u. g x ∷ u) e

pub consts_are : (d : Design) → flat_map (consts_on d) (paths d) ≡ (flat_parts d).consts
unfolding flat_parts
consts_are d =
    let one : At Const → List Const = λ k. cond (is_repeat d k) [] (flat_const d k ∷ []) in
    flat_same (consts_on d) (λ p. flat_map one (map (on p) (own d p).consts)) (paths d) (λ p. sym (flat_mapped one (on p) (own d p).consts))
    ∙ (sym (flat_flat one (λ p. map (on p) (own d p).consts) (paths d)) ∙ kept_are (is_repeat d) (flat_const d) (constants d))

-- all nodes are gone over
pub all_paths : {B : Type 0} (blocks : List FlatModule) (nodes : List Node) (top k count : ℕ) (f : Path → List B) (all : List B) →
    ArePaths (design_of blocks top) nodes (paths (design_of blocks top)) → count ≡ length nodes → count ≤ k →
    all ≡ flat_map f (take k (paths (design_of blocks top))) → all ≡ flat_map f (paths (design_of blocks top))
all_paths blocks nodes top k count f all a e ge h =
    h ∙ ap (flat_map f) (take_all k (paths (design_of blocks top)) (omega (arith, e, ge, a.count)))

-- ---- a repeat of a constant

joins_are : (blocks : List FlatModule) (nodes : List Node) (top k : ℕ) → ArePaths (design_of blocks top) nodes (paths (design_of blocks top)) →
    k < length nodes → joins_at (design_of blocks top) (path_in (design_of blocks top) k) ≡ cond (nat_eq k 0) [] (joins_of_node blocks nodes k)
joins_are blocks nodes top zero a lt = ap (joins_at (design_of blocks top)) (first_path (design_of blocks top))
joins_are blocks nodes top (suc k) a lt =
    let d = design_of blocks top in
    let s = a.each (suc k) lt in
    let up = s.parent (omega arith) in
    let no : nat_eq (suc k) 0 ≡ false = ne_eqb (suc k) 0 (λ e. omega (arith, e)) in
    ap (joins_at d) (s.path (omega arith))
    ∙ (ap (λ (m : Module). (instance_in m (node_at nodes (suc k)).instance).joins)
    (sym (a.each (node_at nodes (suc k)).parent (omega (arith, up, lt))).same)
    ∙ sym (ap (λ (b : Bool). cond b [] (joins_of_node blocks nodes (suc k))) no))

-- no two places have the same member
same_place : {X : Type 0} (xs : List X) (i j : ℕ) (d : X) → Apart xs → i < length xs → j < length xs → get_or xs i d ≡ get_or xs j d → i ≡ j
same_place [] i j d a li lj e = absurd (omega (arith, li))
same_place (x ∷ xs) zero zero d a li lj e = refl
same_place {X} (x ∷ xs) zero (suc j) d a li lj e = absurd (a.0 (subst (λ (y : X). Member y xs) (sym e) (member_at xs j d (omega (arith, lj)))))
same_place {X} (x ∷ xs) (suc i) zero d a li lj e = absurd (a.0 (subst (λ (y : X). Member y xs) e (member_at xs i d (omega (arith, li)))))
same_place (x ∷ xs) (suc i) (suc j) d a li lj e = ap suc (same_place xs i j d a.1 (omega (arith, li)) (omega (arith, lj)) e)

same_path : (d : Design) (i j : ℕ) → i < length (paths d) → j < length (paths d) → bytes_eq (path_in d i) (path_in d j) ≡ nat_eq i j
same_path d i j li lj = by (bytes_eq (path_in d i) (path_in d j)) refl (nat_eq i j) refl
  where
    by : (p : Bool) → bytes_eq (path_in d i) (path_in d j) ≡ p → (q : Bool) → nat_eq i j ≡ q → p ≡ q
    by true e true f = refl
    by false e false f = refl
    by true e false f =
        let same = same_place (paths d) i j [] (paths_apart d) li lj ((bytes_decides (path_in d i) (path_in d j)).0 e) in
        absurd (true≢false (sym (eq-eqb i j same) ∙ f))
    by false e true f =
        let same : path_in d i ≡ path_in d j = ap (path_in d) (eqb-true i j f) in
        absurd (false≢true (sym e ∙ (bytes_decides (path_in d i) (path_in d j)).1 same))

-- whether a net is the flat net that stands for it
itself_is : (blocks : List FlatModule) (nodes : List Node) (top : ℕ) (n : Numbering) (node net number : ℕ) → IsLaid blocks nodes top n → node < length nodes →
    net < length (own (design_of blocks top) (path_in (design_of blocks top) node)).names →
    number ≡ flat_number (design_of blocks top) (on (path_in (design_of blocks top) node) net) →
    is_itself n number node net
    ≡ is_same (home (design_of blocks top) (on (path_in (design_of blocks top) node) net)) (on (path_in (design_of blocks top) node) net)
itself_is blocks nodes top n node net number h lt inside e =
    let d = design_of blocks top in
    let a : PathNet = on (path_in d node) net in
    let here : node < length (paths d) = subst (λ (k : ℕ). node < k) h.stand.count lt in
    let valid : Valid d a = (member_at (paths d) node [] here, inside) in
    let low = number_within d h.design a valid in
    let count : length (flat_nets d) ≡ length n.places =
    ap (λ (l : List PathNet). length l) (sym h.numbering.nets) ∙ length-map n.places (net_at d) in
    let there : number < length n.places = omega (arith, e, low, count) in
    let p = get_or n.places number no_place in
    let at : net_at d p ≡ home d a =
    sym (get_or-map (net_at d) n.places number no_place no_net there)
    ∙ (ap (λ (l : List PathNet). get_or l number no_net) h.numbering.nets
    ∙ (ap (λ (k : ℕ). get_or (flat_nets d) k no_net) e ∙ number_home d h.design a no_net valid)) in
    let placed : p.node < length (paths d) = subst (λ (k : ℕ). p.node < k) h.stand.count (h.numbering.placed number no_place there) in
    ap (λ (b : Bool). b && nat_eq p.net net) (sym (same_path d p.node node placed here)) ∙ ap (λ (s : PathNet). is_same s a) at

-- whether a constant is a repeat
pub repeat_is : (blocks : List FlatModule) (nodes : List Node) (top : ℕ) (n : Numbering) (node : ℕ) (b : FlatModule) (k : Const) (number : ℕ) →
    IsLaid blocks nodes top n → node < length nodes → b ≡ get_or blocks (node_at nodes node).of b → k.net.0 < length b.names →
    number ≡ flat_number (design_of blocks top) (on (path_in (design_of blocks top) node) k.net.0) →
    (is_root_at blocks nodes node k.net.0
    && bytes_eq (get_or (map string_bytes b.names) k.net.0 []) (constant_key k.value)
    && not (is_itself n number node k.net.0))
    ≡ is_repeat (design_of blocks top) (on (path_in (design_of blocks top) node) k)
repeat_is blocks nodes top n node b k number h lt eb inside e =
    let d = design_of blocks top in
    let p = path_in d node in
    let own_same : own d p ≡ own_of b = own_is blocks nodes top node b h.stand lt (h.climb.block node lt) eb in
    let wide : length (own d p).names ≡ length b.names = ap (λ (o : Parts). length o.names) own_same ∙ length-map b.names string_bytes in
    let named = bytes_eq (get_or (map string_bytes b.names) k.net.0 []) (constant_key k.value) in
    ap (λ (t : Bool). is_root_at blocks nodes node k.net.0 && named && not t)
    (itself_is blocks nodes top n node k.net.0 number h lt (omega (arith, wide, inside)) e)
    ∙ (ap
    (λ (js : List Join). is_none (joined_with js k.net.0) && named && not (is_same (home d (on p k.net.0)) (on p k.net.0)))
    (sym (joins_are blocks nodes top node h.stand lt))
    ∙ ap (λ (o : Parts). is_root d (on p k.net.0) && is_named_so o k && not (is_same (home d (on p k.net.0)) (on p k.net.0))) (sym own_same))
