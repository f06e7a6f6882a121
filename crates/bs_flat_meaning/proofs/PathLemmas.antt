-- Nodes stand for paths.
use Rattle.std.proofs.Common.{◌≡◌, ℕ, zero, suc, add-one, ◌<◌, ◌≤◌, ◌+◌, List, [], ◌∷◌, ◌++◌, length, get_or, refl, arith, subst, ap, sym, ◌∙◌, ⊎_elim}
use Rattle.std.proofs.Common.{append-nil}
use Rattle.std.proofs.Common.{append_assoc}
use Rattle.std.specs.List.{All, range_with_len, flat_map}
use Rattle.std.proofs.lemmas.Bool.{cases_lt}
use Rattle.std.proofs.lemmas.List.{get_or_append_left, get_or_push, get_or_default, length_push}
use Rattle.std.proofs.lemmas.List.Elements.{All-push}
use Rattle.std.proofs.lemmas.List.Concat.{flat_map-append}
use Rattle.bs_bits.proofs.RangeLemmas.{range_push}
use Rattle.bs_flat_meaning.specs.declared.paths.Instanced.{Instanced}
use Rattle.bs_flat_meaning.specs.declared.paths.Node.{Node}
use Rattle.bs_flat_meaning.specs.declared.limits.TheConstants.{MAX_DEPTH}
use Rattle.bs_flat_meaning.specs.Design.{Design, Module, Path, instance_in, module_at, module_in, paths_from, paths}
use Rattle.bs_flat_meaning.specs.Paths.{no_instanced, IsOf, AreModules, AreWithin, no_node, StandsFor, ArePaths, ArePathsOf, below, Adds, AddsFirst}

-- ---- one node more

push_nodes : (d : Design) (nodes : List Node) (ps : List Path) (at i m : ℕ) → ArePaths d nodes ps → at < length nodes →
    module_in d m ≡ module_at d (i ∷ get_or ps at []) →
    ArePaths d (nodes ++ record { parent = at; instance = i; of = m } ∷ []) (ps ++ (i ∷ get_or ps at []) ∷ [])
push_nodes d nodes ps at i m a lt same =
    let pl : Node = record { parent = at; instance = i; of = m } in
    let p : Path = i ∷ get_or ps at [] in
    let more = nodes ++ pl ∷ [] in
    let qs = ps ++ p ∷ [] in
    let sizes : length nodes ≡ length ps = a.count in
    record {
      count = length_push nodes pl ∙ (ap (λ n. n + 1) sizes ∙ sym (length_push ps p));
      each =
          λ k below_k.
          ⊎_elim
          (λ (l : k < length nodes).
          let s = a.each k l in
          let node : get_or more k no_node ≡ get_or nodes k no_node = get_or_append_left nodes (pl ∷ []) no_node k l in
          let path : get_or qs k [] ≡ get_or ps k [] = get_or_append_left ps (p ∷ []) [] k (subst (λ n. k < n) sizes l) in
          record {
            same = ap (λ (x : Node). module_in d x.of) node ∙ (s.same ∙ ap (module_at d) (sym path));
            parent = λ pos. subst (λ (x : Node). x.parent < k) (sym node) (s.parent pos);
            path =
                λ pos.
                let up : (get_or nodes k no_node).parent < k = s.parent pos in
                let above : get_or qs (get_or nodes k no_node).parent [] ≡ get_or ps (get_or nodes k no_node).parent [] =
                get_or_append_left ps (p ∷ []) [] _ (omega (arith, up, l, sizes)) in
                path ∙ (s.path pos ∙ (ap (λ (q : Path). (get_or nodes k no_node).instance ∷ q) (sym above)
                ∙ ap (λ (x : Node). x.instance ∷ get_or qs x.parent []) (sym node)));
          })
          (λ (g : length nodes ≤ k).
          let last : k ≡ length nodes = omega (arith, g, below_k, length_push nodes pl) in
          let node : get_or more k no_node ≡ pl = get_or_push nodes pl no_node k (sym last) in
          let path : get_or qs k [] ≡ p = get_or_push ps p [] k (sym (last ∙ sizes)) in
          let above : get_or qs at [] ≡ get_or ps at [] = get_or_append_left ps (p ∷ []) [] at (subst (λ n. at < n) sizes lt) in
          record {
            same = ap (λ (x : Node). module_in d x.of) node ∙ (same ∙ ap (module_at d) (sym path));
            parent = λ pos. subst (λ (x : Node). x.parent < k) (sym node) (subst (λ n. at < n) (sym last) lt);
            path = λ pos. path ∙ (ap (λ (q : Path). i ∷ q) (sym above) ∙ ap (λ (x : Node). x.instance ∷ get_or qs x.parent []) (sym node));
          })
          (cases_lt k (length nodes));
    }

-- ---- the loop

pub adds_none : (modules : List Instanced) (nodes : List Node) (at levels : ℕ) → AddsFirst modules nodes nodes at levels 0
adds_none modules nodes at levels = record { adds = λ d ps f a. subst (λ (qs : List Path). ArePaths d nodes qs) (sym (append-nil ps)) a }

pub adds_nothing : (modules : List Instanced) (nodes : List Node) (at : ℕ) → Adds modules nodes nodes at 0
unfolding paths_from
adds_nothing modules nodes at =
    record {
      adds =
          λ d ps f a.
          subst (λ (qs : List Path). ArePaths d nodes qs)
          (sym (ap (λ (u : List Path). ps ++ u) (empty d (get_or ps at []) (range_with_len 0 (length (module_at d (get_or ps at [])).instances)))
          ∙ append-nil ps)) a;
    }
  where
    empty : (d : Design) (p : Path) (ns : List ℕ) → flat_map (λ i. paths_from 0 d (i ∷ p)) ns ≡ []
    empty d p [] = refl
    empty d p (n ∷ ns) = empty d p ns

-- a module has the instances with these numbers
record Has (m : Module) (s : Instanced) : Type 0 where
  count : length m.instances ≡ length s.instances
  of : (i : ℕ) → i < length s.instances → (instance_in m i).of ≡ get_or s.instances i 0

has_at : (modules : List Instanced) (d : Design) (k : ℕ) (s : Instanced) → IsOf modules d → k < length modules → s ≡ get_or modules k s → Has (module_in d k) s
has_at modules d k s f lt e =
    let same : get_or modules k no_instanced ≡ s = get_or_default modules k no_instanced s lt ∙ sym e in
    subst (λ (u : Instanced). Has (module_in d k) u) same (record { count = f.count k lt; of = λ i li. f.of k i lt li })

-- the module of a node, by its number
node_module : (modules : List Instanced) (nodes : List Node) (at : ℕ) (s : Instanced) (d : Design) (ps : List Path) → at < length nodes →
    (get_or nodes at no_node).of < length modules → s ≡ get_or modules (get_or nodes at no_node).of s → IsOf modules d → ArePaths d nodes ps →
    Has (module_at d (get_or ps at [])) s
node_module modules nodes at s d ps lt within e f a =
    subst (λ (m : Module). Has m s) (a.each at lt).same (has_at modules d (get_or nodes at no_node).of s f within e)

paths_one : (n : ℕ) (d : Design) (p : Path) → paths_from (suc n) d p ≡ p ∷ below n d p
unfolding paths_from
paths_one n d p = refl

pub adds_more : (modules : List Instanced) (old now after : List Node) (at n i m : ℕ) (s : Instanced) → at < length old → length old ≤ length now →
    (get_or old at no_node).of < length modules → s ≡ get_or modules (get_or old at no_node).of s → i < length s.instances → m ≡ get_or s.instances i m →
    AddsFirst modules old now at (suc n) i → Adds modules (now ++ record { parent = at; instance = i; of = m } ∷ []) after (length now) n →
    AddsFirst modules old after at (suc n) (i + 1)
unfolding module_at
adds_more modules old now after at n i m s lt le within e li em first rest =
    record {
      adds =
          λ d ps f a.
          let p = get_or ps at [] in
          let F : ℕ → List Path = λ k. paths_from (suc n) d (k ∷ p) in
          let qs = ps ++ flat_map F (range_with_len 0 i) in
          let a1 : ArePaths d now qs = first.adds d ps f a in
          let here : get_or qs at [] ≡ p = get_or_append_left ps (flat_map F (range_with_len 0 i)) [] at (subst (λ k. at < k) a.count lt) in
          let there : at < length now = omega (arith, lt, le) in
          let shape : Has (module_at d p) s = node_module modules old at s d ps lt within e f a in
          let one : (instance_in (module_at d (get_or qs at [])) i).of ≡ m = ap (λ (q : Path). (instance_in (module_at d q) i).of) here
          ∙ (shape.of i li ∙ (get_or_default s.instances i 0 m li ∙ sym em)) in
          let a2 = push_nodes d now qs at i m a1 there (ap (module_in d) (sym one)) in
          let last : get_or (qs ++ (i ∷ get_or qs at []) ∷ []) (length now) [] ≡ i ∷ p =
          get_or_push qs (i ∷ get_or qs at []) [] (length now) (sym a1.count) ∙ ap (λ (q : Path). i ∷ q) here in
          let a3 = rest.adds d (qs ++ (i ∷ get_or qs at []) ∷ []) f a2 in
          let lists : (qs ++ (i ∷ get_or qs at []) ∷ []) ++ below n d (get_or (qs ++ (i ∷ get_or qs at []) ∷ []) (length now) []) ≡ ps ++ flat_map F
          (range_with_len 0 (i + 1)) =
          ap (λ (q : Path). (qs ++ (i ∷ get_or qs at []) ∷ []) ++ below n d q) last
          ∙ (ap (λ (q : Path). (qs ++ (i ∷ q) ∷ []) ++ below n d (i ∷ p)) here
          ∙ (append_assoc qs ((i ∷ p) ∷ []) (below n d (i ∷ p))
          ∙ (append_assoc ps (flat_map F (range_with_len 0 i)) ((i ∷ p) ∷ below n d (i ∷ p))
          ∙ ap (λ (u : List Path). ps ++ u)
          (ap (λ (u : List Path). flat_map F (range_with_len 0 i) ++ u) (sym (append-nil (F i) ∙ paths_one n d (i ∷ p)))
          ∙ (sym (flat_map-append F (range_with_len 0 i) (i ∷ [])) ∙ ap (flat_map F) (sym (range_push i))))))) in
          subst (λ (us : List Path). ArePaths d after us) lists a3;
    }

pub adds_all : (modules : List Instanced) (old after : List Node) (at levels i : ℕ) (s : Instanced) → at < length old →
    (get_or old at no_node).of < length modules → s ≡ get_or modules (get_or old at no_node).of s → i ≡ length s.instances →
    AddsFirst modules old after at levels i → Adds modules old after at levels
adds_all modules old after at levels i s lt within e all first =
    record {
      adds =
          λ d ps f a.
          let shape : Has (module_at d (get_or ps at [])) s = node_module modules old at s d ps lt within e f a in
          let count : i ≡ length (module_at d (get_or ps at [])).instances = all ∙ sym shape.count in
          subst (λ n. ArePaths d after (ps ++ flat_map (λ k. paths_from levels d (k ∷ get_or ps at [])) (range_with_len 0 n))) count (first.adds d ps f a);
    }

pub push_within : (modules : List Instanced) (nodes after : List Node) (pl : Node) → after ≡ nodes ++ pl ∷ [] → AreWithin modules nodes →
    pl.of < length modules → AreWithin modules after
push_within modules nodes after pl e w lt =
    subst (λ (ps : List Node). AreWithin modules ps) (sym e) (All-push (λ (p : Node). p.of < length modules) nodes pl w lt)

pub instance_within : (modules : List Instanced) (s : Instanced) (k i : ℕ) → AreModules modules → k < length modules → s ≡ get_or modules k s →
    i < length s.instances → get_or s.instances i 0 < length modules
instance_within modules s k i h lt e li =
    let all : All (λ n. n < length modules) s.instances = subst (λ (u : Instanced). All (λ n. n < length modules) u.instances) (sym e) (h k s lt) in
    all i 0 li

pub node_read : (nodes : List Node) (at : ℕ) (p : Node) → at < length nodes → p ≡ get_or nodes at p → get_or nodes at no_node ≡ p
node_read nodes at p lt e = sym (e ∙ get_or_default nodes at p no_node lt)

-- ---- all paths

abbrev top_node : ℕ → Node
top_node top = record { parent = 0; instance = 0; of = top }

top_stands : (d : Design) (top k : ℕ) → d.top ≡ top → k < length (top_node top ∷ []) → StandsFor d (top_node top ∷ []) ([] ∷ []) k
unfolding module_at
top_stands d top zero e lt =
    record {
      same = ap (module_in d) (sym e);
      parent = λ pos. absurd (omega (arith, pos));
      path = λ pos. absurd (omega (arith, pos));
    }
top_stands d top (suc k) e lt = absurd (omega (arith, lt))

paths_more : (n : ℕ) (d : Design) (p : Path) → paths_from (n + 1) d p ≡ p ∷ below n d p
paths_more n d p = rw add-one (paths_one n d p)

paths_are : (d : Design) → [] ∷ below MAX_DEPTH d [] ≡ paths d
unfolding paths
paths_are d = sym (paths_more MAX_DEPTH d [])

-- the top's node, and what is added below it, stand for all paths
pub all_below_top : (modules : List Instanced) (top : ℕ) (start after : List Node) → start ≡ top_node top ∷ [] →
    Adds modules start after 0 MAX_DEPTH → ArePathsOf modules top after
all_below_top modules top start after e added =
    record {
      all =
          λ d f et.
          let one : ArePaths d (top_node top ∷ []) ([] ∷ []) = record { count = refl; each = λ k lt. top_stands d top k et lt } in
          let first : ArePaths d start ([] ∷ []) = subst (λ (ns : List Node). ArePaths d ns ([] ∷ [])) (sym e) one in
          subst (λ (ps : List Path). ArePaths d after ps) (paths_are d) (added.adds d ([] ∷ []) f first);
    }
