-- Climbing over nodes is climbing over paths.
use Rattle.std.proofs.Common.{◌≡◌, ℕ, ◌<◌, ◌+◌, List, [], ◌∷◌, length, get_or, refl, arith, subst, ap, sym, ◌∙◌}
use Rattle.std.proofs.Common.{add-one, Option, Some, None}
use Rattle.std.specs.List.{All}
use Rattle.bs_flat_meaning.specs.declared.limits.TheConstants.{MAX_DEPTH}
use Rattle.bs_flat_meaning.specs.declared.paths.Node.{Node}
use Rattle.bs_flat_meaning.specs.Design.{Design, Module, Join, Path, PathNet, on, joins_at, instance_in, paths_from, paths}
use Rattle.bs_flat_meaning.specs.Meaning.{root, joined_with}
use Rattle.bs_flat_meaning.specs.Paths.{ArePaths, no_node}
use Rattle.bs_flat_meaning.proofs.MemberLemmas.{Member, member_at}
use Rattle.bs_flat_meaning.proofs.RootLemmas.{Rooted, rooted}
use Rattle.bs_flat_nets.specs.Blocks.{design_of}
use Rattle.bs_flat_nets.specs.Climbing.{node_at, joins_of_node, AreClimbable, path_in, LeadsUp, IsRootOf}
use Rattle.bs_flat_nets.specs.declared.blocks.FlatModule.{FlatModule}

-- ---- paths

first_from : (n : ℕ) (d : Design) (p : Path) → get_or (paths_from (n + 1) d p) 0 [] ≡ p
unfolding paths_from
first_from n d p = rw add-one refl

-- the first path is the top's
pub first_path : (d : Design) → path_in d 0 ≡ []
unfolding paths
first_path d = first_from MAX_DEPTH d []

-- the joins of a node's path are those of its instance
joins_are : (blocks : List FlatModule) (nodes : List Node) (top k : ℕ) → ArePaths (design_of blocks top) nodes (paths (design_of blocks top)) → 0 < k →
    k < length nodes → joins_at (design_of blocks top) (path_in (design_of blocks top) k) ≡ joins_of_node blocks nodes k
joins_are blocks nodes top k a pos lt =
    let d = design_of blocks top in
    let s = a.each k lt in
    let up = s.parent pos in
    ap (joins_at d) (s.path pos)
    ∙ ap (λ (m : Module). (instance_in m (node_at nodes k).instance).joins) (sym (a.each (node_at nodes k).parent (omega (arith, up, lt))).same)

root_some : (d : Design) (i : ℕ) (p : Path) (n m : ℕ) → joined_with (joins_at d (i ∷ p)) n ≡ Some m → root d (i ∷ p) n ≡ root d p m
unfolding root
root_some d i p n m e = ap (λ (o : Option ℕ). elim o as (λ _. PathNet) [ Some k ↦ root d p k | None ↦ on (i ∷ p) n ]) e

root_none : (d : Design) (i : ℕ) (p : Path) (n : ℕ) → joined_with (joins_at d (i ∷ p)) n ≡ None → root d (i ∷ p) n ≡ on (i ∷ p) n
unfolding root
root_none d i p n e = ap (λ (o : Option ℕ). elim o as (λ _. PathNet) [ Some k ↦ root d p k | None ↦ on (i ∷ p) n ]) e

root_top : (d : Design) (n : ℕ) → root d [] n ≡ on [] n
unfolding root
root_top d n = refl

-- ---- one step

pub leads_start : (blocks : List FlatModule) (nodes : List Node) (at net : ℕ) → LeadsUp blocks nodes at net at net
leads_start blocks nodes at net = record { leads = λ top a. refl }

pub leads_more : (blocks : List FlatModule) (nodes : List Node) (at net node outer m : ℕ) → 0 < node → node < length nodes →
    joined_with (joins_of_node blocks nodes node) outer ≡ Some m → LeadsUp blocks nodes at net node outer →
    LeadsUp blocks nodes at net (node_at nodes node).parent m
leads_more blocks nodes at net node outer m pos lt e l =
    record {
      leads =
          λ top a.
          let d = design_of blocks top in
          let path = (a.each node lt).path pos in
          let i = (node_at nodes node).instance in
          let p = path_in d (node_at nodes node).parent in
          let joined : joined_with (joins_at d (i ∷ p)) outer ≡ Some m =
          ap (λ (js : List Join). joined_with js outer) (ap (joins_at d) (sym path) ∙ joins_are blocks nodes top node a pos lt) ∙ e in
          l.leads top a ∙ (ap (λ (q : Path). root d q outer) path ∙ root_some d i p outer m joined);
    }

pub root_here : (blocks : List FlatModule) (nodes : List Node) (at net node outer : ℕ) → 0 < node → node < length nodes →
    joined_with (joins_of_node blocks nodes node) outer ≡ None → LeadsUp blocks nodes at net node outer →
    IsRootOf blocks nodes at net (record { node = node; net = outer })
root_here blocks nodes at net node outer pos lt e l =
    record {
      is =
          λ top a.
          let d = design_of blocks top in
          let path = (a.each node lt).path pos in
          let i = (node_at nodes node).instance in
          let p = path_in d (node_at nodes node).parent in
          let joined : joined_with (joins_at d (i ∷ p)) outer ≡ None =
          ap (λ (js : List Join). joined_with js outer) (ap (joins_at d) (sym path) ∙ joins_are blocks nodes top node a pos lt) ∙ e in
          l.leads top a
          ∙ (ap (λ (q : Path). root d q outer) path ∙ (root_none d i p outer joined ∙ ap (λ (q : Path). on q outer) (sym path)));
    }

pub root_at_top : (blocks : List FlatModule) (nodes : List Node) (at net node outer : ℕ) → node ≡ 0 → LeadsUp blocks nodes at net node outer →
    IsRootOf blocks nodes at net (record { node = node; net = outer })
root_at_top blocks nodes at net node outer e l =
    record {
      is =
          λ top a.
          let d = design_of blocks top in
          let path : path_in d node ≡ [] = ap (path_in d) e ∙ first_path d in
          l.leads top a
          ∙ (ap (λ (q : Path). root d q outer) path ∙ (root_top d outer ∙ ap (λ (q : Path). on q outer) (sym path)));
    }

-- ---- nodes of paths

pub paths_climb : (blocks : List FlatModule) (nodes : List Node) (top : ℕ) → ArePaths (design_of blocks top) nodes (paths (design_of blocks top)) →
    All (λ (p : Node). p.of < length blocks) nodes → AreClimbable blocks nodes
paths_climb blocks nodes top a within =
    let d = design_of blocks top in
    record {
      parent = λ k pos lt. (a.each k lt).parent pos;
      block = λ k lt. within k no_node lt;
      child =
          λ k pos lt.
          let s = a.each k lt in
          let up = s.parent pos in
          let there : Member (path_in d k) (paths d) = member_at (paths d) k [] (subst (λ n. k < n) a.count lt) in
          let r : Rooted d (paths d) ((node_at nodes k).instance ∷ path_in d (node_at nodes k).parent) =
          subst (λ (q : Path). Rooted d (paths d) q) (s.path pos) (rooted d (path_in d k) there) in
          subst (λ (m : Module). (node_at nodes k).instance < length m.instances)
          (sym (a.each (node_at nodes k).parent (omega (arith, up, lt))).same) r.1;
    }
