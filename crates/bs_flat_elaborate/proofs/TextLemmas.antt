-- The texts of paths, by nodes.
use Rattle.std.proofs.Common.{◌≡◌, ℕ, ◌<◌, List, [], ◌∷◌, ◌++◌, length, refl, arith, ap, sym, ◌∙◌}
use Rattle.std.specs.Prelude.{codes}
use Rattle.bs_flat_meaning.specs.declared.paths.Node.{Node}
use Rattle.bs_flat_meaning.specs.Design.{Design, Module, Path, instance_in, module_at}
use Rattle.bs_flat_meaning.specs.Flat.{path_text}
use Rattle.bs_flat_nets.specs.Blocks.{design_of}
use Rattle.bs_flat_nets.specs.Climbing.{node_at, path_in}
use Rattle.bs_flat_nets.specs.declared.blocks.FlatModule.{FlatModule}
use Rattle.bs_flat_elaborate.specs.Keys.{name_of_node, IsPathText}
use Rattle.bs_flat_nets.proofs.ClimbLemmas.{first_path}

text_of_top : (d : Design) → path_text d [] ≡ []
unfolding path_text
text_of_top d = refl

text_below : (d : Design) (i : ℕ) (p : Path) → path_text d (i ∷ p) ≡ path_text d p ++ ((instance_in (module_at d p) i).name ++ codes ".")
unfolding path_text
text_below d i p = refl

-- the top's path has no text
pub text_top : (blocks : List FlatModule) (nodes : List Node) (at : ℕ) (text : List ℕ) → at ≡ 0 → text ≡ [] → IsPathText blocks nodes at text
text_top blocks nodes at text e none =
    record {
      is =
          λ top a.
          let d = design_of blocks top in
          none ∙ sym (ap (path_text d) (ap (path_in d) e ∙ first_path d) ∙ text_of_top d);
    }

-- a path's text has that of its parent before the last name
pub text_more : (blocks : List FlatModule) (nodes : List Node) (at : ℕ) (before after : List ℕ) → 0 < at → at < length nodes →
    IsPathText blocks nodes (node_at nodes at).parent before → after ≡ before ++ (name_of_node blocks nodes at ++ codes ".") →
    IsPathText blocks nodes at after
text_more blocks nodes at before after pos lt b e =
    record {
      is =
          λ top a.
          let d = design_of blocks top in
          let s = a.each at lt in
          let up = s.parent pos in
          let i = (node_at nodes at).instance in
          let p = path_in d (node_at nodes at).parent in
          let name : name_of_node blocks nodes at ≡ (instance_in (module_at d p) i).name =
          ap (λ (m : Module). (instance_in m i).name) (a.each (node_at nodes at).parent (omega (arith, up, lt))).same in
          e
          ∙ (ap (λ (t : List ℕ). t ++ (name_of_node blocks nodes at ++ codes ".")) (b.is top a)
          ∙ (ap (λ (t : List ℕ). path_text d p ++ (t ++ codes ".")) name
          ∙ (sym (text_below d i p) ∙ sym (ap (path_text d) (s.path pos)))));
    }
