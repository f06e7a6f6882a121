use Rattle.std.proofs.Common.{◌≡◌, ◌<◌, ap, sym, ◌∙◌, subst, map, length, List, refl, arith}
use Rattle.std.specs.List.{All}
use Rattle.std.proofs.lemmas.List.{length-map}
use Rattle.bs_flat_meaning.specs.Paths.{ArePathsOf, AreModules}
use Rattle.bs_flat_meaning.specs.declared.paths.Instanced.{Instanced}
use Rattle.bs_flat_meaning.specs.declared.paths.Node.{Node}
use Rattle.bs_flat_nets.specs.Blocks.{design_of, shape_of}
use Rattle.bs_flat_nets.proofs.NodeLemmas.{blocks_are, shapes_within}
use Rattle.bs_flat_nets.proofs.ClimbLemmas.{paths_climb}
use Rattle.bs_flat_nets.proofs.instance_paths.path_nodes.Goals as goal

pub all_paths-requires : goal.all_paths-requires
all_paths-requires c =
    let all : c.slice.result.now ≡ map shape_of c.args.blocks.now = c.slice.ensures ∙ c.in_ok-shapes.ensures in
    let wide = ap length all in
    record {
      there = omega (arith, wide, length-map c.args.blocks.now shape_of, c.requires.top);
      instanced = subst (λ (ms : List Instanced). AreModules ms) (sym all) (shapes_within c.args.blocks.now c.requires.there);
    }

pub returns-clause-all : goal.returns-clause-all
returns-clause-all c =
    let all : c.slice.result.now ≡ map shape_of c.args.blocks.now = c.slice.ensures ∙ c.in_ok-shapes.ensures in
    let paths_are : ArePathsOf (map shape_of c.args.blocks.now) c.args.top c.in_ok-nodes.nodes =
    subst (λ (ms : List Instanced). ArePathsOf ms c.args.top c.in_ok-nodes.nodes) all c.in_ok-nodes.ensures.all in
    paths_are.all (design_of c.args.blocks.now c.args.top) (blocks_are c.args.blocks.now c.args.top) refl

pub returns-clause-within : goal.returns-clause-within
returns-clause-within c =
    let all : c.slice.result.now ≡ map shape_of c.args.blocks.now = c.slice.ensures ∙ c.in_ok-shapes.ensures in
    let wide : length c.slice.result.now ≡ length c.args.blocks.now = ap length all ∙ length-map c.args.blocks.now shape_of in
    subst (λ n. All (λ (p : Node). p.of < n) c.in_ok-nodes.nodes) wide c.in_ok-nodes.ensures.within

pub returns-clause-climb : goal.returns-clause-climb
returns-clause-climb c =
    let blocks = c.args.blocks.now in
    let all : c.slice.result.now ≡ map shape_of blocks = c.slice.ensures ∙ c.in_ok-shapes.ensures in
    let wide : length c.slice.result.now ≡ length blocks = ap length all ∙ length-map blocks shape_of in
    let paths_are : ArePathsOf (map shape_of blocks) c.args.top c.in_ok-nodes.nodes =
    subst (λ (ms : List Instanced). ArePathsOf ms c.args.top c.in_ok-nodes.nodes) all c.in_ok-nodes.ensures.all in
    paths_climb blocks c.in_ok-nodes.nodes c.args.top (paths_are.all (design_of blocks c.args.top) (blocks_are blocks c.args.top) refl)
    (subst (λ n. All (λ (p : Node). p.of < n) c.in_ok-nodes.nodes) wide c.in_ok-nodes.ensures.within)
