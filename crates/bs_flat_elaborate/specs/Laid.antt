-- What is made once of a design of blocks and then only read: the nodes of its paths, and its flat nets.
use Rattle.std.specs.Prelude.{ℕ, ◌<◌, List, length, All}
use Rattle.bs_flat_meaning.specs.Design.{paths}
use Rattle.bs_flat_meaning.specs.Flat.{IsDesign}
use Rattle.bs_flat_meaning.specs.Paths.{ArePaths}
use Rattle.bs_flat_meaning.specs.declared.paths.Node.{Node}
use Rattle.bs_flat_nets.specs.Blocks.{design_of}
use Rattle.bs_flat_nets.specs.Climbing.{AreClimbable}
use Rattle.bs_flat_nets.specs.declared.blocks.FlatModule.{FlatModule}
use Rattle.bs_flat_nets.specs.Numbering.{IsNumbering}
use Rattle.bs_flat_nets.specs.declared.numbers.Numbering.{Numbering}

-- the nodes stand for the paths of the design whose top has this number, and the numbering is of its flat nets
pub record IsLaid (blocks : List FlatModule) (nodes : List Node) (number : ℕ) (n : Numbering) : Type 0 where
  pub top : number < length blocks
  pub stand : ArePaths (design_of blocks number) nodes (paths (design_of blocks number))
  pub climb : AreClimbable blocks nodes
  pub within : All (λ p. p.of < length blocks) nodes
  pub design : IsDesign (design_of blocks number)
  pub numbering : IsNumbering blocks nodes number n
