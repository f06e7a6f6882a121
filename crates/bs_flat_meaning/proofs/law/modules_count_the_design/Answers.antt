use Rattle.bs_flat_meaning.proofs.CountLemmas.{parts_are_summed}
use Rattle.bs_flat_meaning.proofs.HeightLemmas.{depth_is_height}
use Rattle.bs_flat_meaning.proofs.law.modules_count_the_design.Goals as goal

pub returns : goal.returns
returns c = record {
  parts = parts_are_summed;
  depth = depth_is_height;
}
