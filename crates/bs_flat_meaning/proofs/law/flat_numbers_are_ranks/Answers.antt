use Rattle.bs_flat_meaning.proofs.NumberLemmas.{numbers_are_ranks}
use Rattle.bs_flat_meaning.proofs.law.flat_numbers_are_ranks.Goals as goal

pub returns : goal.returns
returns c = numbers_are_ranks
