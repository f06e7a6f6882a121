use Rattle.bs_flat_modules.proofs.LexemeNumbers.{numbers_take_three_bytes}
use Rattle.bs_flat_modules.proofs.law.connections_take_three_bytes.Goals as goal

pub returns : goal.returns
returns c = numbers_take_three_bytes
