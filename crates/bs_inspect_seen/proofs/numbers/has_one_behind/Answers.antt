use Rattle.std.proofs.Common.{arith}
use Rattle.bs_inspect_seen.proofs.NumberLemmas.{none_behind}
use Rattle.bs_inspect_seen.proofs.numbers.has_one_behind.Goals as goal

pub returns-else-place-bits : goal.returns-else-place-bits
returns-else-place-bits c = none_behind c.args.bits.now c.args.place (omega (arith, c.if-place-bits.false))
