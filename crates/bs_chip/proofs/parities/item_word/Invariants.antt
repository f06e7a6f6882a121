use Rattle.std.proofs.Common.{take}
use Rattle.bs_chip.specs.Parities.{IsParityWord}
use Rattle.bs_chip.proofs.parities.item_word.Given as goal

abbrev pub invariant-flops : goal.invariant-flops
invariant-flops l = IsParityWord (take l.flop-index l.item) l.planes l.wide l.word l.parity
