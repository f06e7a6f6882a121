use Rattle.std.proofs.Common.{take}
use Rattle.bs_chip.specs.Parities.{IsParityWord}
use Rattle.bs_preimage_recorded.proofs.groups.group_word.Given as goal

abbrev pub invariant-places : goal.invariant-places
invariant-places l = IsParityWord (take l.place-index l.group) l.planes l.wide l.word l.parity
