use Rattle.std.proofs.Common.{◌≡◌, take}
use Rattle.bs_encode.specs.Frame.{raised_all}
use Rattle.bs_encode.proofs.frames.raise_all.Given as goal

abbrev pub invariant-literals : goal.invariant-literals
invariant-literals l = l.all ≡ raised_all l.by (take l.l-index l.literals)
