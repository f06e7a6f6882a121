use Rattle.std.proofs.Common.{◌-◌, length}
use Rattle.bs_flat_modules.proofs.TidyLemmas.{IsTidying}
use Rattle.bs_flat_modules.proofs.alone.is_tidy.Given as goal

abbrev pub invariant-pieces : goal.invariant-pieces
invariant-pieces l = IsTidying l.ts l.from

abbrev pub decreases-pieces : goal.decreases-pieces
decreases-pieces l = length l.ts - l.from
