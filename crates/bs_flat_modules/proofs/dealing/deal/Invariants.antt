use Rattle.std.proofs.Common.{◌-◌, length}
use Rattle.bs_flat_modules.proofs.DealLemmas.{IsDealing}
use Rattle.bs_flat_modules.proofs.dealing.deal.Given as goal

abbrev pub invariant-pieces : goal.invariant-pieces
invariant-pieces l = IsDealing l.ts l.modules l.others l.from

abbrev pub decreases-pieces : goal.decreases-pieces
decreases-pieces l = length l.ts - l.from
