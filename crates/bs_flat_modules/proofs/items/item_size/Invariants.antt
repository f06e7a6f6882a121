use Rattle.std.proofs.Common.{◌-◌, length}
use Rattle.bs_flat_modules.proofs.ItemLemmas.{IsOpen}
use Rattle.bs_flat_modules.proofs.items.item_size.Given as goal

abbrev pub invariant-lexemes : goal.invariant-lexemes
invariant-lexemes l = IsOpen l.inside l.at l.ts

abbrev pub decreases-lexemes : goal.decreases-lexemes
decreases-lexemes l = length l.ts - l.at
