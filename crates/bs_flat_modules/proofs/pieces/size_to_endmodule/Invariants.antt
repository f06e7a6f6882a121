use Rattle.std.proofs.Common.{◌≡◌, ◌-◌, length, drop}
use Rattle.bs_flat_meaning.specs.Pieces as pieces
use Rattle.bs_flat_modules.proofs.PieceLemmas.{ahead}
use Rattle.bs_flat_modules.proofs.pieces.size_to_endmodule.Given as goal

abbrev pub invariant-lexemes : goal.invariant-lexemes
invariant-lexemes l = ahead l.at l.ts (pieces.to_endmodule (drop l.at l.ts)) ≡ pieces.to_endmodule l.ts

abbrev pub decreases-lexemes : goal.decreases-lexemes
decreases-lexemes l = length l.ts - l.at
