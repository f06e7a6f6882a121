use Rattle.std.proofs.Common.{◌≡◌, ◌++◌, take}
use Rattle.bs_flat_modules.proofs.copying.copy.Given as goal

abbrev pub invariant-lexemes : goal.invariant-lexemes
invariant-lexemes l = l.into ≡ l.initial.into ++ take l.t-index l.ts
