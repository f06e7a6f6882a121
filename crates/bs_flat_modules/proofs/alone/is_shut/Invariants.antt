use Rattle.bs_flat_modules.proofs.ShutLemmas.{IsShutting}
use Rattle.bs_flat_modules.proofs.alone.is_shut.Given as goal

abbrev pub invariant-lexemes : goal.invariant-lexemes
invariant-lexemes l = IsShutting l.ts l.inside l.t-index l.left
