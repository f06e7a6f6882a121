use Rattle.std.proofs.Common.{◌≡◌}
use Rattle.std.specs.List.{All}
use Rattle.bs_inspect_causes.specs.Chains.{IsWithin, chains_of}
use Rattle.bs_inspect_causes.proofs.chain.chains_of.Given as goal

abbrev pub invariant-accounts : goal.invariant-accounts
invariant-accounts l = record {
  so_far : l.chains.items ≡ chains_of l.accounts l.i;
  within : All (IsWithin l.i) l.chains.items;
}
