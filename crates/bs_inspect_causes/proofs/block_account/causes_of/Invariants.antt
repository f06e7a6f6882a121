use Rattle.std.proofs.Common.{◌≡◌, filter, take}
use Rattle.bs_inspect_causes.specs.Accounts.{is_cause}
use Rattle.bs_inspect_causes.proofs.block_account.causes_of.Given as goal

abbrev pub invariant-given : goal.invariant-given
invariant-given l = l.facts ≡ filter (is_cause l.block) (take l.fact-index l.given)
