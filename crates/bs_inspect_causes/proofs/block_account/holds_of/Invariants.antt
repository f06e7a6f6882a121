use Rattle.std.proofs.Common.{◌≡◌, filter, not, take}
use Rattle.bs_inspect_causes.specs.Accounts.{is_cause}
use Rattle.bs_inspect_causes.proofs.block_account.holds_of.Given as goal

abbrev pub invariant-given : goal.invariant-given
invariant-given l = l.facts ≡ filter (λ f. not (is_cause l.block f)) (take l.fact-index l.given)
