use Rattle.std.proofs.Common.{◌≡◌, false, take}
use Rattle.std.specs.List.{list_any}
use Rattle.bs_inspect_why.specs.Stills.{is_given_in}
use Rattle.bs_inspect_why.proofs.still.is_used.Given as goal

abbrev pub invariant-accounts : goal.invariant-accounts
invariant-accounts l = list_any (is_given_in l.still) (take l.account-index l.accounts) ≡ false
