use Rattle.std.proofs.Common.{◌≡◌, ◌++◌, take}
use Rattle.std.specs.List.{flat_map}
use Rattle.bs_net.specs.Netlist.{parts_of}
use Rattle.bs_inspect_why.specs.Table.{account_rows}
use Rattle.bs_inspect_why.proofs.table.push_accounts.Given as goal

abbrev pub invariant-accounts : goal.invariant-accounts
invariant-accounts l = l.text.items ≡ l.initial.text.items ++ flat_map (account_rows (parts_of l.raw)) (take l.account-index l.accounts)
