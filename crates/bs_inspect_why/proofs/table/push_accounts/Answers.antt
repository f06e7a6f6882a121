use Rattle.std.proofs.Common.{arith}
use Rattle.bs_net.specs.Netlist.{parts_of}
use Rattle.bs_inspect_why.specs.Table.{account_rows}
use Rattle.bs_inspect_why_words.proofs.StepLemmas.{step_item}
use Rattle.bs_inspect_why.proofs.table.push_accounts.Goals as goal

pub accounts-preserved : goal.accounts-preserved
accounts-preserved c =
    step_item (account_rows (parts_of c.args.raw.now)) c.args.accounts.now c.accounts.account-index c.account-item.result c.args.text.now.items
    c.accounts.text.items c.push_rows.new.text.items (omega (arith, c.accounts-test.true)) c.account-item.is c.accounts.invariant
    c.in_ok-push_rows.ensures
