-- Accounts as a table for scripts (docs/FORMATS.md, "Tables"): comma-separated values (RFC 4180), a row for each fact.
use Rattle.std.specs.Prelude.{ℕ, List, [], ◌∷◌, ◌++◌, codes, decimal}
use Rattle.std.specs.List.{flat_map}
use Rattle.bs_bits.specs.Lines.{line}
use Rattle.bs_net.specs.Parts.{Parts, key_at}
use Rattle.bs_net_names.specs.Rtl.{rtl_name}
use Rattle.bs_inspect_view.specs.Values.{value_text}
use Rattle.bs_net_facts.specs.declared.fact.Fact.{Fact}
use Rattle.bs_inspect_report.specs.Table.{field}
use Rattle.bs_inspect_causes.specs.Accounts.{last_bits}
use Rattle.bs_inspect_causes.specs.declared.account.Account.{Account}

-- the layer of an account, and when its bits stand
abbrev pub account_cells : Account → List ℕ
account_cells a = decimal a.layer ++ (codes "," ++ (decimal a.block.since ++ (codes "," ++ decimal a.block.at)))

-- the cycle of a fact, its net's name and its bit
abbrev pub fact_cells : Parts → Fact → List ℕ
fact_cells raw f = decimal f.cycle ++ (codes "," ++ (field (rtl_name (key_at raw f.net.0)) ++ (codes "," ++ value_text (f.bit ∷ []))))

-- what a fact is to an account, and its cells
abbrev pub fact_row : Parts → Account → List ℕ → Fact → List ℕ
fact_row raw a kind f = line (account_cells a ++ (kind ++ fact_cells raw f))

abbrev pub fact_rows : Parts → Account → List ℕ → List Fact → List ℕ
fact_rows raw a kind facts = flat_map (fact_row raw a kind) facts

abbrev pub account_rows : Parts → Account → List ℕ
account_rows raw a =
    fact_rows raw a (codes ",bit,") (last_bits a) ++ (fact_rows raw a (codes ",cause,") a.causes
    ++ (fact_rows raw a (codes ",hold,") a.holds ++ fact_rows raw a (codes ",idle,") a.idle))

abbrev pub accounts_table : Parts → List Account → List ℕ
accounts_table raw accounts = line (codes "layer,since,at,kind,cycle,name,value") ++ flat_map (account_rows raw) accounts
