use Rattle.bs_inspect_names.proofs.MappingLemmas.{by_line}
use Rattle.bs_inspect_names.proofs.naming.name_of.Goals as goal

pub returns-in_ok-name-in-Some : goal.returns-in_ok-name-in-Some
returns-in_ok-name-in-Some c =
    by_line c.args.key.now c.args.entries.now c.in-Some.entry.now c.in_ok-name-in-Some.name c.in-Some.ensures c.in_ok-name-in-Some.ensures
