use Rattle.std.proofs.Common.{◌≡◌, take, drop}
use Rattle.bs_net_names.specs.Splits.{first_split}
use Rattle.bs_net_names.proofs.SplitLemmas.{onto_all}
use Rattle.bs_net_names.proofs.splits.first_split.Given as goal

abbrev pub invariant-text : goal.invariant-text
invariant-text l = first_split l.byte l.text ≡ onto_all (take l.i l.text) (first_split l.byte (drop l.i l.text))
