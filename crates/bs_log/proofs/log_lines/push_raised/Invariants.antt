use Rattle.std.proofs.Common.{◌≡◌, ◌++◌, map, take}
use Rattle.std.specs.List.{flat_map}
use Rattle.bs_log.specs.LineText.{id_text}
use Rattle.bs_log.specs.Lines.{raised}
use Rattle.bs_log.proofs.log_lines.push_raised.Given as goal

abbrev pub invariant-ids : goal.invariant-ids
invariant-ids l = l.text.items ≡ l.initial.text.items ++ flat_map id_text (map (raised l.f) (take l.id-index l.ids))
