use Rattle.std.proofs.Common.{◌≡◌, ◌++◌, map, take}
use Rattle.bs_inspect_view.specs.Signals.{signal_in}
use Rattle.bs_inspect_page.specs.Last.{cand_rows}
use Rattle.bs_inspect_page.proofs.last_list.push_rows.Given as goal

abbrev pub invariant-signals : goal.invariant-signals
invariant-signals l = l.text.items ≡ l.initial.text.items ++ cand_rows l.signed l.cands (map signal_in (take l.signal-index l.signals))
