use Rattle.std.proofs.Common.{◌≡◌, ◌≤◌, ◌++◌, drop}
use Rattle.bs_inspect_report.specs.Lemmas.{counted_from}
use Rattle.bs_inspect_report.proofs.lemmas.lemmas_logged.Given as goal

abbrev pub invariant-lines : goal.invariant-lines
invariant-lines l = record {
  rest : l.counts.items ++ counted_from l.count (drop l.i l.log) ≡ counted_from 0 l.log;
  few : l.count ≤ l.i;
}
