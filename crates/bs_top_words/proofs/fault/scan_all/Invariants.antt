use Rattle.std.proofs.Common.{◌≡◌, ◌≤◌, ◌+◌, drop, map, string_bytes}
use Rattle.bs_top_words.specs.declared.fault.NextWord.TheVariants.{Any}
use Rattle.bs_top_words.specs.Faults.{scan_all, scanned}
use Rattle.bs_top_words.proofs.fault.scan_all.Given as goal

abbrev pub invariant-words : goal.invariant-words
invariant-words l = record {
  few : l.scan.count ≤ l.i;
  rest :
      scan_all l.command (l.i + 1) (map string_bytes (drop l.i l.words)) l.scan
      ≡ scan_all l.command 1 (map string_bytes l.words) (scanned Any 0);
}
