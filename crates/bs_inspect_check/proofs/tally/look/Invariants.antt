use Rattle.std.proofs.Common.{◌≡◌, ◌≤◌, take}
use Rattle.std.specs.List.{count_by, list_any, range_with_len}
use Rattle.bs_vcd.specs.Levels.{known_in}
use Rattle.bs_inspect_check.specs.Flops.{differs_at, is_unknown}
use Rattle.bs_inspect_check.specs.Samples.{levels_by}
use Rattle.bs_inspect_check.proofs.tally.look.Given as goal

abbrev pub invariant-flops : goal.invariant-flops
invariant-flops l = record {
  differs : l.differs ≡ list_any (differs_at l.state (levels_by l.sources (known_in l.known))) (range_with_len 0 l.i);
  unknown : l.unknown ≡ count_by is_unknown (take l.i (levels_by l.sources (known_in l.known)));
  few : l.unknown ≤ l.i;
}
