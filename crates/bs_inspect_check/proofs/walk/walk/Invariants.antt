use Rattle.std.proofs.Common.{◌≡◌, ◌+◌, ◌≤◌, ◌<◌, ◌^◌, length}
use Rattle.bs_vcd_header.specs.Tokens.{tokens_from}
use Rattle.bs_vcd.specs.History.{history_of}
use Rattle.bs_inspect_check.specs.Taking.{history_at, last_line, left}
use Rattle.bs_inspect_check.specs.Tallies.{IsSmall, walked, watch_in}
use Rattle.bs_inspect_check.proofs.walk.walk.Given as goal

abbrev pub invariant-moments : goal.invariant-moments
invariant-moments l = record {
  whole :
      walked l.sources.clock l.sources.flops.now l.initial.replay.circuit l.initial.replay.run (watch_in l.initial.watch l.initial.replay.state)
      (history_of (tokens_from l.line l.text))
      ≡ walked l.sources.clock l.sources.flops.now l.initial.replay.circuit l.initial.replay.run (watch_in l.watch l.replay.state) (history_at l.at);
  circuit : l.replay.circuit ≡ l.initial.replay.circuit;
  run : l.replay.run ≡ l.initial.replay.run;
  small : IsSmall l.watch.tally;
  counted : l.watch.tally.ended + left l.at ≤ length l.text + 1;
  lines : last_line l.at < 2 ^ 64;
}

abbrev pub decreases-moments : goal.decreases-moments
decreases-moments l = left l.at
