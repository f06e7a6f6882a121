use Rattle.std.proofs.Common.{◌≡◌, ◌+◌, ◌≤◌, length}
use Rattle.bs_vcd_header.specs.Tokens.{tokens_from}
use Rattle.bs_vcd.specs.History.{Plain, mode_in}
use Rattle.bs_vcd.specs.Sampled.{asked_in}
use Rattle.bs_vcd.specs.Watching.{watch_in, watched_from}
use Rattle.bs_vcd.proofs.clock_edges.take_all.Given as goal

abbrev pub invariant-words : goal.invariant-words
invariant-words l = record {
  whole : watched_from (asked_in l.asked) Plain (watch_in l.initial.watch) (tokens_from l.fn.line l.text)
      ≡ watched_from (asked_in l.asked) (mode_in l.mode) (watch_in l.watch) (tokens_from l.line l.rest);
  counted : l.line + length l.rest ≤ l.fn.line + length l.text;
}

abbrev pub decreases-words : goal.decreases-words
decreases-words l = length l.rest
