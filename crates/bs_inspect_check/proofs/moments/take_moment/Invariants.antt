use Rattle.std.proofs.Common.{◌≡◌, ◌+◌, ◌≤◌, length, Some}
use Rattle.bs_vcd_header.specs.Tokens.{tokens_from}
use Rattle.bs_vcd.specs.History.{history_from, mode_in}
use Rattle.bs_inspect_check.specs.Taking.{history_at, moment_in}
use Rattle.bs_inspect_check.proofs.moments.take_moment.Given as goal

abbrev pub invariant-words : goal.invariant-words
invariant-words l = record {
  whole : history_at (Some l.spot) ≡ history_from (mode_in l.place) (moment_in l.spot.time l.changes.items) (tokens_from l.line l.rest);
  counted : l.line + length l.rest ≤ l.spot.line + length l.spot.rest.now;
  shorter : length l.rest ≤ length l.spot.rest.now;
}

abbrev pub decreases-words : goal.decreases-words
decreases-words l = length l.rest
