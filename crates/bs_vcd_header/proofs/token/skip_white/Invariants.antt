use Rattle.std.proofs.Common.{◌≡◌, ◌+◌, ◌≤◌, length}
use Rattle.bs_vcd_header.specs.Tokens.{tokens_from}
use Rattle.bs_vcd_header.proofs.token.skip_white.Given as goal

abbrev pub invariant-white : goal.invariant-white
invariant-white l = record {
  same : tokens_from l.fn.line l.text ≡ tokens_from l.spot.line l.spot.rest.now;
  within : l.spot.line + length l.spot.rest.now ≤ l.fn.line + length l.text;
  shorter : length l.spot.rest.now ≤ length l.text;
}

abbrev pub decreases-white : goal.decreases-white
decreases-white l = length l.spot.rest.now
