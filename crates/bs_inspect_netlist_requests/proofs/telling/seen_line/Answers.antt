use Rattle.std.proofs.Common.{List, ap, map, ◌∙◌}
use Rattle.bs_inspect_seen.specs.declared.given.Given.{Given as CodeGiven}
use Rattle.bs_inspect_seen.specs.Given.{given_in}
use Rattle.bs_inspect_seen.specs.State.{state_line}
use Rattle.bs_inspect_netlist_requests.proofs.telling.seen_line.Goals as goal

pub returns : goal.returns
returns c = c.in_ok-text.ensures ∙ ap (λ (gs : List CodeGiven). state_line c.args.named.now.net.raw (map given_in gs)) c.as_slice.ensures.value
