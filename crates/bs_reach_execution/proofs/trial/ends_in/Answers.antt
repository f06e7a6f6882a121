use Rattle.std.proofs.Common.{sym, ◌∙◌}
use Rattle.bs_scan.proofs.SeenLemmas.{shows_where}
use Rattle.bs_reach_execution.proofs.trial.ends_in.Goals as goal

pub returns : goal.returns
returns c shown =
    record {
      last = c.get.result.now;
      there = c.get.ensures.lookup;
      shown = shows_where c.args.state.now c.get.result.now (sym c.in_ok-shown.ensures ∙ shown);
    }
