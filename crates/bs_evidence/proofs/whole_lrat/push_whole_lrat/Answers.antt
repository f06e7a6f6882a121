use Rattle.bs_evidence.proofs.Bounds.{start_fits, last_fits}
use Rattle.bs_evidence.proofs.whole_lrat.push_whole_lrat.Goals as goal

pub push_ending-requires : goal.push_ending-requires
push_ending-requires c =
    record {
      writable = c.requires;
      frame = c.frame-f.ensures;
      sum = start_fits c.args.asked.now c.requires c.frame-f.result c.frame-f.ensures;
      last = last_fits c.args.asked.now c.requires c.frame-f.result c.frame-f.ensures c.in_ok-last.last c.in_ok-last.ensures.last;
    }
