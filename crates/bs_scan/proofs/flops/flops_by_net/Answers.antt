use Rattle.std.proofs.Common.{◌≡◌, ◌∙◌, length, get_or, ap, None}
use Rattle.bs_scan.proofs.FlopLemmas.{noted_step, length_noted}
use Rattle.bs_scan.proofs.flops.flops_by_net.Goals as goal

pub flops-preserved : goal.flops-preserved
flops-preserved c =
    let same : c.slice-flops.result.now ≡ c.args.net.now.raw.flops = c.slice-flops.ensures ∙ ap (λ raw. raw.flops) c.raw-raw.ensures.parts in
    let put = rw same at c.note.ensures in
    record {
      every_net = ap length c.note.ensures ∙ (length_noted c.flops.table.items _ _ ∙ c.flops.invariant.every_net);
      noted = λ n h.
          ap (λ t. get_or t n None) put
          ∙ noted_step c.args.net.now.raw.flops c.flops.i _ c.flops.table.items (length c.args.net.now.raw.names) (rw same at c.flops-test.true)
          c.flops.invariant.every_net c.flops.invariant.noted n h;
    }
