use Rattle.bs_net.specs.declared.net.Flop.{Flop}
use Rattle.bs_lanes.proofs.SettlingLemmas.{one_reset, all_taken}
use Rattle.std.proofs.Common.{◌∙◌}
use Rattle.std.proofs.lemmas.Simd.{length-put_chunk}
use Rattle.bs_lanes.proofs.nets.load_reset.Goals as goal

pub flops-preserved : goal.flops-preserved
flops-preserved g c =
    rw c.put_plane.ensures
    (record {
      size = length-put_chunk _ c.flops.planes _ ∙ c.flops.invariant.size;
      so_far = one_reset g.row.N c.flops.planes _ c.args.flops.now c.flops.i _ c.flops-test.true
          (c.flops.invariant.size ∙ c.requires) c.flops.invariant.so_far c.splat_of-plane.ensures;
    })

pub returns : goal.returns
returns g c =
    record {
      size = c.flops.invariant.size;
      each = λ r lt. all_taken g.row.N c.flops.planes c.args.flops.now c.flops.i (λ (f : Flop). f.reset) r c.flops-test.false (c.flops.invariant.so_far r lt);
    }
