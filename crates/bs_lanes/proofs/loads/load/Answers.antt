use Rattle.bs_lanes.specs.Settling.{lane_loads}
use Rattle.bs_lanes.proofs.SettlingLemmas.{one_load, all_taken}
use Rattle.std.proofs.Common.{◌∙◌}
use Rattle.std.proofs.lemmas.Simd.{length-put_chunk}
use Rattle.bs_lanes.proofs.loads.load.Goals as goal

pub flops-preserved : goal.flops-preserved
flops-preserved g c =
    rw c.put_plane.ensures
    (record {
      size = length-put_chunk _ c.flops.planes _ ∙ c.flops.invariant.size;
      so_far = one_load g.row.N c.args.nets.now c.flops.planes _ c.args.flops.now c.flops.i _ c.flops-test.true
          (c.flops.invariant.size ∙ c.requires.same) c.flops.invariant.so_far c.load_plane-plane.ensures;
    })

pub returns : goal.returns
returns g c =
    record {
      size = c.flops.invariant.size;
      each = λ r lt. all_taken g.row.N c.flops.planes c.args.flops.now c.flops.i (lane_loads g.row.N c.args.nets.now r) r c.flops-test.false
          (c.flops.invariant.so_far r lt);
    }
