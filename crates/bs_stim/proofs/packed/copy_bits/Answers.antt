use Rattle.std.proofs.Common.{◌∙◌, arith, length-set}
use Rattle.bs_stim.proofs.PackingLemmas.{one_more_copied}
use Rattle.bs_stim.proofs.packed.copy_bits.Goals as goal

pub places-preserved : goal.places-preserved
places-preserved c =
    record {
      width = rw c.set.ensures (length-set c.places.into c.places.place c.bit_of.result ∙ c.places.invariant.width);
      copied =
          rw (c.set.ensures, c.bit_of.ensures)
          (one_more_copied c.args.words.now c.args.start c.places.place c.places.into
          (omega (arith, c.places-test.true, c.len-place-end.ensures, c.places.invariant.width)) c.places.invariant.copied);
    }
