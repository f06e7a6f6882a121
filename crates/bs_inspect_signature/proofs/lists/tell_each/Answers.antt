use Rattle.std.proofs.Common.{refl, ap, ◌∙◌, arith}
use Rattle.bs_net.specs.Netlist.{circuit}
use Rattle.bs_stim.specs.Runs.{inputs_of}
use Rattle.bs_chip.specs.Stepped.{Stepped}
use Rattle.bs_preimage.specs.Preimage.{PreimageState}
use Rattle.bs_inspect_signature.proofs.MomentCountLemmas.{tells_more, tells_none}
use Rattle.bs_inspect_signature.proofs.lists.tell_each.Goals as goal

pub moments-init : goal.moments-init
moments-init c = record {
  chip = refl;
  about = ap (λ (p : PreimageState). p.circuit) c.requires.preimage;
  chosen = ap (λ (p : PreimageState). p.choice) c.requires.preimage;
  calls = omega (arith, ap (λ (p : PreimageState). p.calls) c.requires.preimage);
  so = tells_none c.args.aim (circuit c.args.net.now) c.args.choice.now (inputs_of c.args.runs.now) c.new-counts.result.items c.new-counts.ensures.items;
}

pub moments-preserved : goal.moments-preserved
moments-preserved c = record {
  chip = ap (λ (chip : Stepped). chip.recording) c.in_ok-one.ensures.chip ∙ c.moments.invariant.chip;
  about = c.in_ok-one.ensures.circuit ∙ c.moments.invariant.about;
  chosen = c.in_ok-one.ensures.choice ∙ c.moments.invariant.chosen;
  calls = omega (arith, c.in_ok-one.ensures.calls, c.moments.invariant.calls);
  so =
      tells_more c.args.aim (circuit c.args.net.now) c.args.choice.now (inputs_of c.args.runs.now) c.moments.counts.items c.push.new.self.items c.in_ok-one.one
      c.moment_of-moment.result c.moments.spent c.weight_of-spent.result c.room_for-room.result c.moments.k c.moments.invariant.so
      c.in_ok-one.ensures.counts c.in_ok-one.ensures.moment c.moment_of-moment.ensures.is c.weight_of-spent.ensures.weight
      (omega (arith, c.if-spent-room.false)) c.room_for-room.ensures.room c.in_ok-push.ensures.items;
}
