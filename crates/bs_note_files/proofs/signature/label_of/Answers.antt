use Rattle.std.proofs.Common.{arith, refl}
use Rattle.std.specs.Prelude.{codes}
use Rattle.bs_net.specs.Netlist.{parts_of}
use Rattle.bs_net_names.proofs.PieceLemmas.{one_more_piece}
use Rattle.bs_note_files.specs.Signatures.{key_piece}
use Rattle.bs_note_files.proofs.signature.label_of.Goals as goal

pub flops-preserved : goal.flops-preserved
flops-preserved c =
    one_more_piece (key_piece (parts_of c.args.raw.now)) c.args.flops.now c.flops.flop-index _ _ (codes "the nearest keys of flip-flops:")
    c.flops.label.items c.push_key.new.label.items (omega (arith, c.flops-test.true)) refl c.flops.invariant c.in_ok-push_key.ensures
