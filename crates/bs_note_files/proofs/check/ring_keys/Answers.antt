use Rattle.std.proofs.Common.{arith, refl}
use Rattle.std.specs.Prelude.{codes}
use Rattle.bs_net.specs.Netlist.{parts_of}
use Rattle.bs_net_names.proofs.PieceLemmas.{one_more_piece}
use Rattle.bs_note_files.specs.Checks.{ring_piece}
use Rattle.bs_note_files.proofs.check.ring_keys.Goals as goal

pub gates-preserved : goal.gates-preserved
gates-preserved c =
    one_more_piece (ring_piece (parts_of c.args.raw.now)) c.ring_front-named.result.now c.gates.gate-index _ _
    (codes "gates read one another in a ring, by their output nets:") c.gates.said.items c.push_gate.new.said.items
    (omega (arith, c.gates-test.true)) refl c.gates.invariant c.in_ok-push_gate.ensures
