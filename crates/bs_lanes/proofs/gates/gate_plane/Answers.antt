use Rattle.bs_lanes.proofs.SettlingLemmas.{and_gate, nand_gate, or_gate, nor_gate, xor_gate, xnor_gate, buf_gate, not_gate, some_input}
use Rattle.bs_lanes.proofs.gates.gate_plane.Goals as goal
use Rattle.bs_lanes.proofs.gates.gate_plane.Goals.{in-And, in-Nand, in-Or, in-Nor, in-Xor, in-Xnor, in-Buf, in-Not}

pub returns : goal.returns
returns g c =
    let some = some_input _ _ c.requires.taken in
    let ins = c.slice-ins.ensures in
    elim c.match-gate.branch [
      | in-And w ↦ rw w.result-is (and_gate g.row.N _ _ _ _ _ w.in-And.is ins w.all_one.ensures)
      | in-Nand w ↦ rw w.result-is (nand_gate g.row.N _ _ _ _ _ _ w.in-Nand.is ins w.all_one-in-Nand.ensures w.inverse.ensures)
      | in-Or w ↦ rw w.result-is (or_gate g.row.N _ _ _ _ _ w.in-Or.is ins w.any_one.ensures)
      | in-Nor w ↦ rw w.result-is (nor_gate g.row.N _ _ _ _ _ _ w.in-Nor.is ins w.any_one-in-Nor.ensures w.inverse-in-Nor.ensures)
      | in-Xor w ↦ rw w.result-is (xor_gate g.row.N _ _ _ _ _ w.in-Xor.is ins w.odd_ones.ensures)
      | in-Xnor w ↦ rw w.result-is (xnor_gate g.row.N _ _ _ _ _ _ w.in-Xnor.is ins w.odd_ones-in-Xnor.ensures w.inverse-in-Xnor.ensures)
      | in-Buf w ↦ rw w.result-is (buf_gate g.row.N _ _ _ _ _ _ w.in-Buf.is some ins w.net_plane.ensures)
      | in-Not w ↦ rw w.result-is (not_gate g.row.N _ _ _ _ _ _ _ w.in-Not.is some ins w.net_plane-in-Not.ensures w.inverse-in-Not.ensures)
    ]
