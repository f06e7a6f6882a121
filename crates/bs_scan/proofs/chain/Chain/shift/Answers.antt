use Rattle.std.proofs.Common.{◌<◌, length, arith, sym}
use Rattle.bs_scan.proofs.ChainLemmas.{shifted, turned_length}
use Rattle.bs_scan.proofs.chain.Chain.shift.Goals as goal

pub returns-clause-shifted : goal.returns-clause-shifted
returns-clause-shifted c =
    let within : c.self.inside.first < length c.self.inside.bits =
    omega (arith, c.self.invariant, c.requires, turned_length c.args.self.now c.self.inside.bits c.self.inside.first (sym c.self.view_is)) in
    shifted c.args.self.now c.self.inside.bits c.set.new.self c.self.inside.first c.place_behind-self-inside.result c.args.scan_in
    c.get-scan_out.result within (sym c.self.view_is)
    c.get-scan_out.ensures.value c.set.ensures (rw c.len.ensures at c.place_behind-self-inside.ensures)
