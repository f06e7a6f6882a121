use Rattle.bs_scan.proofs.RegisterLemmas.{bits_written}
use Rattle.bs_scan.proofs.register.write_signature.Goals as goal

pub returns : goal.returns
returns c =
    bits_written c.args.choice.now c.args.state.now c.items.bits c.items.i c.items.invariant.room
    (rw c.items-i-end.ensures.count at c.items-test.false) c.items.invariant.written
