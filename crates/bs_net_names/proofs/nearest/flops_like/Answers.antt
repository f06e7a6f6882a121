use Rattle.std.proofs.Common.{ℕ, ◌≡◌, length, arith, subst}
use Rattle.bs_net.specs.Netlist.{parts_of}
use Rattle.bs_net_names.specs.Nearest.{AreNearestBelow}
use Rattle.bs_net_names.proofs.nearest.flops_like.Goals as goal

pub returns : goal.returns
returns c =
    let at_end : c.flops.flop ≡ length c.args.raw.now.flops = omega (arith, c.flops-test.false, c.len-flop-end.ensures, c.requires.is.there) in
    subst (λ (n : ℕ). AreNearestBelow (parts_of c.args.raw.now) c.args.name.now n c.flops.nearest.items) at_end c.flops.invariant
