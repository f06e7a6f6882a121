use Rattle.std.proofs.Common.{ap, sym, ◌∙◌, arith, map, List, ℕ, slice_get}
use Rattle.std.specs.Borrow.{Bor}
use Rattle.bs_net.specs.declared.net.Flop.{Flop}
use Rattle.bs_net.specs.Netlist.{parts_of}
use Rattle.bs_inspect_signature.proofs.KeyLemmas.{key_more}
use Rattle.bs_inspect_signature.proofs.keys.keys_of.Goals as goal

pub flops-preserved : goal.flops-preserved
flops-preserved c =
    ap (map (λ (s : Bor (List ℕ)). s.now)) c.in_ok-push.ensures.items
    ∙ key_more (parts_of c.args.raw.now).names c.flops.keys.items c.key.result c.args.raw.now.flops c.flops.i c.get.result.now
    (omega (arith, c.flops-test.true, c.len-i-end.ensures)) c.flops.invariant
    (ap (λ (f : Flop). slice_get (parts_of c.args.raw.now).names f.q.0) (sym c.get.ensures.value) ∙ c.key.ensures)
