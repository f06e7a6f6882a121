use Rattle.std.proofs.Common.{◌∙◌, sym, ap, Ok, arith}
use Rattle.bs_verilog_scope.specs.Nets.{net_of}
use Rattle.bs_verilog_scope.specs.Keys.{bit_key}
use Rattle.bs_verilog_scope.proofs.TableLemmas.{ok_of}
use Rattle.bs_verilog_scope.proofs.NumberLemmas.{placed_bit, placed_all}
use Rattle.bs_verilog_scope.proofs.nets.bit_nets.Goals as goal

pub bits-preserved : goal.bits-preserved
bits-preserved c =
    placed_bit c.args.names.now c.bits.nets.items _ c.args.name.now c.args.range c.bits.bit c.net_of.result c.bits.invariant
    (c.net_of.ensures ∙ ap (net_of c.args.names.now) (c.deref.ensures ∙ sym (ok_of _ _ c.in_ok-key.ensures)
    ∙ ap (λ i. bit_key c.args.name.now i) c.index_at.ensures)) c.in_ok-push.ensures.items

pub returns : goal.returns
returns c =
    ap Ok (placed_all c.args.names.now c.bits.nets.items c.args.name.now c.args.range c.bits.bit
    (omega (arith, c.bits-test.false, c.bits.auto.bit-end, c.width-count.ensures)) c.bits.invariant)
