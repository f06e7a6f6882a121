use Rattle.std.proofs.Common.{◌∙◌, sym, ap, arith}
use Rattle.bs_verilog_scope.specs.Keys.{bit_key}
use Rattle.bs_flat_connect.proofs.SpanLemmas.{bit_more, bits_all, number_net, bit_not_in_turn}
use Rattle.bs_flat_connect.proofs.spans.is_rising.Goals as goal

pub bits-preserved : goal.bits-preserved
bits-preserved c =
    bit_more c.args.keys.now c.args.first c.args.name.now c.args.range c.bits.bit c.deref.result.now
    (c.deref.ensures ∙ c.in_ok-key.ensures ∙ ap (bit_key c.args.name.now) c.index_at.ensures)
    (number_net c.args.keys.now c.deref.result.now _ (sym c.is_net.ensures ∙ c.if-not-is_net.false)) c.bits.invariant

pub returns-clause-stand : goal.returns-clause-stand
returns-clause-stand c =
    λ _. bits_all c.args.keys.now c.args.first c.args.name.now c.args.range c.bits.bit
    (omega (arith, c.bits-test.false, c.bits.auto.bit-end, c.width-count.ensures)) c.bits.invariant

pub returns-then-not-is_net-clause-apart : goal.returns-then-not-is_net-clause-apart
returns-then-not-is_net-clause-apart c =
    λ _ turn. bit_not_in_turn c.args.keys.now c.args.name.now c.deref.result.now c.args.range c.args.first c.bits.bit
    (omega (arith, c.bits-test.true, c.bits.auto.bit-end, c.width-count.ensures))
    (c.deref.ensures ∙ c.in_ok-key.ensures ∙ ap (bit_key c.args.name.now) c.index_at.ensures) (sym c.is_net.ensures ∙ c.if-not-is_net.true) turn
