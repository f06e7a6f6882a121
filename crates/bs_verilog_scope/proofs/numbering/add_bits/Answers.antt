use Rattle.std.proofs.Common.{◌∙◌, sym, ap, Ok, arith}
use Rattle.bs_verilog_scope.proofs.NumberLemmas.{keys_all, keys-length, numbered_bit, numbered_all}
use Rattle.bs_net.specs.Names.{with_key}
use Rattle.bs_verilog_scope.specs.Keys.{bit_key}
use Rattle.bs_verilog_scope.specs.Nets.{with_keys}
use Rattle.bs_verilog_scope.proofs.TableLemmas.{ok_of}
use Rattle.bs_verilog_scope.proofs.numbering.add_bits.Goals as goal

pub bits-init : goal.bits-init
bits-init c = (
  omega (arith, c.requires, c.width-count.ensures, keys-length c.args.name.now c.args.range),
  ap (with_keys c.args.names.now) (keys_all c.args.name.now c.args.range),
)

pub bits-preserved : goal.bits-preserved
bits-preserved c = (
  omega (arith, c.bits.invariant.0, c.in_ok-add.ensures.one_more, c.bits-test.true),
  numbered_bit c.bits.names _ c.args.name.now c.args.range c.bits.bit _ (rw (c.width-count.ensures) at c.bits-test.true) (c.in_ok-add.ensures.ok
      ∙ ap (with_key c.bits.names) (c.deref.ensures ∙ sym (ok_of _ _ c.in_ok-key.ensures)
      ∙ ap (λ i. bit_key c.args.name.now i) c.index_at.ensures)) c.bits.invariant.1,
)

pub returns : goal.returns
returns c =
    record {
      made = ap Ok (numbered_all c.bits.names c.args.name.now c.args.range c.bits.bit _ (rw (c.width-count.ensures) at c.bits-test.false) c.bits.invariant.1);
    }
