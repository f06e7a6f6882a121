use Rattle.std.proofs.Common.{◌∙◌, sym, ap, Ok, None, length, get_or, ◌≡◌}
use Rattle.bs_verilog_scope.specs.declared.numbering.Known.{Known}
use Rattle.bs_verilog_scope.specs.Declaring.{keys_of}
use Rattle.bs_verilog_scope.specs.Keys.{keys}
use Rattle.bs_verilog_scope.specs.Nets.{with_keys}
use Rattle.bs_verilog_scope.proofs.TableLemmas.{ok_of}
use Rattle.bs_verilog_scope.proofs.NumberLemmas.{few_here, few_later, numbered_net, numbered_end, with_keys-room}
use Rattle.bs_verilog_scope.proofs.numbering.numbered.Goals as goal

abbrev nothing : Known
nothing = record { name = record { at = 0; id = 0 }; range = None }

pub add_net-requires : goal.add_net-requires
add_net-requires c =
    rw c.text.ensures (few_here c.args.table.now (length c.nets.names) c.args.nets.now c.nets.net-index nothing c.nets-test.true c.nets.invariant.0)

pub nets-preserved : goal.nets-preserved
nets-preserved c =
    let here = get_or c.args.nets.now c.nets.net-index nothing in
    let made : c.add_net.new.names ≡ with_keys c.nets.names (keys_of c.args.table.now here) = sym (ok_of _ _ c.in_ok-add_net.ensures.made)
    ∙ ap (λ t. with_keys c.nets.names (keys t here.range)) c.text.ensures in (
      few_later c.args.table.now (length c.nets.names) _ c.args.nets.now c.nets.net-index nothing c.nets-test.true
          (rw (made) (with_keys-room c.nets.names (keys_of c.args.table.now here))) c.nets.invariant.0,
      numbered_net c.args.table.now c.nets.names _ c.args.nets.now c.nets.net-index nothing _ c.nets-test.true made c.nets.invariant.1,
    )

pub returns : goal.returns
returns c = ap Ok (numbered_end c.args.table.now c.nets.names c.args.nets.now c.nets.net-index _ c.nets-test.false c.nets.invariant.1)
