use Rattle.std.proofs.Common.{◌∙◌, sym, ap, Ok, arith, inl, length, ◌+◌, ◌≤◌, None}
use Rattle.bs_verilog_scope.specs.Keys.{keys}
use Rattle.bs_net.specs.Names.{with_key}
use Rattle.bs_verilog_scope.specs.Nets.{with_keys}
use Rattle.bs_verilog_scope.proofs.TableLemmas.{ok_of}
use Rattle.bs_verilog_scope.proofs.NumberLemmas.{one_key, one_bit}
use Rattle.bs_verilog_scope.proofs.numbering.add_net.Goals as goal

pub add-requires : goal.add-requires
add-requires c =
    let room : length c.args.names.now + length (keys c.args.name.now None) ≤ 100000 = rw (c.in-None.is) at c.requires in
    inl (omega (arith, room, one_bit c.args.name.now))

pub returns-in_ok-add-in-None : goal.returns-in_ok-add-in-None
returns-in_ok-add-in-None c =
    record {
      made =
          ap Ok (ap (λ r. with_keys c.args.names.now (keys c.args.name.now r)) c.in-None.is ∙ one_key c.args.names.now c.args.name.now
          ∙ sym (c.in_ok-add-in-None.ensures.ok ∙ ap (with_key c.args.names.now) (c.deref.ensures ∙ sym (ok_of _ _ c.in_ok-key-in-None.ensures))));
    }
