use Rattle.std.proofs.Common.{sym}
use Rattle.bs_verilog_scope.specs.Checking.{looked}
use Rattle.bs_verilog_scope.proofs.TableLemmas.{ok_of}
use Rattle.bs_verilog_scope.proofs.DeclaringLemmas.{none_over}
use Rattle.bs_verilog.proofs.PlacementLemmas.{will_finish, finished_as}
use Rattle.bs_verilog.proofs.netlist.built.Goals as goal

pub finished-requires : goal.finished-requires
finished-requires c =
    will_finish c.args.table.now c.args.top.now (looked c.args.scope.now) c.slice-header.result.now c.slice-parts.result.now c.in_ok-before.before
    c.requires.scope
    c.slice-header.ensures c.slice-parts.ensures (sym (ok_of _ _ c.in_ok-before.ensures))
    (rw (← c.requires.nets) (none_over c.args.table.now c.args.nets.now c.requires.few)) c.in_ok-short_parts.ensures

pub returns : goal.returns
returns c =
    rw (← finished_as c.args.table.now c.args.top.now (looked c.args.scope.now) c.slice-header.result.now c.slice-parts.result.now c.in_ok-before.before
    c.requires.scope
    c.slice-header.ensures c.slice-parts.ensures (sym (ok_of _ _ c.in_ok-before.ensures))) c.finished.ensures
