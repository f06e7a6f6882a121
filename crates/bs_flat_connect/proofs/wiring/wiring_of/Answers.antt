use Rattle.std.proofs.Common.{subst, List}
use Rattle.bs_verilog_syntax.specs.declared.tree.Declared.{Declared}
use Rattle.bs_verilog_scope.specs.Checking.{looked}
use Rattle.bs_flat_connect.specs.Wiring.{HaveSpans, ids_of}
use Rattle.bs_flat_connect.proofs.WireLemmas.{is_wiring}
use Rattle.bs_flat_connect.proofs.wiring.wiring_of.Goals as goal

pub returns-in-Ok : goal.returns-in-Ok
returns-in-Ok c =
    is_wiring c.args.table.now c.args.own.now c.args._written.now _ c.requires.scope c.requires.nets c.in-Ok.ensures.stand
    (subst (λ (ds : List Declared). HaveSpans c.args.table.now c.args.nets.keys (looked c.args.scope) (ids_of ds) c.in-Ok.spans) c.slice.ensures
    c.in-Ok.ensures.turns)
