use Rattle.std.proofs.Common.{take}
use Rattle.bs_verilog_scope.specs.Checking.{looked}
use Rattle.bs_flat_connect.specs.Wiring.{AreSpans, HaveSpans, ids_of}
use Rattle.bs_flat_connect.proofs.spans.spans_of.Given as goal

abbrev pub invariant-names : goal.invariant-names
invariant-names l = record {
  stand : AreSpans l.table l.keys (looked l.scope) l.spans;
  turns : HaveSpans l.table l.keys (looked l.scope) (ids_of (take l.d-index l.declared)) l.spans;
}
