use Rattle.std.proofs.Common.{take, arith}
use Rattle.bs_verilog_scope.specs.Checking.{looked}
use Rattle.bs_flat_connect.specs.Wiring.{ids_of}
use Rattle.bs_flat_connect.proofs.SpanLemmas.{no_spans, no_turns, turns_more, turns_all}
use Rattle.bs_flat_connect.proofs.spans.spans_of.Goals as goal

pub names-init : goal.names-init
names-init c =
    record {
      stand = no_spans c.args.table.now c.args.keys.now (looked c.args.scope.now) c.new-spans.result c.new-spans.ensures;
      turns = no_turns c.args.table.now c.args.keys.now (looked c.args.scope.now) c.new-spans.result;
    }

pub names-preserved : goal.names-preserved
names-preserved c =
    record {
      stand = c.in_ok-add_span.ensures.stand c.names.invariant.stand;
      turns =
          turns_more c.args.table.now c.args.keys.now (looked c.args.scope.now) c.add_span.new.spans c.args.declared.now c.names.d-index _ c.names-test.true
          (c.in_ok-add_span.ensures.turns (ids_of (take c.names.d-index c.args.declared.now)) c.names.invariant.turns);
    }

pub returns-clause-turns : goal.returns-clause-turns
returns-clause-turns c =
    turns_all c.args.table.now c.args.keys.now (looked c.args.scope.now) c.names.spans c.args.declared.now c.names.d-index c.names-test.false
    c.names.invariant.turns
