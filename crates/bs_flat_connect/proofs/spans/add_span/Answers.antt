use Rattle.bs_flat_connect.specs.Wiring.{IsSpan, IsNoSpan}
use Rattle.bs_verilog_scope.specs.Checking.{looked}
use Rattle.bs_flat_connect.proofs.SpanLemmas.{span_more, turns_put, turns_none}
use Rattle.bs_flat_connect.proofs.spans.add_span.Goals as goal

pub returns-in_ok-put-in-Some-clause-stand : goal.returns-in_ok-put-in-Some-clause-stand
returns-in_ok-put-in-Some-clause-stand c =
    let here : IsSpan c.args.table.now c.args.keys.now c.entry.result c.args.name.id c.in-Some.first = rw c.in-Some.is at c.in_ok-span.ensures.some in
    span_more c.args.table.now c.args.keys.now (looked c.args.scope.now) c.args.spans.now c.put.new.self c.args.name.id c.in-Some.first c.entry.result
    c.entry.ensures here c.in_ok-put-in-Some.ensures

pub returns-in_ok-put-in-Some-clause-turns : goal.returns-in_ok-put-in-Some-clause-turns
returns-in_ok-put-in-Some-clause-turns c =
    let here : IsSpan c.args.table.now c.args.keys.now c.entry.result c.args.name.id c.in-Some.first = rw c.in-Some.is at c.in_ok-span.ensures.some in
    λ ids so_far. turns_put c.args.table.now c.args.keys.now (looked c.args.scope.now) c.args.spans.now c.put.new.self c.args.name.id c.in-Some.first
    c.entry.result ids c.entry.ensures here c.in_ok-put-in-Some.ensures so_far

pub returns-in-None-clause-turns : goal.returns-in-None-clause-turns
returns-in-None-clause-turns c =
    let none : IsNoSpan c.args.table.now c.args.keys.now c.entry.result c.args.name.id = rw c.in-None.is at c.in_ok-span.ensures.none in
    λ ids so_far. turns_none c.args.table.now c.args.keys.now (looked c.args.scope.now) c.args.spans.now c.args.name.id c.entry.result ids
    c.entry.ensures none so_far
