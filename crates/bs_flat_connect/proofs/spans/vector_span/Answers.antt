use Rattle.std.proofs.Common.{◌∙◌, ap, Option}
use Rattle.std.specs.Prelude.{unwrap_or}
use Rattle.bs_net.specs.Names.{net}
use Rattle.bs_net.specs.declared.net.NetId.{NetId}
use Rattle.bs_verilog_scope.specs.Keys.{bit_key}
use Rattle.bs_flat_connect.proofs.SpanLemmas.{vector_not_in_turn}
use Rattle.bs_flat_connect.proofs.spans.vector_span.Goals as goal

pub returns-clause-none : goal.returns-clause-none
returns-clause-none c =
    vector_not_in_turn c.args.keys.now c.args.name.now c.deref.result.now c.args.range c.unwrap_or-first.result.0
    (c.deref.ensures ∙ c.in_ok-key.ensures ∙ ap (bit_key c.args.name.now) c.index_at.ensures)
    (ap (λ (n : NetId). n.0) (c.unwrap_or-first.ensures ∙ ap (λ (o : Option NetId). unwrap_or o (net 0)) c.number.ensures))
    (c.in_ok-is_rising.ensures.apart c.if-branch.false)
