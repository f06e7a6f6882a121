use Rattle.std.proofs.Common.{arith}
use Rattle.bs_vcd_header.proofs.ScopeLemmas.{scopes_end, scopes_more}
use Rattle.bs_vcd_header.proofs.scopes.scopes_among.Goals as goal

pub paths-preserved : goal.paths-preserved
paths-preserved c =
    rw c.in_ok-push.ensures.items
    (scopes_more c.args.paths.now c.paths.scopes.items c.path_at.result c.paths.scope c.paths.invariant c.path_at.ensures)

pub returns : goal.returns
returns c =
    scopes_end c.args.paths.now c.paths.scopes.items c.paths.scope (omega (arith, c.paths-test.false, c.len-scope-end.ensures)) c.paths.invariant
