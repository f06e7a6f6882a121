use Rattle.bs_vcd_header.proofs.scopes.scopes_of.Goals as goal

pub returns : goal.returns
returns c = c.in_ok-scopes.ensures
