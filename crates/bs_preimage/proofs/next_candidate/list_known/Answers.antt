use Rattle.bs_preimage.proofs.next_candidate.list_known.Goals as goal

pub returns-clause-ok : goal.returns-clause-ok
returns-clause-ok c = record { is = c.in_ok-listed.ensures; way = c.in_ok-block_known.ensures.ok }
