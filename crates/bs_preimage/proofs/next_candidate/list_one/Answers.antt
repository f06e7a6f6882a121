use Rattle.bs_preimage.proofs.next_candidate.list_one.Goals as goal

pub returns-clause-ok : goal.returns-clause-ok
returns-clause-ok c =
    record {
      state = c.in_ok-cand.ensures.state;
      input = c.in_ok-cand.ensures.input;
      before = c.in_ok-cand.ensures.before;
      id = c.in_ok-block_state.ensures.ok.id;
      blocked = c.in_ok-block_state.ensures.ok.blocked;
    }
