use Rattle.std.proofs.Common.{◌∙◌, sym}
use Rattle.bs_preimage.proofs.OrderLemmas.{if_ok}
use Rattle.bs_preimage.proofs.TurnLemmas.{found_is, known_waits, known_comes}
use Rattle.bs_preimage.proofs.next_candidate.turn_beside.Goals as goal

pub returns-then-is_found-clause-ok : goal.returns-then-is_found-clause-ok
returns-then-is_found-clause-ok c =
    if_ok c.take_turn.result _ _
    (λ turn h. known_waits _ _ _ _ _ _ _ turn (sym (found_is c.args.found.now c.args.known.now.state) ∙ (sym c.is_found.ensures ∙ c.if-is_found.true)) h)
    c.take_turn.ensures.ok

pub returns-else-is_found-clause-ok : goal.returns-else-is_found-clause-ok
returns-else-is_found-clause-ok c =
    if_ok c.list_known.result _ _
    (λ turn h.
    known_comes _ _ _ _ _ _ _ turn c.requires.limit
    (sym (found_is c.args.found.now c.args.known.now.state) ∙ (sym c.is_found.ensures ∙ c.if-is_found.false)) h)
    c.list_known.ensures.ok
