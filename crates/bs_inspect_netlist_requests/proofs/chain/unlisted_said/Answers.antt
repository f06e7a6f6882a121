use Rattle.bs_call.proofs.NoteLemmas.{made_due}
use Rattle.bs_inspect_netlist_requests.proofs.chain.unlisted_said.Goals as goal

pub returns : goal.returns
returns c = made_due _ _ _ c.note_made.ensures c.order_note.ensures
