use Rattle.std.proofs.Common.{ℕ, Bor, List, map, ap, ◌∙◌}
use Rattle.bs_inspect_notes.specs.Names.{unlisted_text}
use Rattle.bs_inspect_netlist_requests.proofs.chain.order_note.Goals as goal

pub returns : goal.returns
returns c =
    c.in_ok-note.ensures
    ∙ (λ i. unlisted_text c.args.count (c.width.ensures i)
    ((ap (λ (ks : List (Bor (List ℕ))). map (λ k. k.now) ks) c.as_slice.ensures.value ∙ c.in_ok-keys.ensures) i))
