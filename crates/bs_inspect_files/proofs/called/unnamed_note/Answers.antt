use Rattle.std.proofs.Common.{ℕ, List, Bor, ◌∙◌, ap, map}
use Rattle.bs_inspect_notes.specs.Names.{net_text}
use Rattle.bs_inspect_files.proofs.called.unnamed_note.Goals as goal

pub returns : goal.returns
returns c =
    c.in_ok-note.ensures
    ∙ ((λ i. net_text (c.as_bytes-bytes.ensures.value i)
    ((ap (λ (ks : List (Bor (List ℕ))). map (λ k. k.now) ks) c.as_slice-all.ensures.value ∙ c.in_ok-keys.ensures) i))
    ∙ ap (λ r. net_text c.args.name.now r.names) c.raw.ensures.parts)
