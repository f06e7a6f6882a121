use Rattle.std.proofs.Common.{ℕ, List, ◌++◌, decimal, ap, ◌∙◌}
use Rattle.std.proofs.lemmas.List.{append_assoc}
use Rattle.bs_inspect_notes.proofs.simulation.push_numbered.Goals as goal

pub returns : goal.returns
returns c =
    c.in_ok-push_number.ensures.ok
    ∙ (ap (λ (t : List ℕ). t ++ decimal c.args.number) c.in_ok-push_piece.ensures.ok ∙ append_assoc c.args.said.now.items c.args.words.now (decimal c.args.number))
