use Rattle.std.proofs.Common.{ℕ, List, ◌∙◌, ap}
use Rattle.bs_inspect_notes.specs.Simulations.{unknown_text}
use Rattle.bs_inspect_values.proofs.values.unknown_in.Goals as goal

pub returns : goal.returns
returns c = c.in_ok-note.ensures ∙ ap (λ (k : List ℕ). unknown_text c.args.subject c.args.path.now k c.args.time) c.key_at-key.ensures
