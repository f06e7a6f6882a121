use Rattle.std.proofs.Common.{ℕ, List, Bor, ◌∙◌, ap, map}
use Rattle.bs_inspect_notes.specs.declared.name.Subject.TheVariants.{Flops}
use Rattle.bs_inspect_notes.specs.Names.{key_saying, numbered}
use Rattle.bs_reach_answer.proofs.LineLemmas.{line_said}
use Rattle.bs_inspect_files.proofs.order.unknown_note.Goals as goal

pub returns : goal.returns
returns c =
    line_said _ _ _ _ _ _
    (ap (λ (ks : List (List ℕ)). key_saying Flops ks (numbered c.args.text.now c.args.number))
    (ap (λ (ks : List (Bor (List ℕ))). map (λ k. k.now) ks) c.as_slice-all.ensures.value ∙ c.in_ok-keys.ensures)) c.in_ok-note.ensures
