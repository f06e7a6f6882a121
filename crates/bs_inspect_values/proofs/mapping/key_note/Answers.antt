use Rattle.std.proofs.Common.{ℕ, List, ◌∙◌, ap, codes, map}
use Rattle.bs_note_files.specs.Notes.{saying}
use Rattle.bs_inspect_notes.specs.Names.{first_word, key_sentence}
use Rattle.bs_inspect_values.proofs.ValueLemmas.{line_said}
use Rattle.bs_inspect_values.proofs.mapping.key_note.Goals as goal

pub returns : goal.returns
returns c =
    let keys : List (List ℕ) = map (λ k. k.now) c.args.keys.now in
    line_said _ _ _ _ _ _
    (λ i. saying ((c.as_slice-said.ensures.value ∙ (c.in_ok-sentence.ensures
    ∙ ap (λ (k : List ℕ). key_sentence c.args.subject k keys) (c.first_word-key.ensures ∙ ap first_word c.numbered-line.ensures))) i)
    (c.keys_label.ensures i)) c.in_ok-note.ensures
