use Rattle.std.proofs.Common.{◌++◌, ap, decimal, ◌∙◌, List, ℕ}
use Rattle.bs_note_files.proofs.NoteLemmas.{five_pieces}
use Rattle.bs_note_files.proofs.width.width_sentence.Goals as goal

pub returns : goal.returns
returns c =
    five_pieces _ _ _ _ _ _ _ _ _ _ (c.in_ok-push_number.ensures.ok ∙ ap (λ (l : List ℕ). l ++ decimal c.args.bits) c.new-said.ensures.items)
    c.in_ok-push_piece.ensures.ok c.in_ok-push_number-2.ensures.ok c.in_ok-push_piece-2.ensures.ok c.in_ok-push_piece-3.ensures.ok
