use Rattle.std.proofs.Common.{◌≡◌, ◌∙◌, ap, ℕ, length, subst}
use Rattle.std.specs.Prelude.{IfOk}
use Rattle.bs_note_calls.specs.Searches.{state_text}
use Rattle.bs_top_reach.proofs.SaidLemmas.{state_fails}
use Rattle.bs_top_reach.proofs.readings.state_or_diagnostic.Goals as goal

pub returns-in-Err-clause-note : goal.returns-in-Err-clause-note
returns-in-Err-clause-note c =
    state_fails c.args.net.now.raw c.args.word.now c.read_state.result c.in-Err.words c.state_note.result c.both.result c.in-Err.is c.both.ensures
    c.read_state.ensures.reads
    (subst (λ (n : ℕ). IfOk c.state_note.result (λ note. note.items ≡ state_text c.args.word.now n)) (c.len.ensures ∙ ap (λ r. length r.flops) c.raw.ensures.parts)
    c.state_note.ensures)
