use Rattle.std.proofs.Common.{ap, map, sym, ◌∙◌}
use Rattle.std.specs.Prelude.{string_bytes}
use Rattle.bs_note_calls.specs.Words.{command_text, fault_text, option_text, usage}
use Rattle.bs_note_calls.proofs.word.fault_note.Goals as goal

pub returns-in-Command : goal.returns-in-Command
returns-in-Command c =
    c.command_note.ensures
    ∙ (ap command_text c.command_of-command.ensures ∙ ap (fault_text (map string_bytes c.args.words.now)) (sym c.in-Command.is))

pub returns-in-Option : goal.returns-in-Option
returns-in-Option c =
    let how = c.usage-usage.ensures.text ∙ ap usage c.command_of-command.ensures in
    c.option_note.ensures
    ∙ ((λ i. option_text c.in-Option.at (c.word_at.ensures i) (how i)) ∙ ap (fault_text (map string_bytes c.args.words.now)) (sym c.in-Option.is))
