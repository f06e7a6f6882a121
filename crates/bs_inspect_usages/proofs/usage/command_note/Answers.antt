use Rattle.std.proofs.Common.{map}
use Rattle.std.specs.Prelude.{string_bytes}
use Rattle.bs_inspect_usages.specs.Usages.{line_among, usages}
use Rattle.bs_inspect_usages.proofs.WordLemmas.{known_command, no_command}
use Rattle.bs_inspect_usages.proofs.usage.command_note.Goals as goal

pub returns-in-Some : goal.returns-in-Some
returns-in-Some c =
    known_command c.args.command.now (map string_bytes c.args.words.now) c.in-Some.line (line_among c.args.command.now usages) _ c.in-Some.ensures
    c.behind_note.ensures

pub returns-in-None : goal.returns-in-None
returns-in-None c =
    no_command c.args.command.now (map string_bytes c.args.words.now) (line_among c.args.command.now usages) _ c.in-None.ensures c.unknown_note.ensures
