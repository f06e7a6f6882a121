use Rattle.std.proofs.Common.{sym}
use Rattle.bs_note_files.proofs.report.report_note.Goals as goal

pub returns-in-Short : goal.returns-in-Short
returns-in-Short c = rw (c.in-Short.is, sym c.say.ensures) c.note_on.ensures

pub returns-in-Extra : goal.returns-in-Extra
returns-in-Extra c = rw c.in-Extra.is c.file_note.ensures
