use Rattle.std.proofs.Common.{sym}
use Rattle.bs_note_files.proofs.check.check_note.Goals as goal

pub returns-in-SecondDriver : goal.returns-in-SecondDriver
returns-in-SecondDriver c = rw (c.in-SecondDriver.is, sym c.key_of.ensures) c.net_note.ensures

pub returns-in-Undriven : goal.returns-in-Undriven
returns-in-Undriven c = rw (c.in-Undriven.is, sym c.key_of-in-Undriven.ensures) c.net_note-in-Undriven.ensures

pub returns-in-ClockMixed : goal.returns-in-ClockMixed
returns-in-ClockMixed c = rw (c.in-ClockMixed.is, sym c.key_of-in-ClockMixed.ensures) c.net_note-in-ClockMixed.ensures
