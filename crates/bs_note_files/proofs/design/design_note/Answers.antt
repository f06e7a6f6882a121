use Rattle.std.proofs.Common.{sym}
use Rattle.bs_note_files.proofs.design.design_note.Goals as goal

pub returns-in-Twice : goal.returns-in-Twice
returns-in-Twice c = rw (c.in-Twice.is, sym c.say.ensures) c.note_on.ensures

pub returns-in-OwnNets : goal.returns-in-OwnNets
returns-in-OwnNets c = rw (c.in-OwnNets.is, sym c.say-in-OwnNets.ensures) c.note_on-in-OwnNets.ensures

pub returns-in-Connect : goal.returns-in-Connect
returns-in-Connect c = rw (c.in-Connect.is, sym c.say-in-Connect.ensures) c.note_on-in-Connect.ensures
