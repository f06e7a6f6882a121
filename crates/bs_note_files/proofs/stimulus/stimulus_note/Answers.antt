use Rattle.std.proofs.Common.{sym}
use Rattle.bs_note_files.proofs.stimulus.stimulus_note.Goals as goal

pub returns-in-TooManyRuns : goal.returns-in-TooManyRuns
returns-in-TooManyRuns c =
    rw (c.in-TooManyRuns.is, sym c.from-in-TooManyRuns.ensures, sym c.say.ensures) c.start_note.ensures

pub returns-in-TooManyCycles : goal.returns-in-TooManyCycles
returns-in-TooManyCycles c =
    rw (c.in-TooManyCycles.is, sym c.from-in-TooManyCycles.ensures, sym c.say-in-TooManyCycles.ensures) c.start_note-in-TooManyCycles.ensures
