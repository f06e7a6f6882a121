-- The note on a walk that stopped.
use Rattle.std.specs.Prelude.{◌≡◌, ℕ, List, codes, Option, Some, None, false, if◌then◌else◌}
use Rattle.std.specs.Str.{bytes_eq}
use Rattle.std.specs.declared.io.ErrorKind.{ErrorKind}
use Rattle.bs_note_calls.specs.Faults.{IsUnreadNote, long_text, unread_text}
use Rattle.bs_outside.specs.declared.file.File.{File}
use Rattle.bs_outside.specs.declared.file_fetch.JobFault.{JobFault}
use Rattle.bs_outside.specs.declared.file_fetch.JobFault.TheVariants as J
use Rattle.bs_outside.specs.declared.diagnostic.WalkStop.{WalkStop}
use Rattle.bs_outside.specs.declared.diagnostic.WalkStop.TheVariants as S
use Rattle.bs_outside.specs.Plan.{Says, PlanOutcome, ready, refused, faulted}
use Rattle.bs_call.specs.declared.note.Note.{Note}
use Rattle.bs_call.specs.declared.note.Note.TheVariants.{Silent, Brief, Text, Wanting}
use Rattle.bs_call.specs.Note.{Sure}

-- the text on a file that is refused for this reason: one of its own where it is too long
abbrev pub refused_text : File → List ℕ → List ℕ → List ℕ
refused_text file path why = if bytes_eq why (codes "TooLong") then long_text file path else why

-- The note is on this end of a plan, which is a stop: it goes with the reason for which the file is refused, or names the file that
-- does not read.
abbrev pub IsStopNote : {R W : Type 0} → (R → List ℕ → Type 0) → (File → List ℕ) → PlanOutcome R W → List ℕ → Type 0
IsStopNote notes path_of (ready work) note = ⊥
IsStopNote notes path_of (refused file reason) note = (why : List ℕ) × Says notes reason why × (note ≡ refused_text file (path_of file) why)
IsStopNote notes path_of (faulted file) note = IsUnreadNote (path_of file) note

-- the file at which a walk stopped, where it is at one
abbrev pub fault_file : JobFault → Option File
fault_file J.NoMemory = None
fault_file (J.Faulted file) = Some file
fault_file (J.Refused file why) = Some file

abbrev pub stop_file : WalkStop → Option File
stop_file (S.Plain fault) = fault_file fault
stop_file (S.Refused file diagnostic) = Some file

-- ---- what inner functions promise

-- the note on a file that is refused for this reason: memory may run out for it only where the reason is its text
abbrev pub RefusedNoted : File → (path why : List ℕ) → Note → Type 0
RefusedNoted file path why Silent = ⊥
RefusedNoted file path why (Brief said) = said ≡ refused_text file path why
RefusedNoted file path why (Text note) = note.items ≡ refused_text file path why
RefusedNoted file path why Wanting = bytes_eq why (codes "TooLong") ≡ false

-- the note on what stopped the code's walk, where a file that did not read failed for this kind of error
abbrev pub StopNotedBy : Option ErrorKind → (File → List ℕ) → JobFault → Note → Type 0
StopNotedBy kind path_of J.NoMemory note = note ≡ Wanting
StopNotedBy kind path_of (J.Faulted file) note = Sure (λ said. said ≡ unread_text (path_of file) kind) note
StopNotedBy kind path_of (J.Refused file why) note = RefusedNoted file (path_of file) why.items note

-- the same for some kind of error
pub record StopNoted (path_of : File → List ℕ) (fault : JobFault) (note : Note) : Type 0 where
  pub kind : Option ErrorKind
  pub by : StopNotedBy kind path_of fault note
