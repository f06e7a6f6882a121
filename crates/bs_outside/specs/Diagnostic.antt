-- What stops a walk, as the refusal line and the note see it.
use Rattle.std.specs.Prelude.{ℕ, Option, Some, None, Result, Ok, Err, Vec}
use Rattle.std.specs.declared.alloc.Global.{Global}
use Rattle.bs_bits.specs.declared.memory.NoMemory.{NoMemory as WantsMemory}
use Rattle.bs_outside.specs.declared.file.File.{File}
use Rattle.bs_outside.specs.declared.file_fetch.JobFault.{JobFault}
use Rattle.bs_outside.specs.declared.file_fetch.JobFault.TheVariants as J
use Rattle.bs_outside.specs.declared.file_fetch.Refusal.{Refusal}
use Rattle.bs_outside.specs.declared.file_fetch.Refusal.TheVariants as Q
use Rattle.bs_outside.specs.declared.diagnostic.Unread.{Unread}
use Rattle.bs_outside.specs.declared.diagnostic.Unread.TheVariants as U
use Rattle.bs_outside.specs.declared.diagnostic.WalkStop.{WalkStop}
use Rattle.bs_outside.specs.declared.diagnostic.WalkStop.TheVariants as S

-- a note, where it was made
abbrev pub made : Result (Vec ℕ Global) WantsMemory → Option (Vec ℕ Global)
made (Ok note) = Some note
made (Err want) = None

-- the two texts of one refusal
abbrev pub both_of : Refusal → Result (Vec ℕ Global) WantsMemory → Unread
both_of Q.NoMemory note = U.NoMemory
both_of (Q.Why words) note = U.Refused (record { words = words; note = made note })

-- what a reader's answer is to the walk
abbrev pub settled_diagnostic : {T : Type 0} → File → Result T Unread → Result T WalkStop
settled_diagnostic file (Ok v) = Ok v
settled_diagnostic file (Err U.NoMemory) = Err (S.Plain J.NoMemory)
settled_diagnostic file (Err (U.Refused diagnostic)) = Err (S.Refused file diagnostic)

-- ---- as the refusal line sees it

abbrev pub word_refusal : Unread → Refusal
word_refusal U.NoMemory = Q.NoMemory
word_refusal (U.Refused diagnostic) = Q.Why diagnostic.words

abbrev pub worded : {T : Type 0} → Result T Unread → Result T Refusal
worded (Ok v) = Ok v
worded (Err unread) = Err (word_refusal unread)

abbrev pub line_stop : WalkStop → JobFault
line_stop (S.Plain fault) = fault
line_stop (S.Refused file diagnostic) = J.Refused file diagnostic.words

abbrev pub lined : {T : Type 0} → Result T WalkStop → Result T JobFault
lined (Ok v) = Ok v
lined (Err stop) = Err (line_stop stop)

-- ---- as the note sees it: where memory did not suffice for one, memory ran out

abbrev pub refusal_in : Option (Vec ℕ Global) → Refusal
refusal_in None = Q.NoMemory
refusal_in (Some note) = Q.Why note

abbrev pub note_refusal : Unread → Refusal
note_refusal U.NoMemory = Q.NoMemory
note_refusal (U.Refused diagnostic) = refusal_in diagnostic.note

abbrev pub noted : {T : Type 0} → Result T Unread → Result T Refusal
noted (Ok v) = Ok v
noted (Err unread) = Err (note_refusal unread)

abbrev pub fault_in : File → Option (Vec ℕ Global) → JobFault
fault_in file None = J.NoMemory
fault_in file (Some note) = J.Refused file note

abbrev pub note_stop : WalkStop → JobFault
note_stop (S.Plain fault) = fault
note_stop (S.Refused file diagnostic) = fault_in file diagnostic.note

abbrev pub note_seen : {T : Type 0} → Result T WalkStop → Result T JobFault
note_seen (Ok v) = Ok v
note_seen (Err stop) = Err (note_stop stop)
