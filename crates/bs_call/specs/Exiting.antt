-- What a program does, up to its exit code.
use Rattle.std.specs.Prelude.{◌≡◌, ◌≢◌, ℕ, List, Result}
use Rattle.std.specs.declared.io.ErrorKind.{ErrorKind}
use Rattle.std.specs.declared.io.ErrorKind.TheVariants.{OutOfMemory}
use Rattle.bs_bits.specs.declared.memory.NoMemory.{NoMemory}
use Rattle.bs_outside.specs.Statuses.{code_of, exit_code}
use Rattle.bs_outside.specs.Texts.{Output, PutsText}
use Rattle.bs_outside.specs.declared.status.Status.{Status}
use Rattle.bs_outside.specs.declared.status.Status.TheVariants.{Words}
use Rattle.bs_outside.specs.declared.status.TheConstants.{NO_MEMORY_CODE}
use Rattle.bs_call.specs.Said.{PutsNote}
use Rattle.bs_call.specs.declared.note.Note.{Note}
use Rattle.bs_call.specs.Answering.{AnswersWords}
use Rattle.bs_call.specs.Meaning.{Meaning, Source}

-- The exit code is that of an answer to the words.
pub record EndsBy {S K N J C W : Type 0} (p : Meaning J C W) (from : Source S) (shelf_before shelf_now : S) (to : Output K) (sink_before sink_now : K)
    (say : Output N) (notes_before notes_now : N) (words : List (List ℕ)) (code : ℕ) : Type 0 where
  pub answer : Result Status NoMemory
  pub answers : AnswersWords p from shelf_before shelf_now to sink_before sink_now say notes_before notes_now words answer
  pub ended : code ≡ exit_code answer

-- the code where the words cannot be told: that of out of memory exactly where the fault is one, and else that of words that are no job
pub record EndsUnread (kind : ErrorKind) (code : ℕ) : Type 0 where
  pub memory : kind ≡ OutOfMemory → code ≡ NO_MEMORY_CODE
  pub no_text : kind ≢ OutOfMemory → code ≡ code_of Words

-- what is said of words that are no text
pub record SaysUnread {N : Type 0} (unread : Note → Type 0) (say : Output N) (before now : N) : Type 0 where
  pub note : Note
  pub is : unread note
  pub put : PutsNote say before now note

-- the note where the words cannot be told
pub record UnreadSaid {N : Type 0} (memory_text : List ℕ) (unread : Note → Type 0) (kind : ErrorKind) (say : Output N) (before now : N) : Type 0 where
  pub memory : kind ≡ OutOfMemory → PutsText say before now memory_text
  pub no_text : kind ≢ OutOfMemory → SaysUnread unread say before now
