-- What the sink of the notes gains.
use Rattle.std.specs.Prelude.{◌≡◌, ◌≢◌, ℕ, List, Option}
use Rattle.std.specs.declared.io.ErrorKind.{ErrorKind}
use Rattle.bs_note_calls.specs.Faults.{IsOutputNote, want_text}
use Rattle.bs_outside.specs.Calls.{FetchCall, PutCall}
use Rattle.bs_outside.specs.Texts.{Output, PutsText}
use Rattle.bs_outside.specs.declared.status.Status.{Status}
use Rattle.bs_outside.specs.declared.status.Status.TheVariants.{WriteFault}
use Rattle.bs_outside.specs.Clauses.{CallByCall}
use Rattle.bs_outside.specs.Delivery.{put_lines_of, PutsAfter}
use Rattle.bs_outside.specs.Plan.{Plan}
use Rattle.bs_call.specs.declared.note.Note.{Note}
use Rattle.bs_call.specs.declared.note.Note.TheVariants.{Silent, Brief, Text, Wanting}
use Rattle.bs_call.specs.Note.{Sure}

-- nothing is put where no note is due; else the note, whole, in one call, or that memory ran out
abbrev pub PutsNote : {N : Type 0} → Output N → (before now : N) → Note → Type 0
PutsNote out before now Silent = now ≡ before
PutsNote out before now (Brief said) = PutsText out before now said
PutsNote out before now (Text note) = PutsText out before now note.items
PutsNote out before now Wanting = PutsText out before now want_text

-- the note says that the output failed after so many lines
pub record IsFailNote (lines : ℕ) (note : List ℕ) : Type 0 where
  pub kind : Option ErrorKind
  pub is : IsOutputNote lines kind note

abbrev pub FailNoted : ℕ → Note → Type 0
FailNoted lines note = Sure (IsFailNote lines) note

-- the note says after how many whole lines of this text the output failed
pub record IsCutNote {K : Type 0} (leads : K → PutCall → K → Type 0) (before now : K) (text note : List ℕ) : Type 0 where
  pub lines : ℕ
  pub after : PutsAfter leads before now (put_lines_of text) lines
  pub says : IsFailNote lines note

-- the note of the answer was put, or, where the output failed, the one on that
pub record SaysSent {K N : Type 0} (leads : K → PutCall → K → Type 0) (sink_before sink_now : K) (text : List ℕ) (out : Output N) (before now : N)
    (note : Note) (status : Status) : Type 0 where
  pub said : Note
  pub whole : status ≢ WriteFault → said ≡ note
  pub cut : status ≡ WriteFault → Sure (IsCutNote leads sink_before sink_now text) said
  pub put : PutsNote out before now said

-- Call by call; and then what is said of it: by `is` after these very fetches, or, where the output failed, that it did.
pub record CallNoted {S K N R W : Type 0} (allows : R → List ℕ → Type 0) (finishes : W → Status → List ℕ → Type 0)
    (is : List FetchCall → Status → List ℕ → Note → Type 0) (fetch_leads : S → FetchCall → S → Type 0) (shelf_before shelf_now : S)
    (put_leads : K → PutCall → K → Type 0) (sink_before sink_now : K) (out : Output N) (notes_before notes_now : N) (plan : Option (Plan R W))
    (status : Status) : Type 0 where
  pub call : CallByCall allows finishes fetch_leads shelf_before shelf_now put_leads sink_before sink_now plan status
  pub said : Note
  pub whole : status ≢ WriteFault → is call.fetches call.called_for call.text said
  pub cut : status ≡ WriteFault → Sure (IsCutNote put_leads sink_before sink_now call.text) said
  pub put : PutsNote out notes_before notes_now said
