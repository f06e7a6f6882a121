-- A note that is made, or for which memory ran out.
use Rattle.std.proofs.Common.{◌≡◌, ◌∙◌, ap, sym, subst, ℕ, Bool, true, false, cond, List, Option, Some, None, Result, Ok, Err, Vec}
use Rattle.std.specs.Prelude.{codes, IfOk, IfSome}
use Rattle.std.specs.Str.{bytes_eq}
use Rattle.std.specs.declared.alloc.Global.{Global}
use Rattle.std.specs.declared.io.ErrorKind.{ErrorKind}
use Rattle.bs_bits.specs.declared.memory.NoMemory.{NoMemory}
use Rattle.bs_note_calls.specs.Faults.{IsOutputNote, long_text, unread_text}
use Rattle.bs_outside.specs.declared.file.File.{File}
use Rattle.bs_outside.specs.declared.file_fetch.JobFault.{JobFault}
use Rattle.bs_outside.specs.declared.file_fetch.JobFault.TheVariants as J
use Rattle.bs_outside.specs.declared.diagnostic.WalkStop.{WalkStop}
use Rattle.bs_outside.specs.declared.diagnostic.WalkStop.TheVariants as S
use Rattle.bs_outside.specs.Diagnostic.{fault_in, note_stop}
use Rattle.bs_call.specs.declared.note.Note.{Note}
use Rattle.bs_call.specs.declared.note.Note.TheVariants.{Silent, Brief, Text, Wanting}
use Rattle.bs_call.specs.Note.{Due, note_made, Sure}
use Rattle.bs_call.specs.Said.{FailNoted}
use Rattle.bs_call.specs.Stops.{fault_file, RefusedNoted, stop_file, StopNoted, StopNotedBy}

pub due_made : (is : List ℕ → Type 0) (made : Result (Vec ℕ Global) NoMemory) → IfOk made (λ n. is n.items) → Due is (note_made made)
due_made is (Ok n) says = says
due_made is (Err want) says = tt

pub made_due : (is : List ℕ → Type 0) (made : Result (Vec ℕ Global) NoMemory) (note : Note) → note ≡ note_made made → IfOk made (λ n. is n.items) →
    Due is note
made_due is made note same says = rw same (due_made is made says)

-- the same of a note with this text
pub text_due : (text : List ℕ) (made : Result (Vec ℕ Global) NoMemory) (note : Note) → note ≡ note_made made → IfOk made (λ n. n.items ≡ text) →
    Due (λ said. said ≡ text) note
text_due text made note same says = made_due (λ said. said ≡ text) made note same says

-- a reason of the reader's own, or the one of a file that is too long
pub refused_long : (file : File) (path why said : List ℕ) (note : Note) → bytes_eq why (codes "TooLong") ≡ true → note ≡ Brief said →
    said ≡ long_text file path → RefusedNoted file path why note
refused_long file path why said note long same is =
    subst (RefusedNoted file path why) (sym same) (is ∙ ap (λ (b : Bool). cond b (long_text file path) why) (sym long))

pub refused_else : (file : File) (path why : List ℕ) (note : Note) → bytes_eq why (codes "TooLong") ≡ false → Due (λ said. said ≡ why) note →
    RefusedNoted file path why note
refused_else file path why Silent own says = absurd says
refused_else file path why (Brief said) own says = says ∙ ap (λ (b : Bool). cond b (long_text file path) why) (sym own)
refused_else file path why (Text text) own says = says ∙ ap (λ (b : Bool). cond b (long_text file path) why) (sym own)
refused_else file path why Wanting own says = own

-- the note on each stop
pub made_nothing : (kind : Option ErrorKind) (path : List ℕ) (fault : JobFault) (note : Note) → fault ≡ J.NoMemory → note ≡ Wanting →
    StopNotedBy kind (λ _. path) fault note
made_nothing kind path fault note e same = rw e same

pub made_unread : (kind : Option ErrorKind) (path said : List ℕ) (file : File) (fault : JobFault) (note : Note) → fault ≡ J.Faulted file →
    note ≡ Brief said → said ≡ unread_text path kind → StopNotedBy kind (λ _. path) fault note
made_unread kind path said file fault note e same says = rw (e, same) says

pub made_refused : (kind : Option ErrorKind) (path : List ℕ) (file : File) (why : Vec ℕ Global) (fault : JobFault) (note : Note) →
    fault ≡ J.Refused file why → RefusedNoted file path why.items note → StopNotedBy kind (λ _. path) fault note
made_refused kind path file why fault note e says = rw e says

pub made_none : (kind : Option ErrorKind) (path : List ℕ) (file : File) (diagnostic : Option (Vec ℕ Global)) (note : Note) → diagnostic ≡ None →
    note ≡ Wanting → StopNotedBy kind (λ _. path) (fault_in file diagnostic) note
made_none kind path file diagnostic note e same = rw e same

pub made_diagnostic : (kind : Option ErrorKind) (path : List ℕ) (file : File) (why : Vec ℕ Global) (diagnostic : Option (Vec ℕ Global)) (note : Note) →
    diagnostic ≡ Some why → RefusedNoted file path why.items note → StopNotedBy kind (λ _. path) (fault_in file diagnostic) note
made_diagnostic kind path file why diagnostic note e says = rw e says

-- the kind of the error is forgotten
pub noted_by : (kind : Option ErrorKind) (path_of : File → List ℕ) (fault : JobFault) (note : Note) → StopNotedBy kind path_of fault note →
    StopNoted path_of fault note
noted_by kind path_of fault note by = record { kind = kind; by = by }

-- the name of the file of a stop
pub path_there : (path_of : File → List ℕ) (found : Option File) (file : File) (path : List ℕ) → Some file ≡ found → path ≡ path_of file →
    IfSome found (λ f. path ≡ path_of f)
path_there path_of found file path is same = subst (λ (o : Option File). IfSome o (λ f. path ≡ path_of f)) is same

pub path_none : (path_of : File → List ℕ) (found : Option File) (path : List ℕ) → None ≡ found → IfSome found (λ f. path ≡ path_of f)
path_none path_of found path is = subst (λ (o : Option File). IfSome o (λ f. path ≡ path_of f)) is tt

-- a note on the file of a stop is one by the names of the files
on_refused : (path_of : File → List ℕ) (path why : List ℕ) (file : File) (note : Note) → path ≡ path_of file → RefusedNoted file path why note →
    RefusedNoted file (path_of file) why note
on_refused path_of path why file note same says = subst (λ (p : List ℕ). RefusedNoted file p why note) same says

on_fault : (kind : Option ErrorKind) (path_of : File → List ℕ) (path : List ℕ) (fault : JobFault) (note : Note) →
    IfSome (fault_file fault) (λ file. path ≡ path_of file) → StopNotedBy kind (λ _. path) fault note → StopNotedBy kind path_of fault note
on_fault kind path_of path J.NoMemory note same says = says
on_fault kind path_of path (J.Faulted file) note same says =
    subst (λ (p : List ℕ). Sure (λ said. said ≡ unread_text p kind) note) same says
on_fault kind path_of path (J.Refused file why) note same says = on_refused path_of path why.items file note same says

pub noted_by_names : (kind : Option ErrorKind) (path_of : File → List ℕ) (path : List ℕ) (stop : WalkStop) (note : Note) →
    IfSome (stop_file stop) (λ file. path ≡ path_of file) → StopNotedBy kind (λ _. path) (note_stop stop) note →
    StopNotedBy kind path_of (note_stop stop) note
noted_by_names kind path_of path (S.Plain fault) note same says = on_fault kind path_of path fault note same says
noted_by_names kind path_of path (S.Refused file diagnostic) note same says = by diagnostic.note says
  where
    by : (t : Option (Vec ℕ Global)) → StopNotedBy kind (λ _. path) (fault_in file t) note → StopNotedBy kind path_of (fault_in file t) note
    by None says = says
    by (Some v) says = on_refused path_of path v.items file note same says

-- the note on an output that failed
pub fail_made : (lines : ℕ) (kind : Option ErrorKind) (said : List ℕ) (note : Note) → note ≡ Brief said → IsOutputNote lines kind said →
    FailNoted lines note
fail_made lines kind said note same is = subst (FailNoted lines) (sym same) (record { kind = kind; is = is })
