-- Notes on files that do not read, on an output that does not take the answer, and on a moment that no run has.
use Rattle.std.specs.Prelude.{◌≡◌, ℕ, List, [], ◌++◌, codes, decimal, length, nat_le, ◌&&◌, Option, Some, None, if◌then◌else◌}
use Rattle.std.specs.declared.io.ErrorKind.{ErrorKind}
use Rattle.std.specs.declared.io.ErrorKind.TheVariants.{BrokenPipe}
use Rattle.bs_stim.specs.Runs.{Stimulus, run_at}
use Rattle.bs_outside.specs.declared.file.File.{File}
use Rattle.bs_outside.specs.PlanFiles.{file_word, limit_of}
use Rattle.bs_note_files.specs.Notes.{file_text, pair_text, plain_text}
use Rattle.bs_note_calls.specs.Reasons.{output_reason, unread_reason}

-- a file that does not read: its name, and the reason by the kind of the error, where it is known
abbrev pub unread_text : List ℕ → Option ErrorKind → List ℕ
unread_text path kind = file_text path (unread_reason path kind)

-- the note is on a file that does not read, by some kind of error
pub record IsUnreadNote (path note : List ℕ) : Type 0 where
  pub kind : Option ErrorKind
  pub written : note ≡ unread_text path kind

-- a file that is longer than its limit
abbrev pub long_sentence : File → List ℕ
long_sentence file =
    codes "the file has more bytes than a " ++ (file_word file ++ (codes " may have: " ++ (decimal (limit_of file) ++ codes "; is it another file, which stands in the wrong place?")))

abbrev pub long_text : File → List ℕ → List ℕ
long_text file path = file_text path (long_sentence file)

-- an output that did not take a line, after so many whole lines, for a reason
abbrev pub output_sentence : ℕ → List ℕ → List ℕ
output_sentence lines reason = codes "standard output failed after " ++ (decimal lines ++ (codes " whole lines: " ++ reason))

abbrev pub output_text : ℕ → List ℕ → List ℕ
output_text lines reason =
    pair_text (output_sentence lines reason)
    (codes "what went out is the front of the answer; send it to a file with room, or let the reader read on")

-- a reader that closed the output, as `head` does, which is no mistake
abbrev pub closed_sentence : ℕ → List ℕ
closed_sentence lines = codes "the reader closed standard output after " ++ (decimal lines ++ codes " whole lines")

abbrev pub kind_text : ℕ → ErrorKind → List ℕ
kind_text lines BrokenPipe = plain_text (closed_sentence lines)
kind_text lines kind = output_text lines (output_reason (Some kind))

abbrev pub stopped_text : ℕ → Option ErrorKind → List ℕ
stopped_text lines None = output_text lines (output_reason None)
stopped_text lines (Some kind) = kind_text lines kind

-- the note is on an output that took so many whole lines, by this kind of error
abbrev pub IsOutputNote : ℕ → Option ErrorKind → List ℕ → Type 0
IsOutputNote lines kind note = note ≡ stopped_text lines kind

-- out of memory
abbrev pub memory_text : List ℕ
memory_text =
    plain_text (codes "memory ran out, and nothing was written: give the program more, or lower --candidates and --conflicts")

-- out of memory while the note was made
abbrev pub want_text : List ℕ
want_text = plain_text (codes "memory ran out while this answer was looked at once more")

-- a report that is not valid
abbrev pub rejected_text : List ℕ
rejected_text =
    pair_text (codes "the line names the first part of the report that fails (docs/FORMATS.md, Validity)")
    (codes "is the report of these very files, in this order, and unchanged?")

-- a report whose trace has too large a waveform
abbrev pub large_text : List ℕ → List ℕ
large_text path = file_text path (codes "the waveform of this trace has too many values, one for each net at each state: draw a shorter trace")

-- a report whose trace is a state that is known in part
abbrev pub partial_text : List ℕ → List ℕ
partial_text path = file_text path (codes "the trace of this report is the dump alone, of which some flip-flops are not known: no step has a hit")

-- how many cycles a run has, where there is one of that number
abbrev pub cycles_of : Stimulus → ℕ → Option ℕ
cycles_of runs run = if nat_le 1 run && nat_le run (length runs.runs) then Some (length (run_at runs run).inputs) else None

abbrev pub cycles_text : Option ℕ → List ℕ
cycles_text None = []
cycles_text (Some cycles) = codes "; and this run so many cycles: " ++ decimal cycles

-- a moment that no run has
abbrev pub range_text : Stimulus → ℕ → List ℕ
range_text runs run =
    pair_text (codes "there is no such moment: the stimulus has so many runs: " ++ (decimal (length runs.runs) ++ cycles_text (cycles_of runs run)))
    (codes "RUN counts from 1 in the order of the file, and CYCLE from 0 up to the number of cycles")
