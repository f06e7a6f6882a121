-- What the shelves and the sink in memory tell.
use Rattle.std.specs.Prelude.{◌≡◌, ◌+◌, ◌-◌, ◌^◌, ℕ, List, length, min, Option, Contains, if◌then◌else◌}
use Rattle.std.specs.Option.{option_eq}
use Rattle.std.specs.Prelude.{nat_eq}
use Rattle.bs_outside.specs.declared.sink.Put.{Put}
use Rattle.bs_outside.specs.Calls.{FetchCall, PutCall}
use Rattle.bs_outside.specs.Cuts.{cut_of, put_answer}
use Rattle.bs_outside.specs.Files.{Files, held_in, place_of, count_of, sure_count}
use Rattle.bs_outside.specs.declared.memory.MemShelf.{MemShelf}
use Rattle.bs_outside.specs.declared.never_failing.SureShelf.{SureShelf}
use Rattle.bs_outside.specs.declared.memory.MemSink.{MemSink}

-- the files of a shelf
abbrev pub mem_files : MemShelf → Files
mem_files shelf = shelf.files.items

abbrev pub mem_held : MemShelf → List ℕ → Option (List ℕ)
mem_held shelf name = held_in (mem_files shelf) name

-- the count of a name's file, or the one count of all names that are not there
abbrev pub mem_faults : MemShelf → List ℕ → ℕ
mem_faults shelf name = count_of shelf.counts.items shelf.other (place_of (mem_files shelf) name)

-- the number of calls so far, which stops at the greatest `u64`
abbrev pub mem_calls : MemShelf → ℕ
mem_calls shelf = shelf.calls

-- the numbers of the calls that fail
abbrev pub mem_fail : MemShelf → List ℕ
mem_fail shelf = shelf.fail.items

-- the next call fails for each name
abbrev pub IsDue : MemShelf → Type 0
IsDue shelf = Contains (mem_fail shelf) (min (mem_calls shelf + 1) (2 ^ 64 - 1))

-- each call is counted
abbrev pub mem_leads : MemShelf → FetchCall → MemShelf → Type 0
mem_leads before call now = mem_calls now ≡ min (mem_calls before + 1) (2 ^ 64 - 1)

-- the count of another name once a fetch of a name failed: one more where both name one file, or both none
abbrev pub counts_one : MemShelf → List ℕ → List ℕ → ℕ
counts_one shelf name other =
    if option_eq nat_eq (place_of (mem_files shelf) name) (place_of (mem_files shelf) other)
    then min (mem_faults shelf other + 1) (2 ^ 64 - 1) else mem_faults shelf other

-- the files of a shelf that can't fail
abbrev pub sure_files : SureShelf → Files
sure_files shelf = shelf.files.items

abbrev pub sure_held : SureShelf → List ℕ → Option (List ℕ)
sure_held shelf name = held_in (sure_files shelf) name

abbrev pub sure_faults : SureShelf → List ℕ → ℕ
sure_faults shelf name = sure_count (place_of (sure_files shelf) name)

-- a call leaves the files as they are
abbrev pub sure_leads : SureShelf → FetchCall → SureShelf → Type 0
sure_leads before call now = sure_files now ≡ sure_files before

abbrev pub sink_bytes : MemSink → List ℕ
sink_bytes sink = sink.written.items

abbrev pub sink_faults : MemSink → ℕ
sink_faults sink = sink.faults

-- the number of calls so far, which stops at the greatest `u64`
abbrev pub sink_calls : MemSink → ℕ
sink_calls sink = sink.calls

-- each call is counted
abbrev pub sink_leads : MemSink → PutCall → MemSink → Type 0
sink_leads before call now = sink_calls now ≡ min (sink_calls before + 1) (2 ^ 64 - 1)

-- the bytes that the sink takes in all
abbrev pub sink_room : MemSink → ℕ
sink_room sink = sink.room

-- the numbers of the calls that fail, each with the bytes that it takes
abbrev pub sink_fail : MemSink → List (ℕ × ℕ)
sink_fail sink = sink.fail.items

-- the answer of the next call to n bytes
abbrev pub next_answer : MemSink → ℕ → Put
next_answer sink n = put_answer (cut_of (sink_fail sink) (min (sink_calls sink + 1) (2 ^ 64 - 1))) (min n (sink_room sink - length (sink_bytes sink))) n
