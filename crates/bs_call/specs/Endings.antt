-- The notes on work that is done.
use Rattle.std.specs.Prelude.{ℕ, ◌+◌, ◌==◌, nat_lt, sum_by, Bool, false, not, ◌&&◌, List, [], ◌++◌, codes, decimal, length, Option, Some, None}
use Rattle.std.specs.Prelude.{option_map, if◌then◌else◌}
use Rattle.std.specs.Option.{unwrap_or}
use Rattle.bs_scan.specs.declared.seen.Seen.{Seen}
use Rattle.bs_scan.specs.Seen.{known_count}
use Rattle.bs_stim.specs.Runs.{Recorded, Stimulus}
use Rattle.bs_report.specs.declared.report.Stop.{Stop}
use Rattle.bs_report.specs.declared.report.Stop.TheVariants as S
use Rattle.bs_scan.specs.declared.dump.Dump.{Dump}
use Rattle.bs_scan.specs.Crash.{Recording}
use Rattle.bs_note_files.specs.Notes.{pair_text, plain_text}
use Rattle.bs_call.specs.Looks.{looked_text}
use Rattle.bs_note_calls.specs.Faults.{rejected_text}
use Rattle.bs_note_calls.specs.Stops.{text_of}
use Rattle.bs_note_calls.specs.Searches.{miss_text}
use Rattle.bs_note_calls.specs.declared.miss.Miss.{Miss}

-- the moments of recorded runs: each cycle of each run from 0 to the run's number of cycles
abbrev pub moments : Stimulus → ℕ
moments stimulus = sum_by (λ (run : Recorded). length run.inputs + 1) stimulus.runs

abbrev pub searched_text : ℕ → List ℕ
searched_text count = plain_text (codes "so many moments of recorded runs were searched, each cycle of each run from 0: " ++ decimal count)

-- the text of a stop, and what follows it: where no run comes to a listed state, how many moments were searched
abbrev pub followed_text : Stimulus → Stop → List ℕ → List ℕ
followed_text runs S.Nohit text = text ++ searched_text (moments runs)
followed_text runs S.Reset text = text
followed_text runs S.Length text = text
followed_text runs S.Empty text = text
followed_text runs S.Candidates text = text
followed_text runs S.Conflicts text = text

-- whether the runs are searched for the dump: in the first step no candidate was hit
abbrev pub is_searched : ℕ → Stop → Bool
is_searched steps S.Reset = false
is_searched steps S.Length = false
is_searched steps S.Nohit = steps == 1
is_searched steps S.Empty = steps == 1
is_searched steps S.Candidates = steps == 1
is_searched steps S.Conflicts = steps == 1

-- the text of a stop, and what follows it; none where the run came to reset
abbrev pub own_text : Stimulus → ℕ → Stop → Bool → (lists : ℕ) → List ℕ
own_text runs steps stop cut lists = unwrap_or (option_map (followed_text runs stop) (text_of steps stop cut lists)) []

-- ---- a dump of which some flip-flops are not known

-- whether a candidate of the first step was hit
abbrev pub is_hit : ℕ → Stop → Bool
is_hit steps stop = nat_lt 0 steps && not (is_searched steps stop)

-- how many bits are known at a place
abbrev pub known_one : (free : Bool) → ℕ
known_one free = if free then 0 else 1

abbrev pub known_sentence : Seen → List ℕ
known_sentence seen =
    codes "flip-flops whose bit the dump knows: " ++ (decimal (known_count seen) ++ (codes " of " ++ decimal (length seen.bits)))

abbrev pub earlier_sentence : List ℕ
earlier_sentence =
    codes "the trace ends in a state with these bits: where these and the signature's are few, it may be one of an earlier moment than the crash"

-- how many of its flip-flops are known, and where a candidate of the first step was hit, what that says of the trace
abbrev pub partly_text : Dump → (hit : Bool) → List ℕ
partly_text dump hit = if hit then pair_text (known_sentence dump.state) earlier_sentence else plain_text (known_sentence dump.state)

-- ---- the note

-- the text of a stop, and what the recorded runs tell of the dump where they are searched for it
abbrev pub stopped_text : Recording → Dump → ℕ → Stop → List ℕ → List ℕ
stopped_text r dump steps stop text = if is_searched steps stop then looked_text r dump text else text

-- the note on why a run over these recorded runs stopped, after so many steps from a dump of which all is known, the last one with a search
-- that was cut or was not; none where it came to reset. So many of the steps' lists were cut.
abbrev pub whole_text : Recording → Dump → Stimulus → ℕ → Stop → Bool → (lists : ℕ) → Option (List ℕ)
whole_text r dump runs steps stop cut lists =
    option_map (λ (text : List ℕ). stopped_text r dump steps stop (followed_text runs stop text)) (text_of steps stop cut lists)

-- the same from any dump: where some of its flip-flops are not known, the runs are not searched for it, and it is said how many are
abbrev pub run_text : Recording → Dump → Stimulus → ℕ → Stop → Bool → (lists : ℕ) → Option (List ℕ)
run_text r dump runs steps stop cut lists =
    if length dump.state.free == 0 then whole_text r dump runs steps stop cut lists
    else Some (own_text runs steps stop cut lists ++ partly_text dump (is_hit steps stop))

-- the note on a search, where it has no execution
abbrev pub miss_text_of : Option Miss → Option (List ℕ)
miss_text_of None = None
miss_text_of (Some miss) = Some (miss_text miss)

-- the note on an audit, where the report is not valid
abbrev pub rejected_text_if : Bool → Option (List ℕ)
rejected_text_if rejected = if rejected then Some rejected_text else None
