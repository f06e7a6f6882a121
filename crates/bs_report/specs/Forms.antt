-- The forms of a report's lines (docs/FORMATS.md, "Report").
use Rattle.std.specs.Prelude.{ℕ, ◌==◌, nat_le, Bool, ◌&&◌, List, [], ◌∷◌, length, codes, Option, Some, None, option_map, if◌then◌else◌}
use Rattle.std.specs.Str.{bytes_eq}
use Rattle.bs_bits.specs.Lines.{words_of, number_in}
use Rattle.bs_bits.specs.Text.{bits_of}
use Rattle.bs_scan.specs.declared.seen.Seen.{Seen}
use Rattle.bs_scan.specs.SeenText.{seen_of}
use Rattle.bs_log.specs.LineReading.{id_in}
use Rattle.bs_stim.specs.declared.limits.TheConstants.{MAX_RUNS, MAX_CYCLES}
use Rattle.bs_report.specs.declared.limits.TheConstants.{MAX_STEPS, MAX_CANDIDATES, MAX_CONFLICTS}
use Rattle.bs_report.specs.declared.report.Before.{Before}
use Rattle.bs_report.specs.declared.report.Cand.{Cand}
use Rattle.bs_report.specs.declared.report.HitLine.{HitLine}
use Rattle.bs_report.specs.declared.report.ListEnd.{ListEnd}
use Rattle.bs_report.specs.declared.report.ListEnd.TheVariants.{Finished, Candidates as ByCandidates, Conflicts as ByConflicts}
use Rattle.bs_report.specs.declared.report.Stop.{Stop}
use Rattle.bs_report.specs.declared.report.Stop.TheVariants.{Reset, Length, Nohit, Empty, Candidates, Conflicts}
use Rattle.bs_report.specs.declared.report.Budgets.{Budgets}

-- ---- words

infixl 10 ◌>>=◌
abbrev pub ◌>>=◌ : {A B : Type 0} → Option A → (A → Option B) → Option B
None >>= f = None
(Some a) >>= f = f a

-- the first word, and the words behind it
abbrev pub next_in : List (List ℕ) → Option (List ℕ × List (List ℕ))
next_in [] = None
next_in (w ∷ ws) = Some (w, ws)

-- the word behind this one, which comes first, and the words behind that
abbrev pub behind : List ℕ → List (List ℕ) → Option (List ℕ × List (List ℕ))
behind tag [] = None
behind tag (w ∷ ws) = if bytes_eq w tag then next_in ws else None

-- the value, where no word is left
abbrev pub at_end : {A : Type 0} → List (List ℕ) → A → Option A
at_end ws a = if length ws == 0 then Some a else None

abbrev pub within : ℕ → ℕ → Option ℕ → Option ℕ
within low high None = None
within low high (Some n) = if nat_le low n && nat_le n high then Some n else None

-- a number from low to high
abbrev pub number_within : ℕ → ℕ → List ℕ → Option ℕ
number_within low high word = within low high (number_in word)

abbrev pub number_behind : List ℕ → ℕ → ℕ → List (List ℕ) → Option (ℕ × List (List ℕ))
number_behind tag low high words = do
  found ← behind tag words
  n ← number_within low high found.0
  Some (n, found.1)

abbrev pub bits_behind : List ℕ → List (List ℕ) → Option (List Bool × List (List ℕ))
bits_behind tag words = do
  found ← behind tag words
  bits ← bits_of found.0
  Some (bits, found.1)

-- the same of bits of which some may not be known
abbrev pub seen_behind : List ℕ → List (List ℕ) → Option (Seen × List (List ℕ))
seen_behind tag words = do
  found ← behind tag words
  seen ← seen_of found.0
  Some (seen, found.1)

-- the bits that the first word is, and the words behind it
abbrev pub bits_next : List (List ℕ) → Option (List Bool × List (List ℕ))
bits_next words = do
  found ← next_in words
  bits ← bits_of found.0
  Some (bits, found.1)

-- ---- lines

-- the depth that the first line names
abbrev pub depth_in : List ℕ → Option ℕ
depth_in text =
    if bytes_eq text (codes "backspace 1") then Some 1
    else if bytes_eq text (codes "backspace 2") then Some 2
    else None

-- a line of this word and a number below 2 ^ 64
abbrev pub count_in : List ℕ → List ℕ → Option ℕ
count_in tag text = do
  found ← behind tag (words_of text)
  n ← number_in found.0
  at_end found.1 n

-- a line of this word and bits
abbrev pub bits_in : List ℕ → List ℕ → Option (List Bool)
bits_in tag text = do
  found ← bits_behind tag (words_of text)
  at_end found.1 found.0

-- the same where some may not be known
abbrev pub seen_in : List ℕ → List ℕ → Option Seen
seen_in tag text = do
  found ← seen_behind tag (words_of text)
  at_end found.1 found.0

abbrev pub budgets_in : List ℕ → Option Budgets
budgets_in text = do
  steps ← number_behind (codes "asked") 1 MAX_STEPS (words_of text)
  candidates ← number_behind (codes "candidates") 1 MAX_CANDIDATES steps.1
  conflicts ← number_behind (codes "conflicts") 1 MAX_CONFLICTS candidates.1
  at_end conflicts.1 (record { steps = steps.0; candidates = candidates.0; conflicts = conflicts.0 })

-- a signature behind `older`, or that there is none
abbrev pub older_in : List ℕ → Option (Option (List Bool))
older_in text = if bytes_eq text (codes "older none") then Some None else option_map (λ bits. Some bits) (bits_in (codes "older") text)

-- a state and an input, behind `from`
abbrev pub source_in : List (List ℕ) → Option Before
source_in words = do
  state ← bits_next words
  input ← bits_behind (codes "input") state.1
  at_end input.1 (record { state = state.0; input = input.0 })

-- what the words behind a candidate's input say of the state before it: nothing, or, where the depth is not 1, a state and an input
abbrev pub before_in : ℕ → List (List ℕ) → Option (Option Before)
before_in depth [] = Some None
before_in depth (w ∷ ws) =
    if depth == 1 then None
    else if bytes_eq w (codes "from") then option_map (λ before. Some before) (source_in ws)
    else None

abbrev pub cand_in : ℕ → List ℕ → Option Cand
cand_in depth text = do
  state ← bits_behind (codes "cand") (words_of text)
  input ← bits_behind (codes "input") state.1
  before ← before_in depth input.1
  Some (record { state = state.0; input = input.0; before = before })

-- an id behind `finished`
abbrev pub finished_end : List ℕ → List (List ℕ) → Option ListEnd
finished_end word ws = if bytes_eq word (codes "finished") then (next_in ws >>= λ found. id_in found.0 >>= λ id. at_end found.1 (Finished id)) else None

abbrev pub end_of : List ℕ → List (List ℕ) → Option ListEnd
end_of word ws =
    if bytes_eq word (codes "candidates") then at_end ws ByCandidates
    else if bytes_eq word (codes "conflicts") then at_end ws ByConflicts
    else finished_end word ws

abbrev pub end_in : List ℕ → Option ListEnd
end_in text = behind (codes "list") (words_of text) >>= λ found. end_of found.0 found.1

-- the run and the cycle of a hit
abbrev pub run_cycle_in : List (List ℕ) → Option ((ℕ × ℕ) × List (List ℕ))
run_cycle_in words = do
  run ← number_behind (codes "hit") 1 MAX_RUNS words
  found ← next_in run.1
  cycle ← number_within 0 MAX_CYCLES found.0
  Some ((run.0, cycle), found.1)

abbrev pub moment_in : List (List ℕ) → Option HitLine
moment_in words = do
  moment ← run_cycle_in words
  found ← next_in moment.1
  bits ← bits_of found.0
  at_end found.1 (record { run = moment.0.0; cycle = moment.0.1; state = bits })

-- a hit, or the line that there is none
abbrev pub hit_in : List ℕ → Option (Option HitLine)
hit_in text = if bytes_eq text (codes "nohit") then Some None else option_map (λ hit. Some hit) (moment_in (words_of text))

abbrev pub stop_of : List ℕ → Option Stop
stop_of word =
    if bytes_eq word (codes "reset") then Some Reset
    else if bytes_eq word (codes "length") then Some Length
    else if bytes_eq word (codes "nohit") then Some Nohit
    else if bytes_eq word (codes "empty") then Some Empty
    else if bytes_eq word (codes "candidates") then Some Candidates
    else if bytes_eq word (codes "conflicts") then Some Conflicts
    else None

abbrev pub stop_in : List ℕ → Option Stop
stop_in text = do
  found ← behind (codes "stop") (words_of text)
  stop ← stop_of found.0
  at_end found.1 stop
