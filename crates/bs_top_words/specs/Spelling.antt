-- Which words spell which job, with no reading of them (docs/FORMATS.md, "Command words").
use Rattle.std.specs.Prelude.{◌≡◌, ◌≢◌, ◌⊎◌, ℕ, ◌≤◌, ◌<◌, ◌^◌, Bool, false, List, [], ◌∷◌, ◌++◌, codes, decimal, Option, Some, None, ◌↔◌}
use Rattle.std.specs.List.{AllByRecursion, flat_map}
use Rattle.std.specs.Option.{unwrap_or}
use Rattle.bs_scan.specs.declared.seen.Seen.{Seen}
use Rattle.bs_scan.specs.Seen.{IsSeen}
use Rattle.bs_scan.specs.SeenText.{seen_text}
use Rattle.bs_stim.specs.declared.limits.TheConstants.{MAX_RUNS, MAX_CYCLES}
use Rattle.bs_top_words.specs.declared.limits.TheConstants.{DEFAULT_STEPS, DEFAULT_CANDIDATES, DEFAULT_CONFLICTS, MAX_BOUND}
use Rattle.bs_top_words.specs.declared.options.BudgetKind.{BudgetKind}
use Rattle.bs_top_words.specs.declared.options.BudgetKind.TheVariants.{Steps, Candidates, Conflicts}
use Rattle.bs_top_words.specs.Options.{greatest, is_option}
use Rattle.bs_top_words.specs.Flags.{kind_name}
use Rattle.bs_top_words.specs.CommandLine.{CommandLine, plain}
use Rattle.bs_top_words.specs.Job.{RunJob, AuditJob, DumpJob, ReachJob, Job, Run, Audit, Dump, Demo, Wave, Reach, job_of}

-- ---- pieces

-- what may stand before a word `--`: a word by position, or an option with its value in one of two spellings
pub data Piece : Type 0 where
  Word : List ℕ → Piece
  Apart : BudgetKind → ℕ → Piece
  Joined : BudgetKind → ℕ → Piece

-- its words: `--steps 5` are two, and `--steps=5` is one
abbrev pub spelling : Piece → List (List ℕ)
spelling (Word word) = word ∷ []
spelling (Apart kind value) = kind_name kind ∷ decimal value ∷ []
spelling (Joined kind value) = (kind_name kind ++ (codes "=" ++ decimal value)) ∷ []

-- the value of an option is at least 1 and not too great
abbrev pub IsBudget : BudgetKind → ℕ → Type 0
IsBudget kind value = (1 ≤ value) × (value ≤ greatest kind)

-- a word by position does not begin with `-`, unless it is the single `-`
abbrev pub IsPiece : Piece → Type 0
IsPiece (Word word) = is_option word ≡ false
IsPiece (Apart kind value) = IsBudget kind value
IsPiece (Joined kind value) = IsBudget kind value

-- the words by position
abbrev pub positions_of : List Piece → List (List ℕ)
positions_of [] = []
positions_of (Word word ∷ pieces) = word ∷ positions_of pieces
positions_of (Apart kind value ∷ pieces) = positions_of pieces
positions_of (Joined kind value ∷ pieces) = positions_of pieces

-- the options with their values, in order
abbrev pub options_of : List Piece → List (BudgetKind × ℕ)
options_of [] = []
options_of (Word word ∷ pieces) = options_of pieces
options_of (Apart kind value ∷ pieces) = (kind, value) ∷ options_of pieces
options_of (Joined kind value ∷ pieces) = (kind, value) ∷ options_of pieces

-- ---- lines

-- the value that a line gives an option
abbrev pub given : CommandLine → BudgetKind → Option ℕ
given line Steps = line.steps
given line Candidates = line.candidates
given line Conflicts = line.conflicts

-- the values of an option among options
abbrev pub values_if : BudgetKind → BudgetKind → ℕ → List ℕ → List ℕ
values_if Steps Steps value values = value ∷ values
values_if Candidates Candidates value values = value ∷ values
values_if Conflicts Conflicts value values = value ∷ values
values_if _ _ value values = values

abbrev pub values_of : BudgetKind → List (BudgetKind × ℕ) → List ℕ
values_of kind [] = []
values_of kind (option ∷ options) = values_if kind option.0 option.1 (values_of kind options)

-- none, or one
abbrev pub listed : Option ℕ → List ℕ
listed None = []
listed (Some value) = value ∷ []

-- Words behind the command: first words by position and options in any order, and then nothing, or `--` and words by position
-- alone. Each option is given at most once.
pub record IsLine (words : List (List ℕ)) (line : CommandLine) : Type 0 where
  pub pieces : List Piece
  pub behind : List (List ℕ)
  pub spelled : ((words ≡ flat_map spelling pieces) × (behind ≡ [])) ⊎ (words ≡ flat_map spelling pieces ++ (codes "--" ∷ behind))
  pub right : AllByRecursion IsPiece pieces
  pub positions : line.positions ≡ positions_of pieces ++ behind
  pub options : (kind : BudgetKind) → listed (given line kind) ≡ values_of kind (options_of pieces)

-- ---- jobs

-- `run`: four file names, and the budgets that are given; the others have their defaults
pub record IsRun (words : List (List ℕ)) (job : RunJob) : Type 0 where
  pub line : CommandLine
  pub is : IsLine words line
  pub files : line.positions ≡ job.netlist ∷ job.signature ∷ job.stimulus ∷ job.dump ∷ []
  pub steps : job.steps ≡ unwrap_or line.steps DEFAULT_STEPS
  pub candidates : job.candidates ≡ unwrap_or line.candidates DEFAULT_CANDIDATES
  pub conflicts : job.conflicts ≡ unwrap_or line.conflicts DEFAULT_CONFLICTS

-- `audit` and `wave`: five file names
abbrev pub IsAudit : List (List ℕ) → AuditJob → Type 0
IsAudit words job = IsLine words (plain (job.netlist ∷ job.signature ∷ job.stimulus ∷ job.dump ∷ job.report ∷ []))

-- `dump`: three file names, a run and a cycle
pub record IsDump (words : List (List ℕ)) (job : DumpJob) : Type 0 where
  pub is : IsLine words (plain (job.netlist ∷ job.signature ∷ job.stimulus ∷ decimal job.run ∷ decimal job.cycle ∷ []))
  pub from_one : 1 ≤ job.run
  pub few_runs : job.run ≤ MAX_RUNS
  pub few_cycles : job.cycle ≤ MAX_CYCLES

-- `demo`: a number
abbrev pub IsDemo : List (List ℕ) → ℕ → Type 0
IsDemo words number = IsLine words (plain (decimal number ∷ [])) × (number < 2 ^ 64)

-- a state of one or more bits, known or not
pub record IsStateWord (word : List ℕ) : Type 0 where
  pub seen : Seen
  pub some : seen.bits ≢ []
  pub sound : IsSeen seen
  pub spelled : word ≡ seen_text seen

-- `reach`: a file name, a state and a number of cycles, and the budget of lemmas, which has its default where none is given
pub record IsReach (words : List (List ℕ)) (job : ReachJob) : Type 0 where
  pub line : CommandLine
  pub is : IsLine words line
  pub places : line.positions ≡ job.netlist ∷ job.state ∷ decimal job.cycles ∷ []
  pub state : IsStateWord job.state
  pub few_cycles : job.cycles ≤ MAX_BOUND
  pub conflicts : job.conflicts ≡ unwrap_or line.conflicts DEFAULT_CONFLICTS
  pub no_steps : line.steps ≡ None
  pub no_candidates : line.candidates ≡ None

-- the first word is the command
abbrev pub IsJob : List (List ℕ) → Job → Type 0
IsJob words (Run job) = (rest : List (List ℕ)) × (words ≡ codes "run" ∷ rest) × IsRun rest job
IsJob words (Audit job) = (rest : List (List ℕ)) × (words ≡ codes "audit" ∷ rest) × IsAudit rest job
IsJob words (Dump job) = (rest : List (List ℕ)) × (words ≡ codes "dump" ∷ rest) × IsDump rest job
IsJob words (Demo number) = (rest : List (List ℕ)) × (words ≡ codes "demo" ∷ rest) × IsDemo rest number
IsJob words (Wave job) = (rest : List (List ℕ)) × (words ≡ codes "wave" ∷ rest) × IsAudit rest job
IsJob words (Reach job) = (rest : List (List ℕ)) × (words ≡ codes "reach" ∷ rest) × IsReach rest job

-- the words spell no job
pub record IsNoJob (words : List (List ℕ)) : Type 0 where
  pub none : (job : Job) → IsJob words job → ⊥

-- what words spell is what the reading of them gives
abbrev pub SpelledJobsAreRead : Type 0
SpelledJobsAreRead = (words : List (List ℕ)) (job : Job) → (job_of words ≡ Some job) ↔ IsJob words job
