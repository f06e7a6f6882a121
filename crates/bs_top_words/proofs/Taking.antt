-- The reading of a line where each value of an option is set at once: what is read of all words and set then is the same.
use Rattle.std.proofs.Common.{◌≡◌, ℕ, Bool, true, false, cond, List, [], ◌∷◌, ◌++◌, codes, Option, Some, None, refl, sym, ap, ◌∙◌, if◌then◌else◌}
use Rattle.std.specs.Option.{option_map, option_and_then}
use Rattle.std.specs.Str.{bytes_eq}
use Rattle.bs_top_words.specs.declared.options.BudgetKind.{BudgetKind}
use Rattle.bs_top_words.specs.declared.options.BudgetKind.TheVariants.{Steps, Candidates, Conflicts}
use Rattle.bs_top_words.specs.declared.flags.Flag.{Flag}
use Rattle.bs_top_words.specs.declared.flags.Flag.TheVariants.{Budget, All, Only, Clock, Scope, Map, Bits, From, To, Last, Time, Cycle, Signature, Csv, Most, At, Depth, Flops, Step, Partial}
use Rattle.bs_top_words.specs.declared.given.Awaited.{Awaited}
use Rattle.bs_top_words.specs.declared.given.Awaited.TheVariants as A
use Rattle.bs_top_words.specs.Options.{has_dash, is_option, rest_of, value_in}
use Rattle.bs_top_words.specs.Flags.{budgets_if, flag_of, kind_name}
use Rattle.bs_top_words.specs.Given.{Setting, Given, Progress, add_position, add_setting, flag_step, setting_if, with_setting}
use Rattle.bs_top_words.specs.Given.{read_all as read_given, start as given_start}
use Rattle.bs_top_words.specs.CommandLine.{CommandLine, plain, once, set_to, set_flag, set_all, line_of, read_line}

-- ---- the reading

-- what the next word may be
pub data Mode : Type 0 where
  Plain : Mode
  Wants : BudgetKind → Mode
  Names : Mode

-- what has been read, and what may come
pub record State : Type 0 where
  pub mode : Mode
  pub line : CommandLine

abbrev pub state : Mode → CommandLine → State
state mode l = record { mode = mode; line = l }

abbrev pub start : State
start = state Plain (plain [])

-- the value of an option in a word such as `--steps=5`
abbrev pub behind : BudgetKind → List ℕ → Option (List ℕ)
behind kind word = option_and_then (rest_of (codes "=")) (rest_of (kind_name kind) word)

-- the option whose value is the next word
abbrev pub kind_of : List ℕ → Option BudgetKind
kind_of word =
    if bytes_eq word (codes "--steps") then Some Steps else
    (if bytes_eq word (codes "--candidates") then Some Candidates else (if bytes_eq word (codes "--conflicts") then Some Conflicts else None))

abbrev pub set_if : CommandLine → BudgetKind → Option (List ℕ) → Option CommandLine → Option CommandLine
set_if line kind None other = other
set_if line kind (Some value) other = set_to line kind value

-- the line with a word such as `--steps=5`
abbrev pub set_by : CommandLine → List ℕ → Option CommandLine
set_by line word =
    set_if line Steps (behind Steps word) (set_if line Candidates (behind Candidates word) (set_if line Conflicts (behind Conflicts word) None))

abbrev pub add_to : CommandLine → List ℕ → CommandLine
add_to line word = record line { positions = line.positions ++ word ∷ [] }

abbrev pub in_mode : Mode → Option CommandLine → Option State
in_mode mode line = option_map (λ (l : CommandLine). record { mode = mode; line = l }) line

abbrev pub option_step : CommandLine → List ℕ → Option BudgetKind → Option State
option_step line word None = in_mode Plain (set_by line word)
option_step line word (Some kind) = Some record { mode = Wants kind; line = line }

-- a word where neither a value is due nor `--` has come; `options` says whether the command takes any
abbrev pub plain_step : Bool → CommandLine → List ℕ → Option State
plain_step options line word =
    if bytes_eq word (codes "--") then Some record { mode = Names; line = line }
    else (if is_option word then (if options then option_step line word (kind_of word) else None) else Some record { mode = Plain; line = add_to line word })

-- the next word, if it may stand there
abbrev pub step : Bool → Mode → CommandLine → List ℕ → Option State
step options Plain line word = plain_step options line word
step options (Wants kind) line word = if has_dash word then None else in_mode Plain (set_to line kind word)
step options Names line word = Some record { mode = Names; line = add_to line word }

-- no value is due at the end
abbrev pub finish : Mode → CommandLine → Option CommandLine
finish Plain line = Some line
finish (Wants kind) line = None
finish Names line = Some line

abbrev pub read_all : Bool → List (List ℕ) → State → Option CommandLine
read_all options [] state = finish state.mode state.line
read_all options (word ∷ words) state = option_and_then (λ (s : State). read_all options words s) (step options state.mode state.line word)

abbrev pub read_on : Bool → List (List ℕ) → Option State → Option CommandLine
read_on options rest o = option_and_then (λ (s : State). read_all options rest s) o

-- ---- options that are set later

abbrev no_line : Option CommandLine
no_line = None

nothing : (o : Option CommandLine) → no_line ≡ option_and_then (λ (l : CommandLine). no_line) o
nothing None = refl
nothing (Some l) = refl

some_again : (o : Option CommandLine) → option_and_then (λ (l : CommandLine). Some l) o ≡ o
some_again None = refl
some_again (Some l) = refl

-- a word by position that comes behind
set_behind : (ss : List Setting) (l : CommandLine) (word : List ℕ) → set_all (add_to l word) ss ≡ option_map (λ (k : CommandLine). add_to k word) (set_all l ss)
set_behind [] l word = refl
set_behind (s ∷ ss) l word = by s.flag (λ k. set_behind ss k word)
  where
    budget : (kind : BudgetKind) → ((k : CommandLine) → set_all (add_to k word) ss ≡ option_map (λ (k : CommandLine). add_to k word) (set_all k ss)) →
        option_and_then (λ (k : CommandLine). set_all k ss) (set_to (add_to l word) kind s.value) ≡ option_map (λ (k : CommandLine). add_to k word)
        (option_and_then (λ (k : CommandLine). set_all k ss) (set_to l kind s.value))
    budget Steps later = one (once l.steps (value_in Steps s.value))
      where
        one : (o : Option (Option ℕ)) →
            option_and_then (λ (k : CommandLine). set_all k ss) (option_map (λ (o : Option ℕ). record (add_to l word) { steps = o }) o) ≡ option_map
            (λ (k : CommandLine). add_to k word) (option_and_then (λ (k : CommandLine). set_all k ss) (option_map (λ (o : Option ℕ). record l { steps = o }) o))
        one None = refl
        one (Some o) = later (record l { steps = o })
    budget Candidates later = one (once l.candidates (value_in Candidates s.value))
      where
        one : (o : Option (Option ℕ)) →
            option_and_then (λ (k : CommandLine). set_all k ss) (option_map (λ (o : Option ℕ). record (add_to l word) { candidates = o }) o) ≡ option_map
            (λ (k : CommandLine). add_to k word) (option_and_then (λ (k : CommandLine). set_all k ss) (option_map (λ (o : Option ℕ). record l { candidates = o }) o))
        one None = refl
        one (Some o) = later (record l { candidates = o })
    budget Conflicts later = one (once l.conflicts (value_in Conflicts s.value))
      where
        one : (o : Option (Option ℕ)) →
            option_and_then (λ (k : CommandLine). set_all k ss) (option_map (λ (o : Option ℕ). record (add_to l word) { conflicts = o }) o) ≡ option_map
            (λ (k : CommandLine). add_to k word) (option_and_then (λ (k : CommandLine). set_all k ss) (option_map (λ (o : Option ℕ). record l { conflicts = o }) o))
        one None = refl
        one (Some o) = later (record l { conflicts = o })

    by : (flag : Flag) → ((k : CommandLine) → set_all (add_to k word) ss ≡ option_map (λ (k : CommandLine). add_to k word) (set_all k ss)) →
        option_and_then (λ (k : CommandLine). set_all k ss) (set_flag (add_to l word) flag s.value) ≡ option_map (λ (k : CommandLine). add_to k word)
        (option_and_then (λ (k : CommandLine). set_all k ss) (set_flag l flag s.value))
    by (Budget kind) later = budget kind later
    by All later = refl
    by Only later = refl
    by Clock later = refl
    by Scope later = refl
    by Map later = refl
    by Bits later = refl
    by From later = refl
    by To later = refl
    by Last later = refl
    by Time later = refl
    by Cycle later = refl
    by Signature later = refl
    by Csv later = refl
    by Most later = refl
    by At later = refl
    by Depth later = refl
    by Flops later = refl
    by Step later = refl
    by Partial later = refl

-- an option that comes last
set_last : (ss : List Setting) (l : CommandLine) (s : Setting) →
    set_all l (ss ++ s ∷ []) ≡ option_and_then (λ (k : CommandLine). set_flag k s.flag s.value) (set_all l ss)
set_last [] l s = some_again (set_flag l s.flag s.value)
set_last (t ∷ ts) l s = by (set_flag l t.flag t.value) (λ k. set_last ts k s)
  where
    by : (o : Option CommandLine) → ((k : CommandLine) → set_all k (ts ++ s ∷ []) ≡ option_and_then (λ (k : CommandLine). set_flag k s.flag s.value) (set_all k ts)) →
        option_and_then (λ (k : CommandLine). set_all k (ts ++ s ∷ [])) o ≡ option_and_then (λ (k : CommandLine). set_flag k s.flag s.value)
        (option_and_then (λ (k : CommandLine). set_all k ts) o)
    by None later = refl
    by (Some k) later = later k

-- ---- the two readings

abbrev awaits : Mode → Awaited
awaits Plain = A.Plain
awaits (Wants kind) = A.Value (Budget kind)
awaits Names = A.Positions

abbrev progress : Mode → Given → Progress
progress mode g = record { awaited = awaits mode; given = g }

-- what is read of the words that are left, and set
abbrev set_on : Bool → List (List ℕ) → Option Progress → Option CommandLine
set_on options rest o = option_and_then line_of (option_and_then (λ (t : Progress). read_given (budgets_if options) rest t) o)

abbrev Same : Bool → List (List ℕ) → Type 0
Same options words = (mode : Mode) (g : Given) →
    option_and_then line_of (read_given (budgets_if options) words (progress mode g)) ≡ option_and_then (λ (l : CommandLine). read_all options words (state mode l))
    (line_of g)

same_end : (options : Bool) → Same options []
same_end options Plain g = sym (some_again (line_of g))
same_end options (Wants kind) g = nothing (line_of g)
same_end options Names g = sym (some_again (line_of g))

same_word : (options : Bool) (rest : List (List ℕ)) (mode : Mode) (g : Given) (word : List ℕ) → Same options rest →
    option_and_then line_of (read_given (budgets_if options) rest (progress mode (add_position g word))) ≡ option_and_then
    (λ (l : CommandLine). read_all options rest (state mode (add_to l word))) (line_of g)
same_word options rest mode g word later =
    later mode (add_position g word)
    ∙ (ap (option_and_then (λ (l : CommandLine). read_all options rest (state mode l))) (set_behind g.settings (plain g.positions) word) ∙ through (line_of g))
  where
    through : (o : Option CommandLine) →
        option_and_then (λ (l : CommandLine). read_all options rest (state mode l)) (option_map (λ (k : CommandLine). add_to k word) o) ≡ option_and_then
        (λ (l : CommandLine). read_all options rest (state mode (add_to l word))) o
    through None = refl
    through (Some l) = refl

same_value : (options : Bool) (rest : List (List ℕ)) (g : Given) (kind : BudgetKind) (value : List ℕ) → Same options rest →
    option_and_then line_of (read_given (budgets_if options) rest (progress Plain (add_setting g (Budget kind) value))) ≡ option_and_then
    (λ (l : CommandLine). read_on options rest (in_mode Plain (set_to l kind value))) (line_of g)
same_value options rest g kind value later =
    later Plain (add_setting g (Budget kind) value)
    ∙ (ap (option_and_then (λ (l : CommandLine). read_all options rest (state Plain l)))
    (set_last g.settings (plain g.positions) (record { flag = Budget kind; value = value })) ∙ over (line_of g))
  where
    inner : (o : Option CommandLine) → option_and_then (λ (l : CommandLine). read_all options rest (state Plain l)) o ≡ read_on options rest (in_mode Plain o)
    inner None = refl
    inner (Some l) = refl

    over : (o : Option CommandLine) →
        option_and_then (λ (l : CommandLine). read_all options rest (state Plain l)) (option_and_then (λ (k : CommandLine). set_to k kind value) o) ≡ option_and_then
        (λ (l : CommandLine). read_on options rest (in_mode Plain (set_to l kind value))) o
    over None = refl
    over (Some l) = inner (set_to l kind value)

same_joined : (rest : List (List ℕ)) (g : Given) → Same true rest → (s c m : Option (List ℕ)) →
    set_on true rest (with_setting g (setting_if (Budget Steps) s (setting_if (Budget Candidates) c (setting_if (Budget Conflicts) m None)))) ≡ option_and_then
    (λ (l : CommandLine). read_on true rest (in_mode Plain (set_if l Steps s (set_if l Candidates c (set_if l Conflicts m None))))) (line_of g)
same_joined rest g later (Some value) c m = same_value true rest g Steps value later
same_joined rest g later None (Some value) m = same_value true rest g Candidates value later
same_joined rest g later None None (Some value) = same_value true rest g Conflicts value later
same_joined rest g later None None None = nothing (line_of g)

same_option : (rest : List (List ℕ)) (g : Given) (word : List ℕ) → Same true rest → (s c m : Bool) →
    set_on true rest (flag_step (budgets_if true) g word (cond s (Some (Budget Steps)) (cond c (Some (Budget Candidates)) (cond m (Some (Budget Conflicts)) None))))
    ≡ option_and_then (λ (l : CommandLine). read_on true rest (option_step l word (cond s (Some Steps) (cond c (Some Candidates) (cond m (Some Conflicts) None)))))
    (line_of g)
same_option rest g word later true c m = later (Wants Steps) g
same_option rest g word later false true m = later (Wants Candidates) g
same_option rest g word later false false true = later (Wants Conflicts) g
same_option rest g word later false false false = same_joined rest g later (behind Steps word) (behind Candidates word) (behind Conflicts word)

same_plain : (options : Bool) (rest : List (List ℕ)) (g : Given) (word : List ℕ) → Same options rest → (d o : Bool) →
    set_on options rest (cond d (Some (progress Names g))
    (cond o (flag_step (budgets_if options) g word (flag_of (budgets_if options) word)) (Some (progress Plain (add_position g word))))) ≡ option_and_then
    (λ (l : CommandLine). read_on options rest (cond d (Some (state Names l))
    (cond o (cond options (option_step l word (kind_of word)) None) (Some (state Plain (add_to l word)))))) (line_of g)
same_plain options rest g word later true o = later Names g
same_plain options rest g word later false false = same_word options rest Plain g word later
same_plain true rest g word later false true =
    same_option rest g word later (bytes_eq word (codes "--steps")) (bytes_eq word (codes "--candidates")) (bytes_eq word (codes "--conflicts"))
same_plain false rest g word later false true = nothing (line_of g)

same_step : (options : Bool) (mode : Mode) (g : Given) (word : List ℕ) (rest : List (List ℕ)) → Same options rest →
    option_and_then line_of (read_given (budgets_if options) (word ∷ rest) (progress mode g)) ≡ option_and_then
    (λ (l : CommandLine). read_all options (word ∷ rest) (state mode l)) (line_of g)
same_step options Plain g word rest later = same_plain options rest g word later (bytes_eq word (codes "--")) (is_option word)
same_step options (Wants kind) g word rest later = by (has_dash word)
  where
    by : (b : Bool) →
        set_on options rest (cond b None (Some (progress Plain (add_setting g (Budget kind) word)))) ≡ option_and_then
        (λ (l : CommandLine). read_on options rest (cond b None (in_mode Plain (set_to l kind word)))) (line_of g)
    by true = nothing (line_of g)
    by false = same_value options rest g kind word later
same_step options Names g word rest later = same_word options rest Names g word later

same_reading : (options : Bool) (words : List (List ℕ)) → Same options words
same_reading options [] = same_end options
same_reading options (word ∷ words) = λ mode g. same_step options mode g word words (same_reading options words)

-- what is read of the words and then set is what is set word by word
pub same_line : (options : Bool) (words : List (List ℕ)) → read_line options words ≡ read_all options words start
same_line options words = same_reading options words Plain given_start.given
