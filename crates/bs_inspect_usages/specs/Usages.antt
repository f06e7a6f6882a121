-- How the words of each command stand, and the note on words that are none of them (docs/FORMATS.md, "Words of `backspace_inspect`").
use Rattle.std.specs.Prelude.{ℕ, ◌+◌, ◌-◌, ◌==◌, ◌&&◌, ◌||◌, drop, take, nat_le, nat_lt, nat_eq, Bool, false, not, List, [], ◌∷◌, ◌++◌, codes, decimal, length, map, slice_index_or}
use Rattle.std.specs.Prelude.{Option, Some, None, if◌then◌else◌}
use Rattle.std.specs.List.{list_any, starts_with}
use Rattle.std.specs.Str.{bytes_eq}
use Rattle.std.specs.Borrow.{Bor}
use Rattle.std.specs.Option.{unwrap_or}
use Rattle.bs_bits.specs.Lines.{number_in}
use Rattle.bs_net_names.specs.Splits.{Halves, first_split}
use Rattle.bs_note_files.specs.Notes.{pair_text, plain_text}
use Rattle.bs_inspect_usages.specs.declared.reason.Bounds.{Bounds}
use Rattle.bs_inspect_usages.specs.declared.reason.TheConstants.{LAST_TIME}
use Rattle.bs_inspect_usages.specs.declared.positions.TheConstants.{MANY}
use Rattle.bs_inspect_usages.specs.declared.numbers.TheConstants.{MAX_DEPTH, MAX_DRAWN, MAX_LINES}
use Rattle.bs_stim.specs.declared.limits.TheConstants.{MAX_CYCLES, MAX_RUNS}
use Rattle.bs_top_words.specs.declared.limits.TheConstants.{MAX_BITS, MAX_BOUND, MAX_STEPS}
use Rattle.bs_inspect_notes.specs.Listings.{quoted, some_near, word_piece}
use Rattle.bs_top_words.specs.Given.{Given, read_all, start}
use Rattle.bs_inspect_usages.specs.Settings.{all_flags}

-- a command, and how its words stand
pub record Usage : Type 0 where
  pub command : List ℕ
  pub line : List ℕ

abbrev pub stands : List ℕ → List ℕ → Usage
stands command line = record { command = command; line = line }

abbrev pub usages : List Usage
usages =
    stands (codes "flops") (codes "usage: backspace_inspect flops NETLIST")
    ∷ stands (codes "keys") (codes "usage: backspace_inspect keys NETLIST NAME ..")
    ∷ stands (codes "seen") (codes "usage: backspace_inspect seen NETLIST NAME=VALUE ..")
    ∷ stands (codes "inputs") (codes "usage: backspace_inspect inputs NETLIST")
    ∷ stands (codes "stats") (codes "usage: backspace_inspect stats NETLIST")
    ∷ stands (codes "trace") (codes "usage: backspace_inspect trace NETLIST REPORT [--all] [--from I] [--to J] [--last N] [--only NAME ..] [--csv]")
    ∷ stands (codes "steps") (codes "usage: backspace_inspect steps REPORT [--csv]")
    ∷ stands (codes "candidates") (codes "usage: backspace_inspect candidates NETLIST REPORT [--only NAME ..]")
    ∷ stands (codes "wave") (codes "usage: backspace_inspect wave NETLIST REPORT [--all] [--from CYCLE] [--only NAME ..]")
    ∷ stands (codes "gtkw") (codes "usage: backspace_inspect gtkw NETLIST REPORT WAVE [--all] [--from CYCLE] [--only NAME ..]")
    ∷ stands (codes "page") (codes "usage: backspace_inspect page NETLIST REPORT [--signature FILE] [--only NAME ..] [--most N]")
    ∷ stands (codes "stimulus") (codes "usage: backspace_inspect stimulus NETLIST VCD .. --clock NAME [--scope PATH] [--map FILE]")
    ∷ stands (codes "check") (codes "usage: backspace_inspect check NETLIST STIMULUS VCD .. [--clock NAME] [--scope PATH] [--map FILE]")
    ∷ stands (codes "dump")
    (codes "usage: backspace_inspect dump NETLIST VCD --cycle N|--time T [--clock NAME] [--scope PATH] [--map FILE] [--signature FILE] [--partial]")
    ∷ stands (codes "signature") (codes "usage: backspace_inspect signature NETLIST STIMULUS --bits N")
    ∷ stands (codes "unscan") (codes "usage: backspace_inspect unscan NETLIST ORDER BITS")
    ∷ stands (codes "bench") (codes "usage: backspace_inspect bench NETLIST STIMULUS REPORT TOP")
    ∷ stands (codes "cnf") (codes "usage: backspace_inspect cnf NETLIST SIGNATURE REPORT [--step K]")
    ∷ stands (codes "lrat") (codes "usage: backspace_inspect lrat NETLIST SIGNATURE REPORT [--step K]")
    ∷ stands (codes "reach-cnf") (codes "usage: backspace_inspect reach-cnf NETLIST STATE ANSWER [--length J]")
    ∷ stands (codes "reach-lrat") (codes "usage: backspace_inspect reach-lrat NETLIST STATE ANSWER [--length J]")
    ∷ stands (codes "novel") (codes "usage: backspace_inspect novel NETLIST STIMULUS RUN [--most N]")
    ∷ stands (codes "near") (codes "usage: backspace_inspect near NETLIST STIMULUS DUMP")
    ∷ stands (codes "why") (codes "usage: backspace_inspect why NETLIST REPORT NAME [--at CYCLE] [--depth N] [--flops] [--all] [--csv]")
    ∷ stands (codes "help") (codes "usage: backspace_inspect help")
    ∷ stands (codes "version") (codes "usage: backspace_inspect version")
    ∷ []

-- what the first of these commands of a name takes
abbrev pub line_among : List ℕ → List Usage → Option (List ℕ)
line_among name [] = None
line_among name (u ∷ us) = if bytes_eq name u.command then Some u.line else line_among name us

-- the same of a table of the code
abbrev pub line_in : List ℕ → List (Bor (List ℕ) × Bor (List ℕ)) → Option (List ℕ)
line_in name [] = None
line_in name (e ∷ es) = if bytes_eq name e.0.now then Some e.1.now else line_in name es

abbrev pub commands : List (List ℕ)
commands = map (λ u. u.command) usages

abbrev pub options : List (List ℕ)
options =
    codes "--all" ∷ codes "--only" ∷ codes "--clock" ∷ codes "--scope" ∷ codes "--map" ∷ codes "--bits" ∷ codes "--csv" ∷ codes "--from" ∷ codes "--to" ∷ codes "--last"
    ∷ codes "--cycle" ∷ codes "--time" ∷ codes "--signature" ∷ codes "--step" ∷ codes "--most" ∷ codes "--at" ∷ codes "--depth"
    ∷ codes "--flops" ∷ codes "--partial" ∷ codes "--length" ∷ []

-- ---- wrong words

abbrev pub before_sign : List ℕ → Option Halves → List ℕ
before_sign word None = word
before_sign word (Some h) = h.before

-- the name of the option that a word gives: what stands before its first `=`
abbrev pub option_name : List ℕ → List ℕ
option_name word = before_sign word (first_split 61 word)

-- a word that begins as an option
abbrev pub is_dashed : List ℕ → Bool
is_dashed word = starts_with nat_eq word (codes "-") && nat_lt 1 (length word)

-- a word that begins as an option and is none
abbrev pub is_wrong : List ℕ → Bool
is_wrong word = is_dashed word && not (list_any (λ o. bytes_eq o (option_name word)) options)

-- the number of the first such word of these, the first of which has this number; behind `--` there is none
abbrev pub first_wrong : ℕ → List (List ℕ) → Option ℕ
first_wrong number [] = None
first_wrong number (w ∷ ws) =
    if bytes_eq w (codes "--") then None else (if is_wrong w then Some number else first_wrong (number + 1) ws)

abbrev pub hint : List ℕ
hint = codes "`backspace_inspect help` tells how the words of each command stand"

-- a word with its number from 1, and what it is not
unfoldable pub word_text : ℕ → List ℕ → List ℕ → List ℕ → List (List ℕ) → List ℕ
word_text number word name what known =
    word_piece number word ++ (codes ", is no " ++ (what ++ some_near name known))

-- ---- options of other commands

-- an option that a command takes
pub record Owned : Type 0 where
  pub command : List ℕ
  pub option : List ℕ

abbrev pub owns : (command option : List ℕ) → Owned
owns command option = record { command = command; option = option }

-- the options of each command
abbrev pub owned : List Owned
owned =
    owns (codes "trace") (codes "--all")
    ∷ owns (codes "trace") (codes "--from")
    ∷ owns (codes "trace") (codes "--to")
    ∷ owns (codes "trace") (codes "--last")
    ∷ owns (codes "trace") (codes "--only")
    ∷ owns (codes "trace") (codes "--csv")
    ∷ owns (codes "steps") (codes "--csv")
    ∷ owns (codes "candidates") (codes "--only")
    ∷ owns (codes "wave") (codes "--all")
    ∷ owns (codes "wave") (codes "--from")
    ∷ owns (codes "wave") (codes "--only")
    ∷ owns (codes "gtkw") (codes "--all")
    ∷ owns (codes "gtkw") (codes "--from")
    ∷ owns (codes "gtkw") (codes "--only")
    ∷ owns (codes "page") (codes "--signature")
    ∷ owns (codes "page") (codes "--only")
    ∷ owns (codes "page") (codes "--most")
    ∷ owns (codes "stimulus") (codes "--clock")
    ∷ owns (codes "stimulus") (codes "--scope")
    ∷ owns (codes "stimulus") (codes "--map")
    ∷ owns (codes "check") (codes "--clock")
    ∷ owns (codes "check") (codes "--scope")
    ∷ owns (codes "check") (codes "--map")
    ∷ owns (codes "dump") (codes "--cycle")
    ∷ owns (codes "dump") (codes "--time")
    ∷ owns (codes "dump") (codes "--clock")
    ∷ owns (codes "dump") (codes "--scope")
    ∷ owns (codes "dump") (codes "--map")
    ∷ owns (codes "dump") (codes "--signature")
    ∷ owns (codes "dump") (codes "--partial")
    ∷ owns (codes "signature") (codes "--bits")
    ∷ owns (codes "cnf") (codes "--step")
    ∷ owns (codes "lrat") (codes "--step")
    ∷ owns (codes "reach-cnf") (codes "--length")
    ∷ owns (codes "reach-lrat") (codes "--length")
    ∷ owns (codes "novel") (codes "--most")
    ∷ owns (codes "why") (codes "--at")
    ∷ owns (codes "why") (codes "--depth")
    ∷ owns (codes "why") (codes "--flops")
    ∷ owns (codes "why") (codes "--all")
    ∷ owns (codes "why") (codes "--csv")
    ∷ []

-- a command takes an option with this name
abbrev pub is_owned : (command name : List ℕ) → Bool
is_owned command name = list_any (λ o. bytes_eq command o.command && bytes_eq name o.option) owned

-- the same by a table of the code
abbrev pub owned_in : (command name : List ℕ) → List (Bor (List ℕ) × Bor (List ℕ)) → Bool
owned_in command name table = list_any (λ e. bytes_eq command e.0.now && bytes_eq name e.1.now) table

-- a word that begins as an option, and is none of the command
abbrev pub is_foreign : (command word : List ℕ) → Bool
is_foreign command word = is_dashed word && not (is_owned command (option_name word))

-- such a word with its number from 1
unfoldable pub foreign_text : ℕ → List ℕ → List ℕ
foreign_text number word = word_piece number word ++ codes ", is no option of this command"

-- ---- numbers out of their bounds

abbrev pub between : ℕ → ℕ → Bounds
between least most = record { least = least; most = most }

-- a number that an option of a command takes
pub record Range : Type 0 where
  pub command : List ℕ
  pub option : List ℕ
  pub bounds : Bounds

abbrev pub range : List ℕ → List ℕ → ℕ → ℕ → Range
range command option least most = record { command = command; option = option; bounds = between least most }

-- the numbers that a request takes (docs/FORMATS.md, "Words of `backspace_inspect`")
abbrev pub ranges : List Range
ranges =
    range (codes "signature") (codes "--bits") 1 MAX_BITS
    ∷ range (codes "trace") (codes "--from") 0 MAX_CYCLES
    ∷ range (codes "trace") (codes "--to") 0 MAX_CYCLES
    ∷ range (codes "trace") (codes "--last") 1 MAX_CYCLES
    ∷ range (codes "wave") (codes "--from") 0 MAX_CYCLES
    ∷ range (codes "gtkw") (codes "--from") 0 MAX_CYCLES
    ∷ range (codes "dump") (codes "--cycle") 0 MAX_CYCLES
    ∷ range (codes "dump") (codes "--time") 0 LAST_TIME
    ∷ range (codes "cnf") (codes "--step") 1 MAX_STEPS
    ∷ range (codes "lrat") (codes "--step") 1 MAX_STEPS
    ∷ range (codes "page") (codes "--most") 1 MAX_DRAWN
    ∷ range (codes "novel") (codes "--most") 1 MAX_LINES
    ∷ range (codes "reach-cnf") (codes "--length") 1 MAX_BOUND
    ∷ range (codes "reach-lrat") (codes "--length") 1 MAX_BOUND
    ∷ range (codes "why") (codes "--at") 0 MAX_CYCLES
    ∷ range (codes "why") (codes "--depth") 1 MAX_DEPTH
    ∷ []

-- the bounds that the first of these ranges of an option of a command has
abbrev pub bounds_among : (command name : List ℕ) → List Range → Option Bounds
bounds_among command name [] = None
bounds_among command name (r ∷ rs) =
    if bytes_eq command r.command && bytes_eq name r.option then Some r.bounds else bounds_among command name rs

-- the same of a table of the code
abbrev pub bounds_in : (command name : List ℕ) → List ((Bor (List ℕ) × Bor (List ℕ)) × Bounds) → Option Bounds
bounds_in command name [] = None
bounds_in command name (e ∷ es) =
    if bytes_eq command e.0.0.now && bytes_eq name e.0.1.now then Some e.1 else bounds_in command name es

-- the bounds of the number behind an option of a command, where it takes one
abbrev pub bounds_of : (command name : List ℕ) → Option Bounds
bounds_of command name = bounds_among command name ranges

abbrev pub bounds_or : (command name : List ℕ) → Bounds
bounds_or command name = unwrap_or (bounds_of command name) (between 0 0)

abbrev pub behind_sign : List ℕ → Option Halves → List ℕ
behind_sign next None = next
behind_sign next (Some h) = h.behind

-- the value that a word gives its option: what stands behind its first `=`, or else the next word
abbrev pub value_of : (word next : List ℕ) → List ℕ
value_of word next = behind_sign next (first_split 61 word)

abbrev pub is_between : Bounds → Option ℕ → Bool
is_between b None = false
is_between b (Some n) = nat_le b.least n && nat_le n b.most

abbrev pub is_outside : Option Bounds → List ℕ → Bool
is_outside None value = false
is_outside (Some b) value = not (is_between b (number_in value))

-- ---- options whose value is a word, and options without a value

-- the options whose value is a word
abbrev pub worded : List (List ℕ)
worded = codes "--only" ∷ codes "--clock" ∷ codes "--scope" ∷ codes "--map" ∷ codes "--signature" ∷ []

-- the options without a value
abbrev pub bare : List (List ℕ)
bare = codes "--all" ∷ codes "--csv" ∷ codes "--flops" ∷ codes "--partial" ∷ []

abbrev pub is_worded : List ℕ → Bool
is_worded word = list_any (λ o. bytes_eq o word) worded

-- no word, or one that begins with `-`
abbrev pub is_no_value : List ℕ → Bool
is_no_value next = length next == 0 || starts_with nat_eq next (codes "-")

-- such an option is all of a word, and the next one is no value
abbrev pub lacks_value : (word next : List ℕ) → Bool
lacks_value word next = is_worded word && is_no_value next

-- a word gives a value to an option without one
abbrev pub has_needless : List ℕ → Bool
has_needless word = list_any (λ o. bytes_eq o (option_name word)) bare && not (bytes_eq (option_name word) word)

-- a word gives its option no value that it takes
abbrev pub is_ill : (command word next : List ℕ) → Bool
is_ill command word next =
    is_outside (bounds_of command (option_name word)) (value_of word next) || (lacks_value word next || has_needless word)

-- a word behind a command that gives an option of another command, or no value that its option takes
unfoldable pub is_bad : (command word next : List ℕ) → Bool
is_bad command word next = is_foreign command word || is_ill command word next

-- the number of the first such word of these, the first of which has this number; behind `--` there is none
abbrev pub first_bad : List ℕ → ℕ → List (List ℕ) → Option ℕ
first_bad command number [] = None
first_bad command number (w ∷ ws) =
    if bytes_eq w (codes "--") then None
    else (if is_bad command w (slice_index_or ws 0 []) then Some number else first_bad command (number + 1) ws)

-- what is wanted in place of a number out of its bounds
unfoldable pub bounds_piece : Bounds → List ℕ
bounds_piece b = codes ", wants a number in digits from " ++ (decimal b.least ++ (codes " to " ++ decimal b.most))

-- a word with its number from 1, and the bounds of its option's value
unfoldable pub bound_text : ℕ → List ℕ → Bounds → List ℕ
bound_text number word b = word_piece number word ++ bounds_piece b

-- a word with its number from 1, whose option has no value
unfoldable pub lack_text : ℕ → List ℕ → List ℕ
lack_text number word = word_piece number word ++ codes ", has no value; one that begins with `-` stands in the same word, behind a `=`"

-- a word with its number from 1, whose option takes no value
unfoldable pub needless_text : ℕ → List ℕ → List ℕ
needless_text number word = word_piece number word ++ codes ", gives a value to an option that takes none"

-- what is said of a word by its option's value
abbrev pub value_text : List ℕ → ℕ → List ℕ → List ℕ
value_text command number word =
    if is_worded word then lack_text number word
    else (if has_needless word then needless_text number word else bound_text number word (bounds_or command (option_name word)))

-- what is said of such a word
abbrev pub bad_word_text : List ℕ → ℕ → List ℕ → List ℕ
bad_word_text command number word = if is_foreign command word then foreign_text number word else value_text command number word

abbrev pub bad_text : List ℕ → List (List ℕ) → ℕ → List ℕ
bad_text command words number = bad_word_text command number (slice_index_or words (number - 1) [])

-- ---- options that are missing

-- some word gives an option with this name
abbrev pub gives : List ℕ → List (List ℕ) → Bool
gives option words = list_any (λ w. bytes_eq (option_name w) option) words

abbrev pub lack_if : Bool → List ℕ → Option (List ℕ)
lack_if given sentence = if given then None else Some sentence

-- what is said of an option without which a command does not go, where the words lack it
abbrev pub lack_of : List ℕ → List (List ℕ) → Option (List ℕ)
lack_of command words =
    if bytes_eq command (codes "stimulus")
    then lack_if (gives (codes "--clock") words) (codes "`--clock NAME` is missing: the name that the clock has in the simulation")
    else (if bytes_eq command (codes "signature")
    then lack_if (gives (codes "--bits") words) (codes "`--bits N` is missing: how many bits the signature has")
    else (if bytes_eq command (codes "dump")
    then lack_if (gives (codes "--cycle") words || gives (codes "--time") words) (codes "`--cycle N` or `--time T` is missing: the moment of the dump")
    else None))

-- ---- options that are given twice

-- both options say the moment of a dump
abbrev pub is_moment : List ℕ → Bool
is_moment name = bytes_eq name (codes "--cycle") || bytes_eq name (codes "--time")

-- earlier words say a moment
abbrev pub gives_moment : List (List ℕ) → Bool
gives_moment words = gives (codes "--cycle") words || gives (codes "--time") words

-- an option with this name says what an option of these words says
abbrev pub repeats : (name : List ℕ) → List (List ℕ) → Bool
repeats name before = gives name before || (is_moment name && gives_moment before)

-- a word gives an option that may stand once, and says what an option of the words before it says
unfoldable pub is_again : List (List ℕ) → List ℕ → Bool
is_again before word = is_dashed word && (not (bytes_eq (option_name word) (codes "--only")) && repeats (option_name word) before)

-- the number of the first such word of these words from a place on; behind `--` there is none
abbrev pub first_again : List (List ℕ) → ℕ → List (List ℕ) → Option ℕ
first_again words at [] = None
first_again words at (w ∷ ws) =
    if bytes_eq w (codes "--") then None
    else (if is_again (take at words) w then Some (at + 1) else first_again words (at + 1) ws)

abbrev pub again_words : List ℕ → List ℕ
again_words name = if is_moment name then codes ", says the moment a second time: `--cycle N` or `--time T` stands once" else codes ", is given a second time"

-- what is said of such a word
abbrev pub again_text : ℕ → List ℕ → List ℕ
again_text number word = word_piece number word ++ again_words (option_name word)

-- ---- the reason

-- a command that takes its option behind its files alone
abbrev pub is_trailing : List ℕ → Bool
is_trailing command = bytes_eq command (codes "reach-cnf") || bytes_eq command (codes "reach-lrat")

-- it is given before the files, or with its number in one word
abbrev pub is_misplaced : List ℕ → List (List ℕ) → Bool
is_misplaced command words =
    is_trailing command && (gives (codes "--length") words && not (bytes_eq (slice_index_or words 4 []) (codes "--length")))

abbrev pub stand_sentence : List ℕ
stand_sentence =
    codes "the words do not stand as this command takes them: its files in this order, and each option that it takes as often as it may stand; --only takes every word up to the next option"

-- how many words by position a command takes
abbrev pub places : List Range
places =
    range (codes "flops") [] 1 1
    ∷ range (codes "keys") [] 2 MANY
    ∷ range (codes "seen") [] 2 MANY
    ∷ range (codes "inputs") [] 1 1
    ∷ range (codes "stats") [] 1 1
    ∷ range (codes "trace") [] 2 2
    ∷ range (codes "steps") [] 1 1
    ∷ range (codes "candidates") [] 2 2
    ∷ range (codes "wave") [] 2 2
    ∷ range (codes "gtkw") [] 3 3
    ∷ range (codes "page") [] 2 2
    ∷ range (codes "stimulus") [] 2 (MAX_RUNS + 1)
    ∷ range (codes "check") [] 3 (MAX_RUNS + 2)
    ∷ range (codes "dump") [] 2 2
    ∷ range (codes "signature") [] 2 2
    ∷ range (codes "unscan") [] 3 3
    ∷ range (codes "bench") [] 4 4
    ∷ range (codes "cnf") [] 3 3
    ∷ range (codes "lrat") [] 3 3
    ∷ range (codes "reach-cnf") [] 3 3
    ∷ range (codes "reach-lrat") [] 3 3
    ∷ range (codes "novel") [] 3 3
    ∷ range (codes "near") [] 3 3
    ∷ range (codes "why") [] 3 3
    ∷ range (codes "help") [] 0 0
    ∷ range (codes "version") [] 0 0
    ∷ []

abbrev pub lies_outside : Option Bounds → ℕ → Bool
lies_outside None count = false
lies_outside (Some b) count = not (is_between b (Some count))

abbrev pub places_of : List ℕ → Option Bounds
places_of command = bounds_among command [] places

abbrev pub is_miscounted : List ℕ → ℕ → Bool
is_miscounted command count = lies_outside (places_of command) count

unfoldable pub counted_text : ℕ → List ℕ
counted_text count = codes "the number of words by position behind the command is " ++ (decimal count ++ codes "; a file name with a space in it stands in quotes, and --only takes every word up to the next option")

-- RUN of `novel`, its third word by position
abbrev pub run_bounds : Bounds
run_bounds = between 1 MAX_RUNS

abbrev pub is_bad_run : (command third : List ℕ) → Bool
is_bad_run command third = bytes_eq command (codes "novel") && not (is_between run_bounds (number_in third))

unfoldable pub run_text : List ℕ → List ℕ
run_text third = codes "RUN, " ++ (quoted third ++ bounds_piece run_bounds)

abbrev pub third_text : (command third : List ℕ) → List ℕ
third_text command third = if is_bad_run command third then run_text third else stand_sentence

-- what is said by the number of words by position, and the third of them
abbrev pub placed_text : List ℕ → ℕ → List ℕ → List ℕ
placed_text command count third = if is_miscounted command count then counted_text count else third_text command third

abbrev pub stand_by : List ℕ → Option Given → List ℕ
stand_by command None = stand_sentence
stand_by command (Some g) = placed_text command (length g.positions) (slice_index_or g.positions 2 [])

-- the words by position and the options behind a command, where these can be told apart
abbrev pub given_of : List (List ℕ) → Option Given
given_of [] = None
given_of (command ∷ words) = read_all all_flags words start

abbrev pub stand_of : List ℕ → List (List ℕ) → List ℕ
stand_of command words =
    if is_misplaced command words then codes "`--length J` stands behind the files, and J is a word of its own" else stand_by command (given_of words)

-- what is said by the first word that says what an earlier one does, where there is one
abbrev pub once_text : List ℕ → List (List ℕ) → Option ℕ → List ℕ
once_text command words None = stand_of command words
once_text command words (Some number) = again_text number (slice_index_or words (number - 1) [])

abbrev pub once_of : List ℕ → List (List ℕ) → List ℕ
once_of command words = once_text command words (first_again words 1 (drop 1 words))

abbrev pub number_text : List ℕ → List (List ℕ) → Option ℕ → List ℕ
number_text command words None = once_of command words
number_text command words (Some number) = bad_text command words number

abbrev pub reason_text : List ℕ → List (List ℕ) → Option (List ℕ) → List ℕ
reason_text command words None = number_text command words (first_bad command 2 (drop 1 words))
reason_text command words (Some sentence) = sentence

-- why the words of a command do not stand as it takes them
abbrev pub reason_for : List ℕ → List (List ℕ) → List ℕ
reason_for command words = reason_text command words (lack_of command words)

-- the same of the command that is the first word
abbrev pub reason_of : List (List ℕ) → List ℕ
reason_of words = reason_for (slice_index_or words 0 []) words

-- ---- the note on words

-- the options of the program `backspace`, none of which is one here; `--steps` is taken for a misspelt `--step`
abbrev pub budgets : List (List ℕ)
budgets = codes "--candidates" ∷ codes "--conflicts" ∷ []

-- a word gives one of them
abbrev pub is_budget : List ℕ → Bool
is_budget word = list_any (λ o. bytes_eq o (option_name word)) budgets

unfoldable pub budget_text : ℕ → List ℕ → List ℕ
budget_text number word = word_piece number word ++ codes ", is an option of the program `backspace`"

-- what is said of a word that begins as an option and is none
abbrev pub wrong_text : ℕ → List ℕ → List ℕ
wrong_text number word =
    if is_budget word then budget_text number word else word_text number word (option_name word) (codes "option") options

abbrev pub behind_text : List (List ℕ) → List ℕ → Option ℕ → List ℕ
behind_text words line None = plain_text (reason_of words) ++ plain_text line
behind_text words line (Some number) = plain_text (wrong_text number (slice_index_or words (number - 1) [])) ++ plain_text line

-- the commands of the program `backspace` that are none here
abbrev pub others : List (List ℕ)
others = codes "run" ∷ codes "audit" ∷ codes "reach" ∷ codes "demo" ∷ []

abbrev pub is_others : List ℕ → Bool
is_others command = list_any (λ o. bytes_eq o command) others

unfoldable pub others_text : List ℕ → List ℕ
others_text command = word_piece 1 command ++ codes ", is a command of the program `backspace`"

abbrev pub others_hint : List ℕ
others_hint = codes "`backspace help` tells how the words of its commands stand"

-- the note on a first word that is no command
abbrev pub unknown_text : List ℕ → List ℕ
unknown_text command =
    if is_others command then plain_text (others_text command) ++ plain_text others_hint
    else plain_text (word_text 1 command command (codes "command") commands) ++ plain_text hint

abbrev pub command_text : List ℕ → List (List ℕ) → Option (List ℕ) → List ℕ
command_text command words None = unknown_text command
command_text command words (Some line) = behind_text words line (first_wrong 2 (drop 1 words))

-- the note on words that are no request
abbrev pub words_text : List (List ℕ) → List ℕ
words_text [] = pair_text (codes "there are no words") hint
words_text (c ∷ ws) = command_text c (c ∷ ws) (line_among c usages)

-- words that are no text
abbrev pub unread_text : List ℕ
unread_text = pair_text (codes "the words of the command line are no text in UTF-8") hint

-- out of memory
abbrev pub memory_text : List ℕ
memory_text = plain_text (codes "memory ran out, and nothing was written: give the program more")
