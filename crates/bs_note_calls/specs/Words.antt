-- Notes on words that are no job.
use Rattle.std.specs.Prelude.{◌≡◌, ℕ, ◌+◌, Bool, List, [], ◌∷◌, ◌++◌, codes, decimal, slice_index_or, Option, Some, None, if◌then◌else◌}
use Rattle.std.specs.List.{flat_map, list_any}
use Rattle.std.specs.Str.{bytes_eq}
use Rattle.std.specs.Borrow.{Bor}
use Rattle.bs_bits.specs.Lines.{line}
use Rattle.bs_net_names.specs.Quotes.{shown_line}
use Rattle.bs_net_names.specs.Splits.{Halves, first_split}
use Rattle.bs_top_words.specs.declared.fault.WordFault.{WordFault}
use Rattle.bs_top_words.specs.declared.fault.WordFault.TheVariants as W
use Rattle.bs_top_words.specs.Faults.{command_of, IsWordFault}
use Rattle.bs_top_words.specs.declared.limits.TheConstants.{VERSION}
use Rattle.bs_note_files.specs.Notes.{pair_text, plain_text}

-- a word with its number from 1, and what is said of it
abbrev pub named_sentence : ℕ → List ℕ → List ℕ → List ℕ
named_sentence at word sentence =
    codes "word " ++ (decimal (at + 1) ++ (codes ", `" ++ (shown_line word ++ (codes "`, " ++ sentence))))

-- the same, and how the command is used
abbrev pub named_text : ℕ → List ℕ → List ℕ → List ℕ → List ℕ
named_text at word sentence usage = pair_text (named_sentence at word sentence) usage

-- the number of words by position
abbrev pub counted_sentence : ℕ → List ℕ
counted_sentence given =
    codes "the number of words by position behind the command is " ++ (decimal given ++ codes "; a file name with a space in it stands in quotes")

-- the same, and how the command is used
abbrev pub counted_text : ℕ → List ℕ → List ℕ
counted_text given usage = pair_text (counted_sentence given) usage

-- how a command is used, or all of them
abbrev pub usage : List ℕ → List ℕ
usage command =
    if bytes_eq command (codes "run")
    then codes "usage: backspace run NETLIST SIGNATURE STIMULUS DUMP [--steps L] [--candidates K] [--conflicts B]"
    else (if bytes_eq command (codes "audit") then codes "usage: backspace audit NETLIST SIGNATURE STIMULUS DUMP REPORT"
    else (if bytes_eq command (codes "wave") then codes "usage: backspace wave NETLIST SIGNATURE STIMULUS DUMP REPORT"
    else (if bytes_eq command (codes "dump") then codes "usage: backspace dump NETLIST SIGNATURE STIMULUS RUN CYCLE"
    else (if bytes_eq command (codes "demo") then codes "usage: backspace demo NUMBER"
    else (if bytes_eq command (codes "reach") then codes "usage: backspace reach NETLIST STATE CYCLES [--conflicts B]"
    else codes "usage: backspace run NETLIST SIGNATURE STIMULUS DUMP [options], audit NETLIST SIGNATURE STIMULUS DUMP REPORT, wave NETLIST SIGNATURE STIMULUS DUMP REPORT, dump NETLIST SIGNATURE STIMULUS RUN CYCLE, reach NETLIST STATE CYCLES [--conflicts B], or demo NUMBER")))))

-- what else may be wrong where each word is of its form and their number is right
abbrev pub rest_sentence : List ℕ → List ℕ
rest_sentence command =
    if bytes_eq command (codes "run") then codes "an option is given twice"
    else (if bytes_eq command (codes "dump") then codes "RUN lies between 1 and 256 and CYCLE between 0 and 65536, each in digits alone"
    else (if bytes_eq command (codes "reach")
    then codes "STATE is one or more characters 0, 1 and `-`, CYCLES lies between 0 and 1024, in digits alone, and an option is given once"
    else codes "NUMBER lies below 2^64, in digits alone"))

-- the commands of the program `backspace_inspect` that are none here
abbrev pub companions : List (List ℕ)
companions =
    codes "flops" ∷ codes "keys" ∷ codes "seen" ∷ codes "inputs" ∷ codes "stats" ∷ codes "trace" ∷ codes "steps" ∷ codes "candidates" ∷ codes "gtkw" ∷ codes "page" ∷ codes "stimulus" ∷ codes "check" ∷ codes "signature" ∷ codes "unscan" ∷ codes "bench" ∷ codes "cnf" ∷ codes "lrat" ∷ codes "reach-cnf" ∷ codes "reach-lrat" ∷ codes "novel" ∷ codes "near" ∷ codes "why" ∷ []

-- a word stands in a table of the code
abbrev pub listed_in : List ℕ → List (Bor (List ℕ)) → Bool
listed_in word table = list_any (λ o. bytes_eq o.now word) table

abbrev pub is_companions : List ℕ → Bool
is_companions command = list_any (λ o. bytes_eq o command) companions

-- what is said of a first word that is no command
abbrev pub command_sentence : List ℕ → List ℕ
command_sentence command = if is_companions command then codes "is a command of the program `backspace_inspect`" else codes "is no command"

-- the options of the program `backspace_inspect`, none of which is one here; `--step` is taken for a misspelt `--steps`
abbrev pub companion_options : List (List ℕ)
companion_options =
    codes "--all" ∷ codes "--only" ∷ codes "--clock" ∷ codes "--scope" ∷ codes "--map" ∷ codes "--bits" ∷ codes "--csv" ∷ codes "--from" ∷ codes "--to" ∷ codes "--last" ∷ codes "--cycle" ∷ codes "--time" ∷ codes "--signature" ∷ codes "--most" ∷ codes "--at" ∷ codes "--depth" ∷ codes "--flops" ∷ codes "--partial" ∷ codes "--length" ∷ []

abbrev pub before_sign : List ℕ → Option Halves → List ℕ
before_sign word None = word
before_sign word (Some h) = h.before

-- a word gives one of them: it is its name, or begins with that and `=`
abbrev pub is_companions_option : List ℕ → Bool
is_companions_option word = list_any (λ o. bytes_eq o (before_sign word (first_split 61 word))) companion_options

-- what is said of a word that begins as an option, and is none of the command
abbrev pub option_sentence : List ℕ → List ℕ
option_sentence word =
    if is_companions_option word then codes "is an option of the program `backspace_inspect`" else codes "is no option of this command"

-- ---- help and the version

-- the words that ask for help or for the version
abbrev pub helps : List (List ℕ)
helps = codes "help" ∷ codes "-h" ∷ codes "--help" ∷ codes "version" ∷ codes "-V" ∷ codes "--version" ∷ []

abbrev pub is_help : List ℕ → Bool
is_help command = list_any (λ o. bytes_eq o command) helps

-- the name of the program and its version
abbrev pub version_sentence : List ℕ
version_sentence = codes "backspace " ++ decimal VERSION

-- a command, and what it writes
pub record Purpose : Type 0 where
  pub command : List ℕ
  pub writes : List ℕ

abbrev pub purpose : List ℕ → List ℕ → Purpose
purpose command writes = record { command = command; writes = writes }

-- each command
abbrev pub purposes : List Purpose
purposes =
    purpose (codes "run") (codes "the report of the way back from the dump, state by state")
    ∷ purpose (codes "audit") (codes "`accepted`, or `rejected` and the first part of the report that fails")
    ∷ purpose (codes "wave") (codes "a valid report's trace as a waveform, every net at every cycle")
    ∷ purpose (codes "dump") (codes "the dump that a recorded run gives at that cycle")
    ∷ purpose (codes "reach") (codes "a shortest execution from reset to the state, or that none has CYCLES cycles or fewer")
    ∷ purpose (codes "demo") (codes "one line about a backtrace on a generated netlist; NUMBER is the seed")
    ∷ []

-- how each command is used, and what it writes
abbrev pub usages_text : List ℕ
usages_text =
    plain_text (codes "the commands of `backspace`; options stand anywhere behind a command")
    ++ (flat_map (λ p. line (usage p.command) ++ line (codes "writes " ++ p.writes)) purposes
    ++ plain_text (codes "`backspace_inspect help` tells how the commands are used that make and show its files"))

-- the version, and how each command is used
abbrev pub help_text : List ℕ
help_text = plain_text version_sentence ++ usages_text

-- the note on a first word that is no command
abbrev pub command_text : List ℕ → List ℕ
command_text command = if is_help command then help_text else named_text 0 command (command_sentence command) (usage command)

-- ---- the note

-- the note on a word that begins as an option, and is none of the command
abbrev pub option_text : ℕ → List ℕ → List ℕ → List ℕ
option_text at word usage = named_text at word (option_sentence word) usage

-- the note on what is wrong with words
abbrev pub fault_text : List (List ℕ) → WordFault → List ℕ
fault_text words W.Absent = pair_text (codes "there are no words") (usage (command_of words))
fault_text words W.Command = command_text (command_of words)
fault_text words (W.Option at) = option_text at (slice_index_or words at []) (usage (command_of words))
fault_text words (W.Value at) =
    named_text at (slice_index_or words at [])
    (codes "wants a number in digits: --steps and --candidates 1 to 65536, --conflicts 1 to 2^40") (usage (command_of words))
fault_text words (W.Positions given) = counted_text given (usage (command_of words))
fault_text words W.Rest = pair_text (rest_sentence (command_of words)) (usage (command_of words))

-- the note says what is wrong with the words: of several wrong words it names the first
pub record IsWordsNote (words : List (List ℕ)) (note : List ℕ) : Type 0 where
  pub fault : WordFault
  pub is : IsWordFault words fault
  pub written : note ≡ fault_text words fault

-- words that are no text
abbrev pub unread_text : List ℕ
unread_text = pair_text (codes "the words of the command line are no text in UTF-8") (usage [])
