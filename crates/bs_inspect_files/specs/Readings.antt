-- What names, an order and a pattern are to a request: a value, or the reason of their refusal.
use Rattle.std.specs.Prelude.{ℕ, ◌==◌, ◌&&◌, ◌||◌, nat_eq, nat_le, not, Bool, true, List, [], ◌++◌, codes, decimal, drop, filter, length, Option, Some, None, Result, Ok, Err, if◌then◌else◌}
use Rattle.std.specs.List.{starts_with}
use Rattle.bs_net.specs.Parts.{Parts}
use Rattle.bs_inspect_names.specs.Called.{first_unnamed}
use Rattle.bs_inspect_netlist.specs.Order.{order_in, pattern_in}
use Rattle.bs_inspect_netlist.specs.declared.fault.OrderFault.{OrderFault}
use Rattle.bs_inspect_netlist.specs.declared.fault.OrderFault.TheVariants as chain
use Rattle.bs_inspect_netlist.specs.declared.fault.PatternFault.{PatternFault}
use Rattle.bs_inspect_netlist.specs.declared.fault.PatternFault.TheVariants as pattern
use Rattle.bs_note_files.specs.Notes.{Saying, saying, plain_text}
use Rattle.bs_inspect_notes.specs.declared.name.Subject.TheVariants.{Flops}
use Rattle.bs_inspect_notes.specs.Names.{key_saying, net_text, numbered}
use Rattle.bs_inspect_report.specs.Keys.{flop_keys}
use Rattle.bs_outside.specs.Plan.{Reason, any_of}
use Rattle.bs_top_files.specs.Causes.{Case, at_line, stated, with_reason}
use Rattle.bs_inspect_files.specs.FlopWords.{order_words, pattern_words, unnamed_words}

-- ---- names

abbrev pub called_of : List (List ℕ) → Option (List ℕ) → Result Bool (Reason Case)
called_of keys None = Ok true
called_of keys (Some name) = Err (any_of (stated (unnamed_words name) (net_text name keys)))

-- some net has each name, or the first that none has
abbrev pub called_in : Parts → List (List ℕ) → Result Bool (Reason Case)
called_in r names = called_of r.names (first_unnamed r names)

-- ---- the order of a scan chain

abbrev pub form_saying : Saying
form_saying = saying (codes "a line is one name, of visible characters alone") (codes "the key of a flip-flop, or its name as RTL writes it")

abbrev pub twice_saying : Saying
twice_saying = saying (codes "the flip-flop of this line has a line already") (codes "take one of them out")

-- a fault of a text, which has these words
abbrev pub order_case : (words : List ℕ) → Parts → (path text : List ℕ) → OrderFault → Case
order_case words r path text (chain.Line number) = at_line words path text number form_saying
order_case words r path text (chain.Unknown number) = at_line words path text number (key_saying Flops (flop_keys r) (numbered text number))
order_case words r path text (chain.Twice number) = at_line words path text number twice_saying
order_case words r path text chain.NoMemory = stated words []

-- why a text is no order
abbrev pub order_reason : Parts → (path text : List ℕ) → OrderFault → Reason Case
order_reason r path text fault = any_of (order_case (order_words fault) r path text fault)

-- the flip-flops that the lines name
abbrev pub order_read : List ℕ → Parts → List ℕ → Result (List ℕ) (Reason Case)
order_read path r text = with_reason (order_reason r path text) (order_in r text)

-- ---- a pattern

abbrev pub bits_text : List ℕ
bits_text = plain_text (codes "the bits of a pattern are characters 0 and 1 alone, the first one for the first line of the order")

abbrev pub width_text : ℕ → ℕ → List ℕ
width_text lines count = plain_text (codes "there are " ++ (decimal count ++ (codes " bits, and the lines of the order are " ++ decimal lines)))

abbrev pub pattern_text : ℕ → PatternFault → List ℕ
pattern_text lines pattern.Bits = bits_text
pattern_text lines (pattern.Width count) = width_text lines count
pattern_text lines pattern.NoMemory = []

-- why bits are no pattern of so many
abbrev pub pattern_reason : ℕ → PatternFault → Reason Case
pattern_reason lines fault = any_of (stated (pattern_words fault) (pattern_text lines fault))

-- a bit for each line of the order
abbrev pub pattern_read : ℕ → List ℕ → Result (List Bool) (Reason Case)
pattern_read lines text = with_reason (pattern_reason lines) (pattern_in lines text)

-- the file that a word names behind `@`
abbrev pub file_in : List ℕ → Option (List ℕ)
file_in word = if starts_with nat_eq word (codes "@") then Some (drop (length (codes "@")) word) else None

-- a space, or one of the bytes 9 to 13
abbrev pub is_white : ℕ → Bool
is_white b = (b == 32) || (nat_le 9 b && nat_le b 13)

-- the bits of a file: white space between them is passed over
abbrev pub joined : List ℕ → List ℕ
joined text = filter (λ b. not (is_white b)) text
