-- What is said of a fault, and what to do: a sentence, and a few words behind the caret.
use Rattle.std.specs.Prelude.{ℕ, ◌==◌, nat_eq, nat_lt, Bool, false, ◌&&◌, ◌||◌, not, List, ◌++◌, codes, decimal, length, slice_get, Option, Some, None, if◌then◌else◌}
use Rattle.std.specs.List.{list_all, starts_with}
use Rattle.std.specs.Str.{bytes_eq}
use Rattle.bs_verilog_syntax.specs.declared.fault.What.{What}
use Rattle.bs_verilog_syntax.specs.declared.fault.What.TheVariants as what
use Rattle.bs_verilog_scope.specs.Before.{declares_near, is_own, is_word}
use Rattle.bs_note_files.specs.Notes.{Saying, saying}

-- ---- a line at sight

abbrev pub mark_saying : Saying
mark_saying = saying (codes "a byte that is no ASCII character, as a mark at the front of a file")
    (codes "save the file as plain ASCII without a byte order mark")

abbrev pub packed_saying : Saying
packed_saying = saying (codes "a byte of a file that gzip has packed") (codes "unpack it first, as by `gzip -dc FILE > TEXT`")

abbrev pub stray_saying : ℕ → Saying
stray_saying b =
    if b == 13 then saying (codes "a carriage return: lines end with a line feed alone") (codes "take the carriage returns out, as by `tr -d '\\r'`")
    else (if b == 9 then saying (codes "a tab: words are parted by one space") (codes "write one space")
    else (if b == 239 then mark_saying
    else (if b == 31 then packed_saying
    else saying (codes "a byte that no line of this text may have") (codes "save the file as plain ASCII"))))

abbrev pub loose_saying : Saying
loose_saying = saying (codes "a space too many: words are parted by one space, and none stands at an end of a line") (codes "take it out")

-- ---- a netlist

-- the byte begins an escaped name
abbrev pub is_escaped : Option ℕ → Bool
is_escaped None = false
is_escaped (Some b) = b == 92

-- a word with which SystemVerilog declares
abbrev pub declares : List ℕ → ℕ → Bool
declares text at = is_word text at (codes "logic") || (is_word text at (codes "typedef") || is_word text at (codes "enum"))

-- a word with which it begins a block of behaviour
abbrev pub begins_block : List ℕ → ℕ → Bool
begins_block text at = is_word text at (codes "always_ff") || (is_word text at (codes "always_comb") || is_word text at (codes "always_latch"))

abbrev pub rtl_saying : Saying
rtl_saying =
    saying (codes "this is a word of SystemVerilog RTL, and no cell")
    (codes "synthesize and map it, as examples/yosys/synth.sh does; in a netlist write wire in place of logic")

abbrev pub behaviour_saying : Saying
behaviour_saying =
    saying (codes "behavioural Verilog is left out") (codes "synthesize it, and map it to gates and flip-flops, as examples/yosys/synth.sh does both")

abbrev pub own_saying : Saying
own_saying = saying (codes "the module instances itself: a ring of one module") (codes "no module may stand in itself")

-- a name at a place of a text that is no gate and no cell: an escaped one, that of the module itself, a word of RTL, or another one
abbrev pub cell_saying : List ℕ → ℕ → Saying
cell_saying text at =
    if is_escaped (slice_get text at) then saying (codes "an escaped name is no gate and no cell: `\\not` is another name than `not`")
    (codes "map cells to gates and take the `\\` out of their names: examples/yosys/synth.sh does both")
    else (if is_own text at then own_saying
    else (if declares text at then rtl_saying
    else (if begins_block text at then behaviour_saying
    else saying (codes "no cell of this name is known")
    (codes "cells are dff and dffs (CK, Q, D), dffe (E too), dffr (R too), gates and nand or nor xor xnor buf not: flatten and map to these (docs/FORMATS.md)"))))

-- a part of the language that is left out, at a place of a text
abbrev pub what_saying : List ℕ → ℕ → What → Saying
what_saying text at what.Behaviour = behaviour_saying
what_saying text at what.Parameter = saying (codes "parameters are left out") (codes "let synthesis settle them")
what_saying text at what.NetType =
    saying (codes "net types other than wire, supply0 and supply1 are left out")
    (codes "is this RTL? synthesize and map it, as examples/yosys/synth.sh does; else write wire")
what_saying text at what.Primitive = saying (codes "tri-state, switch and user primitives are left out") (codes "gates are and nand or nor xor xnor buf not")
what_saying text at what.Direction = saying (codes "inout ports are left out") (codes "split it into an input and an output")
what_saying text at what.Strength = saying (codes "drive strengths are left out") (codes "take it out")
what_saying text at what.Array = saying (codes "arrays of instances are left out") (codes "write each instance")
what_saying text at what.Expression =
    saying (codes "expressions and concatenations are left out")
    (codes "a net, a bit of a vector or a constant of one bit may stand here; examples/yosys/synth.sh maps the rest to gates")
what_saying text at what.Width = saying (codes "a whole vector or a part of it is left out") (codes "name one bit, as a[0]")
what_saying text at what.Constant = saying (codes "a constant here is 1'b0 or 1'b1") (codes "x, z and wider constants are left out")
what_saying text at what.Directive = saying (codes "this compiler directive is left out") (codes "take it out, or run a preprocessor first")
what_saying text at what.Hierarchy = cell_saying text at

-- a byte that is none of a text: neither white space nor one of ` ` to `~`
abbrev pub is_binary : ℕ → Bool
is_binary b = (nat_lt b 32 && not (nat_lt 8 b && nat_lt b 14)) || nat_lt 126 b

-- a byte that cannot go on, or the text's end
abbrev pub place_saying : Option ℕ → Saying
place_saying None =
    saying (codes "the text ends before its module does")
    (codes "is the netlist cut short, or `endmodule` missing? is it empty, as by a shell's `> FILE` of the file that is read?")
place_saying (Some b) =
    if b == 239 then mark_saying
    else (if b == 36 then saying (codes "no cell of this name is known")
    (codes "cells are dff and dffs (CK, Q, D), dffe (E too), dffr (R too): flatten and map to these (docs/FORMATS.md, Netlists)")
    else (if b == 31 then packed_saying
    else (if b == 59 then saying (codes "a `;` cannot stand here")
    (codes "is something missing before it, as an instance's terminals?")
    else (if is_binary b then saying (codes "a byte that no text has: is this file packed or binary?") (codes "give the text of a structural netlist")
    else saying (codes "what begins here cannot stand here")
    (codes "is a `;` missing before it? is this RTL or SystemVerilog? synthesize it, as by examples/yosys/synth.sh (docs/FORMATS.md, Netlists)")))))

abbrev pub header_saying : Saying
header_saying =
    saying (codes "this word, or the one before it, is one of SystemVerilog or RTL, as logic, bit, var, int, signed, reg or integer")
    (codes "synthesize and map it, as examples/yosys/synth.sh does; in a netlist write wire or nothing in its place")

-- a place of a text that cannot go on
abbrev pub syntax_saying : List ℕ → ℕ → Saying
syntax_saying text at = if declares_near text at then header_saying else place_saying (slice_get text at)

abbrev pub port_saying : Saying
port_saying =
    saying (codes "each name of the header has one direction, and each direction a name of the header")
    (codes "declare it as input or output once, and name it in the header")

abbrev pub redeclared_saying : Saying
redeclared_saying = saying (codes "this name is declared before") (codes "one direction and one type are taken, with equal ranges")

abbrev pub nets_saying : Saying
nets_saying = saying (codes "there are more than 100000 nets") (codes "split the netlist")

abbrev pub terminals_saying : Saying
terminals_saying =
    saying (codes "this gate or cell has other terminals than it takes")
    (codes "a gate has its output first; dff and dffs take (CK, Q, D), dffe (CK, Q, D, E), dffr (CK, Q, D, R), or pins of these names")

abbrev pub index_saying : Saying
index_saying = saying (codes "this index is none of the vector's, or a bound is above 65535") (codes "compare it with the declaration")

abbrev pub want_saying : Saying
want_saying = saying (codes "memory ran out") (codes "")

-- ---- lines of bits

-- how many bits a line has: `.` stands for none
abbrev pub bits_in : List ℕ → ℕ
bits_in text = if bytes_eq text (codes ".") then 0 else length text

-- how many bits a line has, and how many are due, of what
abbrev pub width_text : ℕ → ℕ → List ℕ → List ℕ
width_text bits due of =
    decimal bits ++ (codes " bits stand here, and " ++ (decimal due ++ (codes " are due: one for each " ++ of)))

-- ---- a stimulus

-- a value that a simulator knows: 0, 1, x or z
abbrev pub is_value : ℕ → Bool
is_value b = (b == 48 || b == 49) || ((b == 120 || b == 88) || (b == 122 || b == 90))

abbrev pub run_saying : Saying
run_saying = saying (codes "a run is `run NAME CYCLES`, as many lines of bits, and `end`") (codes "this is none of these where it stands")

-- the form of a line, of which each byte may be a value
abbrev pub run_form : List ℕ → Saying
run_form line =
    if list_all is_value line && not (length line == 0)
    then saying (codes "a bit of an input is 0 or 1, and x or z stands here") (codes "drive each data input from the first cycle on, or write what the chip had")
    else run_saying

abbrev pub inputs_saying : ℕ → List ℕ → Saying
inputs_saying width line =
    saying (width_text (bits_in line) width (codes "data input"))
    (codes "data inputs are all input port bits but the clock, in the order of the ports; `.` stands for none")

-- a line where another kind of line is due
abbrev pub count_saying : List ℕ → Saying
count_saying line =
    if bytes_eq line (codes "end") then saying (codes "`end` stands here, and an input line is due")
    (codes "CYCLES of the run's first line is greater than the number of its input lines")
    else (if length line == 0 then saying (codes "the text ends inside a run") (codes "a run has as many input lines as its CYCLES, and then `end`")
    else saying (codes "an input line stands here, and `end` is due")
    (codes "CYCLES of the run's first line is less than the number of its input lines, or `end` is missing"))

abbrev pub runs_saying : Saying
runs_saying = saying (codes "a stimulus has at most 256 runs") (codes "this is the 257th")

abbrev pub cycles_saying : Saying
cycles_saying =
    saying (codes "a run has at most 65536 cycles")
    (codes "a run begins at reset, and can be neither split nor begun later: shorten the way to the failure, or end the run earlier")

-- ---- a dump

-- the form of a line behind that of the last signature, where one is kept
abbrev pub end_saying : ℕ → Saying
end_saying number =
    if number == 3 then saying (codes "the third line of a dump is `end`") (codes "and nothing follows it")
    else saying (codes "nothing follows the line `end` of a dump") (codes "take it out")

-- the same where two are kept
abbrev pub older_saying : ℕ → Saying
older_saying number =
    if number == 3 then saying (codes "the third line of a dump of two cycles is `old BITS` or `old none`")
    (codes "a bit for each item of the signature, and `old none` behind `sig none`")
    else (if number == 4 then saying (codes "the fourth line of a dump of two cycles is `end`") (codes "and nothing follows it")
    else saying (codes "nothing follows the line `end` of a dump") (codes "take it out"))

-- the form of a line of a dump, of a register that keeps so many signatures
abbrev pub dump_saying : ℕ → ℕ → Saying
dump_saying depth number =
    if number == 1 then saying (codes "the first line of a dump is `state BITS`") (codes "a bit for each flip-flop, in the order of the netlist")
    else (if number == 2 then saying (codes "the second line of a dump is `sig BITS` or `sig none`") (codes "a bit for each item of the signature")
    else (if depth == 2 then older_saying number else end_saying number))

-- a word of a dump begins the line, so that its bits are wrong
abbrev pub begins_bits : List ℕ → Bool
begins_bits line =
    starts_with nat_eq line (codes "state ") || (starts_with nat_eq line (codes "sig ") || starts_with nat_eq line (codes "old "))

-- the form of such a line, or of another one
abbrev pub dump_form : ℕ → ℕ → List ℕ → Saying
dump_form depth number line =
    if begins_bits line && nat_lt number 3
    then saying (codes "behind the word stand characters 0 and 1, in `state` also `-`, or `sig none`, and this line has something else")
    (codes "write a number of base 16 bit by bit, as 1010 for a; in `state` write `-` where the chip's bit is not known, as for x and z")
    else dump_saying depth number

abbrev pub reset_saying : Saying
reset_saying =
    saying (codes "`sig none` goes with the reset state alone, and this is another state")
    (codes "at reset dffs holds 1 and each other cell 0; in any later state the register holds a signature")

-- ---- a report

abbrev pub report_saying : Saying
report_saying =
    saying (codes "this line is not of a form that its place in a report allows")
    (codes "a report is what `run` writes, unchanged (docs/FORMATS.md, Report)")

abbrev pub answer_saying : Saying
answer_saying = saying (codes "this is an answer of `reach`, and no report") (codes "`backspace_inspect trace NETLIST REPORT` shows it")

-- the form of a line
abbrev pub report_form : List ℕ → Saying
report_form line = if starts_with nat_eq line (codes "reach ") then answer_saying else report_saying

abbrev pub short_saying : Saying
short_saying = saying (codes "the text ends before the line `end` of a report is whole") (codes "was the report cut short, as by a full disk?")

-- ---- a signature

abbrev pub item_saying : Saying
item_saying =
    saying (codes "`bit` takes one name")
    (codes "write `xor NAME NAME ..` for the parity of several; an index is a part of the key, as of `[0]\\a.b`: `backspace_inspect keys` tells it")

abbrev pub comment_saying : Saying
comment_saying = saying (codes "a signature has no comments") (codes "take the line out")

abbrev pub choice_saying : Saying
choice_saying =
    saying (codes "this is a proposal of `backspace_inspect signature`, and more than a signature")
    (codes "keep its lines `xor` alone, as by `grep ^xor`")

abbrev pub items_saying : Saying
items_saying = saying (codes "a signature has at most 256 items") (codes "this is the 257th")

abbrev pub line_saying : Saying
line_saying =
    saying (codes "a line of a signature is `bit NAME` or `xor NAME NAME ..`")
    (codes "a name is the key of a flip-flop's output net, without empty lines between")
