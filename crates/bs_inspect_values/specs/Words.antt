-- The words behind a file's name in a refusal line, for the faults that are told of by no other program (docs/FORMATS.md, "Words of
-- `backspace_inspect`").
use Rattle.std.specs.Prelude.{ℕ, List, [], ◌++◌, codes, decimal, slice_index_or}
use Rattle.bs_inspect_names.specs.declared.fault.MapFault.{MapFault}
use Rattle.bs_inspect_names.specs.declared.fault.MapFault.TheVariants as names
use Rattle.bs_vcd_header.specs.declared.fault.VcdFault.{VcdFault}
use Rattle.bs_vcd_header.specs.declared.fault.VcdFault.TheVariants as vcd

-- a file of names; a line counts from 1
abbrev pub map_words : MapFault → List ℕ
map_words (names.Line line) = codes "Line " ++ decimal line
map_words (names.Unknown line) = codes "Unknown " ++ decimal line
map_words (names.Twice line) = codes "Twice " ++ decimal line
map_words (names.Range line) = codes "Range " ++ decimal line
map_words names.NoMemory = []

-- the key of the input or flip-flop with a number from 0
abbrev pub key_at : List (List ℕ) → ℕ → List ℕ
key_at keys i = slice_index_or keys i []

-- values of a simulator; an input or a flip-flop is named by its key in the netlist
abbrev pub vcd_words : List (List ℕ) → VcdFault → List ℕ
vcd_words keys (vcd.Line line) = codes "Line " ++ decimal line
vcd_words keys vcd.Ended = codes "Ended"
vcd_words keys vcd.NoClock = codes "NoClock"
vcd_words keys (vcd.NoInput i) = codes "NoInput " ++ key_at keys i
vcd_words keys (vcd.Unknown i time) = codes "Unknown " ++ (key_at keys i ++ (codes " " ++ decimal time))
vcd_words keys (vcd.NoCycle count) = codes "NoCycle " ++ decimal count
vcd_words keys (vcd.DumpOff line) = codes "DumpOff " ++ decimal line
vcd_words keys (vcd.NoTime last) = codes "NoTime " ++ decimal last
vcd_words keys (vcd.Late begin) = codes "Late " ++ decimal begin
vcd_words keys vcd.NoMemory = []

-- values with more edges than a run may have cycles
abbrev pub cycles_words : List ℕ
cycles_words = codes "TooManyCycles"
