-- Notes on a text of several modules that is no netlist.
use Rattle.std.specs.Prelude.{◌≡◌, ℕ, List, [], ◌++◌, codes, decimal, take, slice_index_or}
use Rattle.std.specs.List.{flat_map}
use Rattle.bs_flat_meaning.specs.declared.fault.FlatFault.{FlatFault}
use Rattle.bs_flat_meaning.specs.declared.fault.FlatFault.TheVariants as flat
use Rattle.bs_net_names.specs.Quotes.{shown_line}
use Rattle.bs_note_files.specs.declared.check.TheConstants.{RING}
use Rattle.bs_note_files.specs.Checks.{IsKeyNote}
use Rattle.bs_note_files.specs.Netlists.{IsNetlistNote}
use Rattle.bs_note_files.specs.Notes.{Saying, saying, file_text, IsNoteOn}

-- a name as it is shown, behind a space
abbrev pub name_piece : List ℕ → List ℕ
name_piece name = codes " " ++ shown_line name

abbrev pub modules_text : List (List ℕ) → List ℕ
modules_text names = codes "modules instance one another in a ring:" ++ flat_map name_piece (take RING names)

abbrev pub twice_saying : Saying
twice_saying = saying (codes "an earlier module, or an earlier instance in this module, has the same name") (codes "give it a name of its own")

abbrev pub connect_saying : Saying
connect_saying =
    saying (codes "this does not go with a port of the instanced module")
    (codes "each connection is of a port of its own, with as many bits, and a constant is of no output")

abbrev pub own_nets_saying : Saying
own_nets_saying =
    saying (codes "up to this module the modules declare more than 4194304 nets") (codes "make ports and wires narrower, or give a part of the design")

abbrev pub clash_text : List ℕ → List ℕ
clash_text key = codes "two nets of the flat design have the key `" ++ (shown_line key ++ codes "`: give an instance or a net another name")

-- a fault of a design, on its place, or on the file where it has none; a ring on the name of its first module
abbrev pub IsDesignNote : List ℕ → List ℕ → FlatFault → List ℕ → Type 0
IsDesignNote path text (flat.Verilog fault) note = IsNetlistNote path text fault note
IsDesignNote path text (flat.Twice at) note = IsNoteOn path text at twice_saying note
IsDesignNote path text (flat.OwnNets at) note = IsNoteOn path text at own_nets_saying note
IsDesignNote path text (flat.Recursion names) note =
    IsKeyNote path text (slice_index_or names 0 []) (modules_text names) (codes "no module may stand in itself") note
IsDesignNote path text (flat.Tops count) note =
    note ≡ file_text path (codes "one module alone, the top, is instanced by none, and so many are: " ++ decimal count)
IsDesignNote path text (flat.Connect at) note = IsNoteOn path text at connect_saying note
IsDesignNote path text flat.FlatDepth note = note ≡ file_text path (codes "instances stand in one another more than 256 deep: take levels out")
IsDesignNote path text flat.FlatParts note =
    note ≡ file_text path (codes "on all paths there are more than 400000 gates, flip-flops and instances: give a part of the design")
IsDesignNote path text flat.FlatNets note =
    note ≡ file_text path (codes "on all paths there are more than 100000 nets: give a part of the design")
IsDesignNote path text flat.FlatKeys note =
    note ≡ file_text path (codes "the keys of all nets have more than 268435456 bytes together: give shorter names")
IsDesignNote path text (flat.NameClash key) note =
    note ≡ file_text path (clash_text key)
IsDesignNote path text flat.FlatTerminals note =
    note ≡ file_text path (codes "on all paths gates have more than 268435456 inputs together with constants and ports: give a gate 64 inputs at most")
IsDesignNote path text flat.NoMemory note = note ≡ file_text path (codes "memory ran out")
