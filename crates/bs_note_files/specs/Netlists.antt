-- Notes on a text of one module that is no netlist.
use Rattle.std.specs.Prelude.{ℕ, List}
use Rattle.bs_verilog_syntax.specs.declared.fault.VerilogFault.{VerilogFault}
use Rattle.bs_verilog_syntax.specs.declared.fault.VerilogFault.TheVariants as verilog
use Rattle.bs_note_files.specs.Notes.{Saying, IsNoteOn}
use Rattle.bs_note_files.specs.Sayings.{what_saying, syntax_saying, port_saying, redeclared_saying, nets_saying, terminals_saying, index_saying, want_saying}

-- the byte offset that a refusal tells
abbrev pub place_of : VerilogFault → ℕ
place_of (verilog.Syntax at) = at
place_of (verilog.Unsupported at what) = at
place_of (verilog.Port at) = at
place_of (verilog.Redeclared at) = at
place_of (verilog.TooManyNets at) = at
place_of (verilog.Terminals at) = at
place_of (verilog.Index at) = at
place_of verilog.NoMemory = 0

-- what is said of it
abbrev pub fault_saying : List ℕ → VerilogFault → Saying
fault_saying text (verilog.Syntax at) = syntax_saying text at
fault_saying text (verilog.Unsupported at what) = what_saying text at what
fault_saying text (verilog.Port at) = port_saying
fault_saying text (verilog.Redeclared at) = redeclared_saying
fault_saying text (verilog.TooManyNets at) = nets_saying
fault_saying text (verilog.Terminals at) = terminals_saying
fault_saying text (verilog.Index at) = index_saying
fault_saying text verilog.NoMemory = want_saying

abbrev pub IsNetlistNote : List ℕ → List ℕ → VerilogFault → List ℕ → Type 0
IsNetlistNote path text fault note = IsNoteOn path text (place_of fault) (fault_saying text fault) note
