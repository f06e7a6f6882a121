-- The exit codes of the program (docs/FORMATS.md, "Statuses").
use Rattle.std.specs.Prelude.{ℕ, Result, Ok, Err}
use Rattle.bs_bits.specs.declared.memory.NoMemory.{NoMemory}
use Rattle.bs_outside.specs.declared.status.Status.{Status}
use Rattle.bs_outside.specs.declared.status.Status.TheVariants as S
use Rattle.bs_outside.specs.declared.status.TheConstants.{NO_MEMORY_CODE}

-- the exit code of the program; a state that is refused has that of a dump
abbrev pub code_of : Status → ℕ
code_of S.Done = 0
code_of S.Words = 2
code_of S.Nohit = 3
code_of S.Empty = 4
code_of S.Spent = 5
code_of S.Netlist = 6
code_of S.Signature = 7
code_of S.Stimulus = 8
code_of S.Dump = 9
code_of S.Report = 10
code_of S.Target = 9
code_of S.Rejected = 11
code_of S.ReadFault = 12
code_of S.WriteFault = 13
code_of S.Unreached = 15
code_of S.Vcd = 16
code_of S.Map = 17
code_of S.Name = 18

-- the same of an answer: out of memory has a code of its own
abbrev pub exit_code : Result Status NoMemory → ℕ
exit_code (Ok status) = code_of status
exit_code (Err want) = NO_MEMORY_CODE
