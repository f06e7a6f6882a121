-- What a job may refuse, a file or a state or name among its words: the word that names it, its limit, and the status of its refusal
-- (docs/FORMATS.md, "Statuses").
use Rattle.std.specs.Prelude.{ℕ, List, ◌++◌, codes, Bool, true, false, Option, Some, None}
use Rattle.bs_outside.specs.declared.file.File.{File}
use Rattle.bs_outside.specs.declared.file.File.TheVariants.{Netlist, Signature, Stimulus, Dump, Report, State, Vcd, Map, Name}
use Rattle.bs_outside.specs.declared.limits.TheConstants.{MAX_NETLIST_BYTES, MAX_SIGNATURE_BYTES, MAX_STIMULUS_BYTES, MAX_DUMP_BYTES, MAX_REPORT_BYTES, MAX_VCD_BYTES, MAX_MAP_BYTES}
use Rattle.bs_outside.specs.declared.status.Status.{Status}
use Rattle.bs_outside.specs.declared.status.Status.TheVariants as S

abbrev pub file_word : File → List ℕ
file_word Netlist = codes "netlist"
file_word Signature = codes "signature"
file_word Stimulus = codes "stimulus"
file_word Dump = codes "dump"
file_word Report = codes "report"
file_word State = codes "state"
file_word Vcd = codes "vcd"
file_word Map = codes "map"
file_word Name = codes "name"

-- the most bytes that the file may have; for a state or a name there is no file
abbrev pub limit_of : File → ℕ
limit_of Netlist = MAX_NETLIST_BYTES
limit_of Signature = MAX_SIGNATURE_BYTES
limit_of Stimulus = MAX_STIMULUS_BYTES
limit_of Dump = MAX_DUMP_BYTES
limit_of Report = MAX_REPORT_BYTES
limit_of State = 0
limit_of Vcd = MAX_VCD_BYTES
limit_of Map = MAX_MAP_BYTES
limit_of Name = 0

abbrev pub refusal_status : File → Status
refusal_status Netlist = S.Netlist
refusal_status Signature = S.Signature
refusal_status Stimulus = S.Stimulus
refusal_status Dump = S.Dump
refusal_status Report = S.Report
refusal_status State = S.Target
refusal_status Vcd = S.Vcd
refusal_status Map = S.Map
refusal_status Name = S.Name

-- what a status says to be refused
abbrev pub refused_file : Status → Option File
refused_file S.Netlist = Some Netlist
refused_file S.Signature = Some Signature
refused_file S.Stimulus = Some Stimulus
refused_file S.Dump = Some Dump
refused_file S.Report = Some Report
refused_file S.Target = Some State
refused_file S.Vcd = Some Vcd
refused_file S.Map = Some Map
refused_file S.Name = Some Name
refused_file _ = None

-- a status of work that is done, whatever came of it
abbrev pub is_work_status : Status → Bool
is_work_status S.Done = true
is_work_status S.Nohit = true
is_work_status S.Empty = true
is_work_status S.Spent = true
is_work_status S.Rejected = true
is_work_status S.Unreached = true
is_work_status _ = false

-- `refused FILE WHY`, with its line feed
abbrev pub refusal_line : File → List ℕ → List ℕ
refusal_line file why = codes "refused " ++ (file_word file ++ (codes " " ++ (why ++ codes "\n")))
