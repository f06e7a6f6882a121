-- The names of the files of a job.
use Rattle.std.specs.Prelude.{ℕ, List, []}
use Rattle.bs_outside.specs.declared.file.File.{File}
use Rattle.bs_outside.specs.declared.file.File.TheVariants as files
use Rattle.bs_call.specs.declared.paths.Paths.{Paths as CodePaths}

pub record Paths : Type 0 where
  pub netlist : List ℕ
  pub signature : List ℕ
  pub stimulus : List ℕ
  pub dump : List ℕ
  pub report : List ℕ

-- the name of a file of a job; what no job has has none
abbrev pub path_of : Paths → File → List ℕ
path_of n files.Netlist = n.netlist
path_of n files.Signature = n.signature
path_of n files.Stimulus = n.stimulus
path_of n files.Dump = n.dump
path_of n files.Report = n.report
path_of n files.State = []
path_of n files.Vcd = []
path_of n files.Map = []
path_of n files.Name = []

abbrev pub paths_in : CodePaths → Paths
paths_in n = record { netlist = n.netlist.now; signature = n.signature.now; stimulus = n.stimulus.now; dump = n.dump.now; report = n.report.now }
