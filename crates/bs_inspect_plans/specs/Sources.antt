-- The names of the files of a request, for the notes on them.
use Rattle.std.specs.Prelude.{ℕ, List, [], ◌∷◌, ◌++◌, codes, Option}
use Rattle.std.specs.List.{flat_map}
use Rattle.std.specs.Option.{unwrap_or}
use Rattle.bs_outside.specs.declared.file.File.{File}
use Rattle.bs_outside.specs.declared.file.File.TheVariants as files
use Rattle.bs_inspect_files.specs.Readings.{file_in}
use Rattle.bs_inspect_words.specs.Request.{Request, BenchRequest, CheckRequest, DumpRequest, NearRequest, NovelRequest, SignatureRequest, StimulusRequest, UnscanRequest, Help, Version, Flops, Inputs, Stats, Keys, Seen, Trace, TraceTable, Steps, StepsTable, Lists, Wave, Gtkw, Stimulus, Check, Dump, Signature, Unscan, Bench, Cnf, Lrat, ReachCnf, ReachLrat, EvidenceRequest, LengthsRequest, PageRequest, Page, Novel, Near, Why}
use Rattle.bs_inspect_plans.specs.declared.sources.Sources.{Sources as CodeSources}

pub record Sources : Type 0 where
  pub netlist : List ℕ
  pub signature : List ℕ
  pub stimulus : List ℕ
  pub dump : List ℕ
  pub report : List ℕ
  pub vcd : List ℕ
  pub map : List ℕ

-- the name of a file of a request; what no request has has none
abbrev pub source_of : Sources → File → List ℕ
source_of n files.Netlist = n.netlist
source_of n files.Signature = n.signature
source_of n files.Stimulus = n.stimulus
source_of n files.Dump = n.dump
source_of n files.Report = n.report
source_of n files.State = []
source_of n files.Vcd = n.vcd
source_of n files.Map = n.map
source_of n files.Name = []

abbrev pub no_source : Sources
no_source = record { netlist = []; signature = []; stimulus = []; dump = []; report = []; vcd = []; map = [] }

abbrev pub netlist_source : List ℕ → Sources
netlist_source netlist = record { netlist = netlist; signature = []; stimulus = []; dump = []; report = []; vcd = []; map = [] }

abbrev pub report_source : List ℕ → Sources
report_source report = record { netlist = []; signature = []; stimulus = []; dump = []; report = report; vcd = []; map = [] }

abbrev pub trace_sources : List ℕ → List ℕ → Sources
trace_sources netlist report = record { netlist = netlist; signature = []; stimulus = []; dump = []; report = report; vcd = []; map = [] }

abbrev pub runs_sources : SignatureRequest → Sources
runs_sources t = record { netlist = t.netlist; signature = []; stimulus = t.runs; dump = []; report = []; vcd = []; map = [] }

abbrev pub novel_sources : NovelRequest → Sources
novel_sources t = record { netlist = t.netlist; signature = []; stimulus = t.runs; dump = []; report = []; vcd = []; map = [] }

abbrev pub near_sources : NearRequest → Sources
near_sources t = record { netlist = t.netlist; signature = []; stimulus = t.runs; dump = t.dump; report = []; vcd = []; map = [] }

abbrev pub bench_sources : BenchRequest → Sources
bench_sources t = record { netlist = t.netlist; signature = []; stimulus = t.runs; dump = []; report = t.report; vcd = []; map = [] }

-- a name behind others
abbrev pub behind_piece : List ℕ → List ℕ
behind_piece name = codes ", " ++ name

-- names, one behind another
abbrev pub joined : List (List ℕ) → List ℕ
joined [] = []
joined (name ∷ names) = name ++ flat_map behind_piece names

-- a netlist, values under this name, and a file of names, where there is one
abbrev pub named_values : List ℕ → Option (List ℕ) → List ℕ → Sources
named_values netlist names vcd = record { netlist = netlist; signature = []; stimulus = []; dump = []; report = []; vcd = vcd; map = unwrap_or names [] }

abbrev pub values_sources : StimulusRequest → Sources
values_sources t = named_values t.netlist t.names (joined t.vcds)

-- a netlist, recorded runs, values under this name, and a file of names, where there is one
abbrev pub named_runs : (netlist runs : List ℕ) → Option (List ℕ) → List ℕ → Sources
named_runs netlist runs names vcd = record { netlist = netlist; signature = []; stimulus = runs; dump = []; report = []; vcd = vcd; map = unwrap_or names [] }

abbrev pub check_sources : CheckRequest → Sources
check_sources t = named_runs t.netlist t.runs t.names (joined t.vcds)

abbrev pub dump_sources : DumpRequest → Sources
dump_sources t =
    record {
      netlist = t.netlist;
      signature = unwrap_or t.signature [];
      stimulus = [];
      dump = [];
      report = [];
      vcd = t.vcd;
      map = unwrap_or t.names [];
    }

-- the bits of a pattern may be in a file
abbrev pub chain_sources : UnscanRequest → Sources
chain_sources t =
    record { netlist = t.netlist; signature = []; stimulus = []; dump = unwrap_or (file_in t.pattern) []; report = []; vcd = []; map = t.order }

abbrev pub evidence_sources : EvidenceRequest → Sources
evidence_sources t = record { netlist = t.netlist; signature = t.signature; stimulus = []; dump = []; report = t.report; vcd = []; map = [] }

-- a signature may be given
abbrev pub page_sources : PageRequest → Sources
page_sources t = record { netlist = t.netlist; signature = unwrap_or t.signature []; stimulus = []; dump = []; report = t.report; vcd = []; map = [] }

-- an answer counts as a report
abbrev pub lengths_sources : LengthsRequest → Sources
lengths_sources t = trace_sources t.netlist t.answer

-- those of a request
abbrev pub sources_of : Request → Sources
sources_of Help = no_source
sources_of Version = no_source
sources_of (Flops netlist) = netlist_source netlist
sources_of (Inputs netlist) = netlist_source netlist
sources_of (Stats netlist) = netlist_source netlist
sources_of (Steps report) = report_source report
sources_of (Trace t) = trace_sources t.netlist t.report
sources_of (Stimulus t) = values_sources t
sources_of (Wave t) = trace_sources t.netlist t.report
sources_of (Gtkw t) = trace_sources t.netlist t.report
sources_of (Signature t) = runs_sources t
sources_of (Dump t) = dump_sources t
sources_of (Check t) = check_sources t
sources_of (TraceTable t) = trace_sources t.netlist t.report
sources_of (StepsTable report) = report_source report
sources_of (Lists t) = trace_sources t.netlist t.report
sources_of (Keys t) = netlist_source t.netlist
sources_of (Seen t) = netlist_source t.netlist
sources_of (Unscan t) = chain_sources t
sources_of (Bench t) = bench_sources t
sources_of (Cnf t) = evidence_sources t
sources_of (Lrat t) = evidence_sources t
sources_of (ReachCnf t) = lengths_sources t
sources_of (ReachLrat t) = lengths_sources t
sources_of (Page t) = page_sources t
sources_of (Novel t) = novel_sources t
sources_of (Near t) = near_sources t
sources_of (Why t) = trace_sources t.netlist t.report

abbrev pub sources_in : CodeSources → Sources
sources_in n =
    record {
      netlist = n.netlist.now;
      signature = n.signature.now;
      stimulus = n.stimulus.now;
      dump = n.dump.now;
      report = n.report.now;
      vcd = n.vcd.now;
      map = n.map.now;
    }
