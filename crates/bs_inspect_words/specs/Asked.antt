-- Requests of the code as the definitions see them.
use Rattle.std.specs.Prelude.{map, Option, Some, None}
use Rattle.std.specs.Option.{option_map}
use Rattle.bs_inspect_words.specs.declared.request.KeysRequest.{KeysRequest as CodeKeysRequest}
use Rattle.bs_inspect_words.specs.declared.request.TraceRequest.{TraceRequest as CodeTraceRequest}
use Rattle.bs_inspect_words.specs.declared.request.ListsRequest.{ListsRequest as CodeListsRequest}
use Rattle.bs_inspect_words.specs.declared.request.WaveRequest.{WaveRequest as CodeWaveRequest}
use Rattle.bs_inspect_words.specs.declared.request.GtkwRequest.{GtkwRequest as CodeGtkwRequest}
use Rattle.bs_inspect_words.specs.declared.request.SeenRequest.{SeenRequest as CodeSeenRequest}
use Rattle.bs_inspect_words.specs.declared.request.StimulusRequest.{StimulusRequest as CodeStimulusRequest}
use Rattle.bs_inspect_words.specs.declared.request.DumpRequest.{DumpRequest as CodeDumpRequest}
use Rattle.bs_inspect_words.specs.declared.request.CheckRequest.{CheckRequest as CodeCheckRequest}
use Rattle.bs_inspect_words.specs.declared.request.UnscanRequest.{UnscanRequest as CodeUnscanRequest}
use Rattle.bs_inspect_words.specs.declared.request.NearRequest.{NearRequest as CodeNearRequest}
use Rattle.bs_inspect_words.specs.declared.request.BenchRequest.{BenchRequest as CodeBenchRequest}
use Rattle.bs_inspect_words.specs.declared.paged.PageRequest.{PageRequest as CodePageRequest}
use Rattle.bs_inspect_words.specs.declared.proposed.NovelRequest.{NovelRequest as CodeNovelRequest}
use Rattle.bs_inspect_words.specs.declared.proposed.SignatureRequest.{SignatureRequest as CodeSignatureRequest}
use Rattle.bs_inspect_words.specs.declared.causes.WhyRequest.{WhyRequest as CodeWhyRequest}
use Rattle.bs_inspect_words.specs.declared.request.EvidenceRequest.{EvidenceRequest as CodeEvidenceRequest}
use Rattle.bs_inspect_words.specs.declared.request.LengthsRequest.{LengthsRequest as CodeLengthsRequest}
use Rattle.bs_inspect_words.specs.declared.request.Request.{Request as CodeRequest}
use Rattle.bs_inspect_words.specs.declared.request.Request.TheVariants as R
use Rattle.bs_inspect_words.specs.Request.{KeysRequest, TraceRequest, ListsRequest, WaveRequest, GtkwRequest, SeenRequest, StimulusRequest, CheckRequest, DumpRequest, SignatureRequest, UnscanRequest, BenchRequest, EvidenceRequest, LengthsRequest, PageRequest, NovelRequest, NearRequest, Request, WhyRequest, Help, Version, Flops, Inputs, Stats, Keys, Seen, Trace, TraceTable, Steps, StepsTable, Lists, Wave, Gtkw, Stimulus, Check, Dump, Signature, Unscan, Bench, Cnf, Lrat, ReachCnf, ReachLrat, Page, Novel, Near, Why}

abbrev pub keys_in : CodeKeysRequest → KeysRequest
keys_in t = record { netlist = t.netlist.now; names = map (λ s. s.now) t.names.items }

abbrev pub seen_in : CodeSeenRequest → SeenRequest
seen_in t = record { netlist = t.netlist.now; values = map (λ s. s.now) t.values.items }

abbrev pub trace_in : CodeTraceRequest → TraceRequest
trace_in t = record {
  netlist = t.netlist.now;
  report = t.report.now;
  all = t.all;
  window = t.window;
  only = map (λ s. s.now) t.only.items;
}

abbrev pub lists_in : CodeListsRequest → ListsRequest
lists_in t = record { netlist = t.netlist.now; report = t.report.now; only = map (λ s. s.now) t.only.items }

abbrev pub wave_in : CodeWaveRequest → WaveRequest
wave_in t = record { netlist = t.netlist.now; report = t.report.now; all = t.all; from = t.from; only = map (λ s. s.now) t.only.items }

abbrev pub gtkw_in : CodeGtkwRequest → GtkwRequest
gtkw_in t = record {
  netlist = t.netlist.now;
  report = t.report.now;
  wave = t.wave.now;
  all = t.all;
  from = t.from;
  only = map (λ s. s.now) t.only.items;
}

abbrev pub stimulus_in : CodeStimulusRequest → StimulusRequest
stimulus_in t = record {
  netlist = t.netlist.now;
  vcds = map (λ s. s.now) t.vcds.items;
  clock = t.clock.now;
  scope = option_map (λ s. s.now) t.scope;
  names = option_map (λ s. s.now) t.names;
}

abbrev pub dump_in : CodeDumpRequest → DumpRequest
dump_in t = record {
  netlist = t.netlist.now;
  vcd = t.vcd.now;
  at = t.at;
  clock = option_map (λ s. s.now) t.clock;
  scope = option_map (λ s. s.now) t.scope;
  names = option_map (λ s. s.now) t.names;
  signature = option_map (λ s. s.now) t.signature;
  partial = t.partial;
}

abbrev pub check_in : CodeCheckRequest → CheckRequest
check_in t = record {
  netlist = t.netlist.now;
  runs = t.runs.now;
  vcds = map (λ s. s.now) t.vcds.items;
  clock = option_map (λ s. s.now) t.clock;
  scope = option_map (λ s. s.now) t.scope;
  names = option_map (λ s. s.now) t.names;
}

abbrev pub signature_in : CodeSignatureRequest → SignatureRequest
signature_in t = record { netlist = t.netlist.now; runs = t.runs.now; items = t.items }

abbrev pub unscan_in : CodeUnscanRequest → UnscanRequest
unscan_in t = record { netlist = t.netlist.now; order = t.order.now; pattern = t.pattern.now }

abbrev pub bench_in : CodeBenchRequest → BenchRequest
bench_in t = record { netlist = t.netlist.now; runs = t.runs.now; report = t.report.now; top = t.top.now }

abbrev pub evidence_in : CodeEvidenceRequest → EvidenceRequest
evidence_in t = record { netlist = t.netlist.now; signature = t.signature.now; report = t.report.now; step = t.step }

abbrev pub lengths_in : CodeLengthsRequest → LengthsRequest
lengths_in t = record { netlist = t.netlist.now; state = t.state.now; answer = t.answer.now; length = t.length }

abbrev pub page_in : CodePageRequest → PageRequest
page_in t = record {
  netlist = t.netlist.now;
  report = t.report.now;
  signature = option_map (λ s. s.now) t.signature;
  most = t.most;
  only = map (λ s. s.now) t.only.items;
}

abbrev pub novel_in : CodeNovelRequest → NovelRequest
novel_in t = record { netlist = t.netlist.now; runs = t.runs.now; run = t.run; most = t.most }

abbrev pub near_in : CodeNearRequest → NearRequest
near_in t = record { netlist = t.netlist.now; runs = t.runs.now; dump = t.dump.now }

abbrev pub why_in : CodeWhyRequest → WhyRequest
why_in t = record {
  netlist = t.netlist.now;
  report = t.report.now;
  name = t.name.now;
  at = t.at;
  depth = t.depth;
  flops = t.flops;
  all = t.all;
  csv = t.csv;
}

abbrev pub request_in : CodeRequest → Request
request_in R.Help = Help
request_in R.Version = Version
request_in (R.Flops netlist) = Flops netlist.now
request_in (R.Inputs netlist) = Inputs netlist.now
request_in (R.Stats netlist) = Stats netlist.now
request_in (R.Keys t) = Keys (keys_in t)
request_in (R.Seen t) = Seen (seen_in t)
request_in (R.Trace t) = Trace (trace_in t)
request_in (R.TraceTable t) = TraceTable (trace_in t)
request_in (R.Steps report) = Steps report.now
request_in (R.StepsTable report) = StepsTable report.now
request_in (R.Lists t) = Lists (lists_in t)
request_in (R.Wave t) = Wave (wave_in t)
request_in (R.Gtkw t) = Gtkw (gtkw_in t)
request_in (R.Stimulus t) = Stimulus (stimulus_in t)
request_in (R.Dump t) = Dump (dump_in t)
request_in (R.Check t) = Check (check_in t)
request_in (R.Signature t) = Signature (signature_in t)
request_in (R.Unscan t) = Unscan (unscan_in t)
request_in (R.Bench t) = Bench (bench_in t)
request_in (R.Cnf t) = Cnf (evidence_in t)
request_in (R.Lrat t) = Lrat (evidence_in t)
request_in (R.ReachCnf t) = ReachCnf (lengths_in t)
request_in (R.ReachLrat t) = ReachLrat (lengths_in t)
request_in (R.Page t) = Page (page_in t)
request_in (R.Novel t) = Novel (novel_in t)
request_in (R.Near t) = Near (near_in t)
request_in (R.Why t) = Why (why_in t)

abbrev pub shown_request : Option CodeRequest → Option Request
shown_request None = None
shown_request (Some r) = Some (request_in r)
