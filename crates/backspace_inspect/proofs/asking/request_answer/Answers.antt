use Rattle.std.proofs.Common.{ap, refl}
use Rattle.bs_inspect_words.specs.Asked.{request_in}
use Rattle.bs_inspect_words.specs.Request.{Help, Version}
use Rattle.bs_inspect_plans.specs.Sources.{source_of, sources_of}
use Rattle.bs_inspect_plans.specs.Work.{to_help, to_version}
use Rattle.bs_inspect_plans.proofs.WorkLemmas.{noted_asked, diagnosed_alone}
use Rattle.backspace_inspect.proofs.asking.request_answer.Goals as goal

pub returns-in-Help : goal.returns-in-Help
returns-in-Help g c =
    noted_asked _ _ Help (ap request_in c.in-Help.is) (diagnosed_alone to_help (source_of (sources_of Help)) _ _ c.silent.ensures refl c.tell_usage.ensures)

pub returns-in-Version : goal.returns-in-Version
returns-in-Version g c =
    noted_asked _ _ Version (ap request_in c.in-Version.is) (diagnosed_alone to_version (source_of (sources_of Version)) _ _ c.silent-in-Version.ensures refl c.tell_version.ensures)

pub returns-in-Trace : goal.returns-in-Trace
returns-in-Trace g c = noted_asked _ _ _ (ap request_in c.in-Trace.is) c.trace.ensures

pub returns-in-Stimulus : goal.returns-in-Stimulus
returns-in-Stimulus g c = noted_asked _ _ _ (ap request_in c.in-Stimulus.is) c.stimulus.ensures

pub returns-in-Wave : goal.returns-in-Wave
returns-in-Wave g c = noted_asked _ _ _ (ap request_in c.in-Wave.is) c.wave.ensures

pub returns-in-Gtkw : goal.returns-in-Gtkw
returns-in-Gtkw g c = noted_asked _ _ _ (ap request_in c.in-Gtkw.is) c.gtkw.ensures

pub returns-in-Signature : goal.returns-in-Signature
returns-in-Signature g c = noted_asked _ _ _ (ap request_in c.in-Signature.is) c.signature.ensures

pub returns-in-Flops : goal.returns-in-Flops
returns-in-Flops g c = noted_asked _ _ _ (ap request_in c.in-Flops.is) c.flops.ensures

pub returns-in-Inputs : goal.returns-in-Inputs
returns-in-Inputs g c = noted_asked _ _ _ (ap request_in c.in-Inputs.is) c.inputs.ensures

pub returns-in-Stats : goal.returns-in-Stats
returns-in-Stats g c = noted_asked _ _ _ (ap request_in c.in-Stats.is) c.stats.ensures

pub returns-in-Steps : goal.returns-in-Steps
returns-in-Steps g c = noted_asked _ _ _ (ap request_in c.in-Steps.is) c.steps.ensures

pub returns-in-TraceTable : goal.returns-in-TraceTable
returns-in-TraceTable g c = noted_asked _ _ _ (ap request_in c.in-TraceTable.is) c.trace_table.ensures

pub returns-in-StepsTable : goal.returns-in-StepsTable
returns-in-StepsTable g c = noted_asked _ _ _ (ap request_in c.in-StepsTable.is) c.steps_table.ensures

pub returns-in-Lists : goal.returns-in-Lists
returns-in-Lists g c = noted_asked _ _ _ (ap request_in c.in-Lists.is) c.lists.ensures

pub returns-in-Keys : goal.returns-in-Keys
returns-in-Keys g c = noted_asked _ _ _ (ap request_in c.in-Keys.is) c.keys.ensures

pub returns-in-Seen : goal.returns-in-Seen
returns-in-Seen g c = noted_asked _ _ _ (ap request_in c.in-Seen.is) c.seen.ensures

pub returns-in-Unscan : goal.returns-in-Unscan
returns-in-Unscan g c = noted_asked _ _ _ (ap request_in c.in-Unscan.is) c.unscan.ensures

pub returns-in-Page : goal.returns-in-Page
returns-in-Page g c = noted_asked _ _ _ (ap request_in c.in-Page.is) c.page.ensures

pub returns-in-Dump : goal.returns-in-Dump
returns-in-Dump g c = noted_asked _ _ _ (ap request_in c.in-Dump.is) c.dump.ensures

pub returns-in-Cnf : goal.returns-in-Cnf
returns-in-Cnf g c = noted_asked _ _ _ (ap request_in c.in-Cnf.is) c.cnf.ensures

pub returns-in-Lrat : goal.returns-in-Lrat
returns-in-Lrat g c = noted_asked _ _ _ (ap request_in c.in-Lrat.is) c.lrat.ensures

pub returns-in-ReachCnf : goal.returns-in-ReachCnf
returns-in-ReachCnf g c = noted_asked _ _ _ (ap request_in c.in-ReachCnf.is) c.reach_cnf.ensures

pub returns-in-ReachLrat : goal.returns-in-ReachLrat
returns-in-ReachLrat g c = noted_asked _ _ _ (ap request_in c.in-ReachLrat.is) c.reach_lrat.ensures

pub returns-in-Novel : goal.returns-in-Novel
returns-in-Novel g c = noted_asked _ _ _ (ap request_in c.in-Novel.is) c.novel.ensures

pub returns-in-Near : goal.returns-in-Near
returns-in-Near g c = noted_asked _ _ _ (ap request_in c.in-Near.is) c.near.ensures

pub returns-in-Why : goal.returns-in-Why
returns-in-Why g c = noted_asked _ _ _ (ap request_in c.in-Why.is) c.why.ensures

pub returns-in-Check : goal.returns-in-Check
returns-in-Check g c = noted_asked _ _ _ (ap request_in c.in-Check.is) c.check.ensures

pub returns-in-Bench : goal.returns-in-Bench
returns-in-Bench g c = noted_asked _ _ _ (ap request_in c.in-Bench.is) c.bench.ensures
