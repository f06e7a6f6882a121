-- What the code has read, as the definitions see it.
use Rattle.bs_top_files.specs.declared.ready.FileNames.{FileNames as CodeFileNames}
use Rattle.bs_top_files.specs.declared.ready.Setup.{Setup as CodeSetup}
use Rattle.bs_top_files.specs.declared.ready.MomentFiles.{MomentFiles as CodeMomentFiles}
use Rattle.bs_top_files.specs.declared.ready.CrashFiles.{CrashFiles as CodeCrashFiles}
use Rattle.bs_top_files.specs.declared.ready.AuditFiles.{AuditFiles as CodeAuditFiles}
use Rattle.bs_top_files.specs.Entry.{FileNames, Setup, MomentFiles, CrashFiles, AuditFiles}

abbrev pub names_in : CodeFileNames → FileNames
names_in n = record { netlist = n.netlist.now; signature = n.signature.now; stimulus = n.stimulus.now }

abbrev pub setup_in : CodeSetup → Setup
setup_in s = record { raw = s.net.raw; choice = s.choice; runs = s.runs }

abbrev pub moment_files_in : CodeMomentFiles → MomentFiles
moment_files_in p = record { setup = setup_in p.setup; moment = p.moment }

abbrev pub crash_files_in : CodeCrashFiles → CrashFiles
crash_files_in c = record { setup = setup_in c.setup; dump = c.dump }

abbrev pub audit_files_in : CodeAuditFiles → AuditFiles
audit_files_in c = record { crash_files = crash_files_in c.crash_files; report = c.report }
