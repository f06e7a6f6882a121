use Rattle.bs_top.proofs.ReplyLemmas.{wave_told}
use Rattle.bs_top.proofs.wave_command.trace_wave.Goals as goal

pub returns-in-Ok : goal.returns-in-Ok
returns-in-Ok c = wave_told c.args.audit_files.now.crash_files.setup.net.raw c.args.audit_files.now.report _ _ c.in-Ok.ensures c.wave_text.ensures
