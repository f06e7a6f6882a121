use Rattle.std.proofs.Common.{length}
use Rattle.bs_inspect_files.proofs.comparing.+load_behind.Given as goal

abbrev pub decreases-load_behind : goal.decreases-load_behind
decreases-load_behind g l = length l.vcds.now
