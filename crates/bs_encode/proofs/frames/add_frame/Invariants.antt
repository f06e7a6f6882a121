use Rattle.std.proofs.Common.{◌≡◌, ◌++◌, take, map}
use Rattle.bs_encode.specs.Frame.{raised_all}
use Rattle.bs_encode.proofs.frames.add_frame.Given as goal

abbrev pub invariant-clauses : goal.invariant-clauses
invariant-clauses l = l.into ≡ l.initial.into ++ map (raised_all l.by) (take l.clause-index l.clauses)
