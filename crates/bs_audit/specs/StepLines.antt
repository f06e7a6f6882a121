-- The lines of the steps of a log, one step after another.
use Rattle.std.specs.Prelude.{◌≡◌, Bool, true, false, not, List, [], filter, drop, slice_index_or}
use Rattle.bs_log.specs.declared.line.Line.{Line}
use Rattle.bs_log.specs.declared.line.Line.TheVariants.{Block, Retire, Delete}
use Rattle.bs_log.specs.Steps.{steps_of}

abbrev pub is_retire : Line → Bool
is_retire (Retire id) = true
is_retire line = false

abbrev pub is_delete : Line → Bool
is_delete (Delete ids) = true
is_delete line = false

abbrev pub is_block : Line → Bool
is_block (Block id lits) = true
is_block line = false

abbrev pub undeleted : List Line → List Line
undeleted lines = filter (λ line. not (is_delete line)) lines

-- the lines up to the first retire line and those behind it: none where no retire line is left
pub record IsSplit (lines front behind : List Line) : Type 0 where
  pub first : slice_index_or (steps_of lines) 0 [] ≡ undeleted front
  pub rest : drop 1 (steps_of lines) ≡ steps_of behind
