-- The files of a request about an answer: the answer, which says how many cycles were asked for, then the netlist, the state and the
-- size of the search.
use Rattle.std.specs.Prelude.{ℕ, List}
use Rattle.bs_reach.specs.declared.reach.Reach.{Reach}
use Rattle.bs_top_reach.specs.Shown.{target_in}
use Rattle.bs_top_reach.specs.Target.{Target, target_of}
use Rattle.bs_outside.specs.Plan.{Plan, end, ◌>>=◌}
use Rattle.bs_top_files.specs.Causes.{Case}
use Rattle.bs_reach_answer.specs.Entry.{answer_of}
use Rattle.bs_reach_answer.specs.declared.ready.AnswerFiles.{AnswerFiles as CodeAnswerFiles}

-- a netlist's parts with a state, and an answer
pub record AnswerFiles : Type 0 where
  pub target : Target
  pub answer : Reach

abbrev pub answer_files_in : CodeAnswerFiles → AnswerFiles
answer_files_in t = record { target = target_in t.target; answer = t.answer }

-- what is left once the answer is read
abbrev pub searched_of : (netlist state : List ℕ) → Reach → Plan Case AnswerFiles
searched_of netlist state answer = do
  target ← target_of netlist state answer.asked
  end record { target = target; answer = answer }

abbrev pub answer_files_of : (netlist state path : List ℕ) → Plan Case AnswerFiles
answer_files_of netlist state path = do
  answer ← answer_of path
  searched_of netlist state answer
