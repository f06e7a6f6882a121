-- Why there is no account of what is asked, and the line that says so (docs/FORMATS.md, "Causes").
use Rattle.std.specs.Prelude.{◌≡◌, ℕ, ◌≤◌, Bool, List, [], ◌++◌, length, codes}
use Rattle.bs_bits.specs.Lines.{line}
use Rattle.bs_net.specs.Parts.{Parts}
use Rattle.bs_inspect_why.specs.declared.denial.Denial.{Denial}
use Rattle.bs_inspect_why.specs.declared.denial.Denial.TheVariants.{Moment, Input, Open}
use Rattle.bs_inspect_why.specs.Question.{Question, asked_nets, moment_in}

-- the moment is not one of the trace's, no net with the name is driven and no data input, or at the last moment, which has
-- no input, a bit that is asked for is open
abbrev pub IsDenied : Parts → (states inputs : List (List Bool)) → Question → Denial → Type 0
IsDenied raw states inputs q Moment = length states ≤ moment_in (length states) q.at
IsDenied raw states inputs q Input = asked_nets raw q.name ≡ []
IsDenied raw states inputs q Open = length inputs ≤ moment_in (length states) q.at

abbrev pub denial_words : Denial → List ℕ
denial_words Moment = codes "moment"
denial_words Input = codes "input"
denial_words Open = codes "open"

abbrev pub denial_text : Denial → List ℕ
denial_text denial = line (codes "rejected " ++ denial_words denial)
