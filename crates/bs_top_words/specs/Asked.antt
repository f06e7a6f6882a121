-- Words of the code as the definitions see them.
use Rattle.std.specs.Prelude.{map, Option, Some, None}
use Rattle.bs_top_words.specs.declared.given.Setting.{Setting as CodeSetting}
use Rattle.bs_top_words.specs.declared.given.Given.{Given as CodeGiven}
use Rattle.bs_top_words.specs.declared.given.Progress.{Progress as CodeTaken}
use Rattle.bs_top_words.specs.Given.{Setting, Given, Progress}

abbrev pub setting_of : CodeSetting → Setting
setting_of s = record { flag = s.flag; value = s.value.now }

abbrev pub shown_setting : Option CodeSetting → Option Setting
shown_setting None = None
shown_setting (Some s) = Some (setting_of s)

abbrev pub given_in : CodeGiven → Given
given_in g = record { positions = map (λ s. s.now) g.positions.items; settings = map setting_of g.settings.items }

abbrev pub progress_in : CodeTaken → Progress
progress_in t = record { awaited = t.awaited; given = given_in t.given }

abbrev pub shown : Option CodeGiven → Option Given
shown None = None
shown (Some g) = Some (given_in g)
