-- The name of a signal as RTL writes it (docs/FORMATS.md, "Keys").
use Rattle.std.specs.Prelude.{ℕ, List, ◌++◌, length}
use Rattle.bs_net_names.specs.Naming.{plain}
use Rattle.bs_net_names.specs.Ranges.{range_text}
use Rattle.bs_inspect_view.specs.Signals.{Signal}

-- the name of a signal: without the `\` of an escaped one, and with the numbers of its bits behind it
abbrev pub rtl_text : Signal → List ℕ
rtl_text s = plain s.base ++ range_text s.high (length s.places)
