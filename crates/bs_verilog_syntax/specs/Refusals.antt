-- The words by which a refusal names what is left out (docs/FORMATS.md, "What is left out").
use Rattle.std.specs.Prelude.{ℕ, List, codes}
use Rattle.bs_verilog_syntax.specs.declared.fault.What.{What}
use Rattle.bs_verilog_syntax.specs.declared.fault.What.TheVariants as what

abbrev pub what_word : What → List ℕ
what_word what.Behaviour = codes "Behaviour"
what_word what.Parameter = codes "Parameter"
what_word what.NetType = codes "NetType"
what_word what.Primitive = codes "Primitive"
what_word what.Direction = codes "Direction"
what_word what.Strength = codes "Strength"
what_word what.Array = codes "Array"
what_word what.Expression = codes "Expression"
what_word what.Width = codes "Width"
what_word what.Constant = codes "Constant"
what_word what.Directive = codes "Directive"
what_word what.Hierarchy = codes "Hierarchy"
