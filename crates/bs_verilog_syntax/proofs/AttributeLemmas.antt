-- Attributes, lexeme by lexeme.
use Rattle.std.proofs.Common.{◌≡◌, ◌<◌, Bool, [], ◌∷◌, length, Ok, Err, refl, sym, ap, ◌∙◌, arith}
use Rattle.bs_lex.specs.declared.lexeme.Sort.{Sort}
use Rattle.bs_verilog_syntax.specs.declared.reading.AttributeStep.TheVariants.{On, Over, Unclosed}
use Rattle.bs_verilog_syntax.specs.declared.fault.VerilogFault.TheVariants.{Syntax}
use Rattle.bs_verilog_syntax.specs.Reading.{Rest, Skip, at, sort, rest}
use Rattle.bs_verilog_syntax.specs.Terms.{attribute_step, attributes_from}

pub over : (inside : Bool) (ts : Rest) (s : Sort) (total : Skip) → 0 < length ts → s ≡ sort ts → Over ≡ attribute_step inside s →
    attributes_from inside ts ≡ total
    → total ≡ Ok ts
unfolding attributes_from
over inside [] s total some is e so_far = absurd (omega arith)
over inside (t ∷ ts) s total some is e so_far = let step_is = e ∙ ap (attribute_step inside) is in sym so_far ∙ rw (attributes_from, ← step_is) refl

pub unclosed : (inside : Bool) (ts : Rest) (s : Sort) (total : Skip) → 0 < length ts → s ≡ sort ts → Unclosed ≡ attribute_step inside s
    → attributes_from inside ts ≡ total → total ≡ Err (Syntax (at ts))
unfolding attributes_from
unclosed inside [] s total some is e so_far = absurd (omega arith)
unclosed inside (t ∷ ts) s total some is e so_far = let step_is = e ∙ ap (attribute_step inside) is in sym so_far ∙ rw (attributes_from, ← step_is) refl

pub on : (inside next : Bool) (ts : Rest) (s : Sort) (total : Skip) → 0 < length ts → s ≡ sort ts → On next ≡ attribute_step inside s
    → attributes_from inside ts ≡ total → attributes_from next (rest ts) ≡ total
unfolding attributes_from
on inside next [] s total some is e so_far = absurd (omega arith)
on inside next (t ∷ ts) s total some is e so_far =
    let step_is = e ∙ ap (attribute_step inside) is in
    let step : attributes_from inside (t ∷ ts) ≡ attributes_from next ts = rw (attributes_from, ← step_is) refl in
    sym step ∙ so_far

pub ended : (inside : Bool) (ts : Rest) (total : Skip) → length ts ≡ 0 → attributes_from inside ts ≡ total → total ≡ Ok ts
unfolding attributes_from
ended inside [] total none so_far = sym so_far
ended inside (t ∷ ts) total none so_far = absurd (omega arith)
