use Rattle.std.proofs.Common.{◌∙◌, ap}
use Rattle.bs_verilog_syntax.specs.Reading.{at}
use Rattle.bs_flat_modules.specs.declared.dealing.ModuleSpan.{ModuleSpan}
use Rattle.bs_flat_modules.proofs.NameLemmas.{rise_on, rise_fault, rise_end}
use Rattle.bs_flat_modules.proofs.names.are_rising.Goals as goal

abbrev nowhere : ModuleSpan
nowhere = record { before = 0; from = 0; body = 0; stop = 0 }

pub returns-then-at-least : goal.returns-then-at-least
returns-then-at-least c =
    rise_fault c.args.ts.now c.modules.least c.place_of-at.result c.args.modules.now c.modules.place-index nowhere _ c.modules-test.true
    (c.place_of-at.ensures ∙ ap at c.part.ensures) c.if-at-least.true c.modules.invariant

pub modules-preserved : goal.modules-preserved
modules-preserved c =
    rise_on c.args.ts.now c.modules.least c.place_of-at.result c.args.modules.now c.modules.place-index nowhere _ c.modules-test.true
    (c.place_of-at.ensures ∙ ap at c.part.ensures) c.if-at-least.false c.modules.invariant

pub returns : goal.returns
returns c = rise_end c.args.ts.now c.modules.least c.args.modules.now c.modules.place-index _ c.modules-test.false c.modules.invariant
