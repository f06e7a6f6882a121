use Rattle.bs_flat_modules.specs.declared.dealing.ModuleSpan.{ModuleSpan}
use Rattle.bs_flat_modules.proofs.NameLemmas.{heads_more, heads_all}
use Rattle.bs_flat_modules.proofs.names.heads.Goals as goal

abbrev nowhere : ModuleSpan
nowhere = record { before = 0; from = 0; body = 0; stop = 0 }

pub modules-preserved : goal.modules-preserved
modules-preserved c =
    heads_more c.args.ts.now c.args.modules.now c.modules.place-index nowhere _ c.modules.names _ c.modules-test.true c.part.ensures
    c.in_ok-add_head.ensures c.modules.invariant

pub returns : goal.returns
returns c = heads_all c.args.ts.now c.args.modules.now c.modules.place-index c.modules.names c.modules-test.false c.modules.invariant
