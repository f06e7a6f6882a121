use Rattle.std.proofs.Common.{◌≡◌, Ok, Err, ap, sym, subst, ◌∙◌, length, map, arith}
use Rattle.std.proofs.lemmas.List.{length-map}
use Rattle.bs_flat_meaning.specs.declared.fault.FlatFault.{FlatFault}
use Rattle.bs_flat_meaning.specs.ModuleNumbers.{numbers_of as numbers_in}
use Rattle.bs_flat_connect.specs.Connecting.{ConnectsTo}
use Rattle.bs_flat_connect.proofs.MakeLemmas.{connects_to, lengths_same, are_there}
use Rattle.bs_flat_connect.proofs.making.connect.Goals as goal

pub connected-requires-clause-each : goal.connected-requires-clause-each
connected-requires-clause-each c = ap (map length) c.requires.below ∙ lengths_same c.args.ids.now c.args.modules.written

pub returns-in-Ok-clause-blocks : goal.returns-in-Ok-clause-blocks
returns-in-Ok-clause-blocks c =
    connects_to c.args.table.now c.args.ids.now c.args.below.now c.args.modules (Ok c.in-Ok.blocks) c.requires.below c.in-Ok.ensures.connects

pub returns-in-Ok-clause-placed : goal.returns-in-Ok-clause-placed
returns-in-Ok-clause-placed c =
    let wide = ap length c.requires.below in
    let long : length c.args.below.now ≡ length c.args.modules.owns =
    omega (arith, wide, length-map c.args.modules.written (numbers_in c.args.ids.now), c.requires.each) in
    are_there c.in-Ok.blocks c.args.below.now (length c.args.modules.owns) c.in-Ok.ensures.numbers c.requires.there long

pub returns-clause-blocks : goal.returns-clause-blocks
returns-clause-blocks c =
    subst (λ (f : FlatFault). ConnectsTo c.args.table.now c.args.ids.now c.args.modules (Err f)) (sym c.fault_of.ensures)
    (connects_to c.args.table.now c.args.ids.now c.args.below.now c.args.modules (Err c.in-Err.fault) c.requires.below c.in-Err.ensures.connects)
