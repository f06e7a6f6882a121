use Rattle.std.proofs.Common.{subst, Option, Some}
use Rattle.bs_verilog_scope.specs.Checking.{marked}
use Rattle.bs_flat_modules.specs.declared.owns.Own.{Own}
use Rattle.bs_flat_modules.specs.Owns.{module_and_parts}
use Rattle.bs_flat_modules.specs.Alone.{IsSaidWhere, own_alone}
use Rattle.bs_flat_modules.proofs.TidyLemmas.{said_alone_is}
use Rattle.bs_flat_modules.proofs.owns.own_said.Goals as goal

pub returns-in-Some : goal.returns-in-Some
returns-in-Some c =
    let marks = marked c.args.marks.now in
    let s : IsSaidWhere c.args.tidy c.args.table.now (own_alone marks c.args.ts.now c.args.place) (Some c.in-Some.own) =
    subst (λ (o : Option Own). IsSaidWhere c.args.tidy c.args.table.now (own_alone marks c.args.ts.now c.args.place) o) c.in-Some.is c.in_ok-own.ensures in
    said_alone_is c.args.table.now marks c.args.others.now c.args.ts.now c.args.place (module_and_parts c.in-Some.own) (c.requires.is s.0) s.1.0 s.1.1
