use Rattle.std.proofs.Common.{map, ap, ◌∙◌}
use Rattle.std.proofs.lemmas.Result.{err_from_is_err_and}
use Rattle.bs_verilog_scope.specs.Checking.{marked}
use Rattle.bs_verilog_syntax.specs.Reading.{at}
use Rattle.bs_flat_meaning.specs.declared.fault.FlatFault.TheVariants.{OwnNets}
use Rattle.bs_flat_meaning.specs.Reading.{as_verilog}
use Rattle.bs_flat_modules.specs.declared.dealing.ModuleSpan.{ModuleSpan}
use Rattle.bs_flat_modules.specs.Names.{begin}
use Rattle.bs_flat_modules.specs.Owns as spec
use Rattle.bs_flat_modules.proofs.WithinLemmas.{within_own, within_fault, within_past, within_end}
use Rattle.bs_flat_modules.proofs.owns.read_owns.Goals as goal

abbrev nowhere : ModuleSpan
nowhere = record { before = 0; from = 0; body = 0; stop = 0 }

pub returns-in_err-read : goal.returns-in_err-read
returns-in_err-read c =
    let p = err_from_is_err_and c.from_residual.result c.from_residual.ensures.1 in
    rw (p.1, p.2) (within_fault (begin c.args.ts.now)
    (λ p. as_verilog (spec.said c.args.table.now (spec.own_text (marked c.args.marks.now) c.args.others.now c.args.ts.now p)))
    (map spec.module_and_parts c.modules.owns) c.modules.room c.modules.place-index c.args.modules.now nowhere _ c.modules-test.true c.in_err-read.ensures
    c.modules.invariant)

pub returns-in_err-own : goal.returns-in_err-own
returns-in_err-own c =
    let p = err_from_is_err_and c.from_residual-in_err-own.result c.from_residual-in_err-own.ensures.1 in
    rw (p.1, p.2) (within_past (begin c.args.ts.now)
    (λ p. as_verilog (spec.said c.args.table.now (spec.own_text (marked c.args.marks.now) c.args.others.now c.args.ts.now p)))
    (map spec.module_and_parts c.modules.owns) c.modules.room c.modules.place-index c.args.modules.now nowhere (spec.module_and_parts c.in_ok-read.read) _
    c.modules-test.true c.in_ok-read.ensures c.in_err-own.ensures.refused.1
    (c.in_err-own.ensures.refused.0 ∙ ap OwnNets (c.place_of-at.ensures ∙ ap at c.part.ensures)) c.modules.invariant)

pub modules-preserved : goal.modules-preserved
modules-preserved c =
    within_own (begin c.args.ts.now)
    (λ p. as_verilog (spec.said c.args.table.now (spec.own_text (marked c.args.marks.now) c.args.others.now c.args.ts.now p)))
    c.modules.owns c.push_own.new.owns c.modules.room c.len-room.result c.modules.place-index c.args.modules.now nowhere c.in_ok-read.read c.in_ok-own.own
    c.modules-test.true c.in_ok-read.ensures c.in_ok-own.ensures.fits.0 c.in_ok-own.ensures.fits.1 c.in_ok-push_own.ensures.ok c.len-room.ensures
    c.modules.invariant

pub returns : goal.returns
returns c =
    within_end (begin c.args.ts.now) (λ p. as_verilog (spec.said c.args.table.now (spec.own_text (marked c.args.marks.now) c.args.others.now c.args.ts.now p)))
    (map spec.module_and_parts c.modules.owns) c.modules.room c.modules.place-index c.args.modules.now c.modules-test.false c.modules.invariant
