use Rattle.std.proofs.Common.{subst, List}
use Rattle.bs_flat_modules.specs.declared.dealing.ModuleSpan.{ModuleSpan}
use Rattle.bs_flat_modules.specs.Alone.{AlikeWhere}
use Rattle.bs_verilog_syntax.specs.Reading.{Rest}
use Rattle.std.proofs.Common.{sym}
use Rattle.bs_flat_modules.proofs.TidyLemmas.{alike_where}
use Rattle.bs_flat_modules.proofs.reading.read_all.Goals as goal

pub read_owns-requires : goal.read_owns-requires
read_owns-requires c =
    let d = c.args.dealt.now in
    subst (λ (os : Rest). AlikeWhere c.in-Ok.tidy os c.slice-modules.result.now) (sym c.slice.ensures)
    (subst (λ (ms : List ModuleSpan). AlikeWhere c.in-Ok.tidy d.others ms) (sym c.slice-modules.ensures)
    (alike_where c.args.ts.now d c.in-Ok.tidy c.requires c.in-Ok.ensures))
