use Rattle.std.proofs.Common.{ℕ, arith, refl, subst}
use Rattle.bs_chip.specs.Index.{IsPaid, NotesCycles}
use Rattle.bs_chip.proofs.IndexLemmas.{cycles_keep, cycles_more, paid_more}
use Rattle.bs_chip.proofs.index.grow.Goals as goal

pub returns-in_err-note-clause-notes : goal.returns-in_err-note-clause-notes
returns-in_err-note-clause-notes c =
    cycles_keep c.args.pass.now.circuit c.args.pass.now.runs c.cycles.index.first c.note.new.first c.cycles.index.cycles c.in_err-note.ensures.keeps
    c.cycles.invariant.notes

pub cycles-preserved : goal.cycles-preserved
cycles-preserved c =
    let p = c.args.pass.now in
    record {
      at = refl;
      firsts = c.in_ok-note.ensures.firsts;
      bound = omega arith;
      notes =
          cycles_more p.circuit p.runs c.cycles.index.first c.note.new.first c.cycles.at c.in_ok-note.ensures.keeps c.in_ok-note.ensures.notes
          (subst (λ (n : ℕ). NotesCycles p.circuit p.runs c.cycles.index.first n) c.cycles.invariant.at c.cycles.invariant.notes);
      paid =
          paid_more c.price-price.result c.args.credit.now c.cycles.credit c.args.index.now.cycles c.cycles.at (omega (arith, c.if-credit-price.false))
          (subst (λ (n : ℕ). IsPaid c.price-price.result c.args.credit.now c.cycles.credit c.args.index.now.cycles n) c.cycles.invariant.at
          c.cycles.invariant.paid);
    }
