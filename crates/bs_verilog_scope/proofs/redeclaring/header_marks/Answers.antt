use Rattle.std.proofs.Common.{◌∙◌, sym, ap, inr, get_or, refl}
use Rattle.bs_lex.specs.declared.lexeme.Name.{Name}
use Rattle.bs_verilog_syntax.specs.declared.fault.VerilogFault.TheVariants.{Redeclared}
use Rattle.bs_verilog_scope.specs.Declaring.{stands_before, fault}
use Rattle.bs_verilog_scope.proofs.TableLemmas.{marks_start, marks_more, first_here, first_later, first_none, all_marked}
use Rattle.bs_verilog_scope.proofs.redeclaring.header_marks.Goals as goal

abbrev nothing : Name
nothing = record { at = 0; id = 0 }

pub names-init : goal.names-init
names-init c = (marks_start c.new-seen.result c.new-seen.ensures, refl)

pub returns-then-is_marked : goal.returns-then-is_marked
returns-then-is_marked c =
    let i = c.names.name-index in
    let here = get_or c.args.header.now i nothing in
    inr (ap (fault (λ n. Redeclared n.at))
    (first_here stands_before c.args.header.now i nothing _ c.names-test.true
    (sym (c.names.invariant.0 here.id) ∙ sym c.is_marked.ensures ∙ c.if-is_marked.true) c.names.invariant.1))

pub names-preserved : goal.names-preserved
names-preserved c =
    let i = c.names.name-index in
    let here = get_or c.args.header.now i nothing in (
      marks_more c.names.seen c.put.new.self c.args.header.now i nothing c.names-test.true c.in_ok-put.ensures c.names.invariant.0,
      first_later stands_before c.args.header.now i nothing _ c.names-test.true
          (sym (c.names.invariant.0 here.id) ∙ sym c.is_marked.ensures ∙ c.if-is_marked.false) c.names.invariant.1,
    )

pub returns : goal.returns
returns c = (
  ap (fault (λ n. Redeclared n.at)) (first_none stands_before c.args.header.now c.names.name-index _ c.names-test.false c.names.invariant.1),
  all_marked c.names.seen c.args.header.now c.names.name-index c.names-test.false c.names.invariant.0,
)
