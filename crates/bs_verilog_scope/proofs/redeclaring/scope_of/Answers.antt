use Rattle.std.proofs.Common.{◌∙◌, sym, ap, inr, get_or, refl, Some, None}
use Rattle.bs_verilog_syntax.specs.declared.tree.Declared.{Declared}
use Rattle.bs_verilog_syntax.specs.declared.fault.VerilogFault.TheVariants.{Redeclared}
use Rattle.bs_verilog_scope.specs.Declaring.{is_redeclared, clashes, together, fault}
use Rattle.bs_verilog_scope.proofs.TableLemmas.{scope_start, said_more, first_here, first_later, first_none, all_said}
use Rattle.bs_verilog_scope.proofs.redeclaring.scope_of.Goals as goal

abbrev nothing : Declared
nothing = record { says = record { direction = None; net = None; range = None }; name = record { at = 0; id = 0 } }

pub declared-init : goal.declared-init
declared-init c = (scope_start c.new-scope.result c.new-scope.ensures, refl)

pub returns-then-clashes : goal.returns-then-clashes
returns-then-clashes c =
    let i = c.declared.d-index in
    let here = get_or c.args.declared.now i nothing in
    let before = sym (c.declared.invariant.0 here.name.id) ∙ sym c.entry-before.ensures in
    inr (ap (fault (λ d. Redeclared d.name.at))
    (first_here is_redeclared c.args.declared.now i nothing _ c.declared-test.true
    (ap (λ s. clashes s here.says) before ∙ sym c.clashes.ensures ∙ c.if-clashes.true) c.declared.invariant.1))

pub declared-preserved : goal.declared-preserved
declared-preserved c =
    let i = c.declared.d-index in
    let here = get_or c.args.declared.now i nothing in
    let entry = c.entry-before.ensures in
    let before = sym (c.declared.invariant.0 here.name.id) ∙ sym entry in (
      said_more c.declared.scope c.put.new.self c.args.declared.now i nothing _ c.declared-test.true c.in_ok-put.ensures c.declared.invariant.0
          (c.together.ensures ∙ ap (λ s. together s (Some here.says)) entry),
      first_later is_redeclared c.args.declared.now i nothing _ c.declared-test.true
          (ap (λ s. clashes s here.says) before ∙ sym c.clashes.ensures ∙ c.if-clashes.false) c.declared.invariant.1,
    )

pub returns : goal.returns
returns c = (
  ap (fault (λ d. Redeclared d.name.at)) (first_none is_redeclared c.args.declared.now c.declared.d-index _ c.declared-test.false c.declared.invariant.1),
  all_said c.declared.scope c.args.declared.now c.declared.d-index c.declared-test.false c.declared.invariant.0,
)
