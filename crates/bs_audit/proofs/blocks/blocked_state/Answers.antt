use Rattle.std.proofs.Common.{◌∙◌, sym}
use Rattle.std.proofs.lemmas.Bool.{true≢false}
use Rattle.bs_audit.proofs.BlockLemmas.{none_variables, blocks_state}
use Rattle.bs_audit.proofs.blocks.blocked_state.Goals as goal

pub returns-then-not-are_of_state : goal.returns-then-not-are_of_state
returns-then-not-are_of_state c =
    none_variables c.args.encoding.now c.args.activation c.in-Some.first.now c.in-Some.rest.now c.args.clause.now c.in-Some.ensures.cases.0
    (λ e. true≢false (sym (c.are_of_state.ensures.1 e) ∙ c.if-not-are_of_state.true))

pub returns-in_ok-denied-in-Some : goal.returns-in_ok-denied-in-Some
returns-in_ok-denied-in-Some c =
    blocks_state c.args.encoding.now c.args.activation c.in-Some.first.now c.in-Some.rest.now c.args.clause.now c.in_ok-denied-in-Some.field-0
    c.in-Some.ensures.cases.0
    (c.is_same.ensures.same.0 c.if-not-is_same.false ∙ c.negate.ensures) (c.are_of_state.ensures.0 c.if-not-are_of_state.false) c.in_ok-denied-in-Some.ensures
