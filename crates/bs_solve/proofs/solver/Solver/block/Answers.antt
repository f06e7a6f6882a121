use Rattle.std.proofs.Common.{◌≡◌, ◌∷◌, [], ap, ◌∙◌, sym, subst, refl, arith, false}
use Rattle.std.specs.Prelude.{All}
use Rattle.bs_log.specs.Refusal.{has_distinct_variables, is_block_of}
use Rattle.bs_log.specs.History.{step_of}
use Rattle.bs_log.specs.LineForms.{HasVariable}
use Rattle.bs_clause.specs.Range.{HasVariables}
use Rattle.bs_solve_lemmas.specs.declared.stage.Stage.TheVariants.{Blocked}
use Rattle.bs_solve_lemmas.specs.Solver.{SolverState}
use Rattle.bs_solve_lemmas.proofs.Solving.{solved_inside, activation_is_new, block_distinct, block_fits, block_range, ready_blocked, has_blocked}
use Rattle.bs_solve_lemmas.proofs.Searching.{have_variables}
use Rattle.bs_solve_lemmas.specs.Search.{assumed}
use Rattle.bs_solve.specs.Blocking.{HasHeld}
use Rattle.bs_log.specs.declared.origin.Origin.TheVariants.{Blocked as FromBlock}
use Rattle.bs_solve_lemmas.specs.ProofLog.{ProofLog}
use Rattle.bs_solve.proofs.Entries.{stands_grown}
use Rattle.bs_solve.specs.Pausing.{IsGrounded}
use Rattle.bs_solve.proofs.Engines.{engine_more, kept_grounded, block_of_step}
use Rattle.bs_solve.proofs.Startings.{watch_vars, left_kept, whole_blocked, solved_now}
use Rattle.bs_solve.proofs.solver.Solver.block.Goals as goal

pub new-requires : goal.new-requires
new-requires c =
    let inside : SolverState = record { proof = c.self.inside.proof; vars = c.self.inside.vars; stage = c.self.inside.stage; failed = c.self.inside.failed } in
    let searched = solved_inside inside _ c.self.view_is c.self.invariant.whole.ready c.if-self.false c.requires.stage in
    let new = activation_is_new c.self.inside.proof c.self.inside.vars searched.inside in
    (omega (arith, new), c.self.invariant.whole.ready.bound)

pub add_between-requires-clause-kept : goal.add_between-requires-clause-kept
add_between-requires-clause-kept c = (
  c.self.inside.proof,
  left_kept c.self.inside.stage c.self.inside.proof c.self.inside.watch c.self.inside.arena.clauses c.self.inside.database
      (c.self.invariant.whole.left c.if-self.false),
)

pub add_between-requires-clause-range : goal.add_between-requires-clause-range
add_between-requires-clause-range c =
    let inside : SolverState = record { proof = c.self.inside.proof; vars = c.self.inside.vars; stage = c.self.inside.stage; failed = c.self.inside.failed } in
    let searched = solved_inside inside _ c.self.view_is c.self.invariant.whole.ready c.if-self.false c.requires.stage in
    let range : HasVariables c.self.inside.proof.problem.vars c.args.lits.now =
    subst (λ (s : SolverState). HasVariables s.proof.problem.vars c.args.lits.now) (sym c.self.view_is) c.requires.range in
    let above = activation_is_new c.self.inside.proof c.self.inside.vars searched.inside in
    let clause_is : c.in_ok-clause.clause ≡ record { variable = c.self.inside.vars; positive = false } ∷ c.args.lits.now =
    c.in_ok-clause.ensures ∙ ap (λ l. l ∷ c.slice.result.now) c.new.ensures ∙
    ap (λ xs. record { variable = c.self.inside.vars; positive = false } ∷ xs) c.slice.ensures in
    let vars = watch_vars inside c.self.inside.watch c.self.inside.arena.clauses c.self.inside.database c.self.inside.marks c.self.invariant.whole c.if-self.false
    (solved_now inside _ c.self.view_is c.if-self.false c.requires.stage) in
    subst (HasVariables c.self.inside.watch.trail.vars) (sym (c.slice-2.ensures ∙ clause_is))
    (subst (λ n. HasVariables n (record { variable = c.self.inside.vars; positive = false } ∷ c.args.lits.now)) (sym vars)
    (block_range c.self.inside.proof.problem.vars c.self.inside.vars c.args.lits.now above range))

pub add_between-requires-clause-ground : goal.add_between-requires-clause-ground
add_between-requires-clause-ground c =
    let inside : SolverState = record { proof = c.self.inside.proof; vars = c.self.inside.vars; stage = c.self.inside.stage; failed = c.self.inside.failed } in
    let searched = solved_inside inside _ c.self.view_is c.self.invariant.whole.ready c.if-self.false c.requires.stage in
    let range : HasVariables c.self.inside.proof.problem.vars c.args.lits.now =
    subst (λ (s : SolverState). HasVariables s.proof.problem.vars c.args.lits.now) (sym c.self.view_is) c.requires.range in
    let clause_is : c.in_ok-clause.clause ≡ record { variable = c.self.inside.vars; positive = false } ∷ c.args.lits.now =
    c.in_ok-clause.ensures ∙ ap (λ l. l ∷ c.slice.result.now) c.new.ensures ∙
    ap (λ xs. record { variable = c.self.inside.vars; positive = false } ∷ xs) c.slice.ensures in
    subst (IsGrounded c.self.inside.watch) (sym (c.slice-2.ensures ∙ clause_is))
    (kept_grounded c.self.inside.proof c.self.inside.vars c.self.inside.watch c.self.inside.arena.clauses c.self.inside.database
    (record { variable = c.self.inside.vars; positive = false } ∷ c.args.lits.now)
    (left_kept c.self.inside.stage c.self.inside.proof c.self.inside.watch c.self.inside.arena.clauses c.self.inside.database
    (c.self.invariant.whole.left c.if-self.false)) searched.inside.vars_is
    (block_of_step c.self.inside.proof c.self.inside.vars c.args.lits.now range))

pub add_between-requires-clause-distinct : goal.add_between-requires-clause-distinct
add_between-requires-clause-distinct c =
    let inside : SolverState = record { proof = c.self.inside.proof; vars = c.self.inside.vars; stage = c.self.inside.stage; failed = c.self.inside.failed } in
    let searched = solved_inside inside _ c.self.view_is c.self.invariant.whole.ready c.if-self.false c.requires.stage in
    let range : HasVariables c.self.inside.proof.problem.vars c.args.lits.now =
    subst (λ (s : SolverState). HasVariables s.proof.problem.vars c.args.lits.now) (sym c.self.view_is) c.requires.range in
    let above = activation_is_new c.self.inside.proof c.self.inside.vars searched.inside in
    let clause_is : c.in_ok-clause.clause ≡ record { variable = c.self.inside.vars; positive = false } ∷ c.args.lits.now =
    c.in_ok-clause.ensures ∙ ap (λ l. l ∷ c.slice.result.now) c.new.ensures ∙
    ap (λ xs. record { variable = c.self.inside.vars; positive = false } ∷ xs) c.slice.ensures in
    ap has_distinct_variables (c.slice-2.ensures ∙ clause_is) ∙
    block_distinct c.self.inside.proof.problem.vars c.self.inside.vars c.args.lits.now above range c.requires.distinct

pub log_block-requires-clause-distinct : goal.log_block-requires-clause-distinct
log_block-requires-clause-distinct c =
    let inside : SolverState = record { proof = c.self.inside.proof; vars = c.self.inside.vars; stage = c.self.inside.stage; failed = c.self.inside.failed } in
    let searched = solved_inside inside _ c.self.view_is c.self.invariant.whole.ready c.if-self.false c.requires.stage in
    let range : HasVariables c.self.inside.proof.problem.vars c.args.lits.now =
    subst (λ (s : SolverState). HasVariables s.proof.problem.vars c.args.lits.now) (sym c.self.view_is) c.requires.range in
    let above = activation_is_new c.self.inside.proof c.self.inside.vars searched.inside in
    let clause_is : c.in_ok-clause.clause ≡ record { variable = c.self.inside.vars; positive = false } ∷ c.args.lits.now =
    c.in_ok-clause.ensures ∙ ap (λ l. l ∷ c.slice.result.now) c.new.ensures ∙
    ap (λ xs. record { variable = c.self.inside.vars; positive = false } ∷ xs) c.slice.ensures in
    ap has_distinct_variables clause_is ∙
    block_distinct c.self.inside.proof.problem.vars c.self.inside.vars c.args.lits.now above range c.requires.distinct

pub log_block-requires-clause-range : goal.log_block-requires-clause-range
log_block-requires-clause-range c =
    let inside : SolverState = record { proof = c.self.inside.proof; vars = c.self.inside.vars; stage = c.self.inside.stage; failed = c.self.inside.failed } in
    let searched = solved_inside inside _ c.self.view_is c.self.invariant.whole.ready c.if-self.false c.requires.stage in
    let range : HasVariables c.self.inside.proof.problem.vars c.args.lits.now =
    subst (λ (s : SolverState). HasVariables s.proof.problem.vars c.args.lits.now) (sym c.self.view_is) c.requires.range in
    let above = activation_is_new c.self.inside.proof c.self.inside.vars searched.inside in
    let clause_is : c.in_ok-clause.clause ≡ record { variable = c.self.inside.vars; positive = false } ∷ c.args.lits.now =
    c.in_ok-clause.ensures ∙ ap (λ l. l ∷ c.slice.result.now) c.new.ensures ∙
    ap (λ xs. record { variable = c.self.inside.vars; positive = false } ∷ xs) c.slice.ensures in
    subst (All HasVariable) (sym clause_is)
    (have_variables c.self.inside.vars (record { variable = c.self.inside.vars; positive = false } ∷ c.args.lits.now) c.self.invariant.whole.ready.bound
    (block_range c.self.inside.proof.problem.vars c.self.inside.vars c.args.lits.now above range))

pub log_block-requires-clause-phase : goal.log_block-requires-clause-phase
log_block-requires-clause-phase c =
    let inside : SolverState = record { proof = c.self.inside.proof; vars = c.self.inside.vars; stage = c.self.inside.stage; failed = c.self.inside.failed } in
    let searched = solved_inside inside _ c.self.view_is c.self.invariant.whole.ready c.if-self.false c.requires.stage in
    searched.phase

pub log_block-requires-clause-block : goal.log_block-requires-clause-block
log_block-requires-clause-block c =
    let inside : SolverState = record { proof = c.self.inside.proof; vars = c.self.inside.vars; stage = c.self.inside.stage; failed = c.self.inside.failed } in
    let searched = solved_inside inside _ c.self.view_is c.self.invariant.whole.ready c.if-self.false c.requires.stage in
    let range : HasVariables c.self.inside.proof.problem.vars c.args.lits.now =
    subst (λ (s : SolverState). HasVariables s.proof.problem.vars c.args.lits.now) (sym c.self.view_is) c.requires.range in
    let above = activation_is_new c.self.inside.proof c.self.inside.vars searched.inside in
    let clause_is : c.in_ok-clause.clause ≡ record { variable = c.self.inside.vars; positive = false } ∷ c.args.lits.now =
    c.in_ok-clause.ensures ∙ ap (λ l. l ∷ c.slice.result.now) c.new.ensures ∙
    ap (λ xs. record { variable = c.self.inside.vars; positive = false } ∷ xs) c.slice.ensures in
    ap (is_block_of c.self.inside.proof.problem (step_of c.self.inside.proof.history)) clause_is ∙
    block_fits c.self.inside.proof c.self.inside.vars c.args.lits.now searched.inside range

pub invariant_of-self-2 : goal.invariant_of-self-2
invariant_of-self-2 c =
    let inside : SolverState = record { proof = c.self.inside.proof; vars = c.self.inside.vars; stage = c.self.inside.stage; failed = c.self.inside.failed } in
    let searched = solved_inside inside _ c.self.view_is c.self.invariant.whole.ready c.if-self.false c.requires.stage in
    let range : HasVariables c.self.inside.proof.problem.vars c.args.lits.now =
    subst (λ (s : SolverState). HasVariables s.proof.problem.vars c.args.lits.now) (sym c.self.view_is) c.requires.range in
    let above = activation_is_new c.self.inside.proof c.self.inside.vars searched.inside in
    let clause_is : c.in_ok-clause.clause ≡ record { variable = c.self.inside.vars; positive = false } ∷ c.args.lits.now =
    c.in_ok-clause.ensures ∙ ap (λ l. l ∷ c.slice.result.now) c.new.ensures ∙
    ap (λ xs. record { variable = c.self.inside.vars; positive = false } ∷ xs) c.slice.ensures in
    let stands = stands_grown c.self.inside.proof c.log_block.new.self
    (record { id = c.in_ok-id.id; origin = FromBlock; literals = c.in_ok-clause.clause }) c.in_ok-id.ensures.stands in
    engine_more inside c.log_block.new.self Blocked c.self.inside.watch c.add_between.new.watch c.self.inside.arena c.add_between.new.arena
    c.self.inside.database c.add_between.new.database c.self.inside.marks c.self.inside.marks c.self.inside.own c.self.inside.known
    (record { id = c.in_ok-id.id; origin = FromBlock; literals = c.in_ok-clause.clause } ∷ []) c.self.invariant c.if-self.false refl
    (ap (λ (b : ProofLog). b.problem.vars) c.in_ok-id.ensures.line) (ap (λ (b : ProofLog). b.problem.clauses) c.in_ok-id.ensures.line) c.in_ok-id.ensures.stands
    (whole_blocked inside c.log_block.new.self c.self.inside.watch c.add_between.new.watch c.self.inside.arena.clauses
    c.add_between.new.arena.clauses c.self.inside.database c.add_between.new.database c.self.inside.marks c.in_ok-next.next c.in_ok-id.id c.in_ok-clause.clause
    c.self.invariant.whole c.if-self.false (solved_now inside _ c.self.view_is c.if-self.false c.requires.stage)
    (subst (HasHeld c.self.inside.watch c.add_between.new.watch c.self.inside.arena.clauses c.add_between.new.arena.clauses
    c.self.inside.database c.add_between.new.database c.in_ok-next.next) c.slice-2.ensures c.in_ok-add_between.ensures)
    c.in_ok-next.ensures.fresh (c.in_ok-next.ensures.id ∙ sym c.in_ok-id.ensures.id) c.in_ok-id.ensures.stands (ap assumed c.in_ok-id.ensures.line)
    (ready_blocked c.self.inside.proof c.log_block.new.self c.self.inside.vars c.in_ok-id.id c.in_ok-clause.clause c.self.invariant.whole.ready.bound searched
    (c.self.invariant.whole.ready.range c.if-self.false) (c.self.invariant.whole.ready.distinct c.if-self.false)
    (c.self.invariant.whole.ready.leaves c.if-self.false) c.in_ok-id.ensures.line stands
    (subst (HasVariables c.self.inside.vars) (sym clause_is) (block_range c.self.inside.proof.problem.vars c.self.inside.vars c.args.lits.now above range))
    (ap has_distinct_variables clause_is ∙
    block_distinct c.self.inside.proof.problem.vars c.self.inside.vars c.args.lits.now above range c.requires.distinct)))

pub returns-clause-ok : goal.returns-clause-ok
returns-clause-ok c =
    let inside : SolverState = record { proof = c.self.inside.proof; vars = c.self.inside.vars; stage = c.self.inside.stage; failed = c.self.inside.failed } in
    let searched = solved_inside inside _ c.self.view_is c.self.invariant.whole.ready c.if-self.false c.requires.stage in
    let clause_is : c.in_ok-clause.clause ≡ record { variable = c.self.inside.vars; positive = false } ∷ c.args.lits.now =
    c.in_ok-clause.ensures ∙ ap (λ l. l ∷ c.slice.result.now) c.new.ensures ∙
    ap (λ xs. record { variable = c.self.inside.vars; positive = false } ∷ xs) c.slice.ensures in
    has_blocked inside c.args.self.now c.log_block.new.self c.args.lits.now c.in_ok-clause.clause c.in_ok-id.id c.self.view_is c.if-self.false
    searched.inside clause_is c.in_ok-id.ensures.id c.in_ok-id.ensures.line
    (stands_grown c.self.inside.proof c.log_block.new.self (record { id = c.in_ok-id.id; origin = FromBlock; literals = c.in_ok-clause.clause })
    c.in_ok-id.ensures.stands)
