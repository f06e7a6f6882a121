use Rattle.std.proofs.Common.{◌<◌, sym, subst, take, get_or, arith}
use Rattle.std.specs.Prelude.{All}
use Rattle.bs_solve_lemmas.proofs.Rising.{none_go, all_stay}
use Rattle.bs_solve_lemmas.proofs.ids.take_out.Goals.{then-gone-eq0, else-gone-eq0}
use Rattle.bs_solve_lemmas.proofs.ids.take_out.Goals as goal

pub take_out_from-requires-clause-stay : goal.take_out_from-requires-clause-stay
take_out_from-requires-clause-stay c = elim c.if-gone-eq0.branch [
  | then-gone-eq0 w ↦ none_go (take c.if-gone-eq0.from c.args.ids.now.items) c.args.gone.now w.if-gone-eq0.true
  | else-gone-eq0 w ↦ all_stay (take c.if-gone-eq0.from c.args.ids.now.items) c.args.gone.now 0 c.requires.gone (omega (arith, w.if-gone-eq0.false))
      (subst (λ n. All (λ d. d < get_or c.args.gone.now 0 0) (take n c.args.ids.now.items)) (sym w.from-is)
      (subst (λ xs. All (λ d. d < get_or c.args.gone.now 0 0) (take w.place_of_least-from.result xs)) w.as_slice.ensures.value
      w.place_of_least-from.ensures.less))
]
