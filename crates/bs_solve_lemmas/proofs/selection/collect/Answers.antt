use Rattle.std.proofs.Common.{◌≡◌, ◌+◌, ◌++◌, ◌∷◌, [], not, cond, suc, length, take, refl, sym, ap, subst, ◌∙◌, arith}
use Rattle.std.specs.Prelude.{slice_get, count_by}
use Rattle.std.proofs.Common.{Some}
use Rattle.std.specs.List.{filter}
use Rattle.std.proofs.lemmas.List.{append-nil}
use Rattle.std.proofs.lemmas.Option.{slice_get_read}
use Rattle.bs_solve_lemmas.specs.declared.selection.Leaving.{Leaving}
use Rattle.bs_solve_lemmas.specs.Keeping.{is_long_row, goes}
use Rattle.bs_solve_lemmas.specs.Notes.{IsNoted}
use Rattle.bs_solve_lemmas.proofs.Rules.{stays_by_place, filter_push, count_push, noted_push, noted_same}
use Rattle.bs_solve_lemmas.proofs.selection.collect.Goals.{then-has_to_go+in_ok-note, else-has_to_go}
use Rattle.bs_solve_lemmas.proofs.selection.collect.Goals as goal

pub loop-place-preserved : goal.loop-place-preserved
loop-place-preserved c =
    let own = c.args.activations.own in
    let steps = c.args.activations.steps in
    let clauses = c.args.arena.now.clauses in
    let rows = c.args.rows.now in
    let k = c.loop-place.place in
    let row = c.index-rows-place.result in
    let at : slice_get rows k ≡ Some row = slice_get_read rows (length rows) k row refl c.loop-place-test.true c.index-rows-place.is in
    let rule : goes own steps clauses rows row ≡ c.has_to_go.result =
    ap not (stays_by_place own steps clauses rows k row c.args.many c.loop-place.seen c.requires.ascends at c.requires.many c.loop-place.invariant.seen) ∙
    sym c.has_to_go.ensures.goes in
    let step : suc k ≡ k + 1 = omega arith in
    let more : filter (goes own steps clauses rows) (take (k + 1) rows) ≡
    filter (goes own steps clauses rows) (take k rows) ++ cond (c.has_to_go.result) (row ∷ []) [] =
    ap (λ n. filter (goes own steps clauses rows) (take n rows)) (sym step) ∙ filter_push (goes own steps clauses rows) rows k row at ∙
    ap (λ b. filter (goes own steps clauses rows) (take k rows) ++ cond b (row ∷ []) []) rule in
    record {
      noted = elim c.if-has_to_go.branch [
        | then-has_to_go+in_ok-note w ↦
            subst (λ (f : Leaving). IsNoted clauses (filter (goes own steps clauses rows) (take (k + 1) rows)) f.ids f.clauses.items f.watched.items)
            (sym w.found-is)
            (noted_same clauses (filter (goes own steps clauses rows) (take k rows) ++ row ∷ []) (filter (goes own steps clauses rows) (take (k + 1) rows))
            (c.loop-place.found.ids ++ row.id ∷ []) w.note.new.leaving.ids
            (c.loop-place.found.clauses.items ++ row.clause ∷ []) w.note.new.leaving.clauses.items
            _ w.note.new.leaving.watched.items
            (more ∙ ap (λ b. filter (goes own steps clauses rows) (take k rows) ++ cond b (row ∷ []) []) w.if-has_to_go.true)
            w.in_ok-note.ensures.ids w.in_ok-note.ensures.clauses w.in_ok-note.ensures.watched
            (noted_push clauses (filter (goes own steps clauses rows) (take k rows)) row c.loop-place.found.ids c.loop-place.found.clauses.items
            c.loop-place.found.watched.items c.loop-place.invariant.noted))
        | else-has_to_go w ↦
            subst (λ (f : Leaving). IsNoted clauses (filter (goes own steps clauses rows) (take (k + 1) rows)) f.ids f.clauses.items f.watched.items)
            (sym w.found-is)
            (noted_same clauses (filter (goes own steps clauses rows) (take k rows)) (filter (goes own steps clauses rows) (take (k + 1) rows))
            c.loop-place.found.ids c.loop-place.found.ids c.loop-place.found.clauses.items c.loop-place.found.clauses.items
            c.loop-place.found.watched.items c.loop-place.found.watched.items
            (more ∙ ap (λ b. filter (goes own steps clauses rows) (take k rows) ++ cond b (row ∷ []) []) w.if-has_to_go.false ∙
            append-nil (filter (goes own steps clauses rows) (take k rows)))
            refl refl refl c.loop-place.invariant.noted)
      ];
      seen = c.has_to_go.ensures.seen ∙ ap (λ n. cond (is_long_row own steps clauses row) 1 0 + n) c.loop-place.invariant.seen ∙
          sym (count_push (is_long_row own steps clauses) rows k row at) ∙ ap (λ n. count_by (is_long_row own steps clauses) (take n rows)) step;
      start = elim c.if-has_to_go.branch [
        | then-has_to_go+in_ok-note w ↦ ap (λ (f : Leaving). f.start) w.found-is ∙ w.in_ok-note.ensures.start ∙ c.loop-place.invariant.start
        | else-has_to_go w ↦ ap (λ (f : Leaving). f.start) w.found-is ∙ c.loop-place.invariant.start
      ];
    }
