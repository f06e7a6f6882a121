use Rattle.std.proofs.Common.{◌≡◌, ◌+◌, suc, length, take, refl, sym, subst, ◌∙◌, arith, Some}
use Rattle.std.specs.Prelude.{slice_get, Contains}
use Rattle.std.proofs.lemmas.List.Elements.{All-contains}
use Rattle.std.proofs.lemmas.Option.{slice_get_read}
use Rattle.bs_watch.proofs.Gets.{Contains_from_get, take_push_at}
use Rattle.bs_solve_lemmas.specs.Notes.{HasKilled}
use Rattle.bs_solve_lemmas.proofs.Removals.{killed_more}
use Rattle.bs_solve_lemmas.proofs.removal.kill_all.Goals as goal

pub kill_one-requires : goal.kill_one-requires
kill_one-requires c =
    let refs = c.args.clauses.now in
    let r = c.index-clauses-at.result in
    let at : slice_get refs c.clauses.at ≡ Some r = slice_get_read refs (length refs) c.clauses.at r refl c.clauses-test.true c.index-clauses-at.is in
    subst (λ places. Contains places r) (sym c.clauses.invariant.places)
    (All-contains (Contains c.args.arena.now.places) refs r c.requires (Contains_from_get refs c.clauses.at r at))

pub clauses-preserved : goal.clauses-preserved
clauses-preserved c =
    let refs = c.args.clauses.now in
    let r = c.index-clauses-at.result in
    let at : slice_get refs c.clauses.at ≡ Some r = slice_get_read refs (length refs) c.clauses.at r refl c.clauses-test.true c.index-clauses-at.is in
    record {
      killed = subst (λ n. HasKilled c.args.arena.now.clauses c.kill_one.new.arena.clauses (take n refs))
          (let e : suc c.clauses.at ≡ c.clauses.at + 1 = omega arith in e)
          (subst (HasKilled c.args.arena.now.clauses c.kill_one.new.arena.clauses) (sym (take_push_at refs c.clauses.at r at))
          (killed_more c.args.arena.now.clauses c.clauses.arena.clauses c.kill_one.new.arena.clauses (take c.clauses.at refs) r c.clauses.invariant.killed
          c.kill_one.ensures.killed));
      places = c.kill_one.ensures.places ∙ c.clauses.invariant.places;
      words = c.kill_one.ensures.words ∙ c.clauses.invariant.words;
      spare = c.kill_one.ensures.spare ∙ c.clauses.invariant.spare;
    }
