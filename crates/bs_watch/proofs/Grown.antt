-- A watch with one more variable serves what it served before.
use Rattle.std.proofs.Common.{◌≡◌, ℕ, suc, zero, ◌+◌, ◌*◌, ◌≤◌, List, [], ◌∷◌, ◌++◌, length, take, get_or, refl, sym, ap, subst, ◌∙◌, arith, Some}
use Rattle.std.specs.Prelude.{slice_get}
use Rattle.bs_clause.specs.Literal.{Literal, Clause, code_of}
use Rattle.bs_clause.specs.Range.{IsWithin}
use Rattle.bs_arena.specs.Arena.{Held, literals_at}
use Rattle.bs_watch.specs.Places.{Place}
use Rattle.bs_watch.specs.declared.lists.Watcher.{Watcher}
use Rattle.bs_watch.specs.Lists.{row, IsIn, IsAttached, IsOnce}
use Rattle.bs_watch.specs.Scene.{IsWatchable, AreGuarded}
use Rattle.bs_watch.specs.Watch.{WatchState, KeepsService, IsWatch, grown}
use Rattle.bs_watch.proofs.Codes.{range_at}
use Rattle.bs_watch.proofs.Looks.{all_from_gets}
use Rattle.bs_watch.proofs.TableLemmas.{length_two}

-- the two further lists are empty, as those past the end are
pub grown_row : (lists : List (List Watcher)) (l : Literal) → row (lists ++ [] ∷ [] ∷ []) l ≡ row lists l
grown_row lists l = at_code lists (code_of l)
  where
    at_code : (ls : List (List Watcher)) (k : ℕ) → get_or (ls ++ [] ∷ [] ∷ []) k [] ≡ get_or ls k []
    at_code [] zero = refl
    at_code [] (suc zero) = refl
    at_code [] (suc (suc k)) = refl
    at_code (ws ∷ ls) zero = refl
    at_code (ws ∷ ls) (suc k) = at_code ls k

wider : (vars : ℕ) (c : Clause) → IsWatchable vars c → IsWatchable (vars + 1) c
wider vars c w = record {
  long = w.long;
  apart = w.apart;
  range = all_from_gets (IsWithin (vars + 1)) c (λ k l e. let h = range_at vars c k l w.range e in (h.0, omega (arith, h.1)));
}

pub grown_serves : (w : WatchState) → KeepsService w (grown w)
grown_serves w = record {
  keeps = λ clauses s. record {
    listed = record {
      rows = omega (arith, s.listed.rows, length_two w.lists [] []);
      listed = λ l k v e.
          let was = s.listed.listed l k v (ap (λ ws. slice_get ws k) (sym (grown_row w.lists l)) ∙ e) in
          record { live = was.live; watchable = wider w.trail.vars (literals_at clauses v.clause) was.watchable; watched = was.watched; blocker = was.blocker };
      both = λ l m r i first. subst (λ ws. IsIn ws r) (sym (grown_row w.lists m)) (s.listed.both l m r (subst (λ ws. IsIn ws r) (grown_row w.lists l) i) first);
      once = λ l. subst IsOnce (sym (grown_row w.lists l)) (s.listed.once l);
    };
    guarded = guards clauses w.trail.places w.head s.guarded;
    levels = λ k v e. guards clauses (take v.start w.trail.places) v.looked (s.levels k v e);
  };
}
  where
    guards : (clauses : List Held) (places : List Place) (looked : ℕ) → AreGuarded w.lists clauses places looked →
        AreGuarded (w.lists ++ [] ∷ [] ∷ []) clauses places looked
    guards clauses places looked g = record {
      guarded = λ r a. g.guarded r (a.0, subst (λ ws. IsIn ws r) (grown_row w.lists a.0) a.1);
    }

pub roomier_watch : (w : WatchState) (capacity after : ℕ) → IsWatch w capacity → capacity ≤ after → IsWatch w after
roomier_watch w capacity after is more = record {
  small = is.small;
  looked = is.looked;
  begun = is.begun;
  ascends = is.ascends;
  few = is.few;
  levelled = is.levelled;
  room = omega (arith, is.room, more);
}

pub serves_by_grow : (w v : WatchState) → v ≡ grown w → KeepsService w v
serves_by_grow w v is = subst (KeepsService w) (sym is) (grown_serves w)
