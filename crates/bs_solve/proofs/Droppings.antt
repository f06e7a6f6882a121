-- The clause database after clauses have gone, and after they have moved.
use Rattle.std.proofs.Common.{◌≡◌, ℕ, zero, suc, ◌+◌, ◌<◌, ◌≤◌, arith, Bool, true, false, not, ◌||◌, cond, List, [], ◌∷◌, map, length, take, refl, sym, ap, subst, ◌∙◌, inl, inr, Option, Some, None, eqb, get_or}
use Rattle.std.specs.Prelude.{AllPairs, Contains, slice_get, is_some, option_map, unwrap_or, IsPermutation}
use Rattle.std.specs.List.{filter, list_any, sum}
use Rattle.std.specs.Cmp.{both_ways}
use Rattle.std.proofs.lemmas.Bool.{cases_Bool, cases_lt, cases_eq, false≢true, true≢false, eqb-true, eq-eqb, ne_eqb}
use Rattle.std.proofs.lemmas.List.Elements.{All-contains}
use Rattle.std.proofs.lemmas.List.Sums.{sum-map}
use Rattle.std.proofs.lemmas.Simd.{map-map}
use Rattle.std.proofs.lemmas.List.Sorted.{IsPermutation-refl}
use Rattle.std.proofs.lemmas.Option.{get_or_from_slice_get}
use Rattle.bs_clause.specs.Literal.{Literal, Clause, code_of}
use Rattle.bs_log.specs.History.{Entry}
use Rattle.bs_log.specs.Refusal.{entry_of, is_lemma_or_block}
use Rattle.bs_arena.specs.Arena.{Held, held_at, literals_at, live_words, meaning}
use Rattle.bs_arena.specs.Renaming.{new_name, IsRenaming}
use Rattle.bs_watch.specs.declared.lists.Watcher.{Watcher}
use Rattle.bs_watch.specs.Places.{Place, TrailState, renamed_place}
use Rattle.bs_watch.specs.Lists.{row, IsAttached, renamed, renamed_lists}
use Rattle.bs_watch.specs.Watch.{WatchState, Serves, renamed_watch}
use Rattle.bs_watch.specs.Sweep.{HasSwept}
use Rattle.bs_solve_lemmas.specs.declared.row.LoggedClause.{LoggedClause}
use Rattle.bs_solve_lemmas.specs.Keeping.{AreHeld, Ascends, renamed_ref, renamed_row}
use Rattle.bs_solve_lemmas.specs.Notes.{GoBy, HasKilled, AreOut}
use Rattle.bs_solve_lemmas.specs.Rows.{IsRowOf, AreRowsOf, AreRowsAmong}
use Rattle.bs_solve_lemmas.proofs.Removals.{killed_still, first_stay}
use Rattle.bs_watch.proofs.Gets.{none_is_not_some, same_some, get_from_Contains, Contains_from_get, get_map, get_map_cases, get_take, get_within}
use Rattle.bs_solve_lemmas.proofs.Clauses.{nothing_in, contains_first, cons_contains, contains_cases, filter_cases, filter_from, map_cases, map_contains, all_from}
use Rattle.bs_solve_lemmas.proofs.Entries.{found_id}
use Rattle.bs_solve.specs.declared.database.Database.{Database}
use Rattle.bs_solve.specs.Database.{is_live, id_in, HoldsEntries}
use Rattle.bs_solve.proofs.Entries.{id_of, id_is_live, rows_permuted}
use Rattle.bs_solve.proofs.LearningLemmas.{held_self}
use Rattle.bs_solve.specs.Ground.{IsGround}
use Rattle.bs_solve.specs.Dropping.{AreStaying, without_ids, marked, HasDropped, HasCompacted}

-- ---- lists

-- the test that the entries which stay pass
abbrev pub stays_by : List ℕ → ℕ → Bool
stays_by ids id = not (list_any (λ d. eqb id d) ids)

any_has : (ids : List ℕ) (id : ℕ) → Contains ids id → list_any (λ d. eqb id d) ids ≡ true
any_has [] id c = absurd (nothing_in id c)
any_has (x ∷ ids) id c = elim (contains_cases x ids id c) [
  | inl same ↦ ap (λ b. b || list_any (λ d. eqb id d) ids) (eq-eqb id x (sym same))
  | inr there ↦ ap (λ b. eqb id x || b) (any_has ids id there) ∙ or_on (eqb id x)
]
  where
    or_on : (b : Bool) → (b || true) ≡ true
    or_on true = refl
    or_on false = refl

pub any_cases : (ids : List ℕ) (id : ℕ) → list_any (λ d. eqb id d) ids ≡ true → Contains ids id
any_cases [] id on = absurd (false≢true on)
any_cases (x ∷ ids) id on = by (eqb id x) refl on (any_cases ids id)
  where
    by : (b : Bool) → eqb id x ≡ b → (b || list_any (λ d. eqb id d) ids) ≡ true → (list_any (λ d. eqb id d) ids ≡ true → Contains ids id) →
        Contains (x ∷ ids) id
    by true is t rest = subst (Contains (x ∷ ids)) (sym (eqb-true id x is)) (contains_first x ids)
    by false is t rest = cons_contains x ids id (rest t)

pub not_among : (ids : List ℕ) (id : ℕ) → stays_by ids id ≡ true → ¬ Contains ids id
not_among ids id stays c = false≢true (sym (ap not (any_has ids id c)) ∙ stays)

pub from_not_among : (ids : List ℕ) (id : ℕ) → ¬ Contains ids id → stays_by ids id ≡ true
from_not_among ids id out = elim (cases_Bool (list_any (λ d. eqb id d) ids)) [
  | inl on ↦ absurd (out (any_cases ids id on))
  | inr off ↦ ap not off
]

-- an entry that stays is found among those that stay
found_left : (ids : List ℕ) (es : List Entry) (id : ℕ) (e : Entry) → entry_of es id ≡ Some e → stays_by ids e.id ≡ true →
    entry_of (without_ids ids es) id ≡ Some e
found_left ids [] id e found stays = absurd (none_is_not_some e found)
found_left ids (x ∷ xs) id e found stays = by (eqb x.id id) refl found (λ rest. found_left ids xs id e rest stays)
  where
    rest_of : (b : Bool) → eqb x.id id ≡ false → entry_of (without_ids ids xs) id ≡ Some e →
        entry_of (cond b (x ∷ without_ids ids xs) (without_ids ids xs)) id ≡ Some e
    rest_of true off rest = ap (λ b. cond b (Some x) (entry_of (without_ids ids xs) id)) off ∙ rest
    rest_of false off rest = rest

    by : (b : Bool) → eqb x.id id ≡ b → cond b (Some x) (entry_of xs id) ≡ Some e → (entry_of xs id ≡ Some e → entry_of (without_ids ids xs) id ≡ Some e) →
        entry_of (without_ids ids (x ∷ xs)) id ≡ Some e
    by true is here rest =
        let one : x ≡ e = same_some x e here in
        ap (λ b. entry_of (cond b (x ∷ without_ids ids xs) (without_ids ids xs)) id) (ap (λ (y : Entry). stays_by ids y.id) one ∙ stays) ∙
        ap (λ b. cond b (Some x) (entry_of (without_ids ids xs) id)) is ∙ here
    by false is later rest = rest_of (stays_by ids x.id) is (rest later)

marked_left : (ids : List ℕ) (es : List Entry) → marked (without_ids ids es) ≡ without_ids ids (marked es)
marked_left ids [] = refl
marked_left ids (x ∷ xs) = by (stays_by ids x.id) refl (is_lemma_or_block x) refl (marked_left ids xs)
  where
    by : (a : Bool) → stays_by ids x.id ≡ a → (b : Bool) → is_lemma_or_block x ≡ b → marked (without_ids ids xs) ≡ without_ids ids (marked xs) →
        marked (cond a (x ∷ without_ids ids xs) (without_ids ids xs)) ≡ without_ids ids (cond b (x ∷ marked xs) (marked xs))
    by true is_a true is_b rest =
        ap (λ c. cond c (x ∷ marked (without_ids ids xs)) (marked (without_ids ids xs))) is_b ∙ ap (λ ys. x ∷ ys) rest ∙
        sym (ap (λ c. cond c (x ∷ without_ids ids (marked xs)) (without_ids ids (marked xs))) is_a)
    by true is_a false is_b rest = ap (λ c. cond c (x ∷ marked (without_ids ids xs)) (marked (without_ids ids xs))) is_b ∙ rest
    by false is_a true is_b rest = rest ∙ sym (ap (λ c. cond c (x ∷ without_ids ids (marked xs)) (without_ids ids (marked xs))) is_a)
    by false is_a false is_b rest = rest

-- rows and entries that pass alike
rows_filtered : (clauses : List Held) (f : LoggedClause → Bool) (g : Entry → Bool) (rows : List LoggedClause) (es : List Entry) → AreRowsOf clauses rows es →
    ((x : LoggedClause) (e : Entry) → Contains rows x → IsRowOf clauses x e → f x ≡ g e) → AreRowsOf clauses (filter f rows) (filter g es)
rows_filtered clauses f g [] [] r alike = tt
rows_filtered clauses f g [] (e ∷ es) r alike = absurd r
rows_filtered clauses f g (x ∷ rows) [] r alike = absurd r
rows_filtered clauses f g (x ∷ rows) (e ∷ es) r alike =
    by (f x) (g e) (alike x e (contains_first x rows) r.0) (rows_filtered clauses f g rows es r.1 (λ y o there. alike y o (cons_contains x rows y there)))
  where
    by : (a b : Bool) → a ≡ b → AreRowsOf clauses (filter f rows) (filter g es) →
        AreRowsOf clauses (cond a (x ∷ filter f rows) (filter f rows)) (cond b (e ∷ filter g es) (filter g es))
    by true true same rest = (r.0, rest)
    by false false same rest = rest
    by true false same rest = absurd (false≢true (sym same))
    by false true same rest = absurd (false≢true same)

-- where the first so many rows pass, so do the first so many entries, and these stay
front_filtered : (clauses : List Held) (f : LoggedClause → Bool) (g : Entry → Bool) (rows : List LoggedClause) (es : List Entry) (n : ℕ) → AreRowsOf clauses rows es →
    ((x : LoggedClause) (e : Entry) → Contains rows x → IsRowOf clauses x e → f x ≡ g e) → ((x : LoggedClause) → Contains (take n rows) x → f x ≡ true) →
    (take n (filter g es) ≡ take n es) × (n ≤ length rows → n ≤ length (filter f rows))
front_filtered clauses f g [] [] zero r alike pass = (refl, λ h. h)
front_filtered clauses f g [] [] (suc n) r alike pass = (refl, λ h. h)
front_filtered clauses f g [] (e ∷ es) n r alike pass = absurd r
front_filtered clauses f g (x ∷ rows) [] n r alike pass = absurd r
front_filtered clauses f g (x ∷ rows) (e ∷ es) zero r alike pass = (refl, λ h. omega arith)
front_filtered clauses f g (x ∷ rows) (e ∷ es) (suc n) r alike pass =
    let first : f x ≡ true = pass x (contains_first x (take n rows)) in
    let other : g e ≡ true = sym (alike x e (contains_first x rows) r.0) ∙ first in
    let rest = front_filtered clauses f g rows es n r.1 (λ y o there. alike y o (cons_contains x rows y there))
    (λ y there. pass y (cons_contains x (take n rows) y there)) in (
      ap (λ b. take (suc n) (cond b (e ∷ filter g es) (filter g es))) other ∙ ap (λ ys. e ∷ ys) rest.0,
      λ h. subst (λ b. suc n ≤ length (cond b (x ∷ filter f rows) (filter f rows))) (sym first)
          (let k = rest.1 (omega (arith, h)) in omega (arith, k)),
    )

-- ---- clauses go

-- a clause database of which some rows' clauses were killed
pub record IsLess (before after : List Held) (database less : Database) (start : ℕ) (ids refs : List ℕ) (watched : List Literal) : Type 0 where
  pub gone : GoBy before database.rows.items start ids refs watched
  pub held : AreHeld before database.rows.items
  pub ascends : Ascends database.rows.items
  pub killed : HasKilled before after refs
  pub rows : less.rows.items ≡ filter (λ (x : LoggedClause). is_some (held_at after x.clause)) database.rows.items
  pub shorts : less.shorts.items ≡ filter (λ r. is_some (held_at after r)) database.shorts.items

-- a row of this clause has an id that goes just where the clause is not live any more
row_of_gone : (before after : List Held) (database less : Database) (start : ℕ) (ids refs : List ℕ) (watched : List Literal) →
    IsLess before after database less start ids refs watched → (r : ℕ) → Contains refs r →
    (x : LoggedClause) × Contains database.rows.items x × (x.clause ≡ r) × Contains ids x.id
row_of_gone before after database less start ids refs watched l r there =
    let n = l.gone.noted in
    let (x, in_gone, is) = map_cases (λ (y : LoggedClause). y.clause) (filter l.gone.test database.rows.items) r (subst (λ rs. Contains rs r) n.clauses_are there) in (
      x,
      (filter_cases l.gone.test database.rows.items x in_gone).0,
      is,
      subst (λ xs. Contains xs x.id) (sym n.ids_are) (map_contains (λ (y : LoggedClause). y.id) (filter l.gone.test database.rows.items) x in_gone),
    )

row_of_id : (before after : List Held) (database less : Database) (start : ℕ) (ids refs : List ℕ) (watched : List Literal) →
    IsLess before after database less start ids refs watched → (id : ℕ) → Contains ids id →
    (x : LoggedClause) × Contains database.rows.items x × (x.id ≡ id) × Contains refs x.clause
row_of_id before after database less start ids refs watched l id there =
    let n = l.gone.noted in
    let (x, in_gone, is) = map_cases (λ (y : LoggedClause). y.id) (filter l.gone.test database.rows.items) id (subst (λ xs. Contains xs id) n.ids_are there) in (
      x,
      (filter_cases l.gone.test database.rows.items x in_gone).0,
      is,
      subst (λ rs. Contains rs x.clause) (sym n.clauses_are) (map_contains (λ (y : LoggedClause). y.clause) (filter l.gone.test database.rows.items) x in_gone),
    )

id_from_row : (before : List Held) (database : Database) (x : LoggedClause) → AreHeld before database.rows.items → Contains database.rows.items x → id_of before x.clause ≡ Some x.id
id_from_row before database x held there = All-contains (λ (y : LoggedClause). id_of before y.clause ≡ Some y.id) database.rows.items x held there

-- a live clause stays where its id does
stays_live : (before after : List Held) (database less : Database) (start : ℕ) (ids refs : List ℕ) (watched : List Literal) →
    IsLess before after database less start ids refs watched → (r : ℕ) → is_live before r ≡ true → stays_by ids (id_in before r) ≡ true →
    held_at after r ≡ held_at before r
stays_live before after database less start ids refs watched l r live stays = l.killed.kept r (λ there.
    let (x, in_rows, is, in_ids) = row_of_gone before after database less start ids refs watched l r there in
    let id : id_in before r ≡ x.id = ap (λ o. unwrap_or o 0) (ap (id_of before) (sym is) ∙ id_from_row before database x l.held in_rows) in
    not_among ids (id_in before r) stays (subst (Contains ids) (sym id) in_ids))

live_stays : (lists : List (List Watcher)) (es : List Entry) (before after : List Held) (database less : Database) (start : ℕ) (ids refs : List ℕ)
    (watched : List Literal) → HoldsEntries lists before database es →
    IsLess before after database less start ids refs watched → (r : ℕ) → is_live after r ≡ true → is_live before r ≡ true →
    stays_by ids (id_in before r) ≡ true
live_stays lists es before after database less start ids refs watched s l r live was = from_not_among ids (id_in before r) (λ there.
    let (x, in_rows, is, in_refs) = row_of_id before after database less start ids refs watched l (id_in before r) there in
    let id : id_of before x.clause ≡ Some x.id = id_from_row before database x l.held in_rows in
    let one : x.clause ≡ r = s.once x.clause r (id_is_live before x.clause x.id id) was (ap (λ o. unwrap_or o 0) id ∙ is) in
    false≢true (sym (ap is_some (l.killed.gone r (subst (Contains refs) one in_refs))) ∙ live))

-- a row's clause is live after the kills just where its entry stays
row_alike : (lists : List (List Watcher)) (es : List Entry) (before after : List Held) (database less : Database) (start : ℕ) (ids refs : List ℕ)
    (watched : List Literal) → IsLess before after database less start ids refs watched → HoldsEntries lists before database es → (x : LoggedClause) (e : Entry) →
    Contains database.rows.items x → IsRowOf before x e → is_some (held_at after x.clause) ≡ stays_by ids e.id
row_alike lists es before after database less start ids refs watched l s x e there is =
    let id : id_of before x.clause ≡ Some x.id = id_from_row before database x l.held there in
    let live : is_live before x.clause ≡ true = id_is_live before x.clause x.id id in
    let same : id_in before x.clause ≡ e.id = ap (λ o. unwrap_or o 0) id ∙ is.id_is in
    both_ways (is_some (held_at after x.clause)) (stays_by ids e.id)
    (λ after_live. ap (stays_by ids) (sym same) ∙
    live_stays lists es before after database less start ids refs watched s l x.clause after_live live)
    (λ stay. ap is_some (stays_live before after database less start ids refs watched l x.clause live (ap (stays_by ids) same ∙ stay)) ∙ live)

pub holds_less : (old new : WatchState) (before after : List Held) (database less : Database) (start : ℕ) (ids refs : List ℕ) (watched : List Literal)
    (es : List Entry) → IsLess before after database less start ids refs watched → HasSwept old new after → HoldsEntries old.lists before database es →
    HoldsEntries new.lists after less (without_ids ids es)
holds_less old new before after database less start ids refs watched es l swept s = record {
  spelled = λ r is.
      let (e, found, same) = s.spelled r (was_live r is) in (
        e,
        ap (entry_of (without_ids ids es)) (id_same r is) ∙
            found_left ids es (id_in before r) e found (ap (stays_by ids) (found_id es (id_in before r) e found) ∙ stays r is),
        subst (IsPermutation e.literals) (sym (literals_same r is)) same,
      );
  held = λ e there.
      let in_es = filter_cases (λ (x : Entry). stays_by ids x.id) es e there in
      let (r, h) = s.held e in_es.0 in
      let kept = stays_live before after database less start ids refs watched l r h.live (ap (stays_by ids) h.id_is ∙ in_es.1) in (
        r,
        record {
          live = ap is_some kept ∙ h.live;
          id_is = ap (λ o. unwrap_or (option_map (λ (x : Held). x.id) o) 0) kept ∙ h.id_is;
          same = subst (IsPermutation e.literals) (sym (ap (λ o. unwrap_or (option_map (λ (x : Held). x.literals) o) []) kept)) h.same;
        },
      );
  once = λ q r is_q is_r alike. s.once q r (was_live q is_q) (was_live r is_r) (sym (id_same q is_q) ∙ alike ∙ id_same r is_r);
  attached = λ r is two. (swept.attached r).1 (s.attached r (was_live r is) (subst (λ c. 2 ≤ length c) (literals_same r is) two), is);
  short = λ r is few. subst (λ rs. Contains rs r) (sym l.shorts) (filter_from (λ x. is_some (held_at after x)) database.shorts.items r
      (s.short r (was_live r is) (subst (λ c. length c < 2) (literals_same r is) few)) is);
  listed = all_from (λ r. is_live after r ≡ true) less.shorts.items (λ r there. (short_cases r there).1);
  few = all_from (λ r. length (literals_at after r) < 2) less.shorts.items (λ r there.
      let c = short_cases r there in
      subst (λ x. length x < 2) (sym (literals_same r c.1)) (All-contains (λ x. length (literals_at before x) < 2) database.shorts.items r s.few c.0));
  rows = subst (λ fs. AreRowsOf after less.rows.items fs) (sym (marked_left ids es)) (subst (λ xs. AreRowsOf after xs (without_ids ids (marked es)))
      (sym l.rows)
      (rows_permuted before after (filter (λ (x : LoggedClause). is_some (held_at after x.clause)) database.rows.items) (without_ids ids (marked es))
      (rows_filtered before (λ (x : LoggedClause). is_some (held_at after x.clause)) (λ (e : Entry). stays_by ids e.id) database.rows.items (marked es) s.rows
      (λ x e there is. row_alike old.lists es before after database less start ids refs watched l s x e there is))
      (λ x there. subst (IsPermutation (literals_at before x.clause))
      (sym (literals_same x.clause (filter_cases (λ (y : LoggedClause). is_some (held_at after y.clause)) database.rows.items x there).1))
      (IsPermutation-refl (literals_at before x.clause)))));
  rows_live = subst (AreHeld after) (sym l.rows) (all_from (λ (x : LoggedClause). id_of after x.clause ≡ Some x.id)
      (filter (λ (x : LoggedClause). is_some (held_at after x.clause)) database.rows.items) (λ x there.
      let c = filter_cases (λ (y : LoggedClause). is_some (held_at after y.clause)) database.rows.items x there in
      ap (option_map (λ (h : Held). h.id)) (still x.clause c.1) ∙ id_from_row before database x l.held c.0));
}
  where
    still : (r : ℕ) → is_live after r ≡ true → held_at after r ≡ held_at before r
    still r is = killed_still before after refs r l.killed is

    was_live : (r : ℕ) → is_live after r ≡ true → is_live before r ≡ true
    was_live r is = sym (ap is_some (still r is)) ∙ is

    id_same : (r : ℕ) → is_live after r ≡ true → id_in after r ≡ id_in before r
    id_same r is = ap (λ o. unwrap_or (option_map (λ (x : Held). x.id) o) 0) (still r is)

    literals_same : (r : ℕ) → is_live after r ≡ true → literals_at after r ≡ literals_at before r
    literals_same r is = ap (λ o. unwrap_or (option_map (λ (x : Held). x.literals) o) []) (still r is)

    stays : (r : ℕ) → is_live after r ≡ true → stays_by ids (id_in before r) ≡ true
    stays r is = live_stays old.lists es before after database less start ids refs watched s l r is (was_live r is)

    short_cases : (r : ℕ) → Contains less.shorts.items r → Contains database.shorts.items r × (is_live after r ≡ true)
    short_cases r there = filter_cases (λ x. is_some (held_at after x)) database.shorts.items r (subst (λ rs. Contains rs r) l.shorts there)

-- none of the first rows goes
pub front_stays : (old : WatchState) (before after : List Held) (database less : Database) (start : ℕ) (ids refs : List ℕ) (watched : List Literal)
    (es : List Entry) → IsLess before after database less start ids refs watched → HoldsEntries old.lists before database es →
    (take start (marked (without_ids ids es)) ≡ take start (marked es)) × (start ≤ length less.rows.items)
front_stays old before after database less start ids refs watched es l s =
    let f = front_filtered before (λ (x : LoggedClause). is_some (held_at after x.clause)) (λ (e : Entry). stays_by ids e.id) database.rows.items (marked es) start s.rows
    (λ x e there is. row_alike old.lists es before after database less start ids refs watched l s x e there is)
    (λ x there. All-contains (λ (y : LoggedClause). is_some (held_at after y.clause) ≡ true) (take start database.rows.items) x
    (first_stay before after database.rows.items start ids refs watched l.held l.ascends l.gone l.killed) there) in (
      ap (take start) (marked_left ids es) ∙ f.0,
      subst (λ xs. start ≤ length xs) (sym l.rows) (f.1 l.gone.low),
    )

-- ---- clauses move

-- a clause's place among the live ones
place_of_live : (hs : List Held) (r : ℕ) → is_live hs r ≡ true → (k : ℕ) × (h : Held) × (slice_get hs k ≡ Some h) × (h.ref ≡ r) × (held_at hs r ≡ Some h)
place_of_live [] r is = absurd (false≢true is)
place_of_live (x ∷ hs) r is = by (eqb x.ref r) refl is (λ rest. place_of_live hs r rest)
  where
    by : (b : Bool) → eqb x.ref r ≡ b → is_some (cond b (Some x) (held_at hs r)) ≡ true →
        (is_some (held_at hs r) ≡ true → (k : ℕ) × (h : Held) × (slice_get hs k ≡ Some h) × (h.ref ≡ r) × (held_at hs r ≡ Some h)) →
        (k : ℕ) × (h : Held) × (slice_get (x ∷ hs) k ≡ Some h) × (h.ref ≡ r) × (cond b (Some x) (held_at hs r) ≡ Some h)
    by true at t rest = (zero, x, refl, eqb-true x.ref r at, refl)
    by false at t rest = let (k, h, found, ref, held) = rest t in (suc k, h, found, ref, held)

-- the clause of a reference before and after the move
pub record IsMoved (before after : List Held) (names : List (ℕ × ℕ)) : Type 0 where
  pub named : (r : ℕ) → is_live before r ≡ true →
      (is_live after (renamed_ref names r) ≡ true) × (id_of after (renamed_ref names r) ≡ id_of before r) ×
      (literals_at after (renamed_ref names r) ≡ literals_at before r)
  pub source : (s : ℕ) → is_live after s ≡ true → (r : ℕ) × (is_live before r ≡ true) × (renamed_ref names r ≡ s)
  pub apart : (q r : ℕ) → is_live before q ≡ true → is_live before r ≡ true → renamed_ref names q ≡ renamed_ref names r → q ≡ r

meaning_id : (o : Option Held) (p : Option Held) → option_map meaning o ≡ option_map meaning p →
    (is_some o ≡ is_some p) × (option_map (λ (h : Held). h.id) o ≡ option_map (λ (h : Held). h.id) p) ×
    (unwrap_or (option_map (λ (h : Held). h.literals) o) [] ≡ unwrap_or (option_map (λ (h : Held). h.literals) p) [])
meaning_id None None e = (refl, refl, refl)
meaning_id (Some g) (Some h) e =
    let m = same_some (meaning g) (meaning h) e in
    (refl, ap Some (ap (λ (x : ℕ × List Literal). x.0) m), ap (λ (x : ℕ × List Literal). x.1) m)
meaning_id None (Some h) e = absurd (none_is_not_some (meaning h) e)
meaning_id (Some g) None e = absurd (none_is_not_some (meaning g) (sym e))

refs_apart : (hs : List Held) (i j : ℕ) (a b : Held) → AllPairs (λ (x y : Held). x.ref < y.ref) hs → slice_get hs i ≡ Some a → slice_get hs j ≡ Some b →
    a.ref ≡ b.ref → i ≡ j
refs_apart hs i j a b ascends at_i at_j same = elim (cases_lt i j) as (λ _. i ≡ j) [
  | inl before ↦ absurd (let l = less i j a b before at_i at_j in omega (arith, l, same))
  | inr past ↦ elim (cases_eq i j) as (λ _. i ≡ j) [
    | inl equal ↦ equal
    | inr different ↦ absurd (let l = less j i b a (omega (arith, past, λ (e : i ≡ j). different e)) at_j at_i in omega (arith, l, same))
  ]
]
  where
    less : (m n : ℕ) (x y : Held) → m < n → slice_get hs m ≡ Some x → slice_get hs n ≡ Some y → x.ref < y.ref
    less m n x y before at_m at_n =
        subst (λ (z : Held). z.ref < y.ref) (get_or_from_slice_get hs m x x at_m)
        (subst (λ (z : Held). (get_or hs m x).ref < z.ref) (get_or_from_slice_get hs n y x at_n)
        (ascends m n x before (get_within hs n y at_n)))

pub moved : (lists : List (List Watcher)) (database : Database) (es : List Entry) (before after : List Held) (names : List (ℕ × ℕ)) →
    HoldsEntries lists before database es → AllPairs (λ (x y : Held). x.ref < y.ref) before → AllPairs (λ (x y : Held). x.ref < y.ref) after →
    map meaning after ≡ map meaning before → IsRenaming before after names → IsMoved before after names
moved lists database es before after names s up_before up_after same ren = record {
  named = λ r is.
      let (t, at) = new_of r is in
      let m = meaning_id (held_at after t) (held_at before r) (ren.same r t at) in
      let name : renamed_ref names r ≡ t = ap (λ o. unwrap_or o r) at in (
        ap (is_live after) name ∙ m.0 ∙ is,
        ap (id_of after) name ∙ m.1,
        ap (literals_at after) name ∙ m.2,
      );
  source = λ x is. from_source x is;
  apart = λ q r is_q is_r alike.
      let (t, at_q) = new_of q is_q in
      let (u, at_r) = new_of r is_r in
      let one : t ≡ u = sym (ap (λ o. unwrap_or o q) at_q) ∙ alike ∙ ap (λ o. unwrap_or o r) at_r in
      ren.apart q r t at_q (at_r ∙ ap Some (sym one));
}
  where
    some_of : (o : Option ℕ) → is_some o ≡ true → (t : ℕ) × (o ≡ Some t)
    some_of None is = absurd (false≢true is)
    some_of (Some t) is = (t, refl)

    new_of : (r : ℕ) → is_live before r ≡ true → (t : ℕ) × (new_name names r ≡ Some t)
    new_of r is = some_of (new_name names r) (ren.named r ∙ is)

    -- the clause that stood in the same place
    was : (k : ℕ) (h : Held) → slice_get after k ≡ Some h → (g : Held) × (slice_get before k ≡ Some g) × (meaning g ≡ meaning h)
    was k h at = get_map_cases meaning before k (meaning h) (ap (λ ms. slice_get ms k) (sym same) ∙ get_map meaning after k h at)

    live_self : (k : ℕ) (g : Held) → slice_get before k ≡ Some g → held_at before g.ref ≡ Some g
    live_self k g at = held_self before g up_before (Contains_from_get before k g at)

    from_source : (x : ℕ) → is_live after x ≡ true → (r : ℕ) × (is_live before r ≡ true) × (renamed_ref names r ≡ x)
    from_source x is =
        let (k, h, at, ref, held) = place_of_live after x is in
        let (g, at_g, means) = was k h at in
        let found = live_self k g at_g in
        let live : is_live before g.ref ≡ true = ap is_some found in
        let (t, name) = new_of g.ref live in
        let m = meaning_id (held_at after t) (held_at before g.ref) (ren.same g.ref t name) in
        let (k2, h2, at2, ref2, held2) = place_of_live after t (m.0 ∙ live) in
        let (g2, at_g2, means2) = was k2 h2 at2 in
        let found2 = live_self k2 g2 at_g2 in
        let id2 : h2.id ≡ g.id = same_some h2.id g.id (ap (option_map (λ (y : Held). y.id)) (sym held2) ∙ m.1 ∙ ap (option_map (λ (y : Held). y.id)) found) in
        let alike : id_in before g2.ref ≡ id_in before g.ref =
        ap (λ o. unwrap_or (option_map (λ (y : Held). y.id) o) 0) found2 ∙ ap (λ (y : ℕ × List Literal). y.0) means2 ∙ id2 ∙
        sym (ap (λ o. unwrap_or (option_map (λ (y : Held). y.id) o) 0) found) in
        let one : g2.ref ≡ g.ref = s.once g2.ref g.ref (ap is_some found2) live alike in
        let place : k2 ≡ k = refs_apart before k2 k g2 g up_before at_g2 at_g one in
        let clause : h2 ≡ h = same_some h2 h (sym at2 ∙ ap (slice_get after) place ∙ at) in
        (g.ref, live, ap (λ o. unwrap_or o g.ref) name ∙ sym ref2 ∙ ap (λ (y : Held). y.ref) clause ∙ ref)

get_or_rows : (f : Watcher → Watcher) (lists : List (List Watcher)) (k : ℕ) → get_or (map (λ ws. map f ws) lists) k [] ≡ map f (get_or lists k [])
get_or_rows f [] k = refl
get_or_rows f (ws ∷ lists) zero = refl
get_or_rows f (ws ∷ lists) (suc k) = get_or_rows f lists k

attached_renamed : (names : List (ℕ × ℕ)) (lists : List (List Watcher)) (r : ℕ) → IsAttached lists r →
    IsAttached (renamed_lists names lists) (renamed_ref names r)
attached_renamed names lists r (l, there) = (
  l,
  record {
    at = there.at;
    watcher = renamed names there.watcher;
    there = ap (λ ws. slice_get ws there.at) (get_or_rows (renamed names) lists (code_of l)) ∙
        get_map (renamed names) (row lists l) there.at there.watcher there.there;
    same = ap (renamed_ref names) there.same;
  },
)

rows_renamed : (before after : List Held) (names : List (ℕ × ℕ)) (rows : List LoggedClause) (es : List Entry) → AreRowsOf before rows es →
    ((x : LoggedClause) → Contains rows x → literals_at after (renamed_ref names x.clause) ≡ literals_at before x.clause) →
    AreRowsOf after (map (renamed_row names) rows) es
rows_renamed before after names [] [] r same = tt
rows_renamed before after names [] (e ∷ es) r same = absurd r
rows_renamed before after names (x ∷ rows) [] r same = absurd r
rows_renamed before after names (x ∷ rows) (e ∷ es) r same = (
  record {
    id_is = r.0.id_is;
    lemma_is = r.0.lemma_is;
    same = subst (IsPermutation e.literals) (sym (same x (contains_first x rows))) r.0.same;
  },
  rows_renamed before after names rows es r.1 (λ y there. same y (cons_contains x rows y there)),
)

pub holds_moved : (lists : List (List Watcher)) (before after : List Held) (names : List (ℕ × ℕ)) (database more : Database) (es : List Entry) →
    HoldsEntries lists before database es → IsMoved before after names → more.rows.items ≡ map (renamed_row names) database.rows.items →
    more.shorts.items ≡ map (renamed_ref names) database.shorts.items → HoldsEntries (renamed_lists names lists) after more es
holds_moved lists before after names database more es s m rows shorts = record {
  spelled = λ x is.
      let (r, live, to) = m.source x is in
      let n = m.named r live in
      let (e, found, same) = s.spelled r live in (
        e,
        ap (entry_of es) (ap (λ o. unwrap_or o 0) (sym (ap (id_of after) to) ∙ n.1)) ∙ found,
        subst (IsPermutation e.literals) (sym (sym (ap (literals_at after) to) ∙ n.2)) same,
      );
  held = λ e there.
      let (r, h) = s.held e there in
      let n = m.named r h.live in (
        renamed_ref names r,
        record { live = n.0; id_is = ap (λ o. unwrap_or o 0) n.1 ∙ h.id_is; same = subst (IsPermutation e.literals) (sym n.2) h.same },
      );
  once = λ x y is_x is_y alike.
      let (q, live_q, to_q) = m.source x is_x in
      let (r, live_r, to_r) = m.source y is_y in
      let one : q ≡ r = s.once q r live_q live_r (sym (id_moved q x live_q to_q) ∙ alike ∙ id_moved r y live_r to_r) in
      sym to_q ∙ ap (renamed_ref names) one ∙ to_r;
  attached = λ x is two.
      let (r, live, to) = m.source x is in
      subst (IsAttached (renamed_lists names lists)) to (attached_renamed names lists r
      (s.attached r live (subst (λ c. 2 ≤ length c) (sym (ap (literals_at after) to) ∙ (m.named r live).2) two)));
  short = λ x is few.
      let (r, live, to) = m.source x is in
      subst (λ xs. Contains xs x) (sym shorts) (subst (Contains (map (renamed_ref names) database.shorts.items)) to
      (map_contains (renamed_ref names) database.shorts.items r
      (s.short r live (subst (λ c. length c < 2) (sym (ap (literals_at after) to) ∙ (m.named r live).2) few))));
  listed = all_from (λ r. is_live after r ≡ true) more.shorts.items (λ x there.
      let (r, live, to) = short_source x there in subst (λ y. is_live after y ≡ true) to (m.named r live.0).0);
  few = all_from (λ r. length (literals_at after r) < 2) more.shorts.items (λ x there.
      let (r, live, to) = short_source x there in
      subst (λ y. length (literals_at after y) < 2) to (subst (λ c. length c < 2) (sym (m.named r live.0).2) live.1));
  rows = subst (λ xs. AreRowsAmong after xs es) (sym rows) (rows_renamed before after names database.rows.items (marked es) s.rows
      (λ x there. (m.named x.clause (live_row x there)).2));
  rows_live = subst (AreHeld after) (sym rows) (all_from (λ (x : LoggedClause). id_of after x.clause ≡ Some x.id) (map (renamed_row names) database.rows.items)
      (λ x there.
      let (y, in_rows, is) = map_cases (renamed_row names) database.rows.items x there in
      subst (λ (z : LoggedClause). id_of after z.clause ≡ Some z.id) is
      ((m.named y.clause (live_row y in_rows)).1 ∙ id_from_row before database y s.rows_live in_rows)));
}
  where
    id_moved : (r x : ℕ) → is_live before r ≡ true → renamed_ref names r ≡ x → id_in after x ≡ id_in before r
    id_moved r x live to = ap (λ o. unwrap_or o 0) (sym (ap (id_of after) to) ∙ (m.named r live).1)

    live_row : (x : LoggedClause) → Contains database.rows.items x → is_live before x.clause ≡ true
    live_row x there = id_is_live before x.clause x.id (id_from_row before database x s.rows_live there)

    short_source : (x : ℕ) → Contains more.shorts.items x →
        (r : ℕ) × ((is_live before r ≡ true) × (length (literals_at before r) < 2)) × (renamed_ref names r ≡ x)
    short_source x there =
        let (r, in_shorts, is) = map_cases (renamed_ref names) database.shorts.items x (subst (λ xs. Contains xs x) shorts there) in (
          r,
          (
            All-contains (λ y. is_live before y ≡ true) database.shorts.items r s.listed in_shorts,
            All-contains (λ y. length (literals_at before y) < 2) database.shorts.items r s.few in_shorts,
          ),
          is,
        )

-- ---- what the calls do

front_low : (f : LoggedClause → Bool) (rows : List LoggedClause) (n : ℕ) → ((x : LoggedClause) → Contains (take n rows) x → f x ≡ true) → n ≤ length rows → n ≤ length (filter f rows)
front_low f rows zero pass low = omega arith
front_low f [] (suc n) pass low = low
front_low f (x ∷ rows) (suc n) pass low =
    subst (λ b. suc n ≤ length (cond b (x ∷ filter f rows) (filter f rows))) (sym (pass x (contains_first x (take n rows))))
    (let k = front_low f rows n (λ y there. pass y (cons_contains x (take n rows) y there)) (omega (arith, low)) in omega (arith, k))

less_low : (before after : List Held) (database less : Database) (start : ℕ) (ids refs : List ℕ) (watched : List Literal) →
    IsLess before after database less start ids refs watched → start ≤ length less.rows.items
less_low before after database less start ids refs watched l =
    subst (λ xs. start ≤ length xs) (sym l.rows) (front_low (λ (x : LoggedClause). is_some (held_at after x.clause)) database.rows.items start
    (λ x there. All-contains (λ (y : LoggedClause). is_some (held_at after y.clause) ≡ true) (take start database.rows.items) x
    (first_stay before after database.rows.items start ids refs watched l.held l.ascends l.gone l.killed) there) l.gone.low)

-- fewer clauses where each of them was live
pub fewer : (xs ys : List Held) → AllPairs (λ (x y : Held). x.ref < y.ref) xs → AllPairs (λ (x y : Held). x.ref < y.ref) ys →
    ((r : ℕ) → is_live xs r ≡ true → is_live ys r ≡ true) → length xs ≤ length ys
fewer xs ys up_x up_y sub = by xs ys (chain xs up_x) (chain ys up_y) (λ h there. sub h.ref (ap is_some (held_self xs h up_x there)))
  where
    InChain : List Held → Type 0
    InChain [] = Unit {0}
    InChain (x ∷ hs) = ((h : Held) → Contains hs h → x.ref < h.ref) × InChain hs

    chain : (hs : List Held) → AllPairs (λ (x y : Held). x.ref < y.ref) hs → InChain hs
    chain [] up = tt
    chain (x ∷ hs) up = (
      (λ h there.
          let (k, at) = get_from_Contains hs h there in
          subst (λ (y : Held). x.ref < y.ref) (get_or_from_slice_get hs k h h at)
          (up 0 (suc k) h (omega arith) (let w = get_within hs k h at in omega (arith, w)))),
      chain hs (λ i j d before within. up (suc i) (suc j) d (omega (arith, before)) (omega (arith, within))),
    )

    -- a reference past the first clause's is that of a later one
    later : (y : Held) (hs : List Held) (r : ℕ) → y.ref < r → is_live (y ∷ hs) r ≡ true → is_live hs r ≡ true
    later y hs r past is = sym (ap (λ b. is_some (cond b (Some y) (held_at hs r))) (ne_eqb y.ref r (λ e. (let p = past in omega (arith, p, e))))) ∙ is

    by : (us bs : List Held) → InChain us → InChain bs → ((h : Held) → Contains us h → is_live bs h.ref ≡ true) → length us ≤ length bs
    by [] bs a b sub = omega arith
    by (x ∷ us) [] a b sub = absurd (false≢true (sub x (contains_first x us)))
    by (x ∷ us) (y ∷ bs) a b sub = elim (cases_eq x.ref y.ref) [
      | inl same ↦
          let rest = by us bs a.1 b.1 (λ h there. later y bs h.ref (let l = a.0 h there in omega (arith, l, same))
          (sub h (cons_contains x us h there))) in omega (arith, rest)
      | inr other ↦
          let in_rest : is_live bs x.ref ≡ true = sym (ap (λ b. is_some (cond b (Some y) (held_at bs x.ref))) (ne_eqb y.ref x.ref (λ e. other (sym e)))) ∙
          sub x (contains_first x us) in
          let (k, g, at, ref, found) = place_of_live bs x.ref in_rest in
          let above : y.ref < x.ref = subst (λ n. y.ref < n) ref (b.0 g (Contains_from_get bs k g at)) in
          let rest = by (x ∷ us) bs a b.1 (λ h there. elim (contains_cases x us h there) [
            | inl is ↦ subst (λ (z : Held). is_live bs z.ref ≡ true) is in_rest
            | inr after ↦ later y bs h.ref (let l = a.0 h after in omega (arith, l, above)) (sub h there)
          ]) in omega (arith, rest)
    ]

-- elements in front that pass stay in their places
filter_front : (f : ℕ → Bool) (xs : List ℕ) (k r : ℕ) → ((i q : ℕ) → i ≤ k → slice_get xs i ≡ Some q → f q ≡ true) → slice_get xs k ≡ Some r →
    slice_get (filter f xs) k ≡ Some r
filter_front f [] k r pass at = absurd (none_is_not_some r at)
filter_front f (x ∷ xs) zero r pass at =
    ap (λ b. slice_get (cond b (x ∷ filter f xs) (filter f xs)) 0) (pass 0 x (omega arith) refl) ∙ at
filter_front f (x ∷ xs) (suc k) r pass at =
    ap (λ b. slice_get (cond b (x ∷ filter f xs) (filter f xs)) (suc k)) (pass 0 x (omega arith) refl) ∙
    filter_front f xs k r (λ i q low e. pass (suc i) q (omega (arith, low)) e) at

staying_live : (before after : List Held) (database less : Database) (start : ℕ) (ids refs : List ℕ) (watched : List Literal) (places : List Place) →
    IsLess before after database less start ids refs watched → AreStaying before database.shorts.items places ids → (k r : ℕ) → k < length places →
    slice_get database.shorts.items k ≡ Some r → held_at after r ≡ held_at before r
staying_live before after database less start ids refs watched places l a k r within at =
    let s = a.each k r within at in
    stays_live before after database less start ids refs watched l r s.0 (ap not s.1)

-- what stands for good is not among what goes
pub staying_out : (clauses : List Held) (database : Database) (places : List Place) (start : ℕ) (ids refs : List ℕ) (watched : List Literal) →
    AreHeld clauses database.rows.items → GoBy clauses database.rows.items start ids refs watched → AreStaying clauses database.shorts.items places ids →
    AreOut database.shorts.items (length places) refs
staying_out clauses database places start ids refs watched held gone a = record {
  low = a.low;
  out = all_from (λ r. ¬ Contains refs r) (take (length places) database.shorts.items) (λ r there in_refs.
      let (k, at) = get_from_Contains (take (length places) database.shorts.items) r there in
      let (within, in_all) = get_take (length places) database.shorts.items k r at in
      let s = a.each k r within in_all in
      let (x, in_gone, is) = map_cases (λ (y : LoggedClause). y.clause) (filter gone.test database.rows.items) r
      (subst (λ rs. Contains rs r) gone.noted.clauses_are in_refs) in
      let in_rows = (filter_cases gone.test database.rows.items x in_gone).0 in
      let in_ids = subst (λ xs. Contains xs x.id) (sym gone.noted.ids_are) (map_contains (λ (y : LoggedClause). y.id) (filter gone.test database.rows.items) x in_gone) in
      let id : id_in clauses r ≡ x.id = ap (λ o. unwrap_or o 0) (ap (id_of clauses) (sym is) ∙ id_from_row clauses database x held in_rows) in
      true≢false (sym (any_has ids (id_in clauses r) (subst (Contains ids) (sym id) in_ids)) ∙ s.1));
}

ground_less : (old new : WatchState) (before after : List Held) (database less : Database) (start : ℕ) (ids refs : List ℕ) (watched : List Literal)
    (es : List Entry) → IsLess before after database less start ids refs watched → AreStaying before database.shorts.items old.trail.places ids →
    new.trail ≡ old.trail → IsGround es database.shorts.items before old.trail.places → IsGround (without_ids ids es) less.shorts.items after new.trail.places
ground_less old new before after database less start ids refs watched es l a trail g =
    subst (IsGround (without_ids ids es) less.shorts.items after) (sym (ap (λ (t : TrailState). t.places) trail)) (record {
      each = λ k p at.
          let u = g.each k p at in
          let within = get_within old.trail.places k p at in
          let kept = staying_live before after database less start ids refs watched old.trail.places l a k u.ref within u.at in
          let s = a.each k u.ref within u.at in
          let id : u.entry.id ≡ id_in before u.ref = found_id es (id_in before u.ref) u.entry u.found in
          record {
            ref = u.ref;
            entry = u.entry;
            at = ap (λ xs. slice_get xs k) l.shorts ∙ filter_front (λ r. is_some (held_at after r)) database.shorts.items k u.ref (λ i q low e.
                let below : i < length old.trail.places = omega (arith, low, within) in
                ap is_some (staying_live before after database less start ids refs watched old.trail.places l a i q below e) ∙ (a.each i q below e).0) u.at;
            reason = u.reason;
            sole = ap (λ o. unwrap_or (option_map (λ (x : Held). x.literals) o) []) kept ∙ u.sole;
            found = ap (entry_of (without_ids ids es)) (ap (λ o. unwrap_or (option_map (λ (x : Held). x.id) o) 0) kept) ∙
                found_left ids es (id_in before u.ref) u.entry u.found (ap (stays_by ids) id ∙ ap not s.1);
            retired = u.retired;
          };
    })

ground_moved : (lists : List (List Watcher)) (before after : List Held) (names : List (ℕ × ℕ)) (database more : Database) (es : List Entry) (places : List Place) →
    HoldsEntries lists before database es → IsMoved before after names → more.shorts.items ≡ map (renamed_ref names) database.shorts.items →
    IsGround es database.shorts.items before places → IsGround es more.shorts.items after (map (renamed_place names) places)
ground_moved lists before after names database more es places s m shorts g = record {
  each = λ k q e.
      let (p, at, is) = get_map_cases (renamed_place names) places k q e in
      let u = g.each k p at in
      let live = All-contains (λ r. is_live before r ≡ true) database.shorts.items u.ref s.listed (Contains_from_get database.shorts.items k u.ref u.at) in
      let n = m.named u.ref live in
      record {
        ref = renamed_ref names u.ref;
        entry = u.entry;
        at = subst (λ xs. slice_get xs k ≡ Some (renamed_ref names u.ref)) (sym shorts) (get_map (renamed_ref names) database.shorts.items k u.ref u.at);
        reason = ap (λ (x : Place). x.reason) (sym is) ∙ ap (option_map (λ r. unwrap_or (new_name names r) r)) u.reason;
        sole = n.2 ∙ u.sole ∙ ap (λ (x : Place). x.literal ∷ []) is;
        found = ap (entry_of es) (ap (λ o. unwrap_or o 0) n.1) ∙ u.found;
        retired = u.retired;
      };
}

pub has_dropped : (old new : WatchState) (before after : List Held) (database less : Database) (start : ℕ) (ids refs : List ℕ) (watched : List Literal) →
    IsLess before after database less start ids refs watched → AreStaying before database.shorts.items old.trail.places ids → HasSwept old new after →
    HasDropped old new before after database less start ids
has_dropped old new before after database less start ids refs watched l a swept = record {
  serves = swept.serves;
  vars = ap (λ (t : TrailState). t.vars) swept.trail;
  ground = λ es s g. ground_less old new before after database less start ids refs watched es l a swept.trail g;
  levels = swept.levels;
  holds_entries = λ es s. holds_less old new before after database less start ids refs watched es l swept s;
  front = λ es s. (front_stays old before after database less start ids refs watched es l s).0;
  low = less_low before after database less start ids refs watched l;
  live = λ r is. sym (ap is_some (killed_still before after refs r l.killed is)) ∙ is;
}

pub has_compacted : (old new : WatchState) (before after : List Held) (names : List (ℕ × ℕ)) (database more : Database) →
    AllPairs (λ (x y : Held). x.ref < y.ref) before → AllPairs (λ (x y : Held). x.ref < y.ref) after → Serves new after →
    map meaning after ≡ map meaning before → IsRenaming before after names → new ≡ renamed_watch names old →
    more.rows.items ≡ map (renamed_row names) database.rows.items → more.shorts.items ≡ map (renamed_ref names) database.shorts.items →
    HasCompacted old new before after database more
has_compacted old new before after names database more up_before up_after serves same ren is rows shorts = record {
  serves = serves;
  vars = ap (λ (w : WatchState). w.trail.vars) is;
  ground = λ es s g. subst (IsGround es more.shorts.items after) (sym (ap (λ (w : WatchState). w.trail.places) is))
      (ground_moved old.lists before after names database more es old.trail.places s (moved old.lists database es before after names s up_before up_after same ren)
      shorts g);
  levels = ap (λ (w : WatchState). w.levels) is;
  holds_entries = λ es s. subst (λ ls. HoldsEntries ls after more es) (sym (ap (λ (w : WatchState). w.lists) is))
      (holds_moved old.lists before after names database more es s (moved old.lists database es before after names s up_before up_after same ren)
      rows shorts);
}

pub not_compacted : (w : WatchState) (clauses : List Held) (database : Database) → Serves w clauses → HasCompacted w w clauses clauses database database
not_compacted w clauses database serves = record {
  serves = serves;
  vars = refl;
  ground = λ es s g. g;
  levels = refl;
  holds_entries = λ es s. s;
}

-- ---- words

-- clauses of the same meaning take as many words
pub same_words : (after before : List Held) → map meaning after ≡ map meaning before → live_words after ≡ live_words before
same_words after before same = by_meaning after ∙ ap (λ ms. sum (map words ms)) same ∙ sym (by_meaning before)
  where
    words : ℕ × Clause → ℕ
    words m = length m.1 + 4

    by_meaning : (hs : List Held) → live_words hs ≡ sum (map words (map meaning hs))
    by_meaning hs = sym (sum-map (λ (h : Held). length h.literals + 4) hs) ∙ ap sum (sym (map-map words meaning hs))
