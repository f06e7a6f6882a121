-- The end of a step.
use Rattle.std.proofs.Common.{◌≡◌, ℕ, ◌≤◌, arith, Bool, true, false, not, List, [], ◌∷◌, ◌++◌, map, length, take, sym, ap, subst, ◌∙◌, inl, inr, Some, None, eqb}
use Rattle.std.specs.Prelude.{All, Contains, count_by}
use Rattle.std.specs.List.{filter, list_any}
use Rattle.std.proofs.lemmas.Bool.{cases_Bool, false≢true}
use Rattle.std.proofs.lemmas.List.{append-nil}
use Rattle.std.proofs.lemmas.List.Elements.{All-contains, filter-append}
use Rattle.std.proofs.lemmas.List.Sorted.{All-permutation}
use Rattle.bs_clause.specs.Literal.{Literal, negation}
use Rattle.bs_clause.specs.Range.{HasVariables, IsWithin}
use Rattle.bs_log.specs.declared.origin.Origin.{Origin}
use Rattle.bs_log.specs.declared.origin.Origin.TheVariants.{Axiom, Learnt, Blocked as FromBlock, Retired}
use Rattle.bs_log.specs.Kept.{is_kept}
use Rattle.bs_log.specs.History.{Entry}
use Rattle.bs_log.specs.Refusal.{is_lemma_or_block, entry_of}
use Rattle.bs_arena.specs.Arena.{Held, literals_at}
use Rattle.bs_watch.specs.Watch.{WatchState, Serves}
use Rattle.bs_solve_lemmas.specs.declared.row.LoggedClause.{LoggedClause}
use Rattle.bs_solve_lemmas.specs.declared.selection.Leaving.{Leaving}
use Rattle.bs_solve_lemmas.specs.Keeping.{Ascends, AreKnown, goes, is_long_row}
use Rattle.bs_solve_lemmas.specs.Notes.{IsNoted}
use Rattle.bs_solve_lemmas.specs.Rows.{AreInOrder, AreRowsOf, AreRowsAmong, going}
use Rattle.bs_solve_lemmas.proofs.Deletions.{leaving_ids, named}
use Rattle.bs_solve_lemmas.specs.ProofLog.{ProofLog, next_id}
use Rattle.bs_watch.proofs.Gets.{some_at, same_some, Contains_from_get}
use Rattle.bs_solve_lemmas.proofs.Clauses.{all_from, filter_cases, map_cases, map_contains}
use Rattle.bs_solve_lemmas.proofs.Entries.{found_stands, found_still}
use Rattle.bs_solve.specs.declared.database.Database.{Database}
use Rattle.bs_solve.specs.Database.{entries, is_live, id_in, HoldsEntries}
use Rattle.bs_solve.specs.Ground.{IsGround}
use Rattle.bs_solve.specs.Retiring.{HasRetired}
use Rattle.bs_solve.proofs.Grounds.{ground_low}
use Rattle.bs_solve.proofs.Droppings.{any_cases}
use Rattle.bs_solve.specs.Learning.{IsAtRest}
use Rattle.bs_solve.proofs.Entries.{clauses_in, id_of, id_is_live}
use Rattle.bs_solve.specs.declared.dropping.CountedRows.{CountedRows}
use Rattle.bs_solve.specs.Dropping.{without_ids, marked, AreKnownIn, AreStaying, HasDropped, HasCompacted}
use Rattle.bs_solve.specs.Ending.{unit_of, HasPrepared, HasSettled}
use Rattle.bs_solve.proofs.Knowns.{known_rows, rows_ascend, length_rows, counted_front, counted_rows}

-- the unit is no lemma and no block
pub marked_unit : (es : List Entry) (b : ProofLog) (activation : Literal) → marked (es ++ unit_of b activation ∷ []) ≡ marked es
marked_unit es b activation = filter-append is_lemma_or_block es (unit_of b activation ∷ []) ∙ append-nil (marked es)

-- the clause database with the unit
pub unit_held : (b : ProofLog) (w new : WatchState) (before after : List Held) (database more : Database) (id : ℕ) (activation neg : Literal) →
    IsAtRest b w before database → HasRetired w new before after database more id neg →
    id ≡ next_id b → entry_of (entries b) id ≡ None → neg ≡ negation activation → HoldsEntries new.lists after more (entries b ++ unit_of b activation ∷ [])
unit_held b w new before after database more id activation neg rest h is fresh is_neg =
    subst (HoldsEntries new.lists after more) (λ i. entries b ++ record { id = is i; origin = Retired; literals = is_neg i ∷ [] } ∷ [])
    (h.holds_entries (entries b) fresh rest.holds_entries)

pub unit_stands : (b : ProofLog) (w new : WatchState) (before after : List Held) (database more : Database) (id : ℕ) (activation neg : Literal) →
    IsAtRest b w before database → HasRetired w new before after database more id neg →
    id ≡ next_id b → entry_of (entries b) id ≡ None → neg ≡ negation activation →
    IsGround (entries b ++ unit_of b activation ∷ []) more.shorts.items after new.trail.places
unit_stands b w new before after database more id activation neg rest h is fresh is_neg =
    subst (λ es. IsGround es more.shorts.items after new.trail.places)
    (λ i. entries b ++ record { id = is i; origin = Retired; literals = is_neg i ∷ [] } ∷ []) (h.ground (entries b) fresh rest.holds_entries rest.ground)

-- ---- what stands for good stays

retired_is_other : (e : Entry) → e.origin ≡ Retired → is_lemma_or_block e ≡ true → ⊥
retired_is_other e is on = by e.origin is on
  where
    by : (o : Origin) → o ≡ Retired → is_lemma_or_block (record { id = e.id; origin = o; literals = e.literals }) ≡ true → ⊥
    by Axiom is on = false≢true on
    by Retired is on = false≢true on
    by Learnt is on = false≢true (ap test is)
      where
        test : Origin → Bool
        test Retired = true
        test _ = false
    by FromBlock is on = false≢true (ap test is)
      where
        test : Origin → Bool
        test Retired = true
        test _ = false

not_in : (ids : List ℕ) (id : ℕ) → ¬ Contains ids id → list_any (λ d. eqb id d) ids ≡ false
not_in ids id out = elim (cases_Bool (list_any (λ d. eqb id d) ids)) [
  | inl on ↦ absurd (out (any_cases ids id on))
  | inr off ↦ off
]

pub unit_stays : (b : ProofLog) (w : WatchState) (clauses : List Held) (database : Database) (activation : Literal) (steps : ℕ) (ids : List ℕ) →
    AreInOrder (entries b) → HoldsEntries w.lists clauses database (entries b ++ unit_of b activation ∷ []) →
    IsGround (entries b ++ unit_of b activation ∷ []) database.shorts.items clauses w.trail.places →
    ids ≡ map (λ e. e.id) (going b.problem steps (entries b ++ unit_of b activation ∷ [])) → AreStaying clauses database.shorts.items w.trail.places ids
unit_stays b w clauses database activation steps ids order s g ids_are = record {
  low = ground_low (entries b ++ unit_of b activation ∷ []) database.shorts.items clauses w.trail.places g;
  each = λ k r within at.
      let (p, here) = some_at w.trail.places k within in
      let u = g.each k p here in
      let one : u.ref ≡ r = same_some u.ref r (sym u.at ∙ at) in (
        All-contains (λ x. is_live clauses x ≡ true) database.shorts.items r s.listed (Contains_from_get database.shorts.items k r at),
        not_in ids (id_in clauses r) (λ there.
            let (e, in_going, is) = map_cases (λ (x : Entry). x.id) (going b.problem steps (entries b ++ unit_of b activation ∷ [])) (id_in clauses r)
            (subst (λ xs. Contains xs (id_in clauses r)) ids_are there) in
            let in_marked = (filter_cases (λ x. not (is_kept b.problem steps (entries b ++ unit_of b activation ∷ []) x))
            (filter is_lemma_or_block (entries b ++ unit_of b activation ∷ [])) e in_going).0 in
            let marked_e = filter_cases is_lemma_or_block (entries b) e (subst (λ xs. Contains xs e) (marked_unit (entries b) b activation) in_marked) in
            let found = found_still (entries b) (unit_of b activation ∷ []) e.id e (named (entries b) e order marked_e.0) in
            let same : e ≡ u.entry = same_some e u.entry (sym found ∙
            ap (entry_of (entries b ++ unit_of b activation ∷ [])) (is ∙ ap (id_in clauses) (sym one)) ∙ u.found) in
            retired_is_other e (ap (λ (x : Entry). x.origin) same ∙ u.retired) marked_e.1),
      );
}

rows_of_unit : (b : ProofLog) (clauses : List Held) (database : Database) (activation : Literal) → AreRowsAmong clauses database.rows.items (entries b ++ unit_of b activation ∷ []) →
    AreRowsOf clauses database.rows.items (marked (entries b))
rows_of_unit b clauses database activation r = subst (AreRowsOf clauses database.rows.items) (marked_unit (entries b) b activation) r

pub prepared_ascends : (b : ProofLog) (w : WatchState) (clauses : List Held) (database : Database) (activation : Literal) →
    HoldsEntries w.lists clauses database (entries b ++ unit_of b activation ∷ []) → AreInOrder (entries b) → Ascends database.rows.items
prepared_ascends b w clauses database activation s order = rows_ascend clauses database.rows.items (entries b) order (rows_of_unit b clauses database activation s.rows)

pub prepared_known : (b : ProofLog) (w : WatchState) (clauses : List Held) (database : Database) (activation : Literal) (own steps n long : ℕ) →
    HoldsEntries w.lists clauses database (entries b ++ unit_of b activation ∷ []) → AreKnownIn own steps (marked (entries b)) n long →
    AreKnown own steps clauses database.rows.items n long
prepared_known b w clauses database activation own steps n long s k =
    known_rows own steps clauses database.rows.items (marked (entries b)) n long (rows_of_unit b clauses database activation s.rows) k

pub prepared : (b : ProofLog) (own steps spare : ℕ) (old new : WatchState) (clauses : List Held) (database : Database) (activation : Literal) (leaving : Leaving) →
    own ≡ b.problem.vars → HoldsEntries new.lists clauses database (entries b ++ unit_of b activation ∷ []) → Serves new clauses →
    new.trail.vars ≡ old.trail.vars → IsGround (entries b ++ unit_of b activation ∷ []) database.shorts.items clauses new.trail.places →
    new.levels ≡ old.levels → AreInOrder (entries b) →
    IsNoted clauses (filter (goes own steps clauses database.rows.items) database.rows.items) leaving.ids leaving.clauses.items leaving.watched.items →
    leaving.start ≤ length database.rows.items → filter (goes own steps clauses database.rows.items) (take leaving.start database.rows.items) ≡ [] →
    length clauses ≤ spare → HasPrepared b steps old new clauses database spare activation leaving
prepared b own steps spare old new clauses database activation leaving own_is s serves vars ground levels order noted low none room =
    let ids = noted.ids_are ∙ leaving_ids b.problem own steps clauses database.rows.items (entries b ++ unit_of b activation ∷ []) (sym own_is) s.rows in record {
      holds_entries = s;
      serves = serves;
      vars = vars;
      ground = ground;
      staying = unit_stays b new clauses database activation steps leaving.ids order s ground ids;
      levels = levels;
      ids = ids;
      gone = record { test = goes own steps clauses database.rows.items; noted = noted; low = low; none = none };
      ascends = prepared_ascends b new clauses database activation s order;
      room = room;
    }

-- ---- what is leaving goes

-- the rows' clauses are over the variables
pub settling_range : (w : WatchState) (clauses : List Held) (database : Database) (es : List Entry) → HoldsEntries w.lists clauses database es →
    All (HasVariables w.trail.vars) (clauses_in es) →
    All (λ (row : LoggedClause). HasVariables w.trail.vars (literals_at clauses row.clause)) database.rows.items
settling_range w clauses database es s range = all_from (λ (row : LoggedClause). HasVariables w.trail.vars (literals_at clauses row.clause)) database.rows.items (λ row there.
    let id = All-contains (λ (y : LoggedClause). id_of clauses y.clause ≡ Some y.id) database.rows.items row s.rows_live there in
    let (e, found, same) = s.spelled row.clause (id_is_live clauses row.clause row.id id) in
    All-permutation (IsWithin w.trail.vars) e.literals (literals_at clauses row.clause) same
    (All-contains (HasVariables w.trail.vars) (clauses_in es) e.literals range
    (map_contains (λ (x : Entry). x.literals) es e (found_stands es (id_in clauses row.clause) e found))))

-- the clause database after both
pub both_held : (old mid new : WatchState) (before between after : List Held) (database less more : Database) (start : ℕ) (ids : List ℕ) (es : List Entry) →
    HasDropped old mid before between database less start ids → HasCompacted mid new between after less more → HoldsEntries old.lists before database es →
    HoldsEntries new.lists after more (without_ids ids es)
both_held old mid new before between after database less more start ids es d m s = m.holds_entries (without_ids ids es) (d.holds_entries es s)

pub settled_low : (old mid new : WatchState) (before between after : List Held) (database less more : Database) (start : ℕ) (ids : List ℕ) (es : List Entry) →
    HasDropped old mid before between database less start ids → HasCompacted mid new between after less more → HoldsEntries old.lists before database es →
    start ≤ length more.rows.items
settled_low old mid new before between after database less more start ids es d m s =
    let one = length_rows between less.rows.items (marked (without_ids ids es)) (d.holds_entries es s).rows in
    let two = length_rows after more.rows.items (marked (without_ids ids es)) (both_held old mid new before between after database less more start ids
    es d m s).rows in
    let low = d.low in omega (arith, one, two, low)

pub settled_long : (own steps : ℕ) (known : CountedRows) (old mid new : WatchState) (before between after : List Held) (database less more : Database) (start : ℕ)
    (ids : List ℕ) (es : List Entry) →
    HasDropped old mid before between database less start ids → HasCompacted mid new between after less more → HoldsEntries old.lists before database es →
    AreKnownIn own steps (marked es) known.rows known.long → start ≡ known.rows →
    known.long ≡ count_by (is_long_row own steps after) (take start more.rows.items)
settled_long own steps known old mid new before between after database less more start ids es d m s k same =
    counted_front own steps after more.rows.items (marked (without_ids ids es)) (marked es) start known.rows known.long
    (both_held old mid new before between after database less more start ids es d m s).rows (d.front es s) k same

pub settled : (own steps : ℕ) (known : CountedRows) (old mid new : WatchState) (before between after : List Held) (database less more : Database) (start : ℕ)
    (ids : List ℕ) →
    HasDropped old mid before between database less start ids → HasCompacted mid new between after less more →
    known.rows ≡ length more.rows.items → known.long ≡ count_by (is_long_row own steps after) more.rows.items →
    HasSettled own steps old new before after database more ids known
settled own steps known old mid new before between after database less more start ids d m rows long = record {
  serves = m.serves;
  vars = m.vars ∙ d.vars;
  ground = λ es s g. m.ground (without_ids ids es) (d.holds_entries es s) (d.ground es s g);
  levels = m.levels ∙ d.levels;
  holds_entries = λ es s. both_held old mid new before between after database less more start ids es d m s;
  rows = λ es s. rows ∙ length_rows after more.rows.items (marked (without_ids ids es))
      (both_held old mid new before between after database less more start ids es d m s).rows;
  long = λ es s. counted_rows own steps after more.rows.items (marked (without_ids ids es)) known.long
      (both_held old mid new before between after database less more start ids es d m s).rows long;
}
