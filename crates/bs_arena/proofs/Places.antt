-- The places of all clauses that the words spell, dead ones among them.
use Rattle.std.proofs.Common.{◌≡◌, ℕ, zero, suc, ◌+◌, ◌<◌, arith, true, false, cond, List, [], ◌∷◌, ◌++◌, map, filter, length, set, swap, get_or}
use Rattle.std.proofs.Common.{refl, sym, ap, subst, ◌∙◌, eqb, Some, inl, inr, All}
use Rattle.std.specs.List.{AllByRecursion}
use Rattle.std.specs.Prelude.{Contains, is_some}
use Rattle.std.proofs.lemmas.Bool.{eq-eqb}
use Rattle.std.proofs.lemmas.List.{append-nil, length-append, map-append}
use Rattle.std.proofs.lemmas.List.Edits.{length-swap}
use Rattle.std.proofs.lemmas.List.Elements.{All-from_recursion}
use Rattle.bs_arena.specs.Words.{Stored, PlacedClause, spelling, spelling_of, placed_from, size}
use Rattle.bs_arena.specs.Arena.{Held, held, held_at, live_in, clauses_of, places_of, IsWellFormed}
use Rattle.bs_arena.proofs.Spellings.{read_back, spelling_of-append, placed_from-append}
use Rattle.bs_arena.proofs.Splits.{Split, Header, header, misses, replaced, killed_words, swapped_words}
use Rattle.bs_arena.proofs.Lookups.{not_found}
use Rattle.bs_arena.proofs.Compactions.{kept}

abbrev places_from : ℕ → List Stored → List ℕ
places_from at cs = map (λ (p : PlacedClause). p.place) (placed_from at cs)

-- the places of well formed words
pub places_are : (words : List ℕ) (cs : List Stored) → words ≡ spelling_of cs → places_of words ≡ places_from 0 cs
places_are words cs is = ap places_of is ∙ ap (map (λ (p : PlacedClause). p.place)) (read_back 0 cs)

-- one more clause
pub places_push : (cs : List Stored) (c : Stored) (words : List ℕ) → words ≡ spelling_of cs →
    places_of (words ++ spelling c) ≡ places_of words ++ length words ∷ []
places_push cs c words is =
    let whole : words ++ spelling c ≡ spelling_of (cs ++ c ∷ []) =
    ap (λ w. w ++ spelling c) is ∙ ap (λ r. spelling_of cs ++ r) (sym (append-nil (spelling c))) ∙ sym (spelling_of-append cs (c ∷ [])) in
    let at : 0 + length (spelling_of cs) ≡ length words = omega (arith, ap length is) in
    places_are (words ++ spelling c) (cs ++ c ∷ []) whole ∙
    ap (map (λ (p : PlacedClause). p.place)) (placed_from-append 0 cs (c ∷ [])) ∙
    map-append (λ (p : PlacedClause). p.place) (placed_from 0 cs) (placed_from (0 + length (spelling_of cs)) (c ∷ [])) ∙
    ap (λ n. places_from 0 cs ++ n ∷ []) at ∙
    ap (λ ps. ps ++ length words ∷ []) (sym (places_are words cs is))

-- another clause of the same size
places_same : (at : ℕ) (before after : List Stored) (c d : Stored) → length c.codes ≡ length d.codes →
    places_from at (before ++ c ∷ after) ≡ places_from at (before ++ d ∷ after)
places_same at [] after c d same = ap (λ n. at ∷ places_from (at + (n + 4)) after) same
places_same at (b ∷ before) after c d same = ap (λ ps. at ∷ ps) (places_same (at + size b) before after c d same)

pub places_kill : (words : List ℕ) (r : ℕ) (s : Split words r) → places_of (set words (r + 3) 0) ≡ places_of words
places_kill words r s =
    let dead : Stored = record { id = s.clause.id; live = false; codes = s.clause.codes } in
    places_are (set words (r + 3) 0) (s.before ++ dead ∷ s.after) (killed_words words r s) ∙
    places_same 0 s.before s.after dead s.clause refl ∙
    sym (places_are words (s.before ++ s.clause ∷ s.after) s.spelled)

pub places_swap : (words : List ℕ) (r i j : ℕ) (s : Split words r) → i < length s.clause.codes → j < length s.clause.codes →
    places_of (swap words (r + 4 + i) (r + 4 + j)) ≡ places_of words
places_swap words r i j s li lj =
    let other : Stored = record { id = s.clause.id; live = s.clause.live; codes = swap s.clause.codes i j } in
    places_are (swap words (r + 4 + i) (r + 4 + j)) (s.before ++ other ∷ s.after) (swapped_words words r i j s li lj) ∙
    places_same 0 s.before s.after other s.clause (length-swap s.clause.codes i j) ∙
    sym (places_are words (s.before ++ s.clause ∷ s.after) s.spelled)

-- after a compaction all clauses live
all_live : (at : ℕ) (cs : List Stored) → places_from at (kept cs) ≡ map (λ (h : Held). h.ref) (live_in (placed_from at (kept cs)))
all_live at [] = refl
all_live at (c ∷ cs) =
    elim (c.live) as (λ b. c.live ≡ b → places_from at (cond b (c ∷ kept cs) (kept cs)) ≡
    map (λ (h : Held). h.ref) (live_in (placed_from at (cond b (c ∷ kept cs) (kept cs))))) [
      | true ↦ λ is.
          ap (λ ps. at ∷ ps) (all_live (at + size c) cs) ∙
          ap (λ b. map (λ (h : Held). h.ref) (map held
          (cond b (record { place = at; clause = c } ∷ filter (λ p. p.clause.live) (placed_from (at + size c) (kept cs)))
          (filter (λ p. p.clause.live) (placed_from (at + size c) (kept cs)))))) (sym is)
      | false ↦ λ _. all_live at cs
    ] refl

pub places_compact : (after : List ℕ) (cs : List Stored) → after ≡ spelling_of (kept cs) → places_of after ≡ map (λ (h : Held). h.ref) (clauses_of after)
places_compact after cs is =
    places_are after (kept cs) is ∙ all_live 0 cs ∙ ap (λ ps. map (λ (h : Held). h.ref) (live_in ps)) (sym (read_back 0 (kept cs))) ∙
    ap (λ ws. map (λ (h : Held). h.ref) (clauses_of ws)) (sym is)

-- ---- each live clause stands at one of the places

later : (n r : ℕ) (ns : List ℕ) → Contains ns r → Contains (n ∷ ns) r
later n r ns k = (suc k.0, let within = k.1 in omega (arith, within), k.2)

shifted : (n : ℕ) (ns : List ℕ) (hs : List Held) → AllByRecursion (λ (h : Held). Contains ns h.ref) hs →
    AllByRecursion (λ (h : Held). Contains (n ∷ ns) h.ref) hs
shifted n ns [] all = tt
shifted n ns (h ∷ hs) all = (later n h.ref ns all.0, shifted n ns hs all.1)

each_placed : (at : ℕ) (cs : List Stored) → AllByRecursion (λ (h : Held). Contains (places_from at cs) h.ref) (live_in (placed_from at cs))
each_placed at [] = tt
each_placed at (c ∷ cs) =
    let rest = shifted at (places_from (at + size c) cs) (live_in (placed_from (at + size c) cs)) (each_placed (at + size c) cs) in
    elim (c.live) as (λ b. AllByRecursion (λ (h : Held). Contains (places_from at (c ∷ cs)) h.ref) (map held
    (cond b (record { place = at; clause = c } ∷ filter (λ p. p.clause.live) (placed_from (at + size c) cs))
    (filter (λ p. p.clause.live) (placed_from (at + size c) cs))))) [
      | true ↦ ((0, omega arith, refl), rest)
      | false ↦ rest
    ]

pub clauses_placed : (words : List ℕ) → IsWellFormed words → All (λ (h : Held). Contains (places_of words) h.ref) (clauses_of words)
clauses_placed words w =
    let listed : live_in (placed_from 0 w.stored) ≡ clauses_of words = sym (ap clauses_of w.spelled ∙ ap live_in (read_back 0 w.stored)) in
    subst (λ ps. All (λ (h : Held). Contains ps h.ref) (clauses_of words)) (sym (places_are words w.stored w.spelled))
    (subst (All (λ (h : Held). Contains (places_from 0 w.stored) h.ref)) listed
    (All-from_recursion (λ (h : Held). Contains (places_from 0 w.stored) h.ref) (live_in (placed_from 0 w.stored)) (each_placed 0 w.stored)))

-- ---- whether the clause at a place lives

-- the clause, with those before and after it
pub record Site (words : List ℕ) (r : ℕ) : Type 0 where
  pub clause : Stored
  pub header : Header words r clause
  pub lives : is_some (held_at (clauses_of words) r) ≡ clause.live

record Stands (at : ℕ) (cs : List Stored) (r : ℕ) : Type 0 where
  before : List Stored
  clause : Stored
  after : List Stored
  parts : cs ≡ before ++ clause ∷ after
  place : r ≡ at + length (spelling_of before)

stands_at : (at : ℕ) (cs : List Stored) (r i : ℕ) → i < length (places_from at cs) → get_or (places_from at cs) i r ≡ r → Stands at cs r
stands_at at [] r i lt is = absurd (omega (arith, lt))
stands_at at (c ∷ cs) r zero lt is = record { before = []; clause = c; after = cs; parts = refl; place = omega (arith, is) }
stands_at at (c ∷ cs) r (suc i) lt is =
    let s : Stands (at + size c) cs r = stands_at (at + size c) cs r i (omega (arith, lt)) is in
    record {
      before = c ∷ s.before;
      clause = s.clause;
      after = s.after;
      parts = ap (λ r. c ∷ r) s.parts;
      place = omega (arith, s.place, length-append (spelling c) (spelling_of s.before));
    }

-- a clause that is not among the first ones is looked for in the others
found_behind : (hs more : List Held) (r : ℕ) → AllByRecursion (λ (h : Held). eqb h.ref r ≡ false) hs → held_at (hs ++ more) r ≡ held_at more r
found_behind [] more r all = refl
found_behind (h ∷ hs) more r all = ap (λ b. cond b (Some h) (held_at (hs ++ more) r)) all.0 ∙ found_behind hs more r all.1

lives_there : (r n : ℕ) (c : Stored) (after : List Stored) → r + size c ≡ n →
    is_some (held_at (cond c.live (held (record { place = r; clause = c }) ∷ []) [] ++ live_in (placed_from n after)) r) ≡ c.live
lives_there r n c after is =
    elim (c.live) as (λ b. is_some (held_at (cond b (held (record { place = r; clause = c }) ∷ []) [] ++ live_in (placed_from n after)) r) ≡ b) [
      | true ↦ ap (λ t. is_some (cond t (Some (held (record { place = r; clause = c }))) (held_at (live_in (placed_from n after)) r))) (eq-eqb r r refl)
      | false ↦ ap is_some (not_found (live_in (placed_from n after)) r (misses n r after (inl (omega (arith, is)))))
    ]

pub site_of : (words places : List ℕ) (r : ℕ) → IsWellFormed words → places_of words ≡ places → Contains places r → Site words r
site_of words places r w same there =
    let k : Contains (places_from 0 w.stored) r = subst (λ ps. Contains ps r) (sym same ∙ places_are words w.stored w.spelled) there in
    let s : Stands 0 w.stored r = stands_at 0 w.stored r k.0 k.1 k.2 in
    let place : r ≡ length (spelling_of s.before) = omega (arith, s.place) in
    let spelled : words ≡ spelling_of (s.before ++ s.clause ∷ s.after) = w.spelled ∙ ap spelling_of s.parts in
    let whole = ap clauses_of spelled ∙ replaced s.before s.after s.clause r (r + size s.clause) place refl in
    record {
      clause = s.clause;
      header = header words (spelling_of s.before) (spelling_of s.after) r s.clause place (spelled ∙ spelling_of-append s.before (s.clause ∷ s.after));
      lives =
          ap (λ hs. is_some (held_at hs r)) whole ∙
          ap is_some (found_behind (live_in (placed_from 0 s.before))
          (cond s.clause.live (held (record { place = r; clause = s.clause }) ∷ []) [] ++ live_in (placed_from (r + size s.clause) s.after)) r
          (misses 0 r s.before (inr (omega (arith, place))))) ∙
          lives_there r (r + size s.clause) s.clause s.after refl;
    }
