-- What a reference names after each call.
use Rattle.std.proofs.Common.{◌≡◌, ◌≢◌, ℕ, ◌+◌, ◌≤◌, arith, Bool, true, false, not, cond, List, [], ◌∷◌, ◌++◌, map, filter, length, refl, sym, ap}
use Rattle.std.proofs.Common.{subst, ◌∙◌, eqb, Some, None, Option, inr}
use Rattle.std.specs.List.{AllByRecursion, find}
use Rattle.std.specs.Prelude.{is_some, option_map}
use Rattle.std.proofs.lemmas.Bool.{eqb-true, eq-eqb, ne_eqb, false≢true}
use Rattle.bs_arena.specs.Words.{Stored, placed_from, size}
use Rattle.bs_arena.specs.Arena.{Held, held, held_at, live_in, clauses_of, meaning, swapped, Keeps, KeepsOthers, IsWellFormed}
use Rattle.bs_arena.specs.Renaming.{new_name, IsRenaming}
use Rattle.bs_arena.proofs.Spellings.{read_back}
use Rattle.bs_arena.proofs.Splits.{misses}
use Rattle.bs_arena.proofs.Compactions.{kept, names_of}

-- ---- a clause is added

found_last : (hs : List Held) (h : Held) → AllByRecursion (λ (g : Held). eqb g.ref h.ref ≡ false) hs → held_at (hs ++ h ∷ []) h.ref ≡ Some h
found_last [] h all = ap (λ b. cond b (Some h) None) (eq-eqb h.ref h.ref refl)
found_last (g ∷ hs) h all = ap (λ b. cond b (Some g) (held_at (hs ++ h ∷ []) h.ref)) all.0 ∙ found_last hs h all.1

pub not_found : (hs : List Held) (r : ℕ) → AllByRecursion (λ (g : Held). eqb g.ref r ≡ false) hs → held_at hs r ≡ None
not_found [] r all = refl
not_found (g ∷ hs) r all = ap (λ b. cond b (Some g) (held_at hs r)) all.0 ∙ not_found hs r all.1

found_still : (hs more : List Held) (r : ℕ) → is_some (held_at hs r) ≡ true → held_at (hs ++ more) r ≡ held_at hs r
found_still [] more r some = absurd (false≢true some)
found_still (g ∷ hs) more r some =
    elim (eqb g.ref r) as (λ b. is_some (cond b (Some g) (held_at hs r)) ≡ true → cond b (Some g) (held_at (hs ++ more) r) ≡ cond b (Some g) (held_at hs r)) [
      | true ↦ λ _. refl
      | false ↦ λ later. found_still hs more r later
    ] some

beyond : (words : List ℕ) → IsWellFormed words → AllByRecursion (λ (g : Held). eqb g.ref (length words) ≡ false) (clauses_of words)
beyond words w =
    subst (AllByRecursion (λ (g : Held). eqb g.ref (length words) ≡ false)) (sym (ap clauses_of w.spelled ∙ ap live_in (read_back 0 w.stored)))
    (misses 0 (length words) w.stored (inr (omega (arith, ap length w.spelled))))

pub added_is_found : (words : List ℕ) (w : IsWellFormed words) (old new : List Held) (h : Held) → clauses_of words ≡ old → new ≡ old ++ h ∷ [] →
    h.ref ≡ length words → held_at new h.ref ≡ Some h
added_is_found words w old new h same is at =
    ap (λ hs. held_at hs h.ref) is ∙
    found_last old h (subst (λ r. AllByRecursion (λ (g : Held). eqb g.ref r ≡ false) old) (sym at)
    (subst (AllByRecursion (λ (g : Held). eqb g.ref (length words) ≡ false)) same (beyond words w)))

pub added_is_fresh : (words : List ℕ) (w : IsWellFormed words) (old : List Held) (r : ℕ) → clauses_of words ≡ old → r ≡ length words → held_at old r ≡ None
added_is_fresh words w old r same at =
    not_found old r (subst (λ k. AllByRecursion (λ (g : Held). eqb g.ref k ≡ false) old) (sym at)
    (subst (AllByRecursion (λ (g : Held). eqb g.ref (length words) ≡ false)) same (beyond words w)))

pub keeps_more : (old new more : List Held) → new ≡ old ++ more → Keeps old new
keeps_more old new more is = record { kept = λ r some. ap (λ hs. held_at hs r) is ∙ found_still old more r some }

pub keeps_same : (old new : List Held) → new ≡ old → Keeps old new
keeps_same old new is = record { kept = λ r _. ap (λ hs. held_at hs r) is }

-- ---- a clause is killed or changed

gone_from : (hs : List Held) (r : ℕ) → held_at (filter (λ (h : Held). not (eqb h.ref r)) hs) r ≡ None
gone_from [] r = refl
gone_from (g ∷ hs) r =
    elim (eqb g.ref r) as
    (λ b. eqb g.ref r ≡ b → held_at (cond (not b) (g ∷ filter (λ (h : Held). not (eqb h.ref r)) hs) (filter (λ (h : Held). not (eqb h.ref r)) hs)) r ≡ None) [
      | true ↦ λ _. gone_from hs r
      | false ↦ λ other. ap (λ b. cond b (Some g) (held_at (filter (λ (h : Held). not (eqb h.ref r)) hs) r)) other ∙ gone_from hs r
    ] refl

others_stay : (hs : List Held) (q r : ℕ) → q ≢ r → held_at (filter (λ (h : Held). not (eqb h.ref r)) hs) q ≡ held_at hs q
others_stay [] q r ne = refl
others_stay (g ∷ hs) q r ne =
    let rest = others_stay hs q r ne in
    elim (eqb g.ref r) as
    (λ b. eqb g.ref r ≡ b →
    held_at (cond (not b) (g ∷ filter (λ (h : Held). not (eqb h.ref r)) hs) (filter (λ (h : Held). not (eqb h.ref r)) hs)) q ≡ held_at (g ∷ hs) q) [
      | true ↦ λ same. rest ∙ sym (ap (λ b. cond b (Some g) (held_at hs q)) (ne_eqb g.ref q (λ e. ne (sym e ∙ eqb-true g.ref r same))))
      | false ↦ λ _. ap (λ o. cond (eqb g.ref q) (Some g) o) rest
    ] refl

pub gone : (old new : List Held) (r : ℕ) → new ≡ filter (λ (h : Held). not (eqb h.ref r)) old → held_at new r ≡ None
gone old new r is = ap (λ hs. held_at hs r) is ∙ gone_from old r

pub others_of_kill : (old new : List Held) (r : ℕ) → new ≡ filter (λ (h : Held). not (eqb h.ref r)) old → KeepsOthers old new r
others_of_kill old new r is = record { kept = λ q ne. ap (λ hs. held_at hs q) is ∙ others_stay old q r ne }

changed_one : (hs : List Held) (r i j : ℕ) →
    held_at (map (λ (h : Held). cond (eqb h.ref r) (swapped h i j) h) hs) r ≡ option_map (λ (h : Held). swapped h i j) (held_at hs r)
changed_one [] r i j = refl
changed_one (g ∷ hs) r i j =
    elim (eqb g.ref r) as (λ b. eqb g.ref r ≡ b → held_at (cond b (swapped g i j) g ∷ map (λ (h : Held). cond (eqb h.ref r) (swapped h i j) h) hs) r ≡
    option_map (λ (h : Held). swapped h i j) (cond b (Some g) (held_at hs r))) [
      | true ↦ λ same. ap (λ b. cond b (Some (swapped g i j)) (held_at (map (λ (h : Held). cond (eqb h.ref r) (swapped h i j) h) hs) r)) same
      | false ↦ λ other. ap (λ b. cond b (Some g) (held_at (map (λ (h : Held). cond (eqb h.ref r) (swapped h i j) h) hs) r)) other ∙ changed_one hs r i j
    ] refl

unchanged : (hs : List Held) (q r i j : ℕ) → q ≢ r → held_at (map (λ (h : Held). cond (eqb h.ref r) (swapped h i j) h) hs) q ≡ held_at hs q
unchanged [] q r i j ne = refl
unchanged (g ∷ hs) q r i j ne =
    let rest = unchanged hs q r i j ne in
    elim (eqb g.ref r) as
    (λ b. eqb g.ref r ≡ b → held_at (cond b (swapped g i j) g ∷ map (λ (h : Held). cond (eqb h.ref r) (swapped h i j) h) hs) q ≡ held_at (g ∷ hs) q) [
      | true ↦ λ same.
          let other : eqb g.ref q ≡ false = ne_eqb g.ref q (λ e. ne (sym e ∙ eqb-true g.ref r same)) in
          ap (λ b. cond b (Some (swapped g i j)) (held_at (map (λ (h : Held). cond (eqb h.ref r) (swapped h i j) h) hs) q)) other ∙ rest ∙
          sym (ap (λ b. cond b (Some g) (held_at hs q)) other)
      | false ↦ λ _. ap (λ o. cond (eqb g.ref q) (Some g) o) rest
    ] refl

pub swapped_is_found : (old new : List Held) (r i j : ℕ) → new ≡ map (λ (h : Held). cond (eqb h.ref r) (swapped h i j) h) old →
    held_at new r ≡ option_map (λ (h : Held). swapped h i j) (held_at old r)
swapped_is_found old new r i j is = ap (λ hs. held_at hs r) is ∙ changed_one old r i j

pub others_of_swap : (old new : List Held) (r i j : ℕ) → new ≡ map (λ (h : Held). cond (eqb h.ref r) (swapped h i j) h) old → KeepsOthers old new r
others_of_swap old new r i j is = record { kept = λ q ne. ap (λ hs. held_at hs q) is ∙ unchanged old q r i j ne }

-- ---- a compaction

named_where_live : (from to : ℕ) (cs : List Stored) (r : ℕ) → is_some (new_name (names_of from to cs) r) ≡ is_some (held_at (live_in (placed_from from cs)) r)
named_where_live from to [] r = refl
named_where_live from to (c ∷ cs) r =
    elim (c.live) as (λ b. is_some (new_name (cond b ((from, to) ∷ names_of (from + size c) (to + size c) cs) (names_of (from + size c) to cs)) r) ≡
    is_some (held_at (map held
    (cond b (record { place = from; clause = c } ∷ filter (λ p. p.clause.live) (placed_from (from + size c) cs))
    (filter (λ p. p.clause.live) (placed_from (from + size c) cs)))) r)) [
      | true ↦ elim (eqb from r) as
          (λ t. is_some (option_map (λ (n : ℕ × ℕ). n.1)
          (cond t (Some (from, to)) (find (λ (n : ℕ × ℕ). eqb n.0 r) (names_of (from + size c) (to + size c) cs)))) ≡
          is_some (cond t (Some (held (record { place = from; clause = c }))) (held_at (live_in (placed_from (from + size c) cs)) r))) [
            | true ↦ refl
            | false ↦ named_where_live (from + size c) (to + size c) cs r
          ]
      | false ↦ named_where_live (from + size c) to cs r
    ]

-- new references are not below the place where the clauses move to
not_below : (from to : ℕ) (cs : List Stored) (r s : ℕ) → new_name (names_of from to cs) r ≡ Some s → to ≤ s
not_below from to [] r s e = absurd (cc)
not_below from to (c ∷ cs) r s e =
    elim (c.live) as (λ b. new_name (cond b ((from, to) ∷ names_of (from + size c) (to + size c) cs) (names_of (from + size c) to cs)) r ≡ Some s → to ≤ s) [
      | true ↦ elim (eqb from r) as
          (λ t. option_map (λ (n : ℕ × ℕ). n.1)
          (cond t (Some (from, to)) (find (λ (n : ℕ × ℕ). eqb n.0 r) (names_of (from + size c) (to + size c) cs))) ≡ Some s → to ≤ s) [
            | true ↦ λ here. let same : to ≡ s = cc in omega (arith, same)
            | false ↦ λ later. let rest = not_below (from + size c) (to + size c) cs r s later in omega (arith, rest)
          ]
      | false ↦ λ later. not_below (from + size c) to cs r s later
    ] e

same_meaning : (from to : ℕ) (cs : List Stored) (r s : ℕ) → new_name (names_of from to cs) r ≡ Some s →
    option_map meaning (held_at (live_in (placed_from to (kept cs))) s) ≡ option_map meaning (held_at (live_in (placed_from from cs)) r)
same_meaning from to [] r s e = absurd (cc)
same_meaning from to (c ∷ cs) r s e =
    elim (c.live) as (λ b. c.live ≡ b → new_name (cond b ((from, to) ∷ names_of (from + size c) (to + size c) cs) (names_of (from + size c) to cs)) r ≡ Some s →
    option_map meaning (held_at (live_in (placed_from to (cond b (c ∷ kept cs) (kept cs)))) s) ≡
    option_map meaning (held_at
    (map held (cond b (record { place = from; clause = c } ∷ filter (λ p. p.clause.live) (placed_from (from + size c) cs))
    (filter (λ p. p.clause.live) (placed_from (from + size c) cs)))) r)) [
      | true ↦ λ is. elim (eqb from r) as
          (λ t. option_map (λ (n : ℕ × ℕ). n.1) (cond t (Some (from, to))
          (find (λ (n : ℕ × ℕ). eqb n.0 r) (names_of (from + size c) (to + size c) cs))) ≡ Some s →
          option_map meaning (held_at (live_in (placed_from to (c ∷ kept cs))) s) ≡
          option_map meaning (cond t (Some (held (record { place = from; clause = c }))) (held_at (live_in (placed_from (from + size c) cs)) r))) [
            | true ↦ λ here.
                let same : to ≡ s = cc in
                ap (λ b. option_map meaning
                (held_at (map held (cond b (record { place = to; clause = c } ∷ filter (λ p. p.clause.live) (placed_from (to + size c) (kept cs)))
                (filter (λ p. p.clause.live) (placed_from (to + size c) (kept cs))))) s)) is ∙
                ap (λ t. option_map meaning
                (cond t (Some (held (record { place = to; clause = c }))) (held_at (live_in (placed_from (to + size c) (kept cs))) s))) (eq-eqb to s same)
            | false ↦ λ later.
                let above = not_below (from + size c) (to + size c) cs r s later in
                ap (λ b. option_map meaning
                (held_at (map held (cond b (record { place = to; clause = c } ∷ filter (λ p. p.clause.live) (placed_from (to + size c) (kept cs)))
                (filter (λ p. p.clause.live) (placed_from (to + size c) (kept cs))))) s)) is ∙
                ap (λ t. option_map meaning
                (cond t (Some (held (record { place = to; clause = c }))) (held_at (live_in (placed_from (to + size c) (kept cs))) s)))
                (ne_eqb to s (λ same. omega (arith, above, same))) ∙
                same_meaning (from + size c) (to + size c) cs r s later
          ]
      | false ↦ λ _ later. same_meaning (from + size c) to cs r s later
    ] refl e

-- no two references have one new name
named_apart : (from to : ℕ) (cs : List Stored) (q r s : ℕ) → new_name (names_of from to cs) q ≡ Some s → new_name (names_of from to cs) r ≡ Some s → q ≡ r
named_apart from to [] q r s e f = absurd (cc)
named_apart from to (c ∷ cs) q r s e f =
    let later : List (ℕ × ℕ) = names_of (from + size c) (to + size c) cs in
    let named : ℕ → Bool → Option ℕ = λ x t. option_map (λ (n : ℕ × ℕ). n.1) (cond t (Some (from, to)) (find (λ (n : ℕ × ℕ). eqb n.0 x) later)) in
    let beyond : (x : ℕ) → new_name later x ≡ Some s → Some to ≡ Some s → ⊥ = λ x far near.
    let above = not_below (from + size c) (to + size c) cs x s far in
    let same : to ≡ s = cc in
    omega (arith, above, same) in
    elim (c.live) as (λ b. new_name (cond b ((from, to) ∷ later) (names_of (from + size c) to cs)) q ≡ Some s →
    new_name (cond b ((from, to) ∷ later) (names_of (from + size c) to cs)) r ≡ Some s → q ≡ r) [
      | true ↦ elim (eqb from q) as (λ t. eqb from q ≡ t → named q t ≡ Some s → named r (eqb from r) ≡ Some s → q ≡ r) [
        | true ↦ λ first. elim (eqb from r) as (λ u. eqb from r ≡ u → Some to ≡ Some s → named r u ≡ Some s → q ≡ r) [
          | true ↦ λ second _ _. sym (eqb-true from q first) ∙ eqb-true from r second
          | false ↦ λ _ near far. absurd (beyond r far near)
        ] refl
        | false ↦ λ _. elim (eqb from r) as (λ u. eqb from r ≡ u → new_name later q ≡ Some s → named r u ≡ Some s → q ≡ r) [
          | true ↦ λ _ far near. absurd (beyond q far near)
          | false ↦ λ _ one other. named_apart (from + size c) (to + size c) cs q r s one other
        ] refl
      ] refl
      | false ↦ λ one other. named_apart (from + size c) to cs q r s one other
    ] e f

pub renaming_of : (stored : List Stored) (old new : List Held) (names : List (ℕ × ℕ)) → old ≡ live_in (placed_from 0 stored) →
    new ≡ live_in (placed_from 0 (kept stored)) → names ≡ names_of 0 0 stored → IsRenaming old new names
renaming_of stored old new names was now is = record {
  named = λ r. ap (λ ns. is_some (new_name ns r)) is ∙ named_where_live 0 0 stored r ∙ ap (λ hs. is_some (held_at hs r)) (sym was);
  apart = λ q r s e f. named_apart 0 0 stored q r s (ap (λ ns. new_name ns q) (sym is) ∙ e) (ap (λ ns. new_name ns r) (sym is) ∙ f);
  same =
      λ r s e. ap (λ hs. option_map meaning (held_at hs s)) now ∙ same_meaning 0 0 stored r s (ap (λ ns. new_name ns r) (sym is) ∙ e)
      ∙ ap (λ hs. option_map meaning (held_at hs r)) (sym was);
}

-- ---- for callers

some_of_map : {X Y : Type 0} (f : X → Y) (o : Option X) → is_some (option_map f o) ≡ is_some o
some_of_map f None = refl
some_of_map f (Some x) = refl

-- a new reference is live
pub renamed_is_live : (old new : List Held) (names : List (ℕ × ℕ)) (r s : ℕ) → IsRenaming old new names → new_name names r ≡ Some s →
    is_some (held_at new s) ≡ true
renamed_is_live old new names r s renames is =
    sym (some_of_map meaning (held_at new s)) ∙ ap is_some (renames.same r s is) ∙ some_of_map meaning (held_at old r) ∙ sym (renames.named r) ∙ ap is_some is
