-- Clauses are read back from their words.
use Rattle.std.proofs.Common.{◌≡◌, ℕ, zero, suc, ◌+◌, ◌*◌, ◌/◌, ◌%◌, ◌^◌, arith, Bool, true, false, cond, List, [], ◌∷◌, ◌++◌, length, take, drop}
use Rattle.std.proofs.Common.{refl, sym, ap, ◌∙◌, eqb}
use Rattle.std.proofs.lemmas.List.{take_at, drop_at, append_assoc, append-nil, length-append, map-append, get_or-append-add}
use Rattle.std.proofs.Common.{Some, map}
use Rattle.std.specs.List.{find, filter}
use Rattle.std.proofs.Common.{◌-◌, get_or}
use Rattle.std.proofs.lemmas.Bool.{eqb-true}
use Rattle.std.proofs.lemmas.List.Elements.{filter-append, All-push}
use Rattle.bs_arena.specs.Arena.{Held, held, held_at, live_in, clauses_of, IsWellFormed, IsStored}
use Rattle.bs_arena.specs.Words.{Stored, PlacedClause, spelling, spelling_of, placed_from, clauses_in, size}

-- skipped words are not read
skips : (at n : ℕ) (xs ys : List ℕ) → length xs ≡ n → clauses_in at n (xs ++ ys) ≡ clauses_in (at + n) 0 ys
skips at zero [] ys h = ap (λ a. clauses_in a 0 ys) (omega arith)
skips at zero (x ∷ xs) ys h = absurd (omega arith)
skips at (suc n) [] ys h = absurd (omega arith)
skips at (suc n) (x ∷ xs) ys h =
    skips (at + 1) n xs ys (omega arith) ∙ ap (λ a. clauses_in a 0 ys) (omega arith)

pub live_word : (b : Bool) → eqb (cond b 1 0) 1 ≡ b
live_word true = refl
live_word false = refl

halves : (n : ℕ) → n % 2 ^ 32 + 2 ^ 32 * (n / 2 ^ 32) ≡ n
halves n = omega arith

read_one : (at : ℕ) (c : Stored) (ws : List ℕ) → clauses_in at 0 (spelling c ++ ws) ≡ record { place = at; clause = c } ∷ clauses_in (at + size c) 0 ws
read_one at c ws =
    let tail : List ℕ = c.id / 2 ^ 32 ∷ length c.codes ∷ cond c.live 1 0 ∷ c.codes in
    let rest : clauses_in (at + 1) (length c.codes + 3) (tail ++ ws) ≡ clauses_in (at + size c) 0 ws =
    skips (at + 1) (length c.codes + 3) tail ws (omega arith) ∙ ap (λ a. clauses_in a 0 ws) (omega arith) in
    let id : c.id % 2 ^ 32 + 2 ^ 32 * (c.id / 2 ^ 32) ≡ c.id = halves c.id in
    let live : eqb (cond c.live 1 0) 1 ≡ c.live = live_word c.live in
    let codes : take (length c.codes) (c.codes ++ ws) ≡ c.codes = take_at c.codes ws (length c.codes) refl in
    λ i. record { place = at; clause = record { id = id i; live = live i; codes = codes i } } ∷ rest i

pub read_back : (at : ℕ) (cs : List Stored) → clauses_in at 0 (spelling_of cs) ≡ placed_from at cs
read_back at [] = refl
read_back at (c ∷ cs) = read_one at c (spelling_of cs) ∙ ap (λ r. record { place = at; clause = c } ∷ r) (read_back (at + size c) cs)

pub spelling_of-append : (xs ys : List Stored) → spelling_of (xs ++ ys) ≡ spelling_of xs ++ spelling_of ys
spelling_of-append [] ys = refl
spelling_of-append (x ∷ xs) ys = ap (λ r. spelling x ++ r) (spelling_of-append xs ys) ∙ sym (append_assoc (spelling x) (spelling_of xs) (spelling_of ys))

pub placed_from-append : (at : ℕ) (xs ys : List Stored) → placed_from at (xs ++ ys) ≡ placed_from at xs ++ placed_from (at + length (spelling_of xs)) ys
placed_from-append at [] ys = ap (λ a. placed_from a ys) (omega arith)
placed_from-append at (x ∷ xs) ys =
    ap (λ r. record { place = at; clause = x } ∷ r)
    (placed_from-append (at + size x) xs ys
    ∙ ap (λ a. placed_from (at + size x) xs ++ placed_from a ys) (omega (arith, length-append (spelling x) (spelling_of xs))))

-- the clause of a reference, with the clauses before and after it
pub record Found (at : ℕ) (cs : List Stored) (r : ℕ) (h : Held) : Type 0 where
  pub before : List Stored
  pub clause : Stored
  pub after : List Stored
  pub parts : cs ≡ before ++ clause ∷ after
  pub place : r ≡ at + length (spelling_of before)
  pub is : h ≡ held (record { place = r; clause = clause })
  pub live : clause.live ≡ true

pub found_from : (at : ℕ) (cs : List Stored) (r : ℕ) (h : Held) → held_at (live_in (placed_from at cs)) r ≡ Some h → Found at cs r h
found_from at [] r h e = absurd (cc)
found_from at (c ∷ cs) r h e =
    let further : held_at (live_in (placed_from (at + size c) cs)) r ≡ Some h → Found at (c ∷ cs) r h = λ later.
    let f : Found (at + size c) cs r h = found_from (at + size c) cs r h later in
    record {
      before = c ∷ f.before;
      clause = f.clause;
      after = f.after;
      parts = ap (λ r. c ∷ r) f.parts;
      place = omega (arith, f.place, length-append (spelling c) (spelling_of f.before));
      is = f.is;
      live = f.live;
    } in
    elim (c.live) as (λ b. c.live ≡ b →
    find (λ x. eqb x.ref r)
    (map held (cond b (record { place = at; clause = c } ∷ filter (λ p. p.clause.live) (placed_from (at + size c) cs))
    (filter (λ p. p.clause.live) (placed_from (at + size c) cs)))) ≡ Some h → Found at (c ∷ cs) r h) [
      | true ↦ λ live. elim (eqb at r) as
          (λ t. eqb at r ≡ t → cond t (Some (held (record { place = at; clause = c }))) (held_at (live_in (placed_from (at + size c) cs)) r) ≡ Some h →
          Found at (c ∷ cs) r h) [
            | true ↦ λ same some.
                let place : at ≡ r = eqb-true at r same in
                let is : held (record { place = at; clause = c }) ≡ h = cc in
                record {
                  before = [];
                  clause = c;
                  after = cs;
                  parts = refl;
                  place = omega (arith, place);
                  is = sym is
                      ∙ ap (λ p. held (record { place = p; clause = c })) place;
                  live = live;
                }
            | false ↦ λ _ later. further later
          ] refl
      | false ↦ λ _ later. further later
    ] refl e

pub live_in-append : (xs ys : List PlacedClause) → live_in (xs ++ ys) ≡ live_in xs ++ live_in ys
live_in-append xs ys =
    ap (map held) (filter-append (λ p. p.clause.live) xs ys) ∙ map-append held (filter (λ p. p.clause.live) xs) (filter (λ p. p.clause.live) ys)

-- one more clause
pub clauses_of-push : (cs : List Stored) (c : Stored) (words : List ℕ) → words ≡ spelling_of cs → c.live ≡ true →
    clauses_of (words ++ spelling c) ≡ clauses_of words ++ held (record { place = length words; clause = c }) ∷ []
clauses_of-push cs c words is live =
    let whole : words ++ spelling c ≡ spelling_of (cs ++ c ∷ []) =
    ap (λ w. w ++ spelling c) is ∙ ap (λ r. spelling_of cs ++ r) (sym (append-nil (spelling c))) ∙ sym (spelling_of-append cs (c ∷ [])) in
    let last : live_in (placed_from (0 + length (spelling_of cs)) (c ∷ [])) ≡ held (record { place = length words; clause = c }) ∷ [] =
    ap (λ b. map held (cond b (record { place = 0 + length (spelling_of cs); clause = c } ∷ []) [])) live ∙
    ap (λ n. held (record { place = n; clause = c }) ∷ []) (let at : 0 + length (spelling_of cs) ≡ length words = omega (arith, ap length is) in at) in
    ap clauses_of whole ∙ ap live_in (read_back 0 (cs ++ c ∷ []) ∙ placed_from-append 0 cs (c ∷ [])) ∙
    live_in-append (placed_from 0 cs) (placed_from (0 + length (spelling_of cs)) (c ∷ [])) ∙
    ap (λ r. live_in (placed_from 0 cs) ++ r) last ∙
    ap (λ r. live_in r ++ held (record { place = length words; clause = c }) ∷ []) (sym (read_back 0 cs)) ∙
    ap (λ w. clauses_of w ++ held (record { place = length words; clause = c }) ∷ []) (sym is)

-- the words are still clauses with one more
pub well_formed_push : (words : List ℕ) (c : Stored) → IsWellFormed words → IsStored c → IsWellFormed (words ++ spelling c)
well_formed_push words c w ok = record {
  stored = w.stored ++ c ∷ [];
  each = All-push IsStored w.stored c w.each ok;
  spelled =
      ap (λ ws. ws ++ spelling c) w.spelled ∙ ap (λ r. spelling_of w.stored ++ r) (sym (append-nil (spelling c))) ∙ sym (spelling_of-append w.stored (c ∷ []));
}

-- the length and the codes of the clause at a place
pub record Reads (words : List ℕ) (at : ℕ) (c : Stored) (rest : List ℕ) : Type 0 where
  pub count : get_or words (at + 2) 0 ≡ length c.codes
  pub codes : drop (at + 4) words ≡ c.codes ++ rest

pub reads : (words before rest : List ℕ) (at : ℕ) (c : Stored) → at ≡ length before → words ≡ before ++ spelling c ++ rest → Reads words at c rest
reads words before rest at c place parts =
    let header : List ℕ = c.id % 2 ^ 32 ∷ c.id / 2 ^ 32 ∷ length c.codes ∷ cond c.live 1 0 ∷ [] in
    let whole : words ≡ before ++ (spelling c ++ rest) = parts ∙ append_assoc before (spelling c) rest in
    let split : words ≡ (before ++ header) ++ (c.codes ++ rest) = whole ∙ sym (append_assoc before header (c.codes ++ rest)) in
    record {
      count =
          ap (λ w. get_or w (at + 2) 0) whole ∙ ap (λ n. get_or (before ++ (spelling c ++ rest)) (n + 2) 0) place
          ∙ get_or-append-add before (spelling c ++ rest) 2 0;
      codes = ap (drop (at + 4)) split ∙ drop_at (before ++ header) (c.codes ++ rest) (at + 4) (omega (arith, length-append before header));
    }

pub read_codes : (words before rest : List ℕ) (at n : ℕ) (c : Stored) → at ≡ length before → words ≡ before ++ spelling c ++ rest →
    n ≡ at + 4 + get_or words (at + 2) 0 - (at + 4) → take n (drop (at + 4) words) ≡ c.codes
read_codes words before rest at n c place parts is =
    let r : Reads words at c rest = reads words before rest at c place parts in
    let count : n ≡ length c.codes = omega (arith, is, r.count) in
    ap (take n) r.codes ∙ take_at c.codes rest n (sym count)
