-- What holds of the clauses that words spell.
use Rattle.std.proofs.Common.{◌≡◌, ℕ, ◌+◌, ◌/◌, ◌<◌, ◌≤◌, arith, true, false, cond, List, [], ◌∷◌, ◌++◌, map, filter, length, sym, ap, subst, ◌∙◌}
use Rattle.std.proofs.Common.{All, AllPairs}
use Rattle.std.specs.List.{AllByRecursion}
use Rattle.std.proofs.lemmas.List.{length-append, length-map}
use Rattle.std.proofs.lemmas.List.Sums.{sum_by-cons, sum_by-append}
use Rattle.std.proofs.lemmas.List.Kept.{AllPairs-cons}
use Rattle.std.proofs.lemmas.List.Elements.{All-from_recursion, All-nil, All-cons, All-head, All-tail, All-map, All-weaker}
use Rattle.bs_clause.specs.Literal.{Literal, IsVariable, IsCode, AreCodes, literal_of}
use Rattle.bs_arena.specs.declared.reference.TheConstants.{WORD_LIMIT}
use Rattle.bs_arena.specs.Words.{Stored, spelling, spelling_of, placed_from, size}
use Rattle.bs_arena.specs.Arena.{Held, IsArena, held, live_in, live_words, clauses_of, places_of, IsContent, IsHeld, IsWellFormed, IsStored}
use Rattle.bs_arena.proofs.Places.{clauses_placed}
use Rattle.bs_arena.proofs.Spellings.{read_back, well_formed_push, clauses_of-push}

-- a fact of all clauses from the ones that are live
by_life : (P : List Held → Type 0) (at : ℕ) (c : Stored) (cs : List Stored) →
    P (held (record { place = at; clause = c }) ∷ live_in (placed_from (at + size c) cs)) → P (live_in (placed_from (at + size c) cs)) →
    P (live_in (placed_from at (c ∷ cs)))
by_life P at c cs alive gone =
    elim (c.live) as (λ b. P
    (map held (cond b (record { place = at; clause = c } ∷ filter (λ p. p.clause.live) (placed_from (at + size c) cs))
    (filter (λ p. p.clause.live) (placed_from (at + size c) cs))))) [
      | true ↦ alive
      | false ↦ gone
    ]

long : (c : Stored) (cs : List Stored) → length (spelling_of (c ∷ cs)) ≡ size c + length (spelling_of cs)
long c cs = omega (arith, length-append (spelling c) (spelling_of cs))

-- live clauses take no more words than there are
pub words_fit : (at : ℕ) (cs : List Stored) → live_words (live_in (placed_from at cs)) ≤ length (spelling_of cs)
words_fit at [] = omega arith
words_fit at (c ∷ cs) =
    let rest = words_fit (at + size c) cs in
    let here : length (held (record { place = at; clause = c })).literals ≡ length c.codes = length-map c.codes literal_of in
    by_life (λ hs. live_words hs ≤ length (spelling_of (c ∷ cs))) at c cs
    (omega (
      arith,
      rest,
      here,
      long c cs,
      sum_by-cons (λ (h : Held). length h.literals + 4) (held (record { place = at; clause = c })) (live_in (placed_from (at + size c) cs)),
    ))
    (omega (arith, rest, long c cs))

pub count_fits : (at : ℕ) (cs : List Stored) → length (live_in (placed_from at cs)) ≤ length (spelling_of cs)
count_fits at [] = omega arith
count_fits at (c ∷ cs) =
    let rest = count_fits (at + size c) cs in
    by_life (λ hs. length hs ≤ length (spelling_of (c ∷ cs))) at c cs (omega (arith, rest, long c cs)) (omega (arith, rest, long c cs))

-- the references ascend
from_here : (low at : ℕ) (cs : List Stored) → low ≤ at → AllByRecursion (λ (h : Held). low ≤ h.ref) (live_in (placed_from at cs))
from_here low at [] le = tt
from_here low at (c ∷ cs) le =
    let rest = from_here low (at + size c) cs (omega (arith, le)) in
    by_life (AllByRecursion (λ (h : Held). low ≤ h.ref)) at c cs (le, rest) rest

ascends : (at : ℕ) (cs : List Stored) → AllPairs (λ (g h : Held). g.ref < h.ref) (live_in (placed_from at cs))
ascends at [] = λ i j d less lt. absurd (omega (arith, lt))
ascends at (c ∷ cs) =
    let rest = ascends (at + size c) cs in
    let above : All (λ (h : Held). at < h.ref) (live_in (placed_from (at + size c) cs)) =
    All-weaker (λ (h : Held). at + size c ≤ h.ref) (λ (h : Held). at < h.ref) (λ h le. omega (arith, le)) (live_in (placed_from (at + size c) cs))
    (All-from_recursion (λ (h : Held). at + size c ≤ h.ref) (live_in (placed_from (at + size c) cs))
    (from_here (at + size c) (at + size c) cs (omega arith))) in
    by_life (AllPairs (λ (g h : Held). g.ref < h.ref)) at c cs
    (AllPairs-cons (λ (g h : Held). g.ref < h.ref) (held (record { place = at; clause = c })) (live_in (placed_from (at + size c) cs)) above rest) rest

-- each can be added
variables : (codes : List ℕ) → AreCodes codes → All (λ (l : Literal). IsVariable l.variable) (map literal_of codes)
variables codes all = All-map (λ (l : Literal). IsVariable l.variable) literal_of codes
    (All-weaker IsCode (λ (n : ℕ). IsVariable (n / 2)) (λ n h. (omega (arith, h.0), omega (arith, h.1))) codes all)

held_is : (at : ℕ) (c : Stored) → IsStored c → IsHeld (held (record { place = at; clause = c }))
held_is at c s = record { id = s.id; literals = variables c.codes s.codes; short = omega (arith, s.short, length-map c.codes literal_of) }

each_held : (at : ℕ) (cs : List Stored) → All IsStored cs → All IsHeld (live_in (placed_from at cs))
each_held at [] all = All-nil IsHeld
each_held at (c ∷ cs) all =
    let rest = each_held (at + size c) cs (All-tail IsStored c cs all) in
    by_life (All IsHeld) at c cs
    (All-cons IsHeld (held (record { place = at; clause = c })) (live_in (placed_from (at + size c) cs)) (held_is at c (All-head IsStored c cs all)) rest) rest

listed : (words : List ℕ) (w : IsWellFormed words) → clauses_of words ≡ live_in (placed_from 0 w.stored)
listed words w = ap clauses_of w.spelled ∙ ap live_in (read_back 0 w.stored)

pub live_fits : (words : List ℕ) → IsWellFormed words → live_words (clauses_of words) ≤ length words
live_fits words w = omega (arith, ap live_words (listed words w), words_fit 0 w.stored, ap length w.spelled)

pub number_fits : (words : List ℕ) → IsWellFormed words → length (clauses_of words) ≤ length words
number_fits words w = omega (arith, ap length (listed words w), count_fits 0 w.stored, ap length w.spelled)

pub content_is : (words : List ℕ) (count spare : ℕ) → IsWellFormed words → length words ≤ count →
    IsContent (record { clauses = clauses_of words; places = places_of words; words = count; spare = spare })
content_is words count spare w le = record {
  placed = clauses_placed words w;
  ascends = subst (AllPairs (λ (g h : Held). g.ref < h.ref)) (sym (listed words w)) (ascends 0 w.stored);
  each = subst (All IsHeld) (sym (listed words w)) (each_held 0 w.stored w.each);
  fits = omega (arith, live_fits words w, le);
}

-- one more clause
pub arena_push : (words : List ℕ) (live count : ℕ) (c : Stored) → IsArena words live count → length words + size c ≤ WORD_LIMIT → IsStored c → c.live ≡ true →
    IsArena (words ++ spelling c) (live + (length c.codes + 4)) (count + 1)
arena_push words live count c a le ok alive =
    let more : clauses_of (words ++ spelling c) ≡ clauses_of words ++ held (record { place = length words; clause = c }) ∷ [] =
    clauses_of-push a.form.stored c words a.form.spelled alive in
    record {
      form = well_formed_push words c a.form ok;
      few = omega (arith, le, length-append words (spelling c));
      live_is =
          omega (
            arith,
            a.live_is,
            ap live_words more,
            sum_by-append (λ (h : Held). length h.literals + 4) (clauses_of words) (held (record { place = length words; clause = c }) ∷ []),
            length-map c.codes literal_of,
          );
      count_is = omega (arith, a.count_is, ap length more, length-append (clauses_of words) (held (record { place = length words; clause = c }) ∷ []));
    }
