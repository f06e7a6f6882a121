-- How far a compaction has come.
use Rattle.std.proofs.Common.{◌≡◌, ℕ, suc, ◌+◌, ◌-◌, ◌<◌, ◌≤◌, arith, true, false, cond, List, [], ◌∷◌, ◌++◌, map, filter, length, take, drop, refl}
use Rattle.std.proofs.Common.{sym, ap, subst, ◌∙◌, All}
use Rattle.std.specs.List.{AllByRecursion, zip, copy_within}
use Rattle.std.specs.Prelude.{sum_by}
use Rattle.bs_clause.specs.Literal.{Literal, literal_of}
use Rattle.std.proofs.lemmas.List.{append_assoc, append-nil, length-append, length-map, take_at, drop_at, drop-append-le, drop-drop, length-drop}
use Rattle.std.proofs.lemmas.List.Sums.{sum_by-cons}
use Rattle.std.proofs.lemmas.List.Elements.{All-filter}
use Rattle.bs_arena.specs.Words.{Stored, spelling, spelling_of, placed_from, size}
use Rattle.bs_arena.specs.Arena.{Held, held, live_in, live_words, kept_in, stored_in, clauses_of, meaning, IsArena, IsWellFormed, IsStored}
use Rattle.bs_arena.proofs.Spellings.{read_back, spelling_of-append}
use Rattle.bs_arena.proofs.Splits.{Header, header}

-- the live ones
abbrev pub kept : List Stored → List Stored
kept cs = filter (λ c. c.live) cs

-- the old and the new places of the clauses that are left, from these places on
abbrev pub names_of : ℕ → ℕ → List Stored → List (ℕ × ℕ)
names_of from to [] = []
names_of from to (c ∷ cs) = cond c.live ((from, to) ∷ names_of (from + size c) (to + size c) cs) (names_of (from + size c) to cs)

-- the words behind `to` that are not needed any more are `gone`, and the clauses from `from` on are `rest`
pub record Compacting (stored : List Stored) (words : List ℕ) (from to : ℕ) (names : List (ℕ × ℕ)) : Type 0 where
  pub done : List Stored
  pub gone : List ℕ
  pub rest : List Stored
  pub now : words ≡ spelling_of done ++ (gone ++ spelling_of rest)
  pub target : to ≡ length (spelling_of done)
  pub source : from ≡ to + length gone
  pub whole : done ++ kept rest ≡ kept stored
  pub named : names ++ names_of from to rest ≡ names_of 0 0 stored
  pub below : AllByRecursion (λ (n : ℕ × ℕ). n.0 < from) names

pub begins : (stored : List Stored) (words : List ℕ) → words ≡ spelling_of stored → Compacting stored words 0 0 []
begins stored words is = record {
  done = [];
  gone = [];
  rest = stored;
  now = is;
  target = refl;
  source = refl;
  whole = refl;
  named = refl;
  below = tt;
}

-- the next clause
pub record Next (words : List ℕ) (from : ℕ) (rest : List Stored) : Type 0 where
  pub clause : Stored
  pub later : List Stored
  pub is : rest ≡ clause ∷ later
  pub header : Header words from clause

next_of : (done gone : List ℕ) (rest : List Stored) (words : List ℕ) (from : ℕ) → words ≡ done ++ (gone ++ spelling_of rest) →
    from ≡ length done + length gone → from < length words → Next words from rest
next_of done gone [] words from now source lt = absurd (omega (arith, lt, source, ap length now, length-append done (gone ++ []), length-append gone []))
next_of done gone (c ∷ cs) words from now source lt = record {
  clause = c;
  later = cs;
  is = refl;
  header =
      header words (done ++ gone) (spelling_of cs) from c (omega (arith, source, length-append done gone))
      (now ∙ sym (append_assoc done gone (spelling c ++ spelling_of cs)));
}

pub next : (stored : List Stored) (words : List ℕ) (from to : ℕ) (names : List (ℕ × ℕ)) (k : Compacting stored words from to names) →
    from < length words → Next words from k.rest
next stored words from to names k lt = next_of (spelling_of k.done) k.gone k.rest words from k.now (omega (arith, k.source, k.target)) lt

weaker : (low high : ℕ) (names : List (ℕ × ℕ)) → low ≤ high → AllByRecursion (λ (n : ℕ × ℕ). n.0 < low) names → AllByRecursion (λ (n : ℕ × ℕ). n.0 < high) names
weaker low high [] le all = tt
weaker low high (n ∷ names) le all = (omega (arith, le, all.0), weaker low high names le all.1)

pushed : (high : ℕ) (names : List (ℕ × ℕ)) (name : ℕ × ℕ) → AllByRecursion (λ (n : ℕ × ℕ). n.0 < high) names → name.0 < high →
    AllByRecursion (λ (n : ℕ × ℕ). n.0 < high) (names ++ name ∷ [])
pushed high [] name all is = (is, tt)
pushed high (n ∷ names) name all is = (all.0, pushed high names name all.1 is)

-- a dead clause is passed over
pub skips : (stored : List Stored) (words : List ℕ) (from to : ℕ) (names : List (ℕ × ℕ)) (k : Compacting stored words from to names)
    (n : Next words from k.rest) → n.clause.live ≡ false →
    Compacting stored words (from + size n.clause) to names
skips stored words from to names k n dead = record {
  done = k.done;
  gone = k.gone ++ spelling n.clause;
  rest = n.later;
  now =
      k.now ∙ ap (λ cs. spelling_of k.done ++ (k.gone ++ spelling_of cs)) n.is
      ∙ ap (λ ws. spelling_of k.done ++ ws) (sym (append_assoc k.gone (spelling n.clause) (spelling_of n.later)));
  target = k.target;
  source = omega (arith, k.source, length-append k.gone (spelling n.clause));
  whole = ap (λ b. k.done ++ cond b (n.clause ∷ kept n.later) (kept n.later)) (sym dead) ∙ ap (λ cs. k.done ++ kept cs) (sym n.is) ∙ k.whole;
  named =
      ap (λ b. names ++ cond b ((from, to) ∷ names_of (from + size n.clause) (to + size n.clause) n.later)
      (names_of (from + size n.clause) to n.later)) (sym dead) ∙
      ap (λ cs. names ++ names_of from to cs) (sym n.is) ∙ k.named;
  below = weaker from (from + size n.clause) names (omega arith) k.below;
}

-- the words of a clause are moved down
moved : (done gone piece rest : List ℕ) (to from n : ℕ) → to ≡ length done → from ≡ to + length gone → n ≡ length piece →
    copy_within (done ++ (gone ++ (piece ++ rest))) from (from + n) to ≡ (done ++ piece) ++ (drop n (gone ++ piece) ++ rest)
moved done gone piece rest to from n target source size_is =
    let all : List ℕ = done ++ (gone ++ (piece ++ rest)) in
    let width : from + n - from ≡ n = omega arith in
    let read : drop from all ≡ piece ++ rest =
    ap (drop from) (sym (append_assoc done gone (piece ++ rest)))
    ∙ drop_at (done ++ gone) (piece ++ rest) from (omega (arith, length-append done gone, target, source)) in
    let head : take to all ≡ done = take_at done (gone ++ (piece ++ rest)) to (sym target) in
    let tail : drop (to + n) all ≡ drop n (gone ++ piece) ++ rest =
    sym (drop-drop n to all) ∙ ap (drop n) (drop_at done (gone ++ (piece ++ rest)) to (sym target)) ∙ ap (drop n) (sym (append_assoc gone piece rest)) ∙
    drop-append-le n (gone ++ piece) rest (omega (arith, length-append gone piece, size_is)) in
    ap (λ w. take to all ++ take w (drop from all) ++ drop (to + w) all) width ∙
    (λ i. head i ++ take n (read i) ++ tail i) ∙
    ap (λ p. done ++ p ++ (drop n (gone ++ piece) ++ rest)) (take_at piece rest n (sym size_is))

pub moves : (stored : List Stored) (words : List ℕ) (from to : ℕ) (names : List (ℕ × ℕ)) (k : Compacting stored words from to names)
    (n : Next words from k.rest) → n.clause.live ≡ true →
    Compacting stored (copy_within words from (from + size n.clause) to) (from + size n.clause) (to + size n.clause) (names ++ (from, to) ∷ [])
moves stored words from to names k n alive =
    let wide : size n.clause ≡ length (spelling n.clause) = omega arith in
    let grown : spelling_of (k.done ++ n.clause ∷ []) ≡ spelling_of k.done ++ spelling n.clause =
    spelling_of-append k.done (n.clause ∷ []) ∙ ap (λ r. spelling_of k.done ++ r) (append-nil (spelling n.clause)) in
    let opened : words ≡ spelling_of k.done ++ (k.gone ++ (spelling n.clause ++ spelling_of n.later)) =
    k.now ∙ ap (λ cs. spelling_of k.done ++ (k.gone ++ spelling_of cs)) n.is in
    record {
      done = k.done ++ n.clause ∷ [];
      gone = drop (size n.clause) (k.gone ++ spelling n.clause);
      rest = n.later;
      now = ap (λ ws. copy_within ws from (from + size n.clause) to) opened ∙
          moved (spelling_of k.done) k.gone (spelling n.clause) (spelling_of n.later) to from (size n.clause) k.target k.source wide ∙
          ap (λ ws. ws ++ (drop (size n.clause) (k.gone ++ spelling n.clause) ++ spelling_of n.later)) (sym grown);
      target = omega (arith, k.target, ap length grown, length-append (spelling_of k.done) (spelling n.clause));
      source = omega (arith, k.source, length-drop (size n.clause) (k.gone ++ spelling n.clause), length-append k.gone (spelling n.clause));
      whole =
          append_assoc k.done (n.clause ∷ []) (kept n.later) ∙ ap (λ b. k.done ++ cond b (n.clause ∷ kept n.later) (kept n.later)) (sym alive)
          ∙ ap (λ cs. k.done ++ kept cs) (sym n.is) ∙ k.whole;
      named = append_assoc names ((from, to) ∷ []) (names_of (from + size n.clause) (to + size n.clause) n.later) ∙
          ap (λ b. names ++ cond b ((from, to) ∷ names_of (from + size n.clause) (to + size n.clause) n.later)
          (names_of (from + size n.clause) to n.later)) (sym alive) ∙
          ap (λ cs. names ++ names_of from to cs) (sym n.is) ∙ k.named;
      below = pushed (from + size n.clause) names (from, to) (weaker from (from + size n.clause) names (omega arith) k.below) (omega arith);
    }

pub order : (stored : List Stored) (words : List ℕ) (from to : ℕ) (names : List (ℕ × ℕ)) → Compacting stored words from to names → to ≤ from
order stored words from to names k = omega (arith, k.source)

pub same_far : (stored : List Stored) (words ws : List ℕ) (from f to t : ℕ) (names ns : List (ℕ × ℕ)) → ws ≡ words → f ≡ from → t ≡ to → ns ≡ names →
    Compacting stored words from to names → Compacting stored ws f t ns
same_far stored words ws from f to t names ns p q r s k =
    subst (λ x. Compacting stored x f t ns) (sym p)
    (subst (λ x. Compacting stored words x t ns) (sym q)
    (subst (λ x. Compacting stored words from x ns) (sym r) (subst (λ x. Compacting stored words from to x) (sym s) k)))

-- ---- the end

at_end : (stored : List Stored) (words : List ℕ) (from to : ℕ) (names : List (ℕ × ℕ)) (k : Compacting stored words from to names) (rest : List Stored) →
    k.rest ≡ rest → length words ≤ from → rest ≡ []
at_end stored words from to names k [] is le = refl
at_end stored words from to names k (c ∷ cs) is le =
    absurd (omega (
      arith,
      le,
      k.source,
      k.target,
      ap length k.now,
      length-append (spelling_of k.done) (k.gone ++ spelling_of k.rest),
      length-append k.gone (spelling_of k.rest),
      ap (λ r. length (spelling_of r)) is,
      length-append (spelling c) (spelling_of cs),
    ))

pub record Ended (stored : List Stored) (words : List ℕ) (to : ℕ) (names : List (ℕ × ℕ)) : Type 0 where
  pub words_are : take to words ≡ spelling_of (kept stored)
  pub names_are : names ≡ names_of 0 0 stored

pub ends : (stored : List Stored) (words : List ℕ) (from to : ℕ) (names : List (ℕ × ℕ)) → Compacting stored words from to names →
    length words ≤ from → Ended stored words to names
ends stored words from to names k le =
    let none : k.rest ≡ [] = at_end stored words from to names k k.rest refl le in
    record {
      words_are = ap (take to) k.now ∙ take_at (spelling_of k.done) (k.gone ++ spelling_of k.rest) to (sym k.target) ∙
          ap spelling_of (sym (append-nil k.done) ∙ ap (λ cs. k.done ++ kept cs) (sym none) ∙ k.whole);
      names_are = sym (append-nil names) ∙ ap (λ cs. names ++ names_of from to cs) (sym none) ∙ k.named;
    }

-- the names are the references of the old and of the new clauses
zip_names : (from to : ℕ) (cs : List Stored) →
    names_of from to cs ≡ zip (map (λ h. h.ref) (live_in (placed_from from cs))) (map (λ h. h.ref) (live_in (placed_from to (kept cs))))
zip_names from to [] = refl
zip_names from to (c ∷ cs) =
    elim (c.live) as (λ b. c.live ≡ b →
    cond b ((from, to) ∷ names_of (from + size c) (to + size c) cs) (names_of (from + size c) to cs) ≡
    zip (map (λ h. h.ref)
    (map held (cond b (record { place = from; clause = c } ∷ filter (λ p. p.clause.live) (placed_from (from + size c) cs))
    (filter (λ p. p.clause.live) (placed_from (from + size c) cs)))))
    (map (λ h. h.ref) (live_in (placed_from to (cond b (c ∷ kept cs) (kept cs)))))) [
      | true ↦ λ is.
          ap (λ r. (from, to) ∷ r) (zip_names (from + size c) (to + size c) cs) ∙
          ap (λ b. zip (from ∷ map (λ h. h.ref) (live_in (placed_from (from + size c) cs)))
          (map (λ h. h.ref) (map held
          (cond b (record { place = to; clause = c } ∷ filter (λ p. p.clause.live) (placed_from (to + size c) (kept cs)))
          (filter (λ p. p.clause.live) (placed_from (to + size c) (kept cs))))))) (sym is)
      | false ↦ λ _. zip_names (from + size c) to cs
    ] refl

-- their meanings are the same
same_meanings : (from to : ℕ) (cs : List Stored) → map meaning (live_in (placed_from to (kept cs))) ≡ map meaning (live_in (placed_from from cs))
same_meanings from to [] = refl
same_meanings from to (c ∷ cs) =
    elim (c.live) as (λ b. c.live ≡ b → map meaning (live_in (placed_from to (cond b (c ∷ kept cs) (kept cs)))) ≡
    map meaning (map held
    (cond b (record { place = from; clause = c } ∷ filter (λ p. p.clause.live) (placed_from (from + size c) cs))
    (filter (λ p. p.clause.live) (placed_from (from + size c) cs))))) [
      | true ↦ λ is.
          ap (λ b. map meaning (map held
          (cond b (record { place = to; clause = c } ∷ filter (λ p. p.clause.live) (placed_from (to + size c) (kept cs)))
          (filter (λ p. p.clause.live) (placed_from (to + size c) (kept cs)))))) is ∙
          ap (λ r. (c.id, map literal_of c.codes) ∷ r) (same_meanings (from + size c) (to + size c) cs)
      | false ↦ λ _. same_meanings (from + size c) to cs
    ] refl

-- no word is dead
all_words : (at : ℕ) (cs : List Stored) → length (spelling_of (kept cs)) ≡ live_words (live_in (placed_from at cs))
all_words at [] = refl
all_words at (c ∷ cs) =
    let rest = all_words (at + size c) cs in
    elim (c.live) as (λ b. length (spelling_of (cond b (c ∷ kept cs) (kept cs))) ≡
    live_words (map held (cond b (record { place = at; clause = c } ∷ filter (λ p. p.clause.live) (placed_from (at + size c) cs))
    (filter (λ p. p.clause.live) (placed_from (at + size c) cs))))) [
      | true ↦ omega (
        arith,
        rest,
        length-append (spelling c) (spelling_of (kept cs)),
        length-map c.codes literal_of,
        sum_by-cons (λ (h : Held). length h.literals + 4) (held (record { place = at; clause = c })) (live_in (placed_from (at + size c) cs)),
      )
      | false ↦ rest
    ]

pub clauses_back : (at : ℕ) (cs : List Stored) → map (λ p. p.clause) (placed_from at cs) ≡ cs
clauses_back at [] = refl
clauses_back at (c ∷ cs) = ap (λ r. c ∷ r) (clauses_back (at + size c) cs)

-- the clauses that well formed words spell are those that they were made of
pub spelled_by : (words : List ℕ) (w : IsWellFormed words) → words ≡ spelling_of (stored_in words)
spelled_by words w = w.spelled ∙ ap spelling_of (sym (ap stored_in w.spelled ∙ ap (map (λ p. p.clause)) (read_back 0 w.stored) ∙ clauses_back 0 w.stored))

pub each_stored : (words : List ℕ) (w : IsWellFormed words) → All IsStored (stored_in words)
each_stored words w = subst (All IsStored) (sym (ap stored_in w.spelled ∙ ap (map (λ p. p.clause)) (read_back 0 w.stored) ∙ clauses_back 0 w.stored)) w.each

pub refs_are : (words after : List ℕ) (stored : List Stored) → words ≡ spelling_of stored → after ≡ spelling_of (kept stored) →
    names_of 0 0 stored ≡ zip (map (λ h. h.ref) (clauses_of words)) (map (λ h. h.ref) (clauses_of after))
refs_are words after stored is now =
    zip_names 0 0 stored ∙
    sym (λ i. zip (map (λ (h : Held). h.ref) ((ap clauses_of is ∙ ap live_in (read_back 0 stored)) i))
    (map (λ (h : Held). h.ref) ((ap clauses_of now ∙ ap live_in (read_back 0 (kept stored))) i)))

pub meanings_are : (words after : List ℕ) (stored : List Stored) → words ≡ spelling_of stored → after ≡ spelling_of (kept stored) →
    map meaning (clauses_of after) ≡ map meaning (clauses_of words)
meanings_are words after stored is now =
    ap (map meaning) (ap clauses_of now ∙ ap live_in (read_back 0 (kept stored))) ∙ same_meanings 0 0 stored
    ∙ sym (ap (map meaning) (ap clauses_of is ∙ ap live_in (read_back 0 stored)))

-- ---- what is needed on the way

number_of_names : (from to : ℕ) (cs : List Stored) → length (names_of from to cs) ≡ length (live_in (placed_from from cs))
number_of_names from to [] = refl
number_of_names from to (c ∷ cs) =
    elim (c.live) as (λ b. length (cond b ((from, to) ∷ names_of (from + size c) (to + size c) cs) (names_of (from + size c) to cs)) ≡
    length (map held (cond b (record { place = from; clause = c } ∷ filter (λ p. p.clause.live) (placed_from (from + size c) cs))
    (filter (λ p. p.clause.live) (placed_from (from + size c) cs))))) [
      | true ↦ ap (λ n. suc n) (number_of_names (from + size c) (to + size c) cs)
      | false ↦ number_of_names (from + size c) to cs
    ]

-- there is room for one more name
pub names_left : (stored : List Stored) (words : List ℕ) (from to : ℕ) (names : List (ℕ × ℕ)) (k : Compacting stored words from to names)
    (n : Next words from k.rest) → n.clause.live ≡ true →
    length names < length (live_in (placed_from 0 stored))
names_left stored words from to names k n alive =
    let tail : List (ℕ × ℕ) = names_of (from + size n.clause) (to + size n.clause) n.later in
    let all : names ++ (from, to) ∷ tail ≡ names_of 0 0 stored =
    ap (λ b. names ++ cond b ((from, to) ∷ tail) (names_of (from + size n.clause) to n.later)) (sym alive)
    ∙ ap (λ cs. names ++ names_of from to cs) (sym n.is) ∙ k.named in
    omega (arith, ap length all, length-append names ((from, to) ∷ tail), number_of_names 0 0 stored)

stored_kept : (cs : List Stored) → All IsStored cs → All IsStored (kept cs)
stored_kept cs all = All-filter (λ c. c.live) IsStored cs all

abbrev meaning_words : ℕ × List Literal → ℕ
meaning_words m = length m.1 + 4

words_by_meaning : (hs : List Held) → sum_by meaning_words (map meaning hs) ≡ live_words hs
words_by_meaning [] = refl
words_by_meaning (h ∷ hs) =
    sum_by-cons meaning_words (meaning h) (map meaning hs) ∙ ap (λ n. length h.literals + 4 + n) (words_by_meaning hs)
    ∙ sym (sum_by-cons (λ (g : Held). length g.literals + 4) h hs)

-- the words of the arena after a compaction
pub arena_compact : (words after : List ℕ) (live count : ℕ) → IsArena words live count → length after ≤ length words →
    after ≡ spelling_of (kept_in words) → IsArena after live count
arena_compact words after live count a le now =
    let same : map meaning (clauses_of after) ≡ map meaning (clauses_of words) = meanings_are words after (stored_in words) (spelled_by words a.form) now in
    record {
      form = record { stored = kept_in words; each = stored_kept (stored_in words) (each_stored words a.form); spelled = now };
      few = omega (arith, le, a.few);
      live_is = a.live_is ∙ sym (words_by_meaning (clauses_of words)) ∙ ap (sum_by meaning_words) (sym same) ∙ words_by_meaning (clauses_of after);
      count_is = a.count_is ∙ sym (length-map (clauses_of words) meaning) ∙ ap length (sym same) ∙ length-map (clauses_of after) meaning;
    }

-- the words of an arena after a compaction are those of its clauses
pub no_dead_word : (words after : List ℕ) → (w : IsWellFormed words) → after ≡ spelling_of (kept_in words) → length after ≡ live_words (clauses_of after)
no_dead_word words after w now =
    let same : map meaning (clauses_of after) ≡ map meaning (clauses_of words) = meanings_are words after (stored_in words) (spelled_by words w) now in
    ap length now ∙ all_words 0 (stored_in words) ∙ ap (λ ps. live_words (live_in ps)) (sym (read_back 0 (stored_in words)))
    ∙ ap (λ ws. live_words (clauses_of ws)) (sym (spelled_by words w)) ∙
    sym (words_by_meaning (clauses_of words)) ∙ ap (sum_by meaning_words) (sym same) ∙ words_by_meaning (clauses_of after)

pub listed_number : (words : List ℕ) (w : IsWellFormed words) → length (live_in (placed_from 0 (stored_in words))) ≡ length (clauses_of words)
listed_number words w = ap (λ ps. length (live_in ps)) (sym (read_back 0 (stored_in words))) ∙ ap (λ ws. length (clauses_of ws)) (sym (spelled_by words w))
