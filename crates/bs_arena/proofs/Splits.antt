-- The clause of a live reference, with the clauses before and after it.
use Rattle.std.proofs.Common.{◌≡◌, ℕ, ◌+◌, ◌/◌, ◌%◌, ◌^◌, ◌<◌, ◌≤◌, arith, Bool, true, false, not, cond, List, [], ◌∷◌, ◌++◌, map, filter, length}
use Rattle.std.proofs.Common.{◌-◌, set, get_or, swap, refl, sym, ap, subst, ◌∙◌, eqb, Some, None, Option, inl, inr, ◌⊎◌, All}
use Rattle.std.specs.List.{AllByRecursion}
use Rattle.std.specs.Prelude.{is_some, option_map}
use Rattle.std.specs.Option.{unwrap_or}
use Rattle.std.proofs.lemmas.Bool.{eq-eqb, ne_eqb, false≢true}
use Rattle.std.proofs.lemmas.List.{append_assoc, length-append, length-set, length-map, set-append_left, set-append_right, get_or-append-add}
use Rattle.std.proofs.lemmas.List.{get_or_append_left, get_or-map, map-set, map-append}
use Rattle.std.proofs.lemmas.List.Edits.{swap_is, length-swap}
use Rattle.std.proofs.lemmas.List.Sums.{sum_by-append, sum_by-cons}
use Rattle.std.proofs.lemmas.List.Elements.{filter-append, All-set, All-get_or, All-head, All-tail, All-cons}
use Rattle.bs_clause.specs.Literal.{IsCode, AreCodes, literal_of}
use Rattle.bs_arena.specs.Words.{Stored, spelling, spelling_of, placed_from, size}
use Rattle.bs_arena.specs.Arena.{Held, held, held_at, live_in, live_words, literals_at, clauses_of, swapped, IsWellFormed, IsStored, IsArena}
use Rattle.bs_arena.proofs.Spellings.{Found, found_from, read_back, live_in-append, placed_from-append, spelling_of-append}

pub record Split (words : List ℕ) (r : ℕ) : Type 0 where
  pub before : List Stored
  pub clause : Stored
  pub after : List Stored
  pub spelled : words ≡ spelling_of (before ++ clause ∷ after)
  pub place : r ≡ length (spelling_of before)
  pub live : clause.live ≡ true
  pub each : All IsStored (before ++ clause ∷ after)
  pub found : held_at (clauses_of words) r ≡ Some (held (record { place = r; clause = clause }))

some_is : {X : Type 0} (o : Option X) → is_some o ≡ true → (x : X) × (o ≡ Some x)
some_is None h = absurd (false≢true h)
some_is (Some x) h = (x, refl)

pub split_at : (words : List ℕ) (r : ℕ) → IsWellFormed words → is_some (held_at (clauses_of words) r) ≡ true → Split words r
split_at words r w some =
    let found = some_is (held_at (clauses_of words) r) some in
    let listed : clauses_of words ≡ live_in (placed_from 0 w.stored) = ap clauses_of w.spelled ∙ ap live_in (read_back 0 w.stored) in
    let f : Found 0 w.stored r found.0 = found_from 0 w.stored r found.0 (sym (ap (λ hs. held_at hs r) listed) ∙ found.1) in
    record {
      before = f.before;
      clause = f.clause;
      after = f.after;
      spelled = w.spelled ∙ ap spelling_of f.parts;
      place = f.place ∙ omega arith;
      live = f.live;
      each = subst (All IsStored) f.parts w.each;
      found = found.1 ∙ ap Some f.is;
    }

-- the words of the clause among those before and after it
pub inside : (words : List ℕ) (r : ℕ) (s : Split words r) → words ≡ spelling_of s.before ++ (spelling s.clause ++ spelling_of s.after)
inside words r s = s.spelled ∙ spelling_of-append s.before (s.clause ∷ s.after)

-- ---- with another clause of the same size in its place

abbrev pub front : (words : List ℕ) (r : ℕ) → Split words r → List Held
front words r s = live_in (placed_from 0 s.before)

abbrev pub back : (words : List ℕ) (r : ℕ) → Split words r → List Held
back words r s = live_in (placed_from (r + size s.clause) s.after)

one_first : (c : Stored) (r n : ℕ) (after : List Stored) → r + size c ≡ n →
    live_in (placed_from r (c ∷ after)) ≡ cond c.live (held (record { place = r; clause = c }) ∷ []) [] ++ live_in (placed_from n after)
one_first c r n after is =
    ap (λ m. map held (cond c.live (record { place = r; clause = c } ∷ filter (λ p. p.clause.live) (placed_from m after))
    (filter (λ p. p.clause.live) (placed_from m after)))) is ∙
    (elim (c.live) as (λ b. map held
    (cond b (record { place = r; clause = c } ∷ filter (λ p. p.clause.live) (placed_from n after)) (filter (λ p. p.clause.live) (placed_from n after)))
    ≡ cond b (held (record { place = r; clause = c }) ∷ []) [] ++ live_in (placed_from n after)) [ true ↦ refl | false ↦ refl ])

pub replaced : (before after : List Stored) (c : Stored) (r n : ℕ) → r ≡ length (spelling_of before) → r + size c ≡ n →
    clauses_of (spelling_of (before ++ c ∷ after)) ≡ live_in
    (placed_from 0 before) ++ (cond c.live (held (record { place = r; clause = c }) ∷ []) [] ++ live_in (placed_from n after))
replaced before after c r n place is =
    ap live_in (read_back 0 (before ++ c ∷ after) ∙ placed_from-append 0 before (c ∷ after)) ∙
    live_in-append (placed_from 0 before) (placed_from (0 + length (spelling_of before)) (c ∷ after)) ∙
    ap (λ at. live_in (placed_from 0 before) ++ live_in (placed_from at (c ∷ after)))
    (let at : 0 + length (spelling_of before) ≡ r = omega (arith, place) in at) ∙
    ap (λ l. live_in (placed_from 0 before) ++ l) (one_first c r n after is)

-- the clauses that the words hold
pub parts : (words : List ℕ) (r : ℕ) (s : Split words r) → clauses_of words ≡ front words r s ++ held (record { place = r; clause = s.clause }) ∷ back words r s
parts words r s =
    ap clauses_of s.spelled ∙ replaced s.before s.after s.clause r (r + size s.clause) s.place refl ∙
    ap (λ b. front words r s ++ (cond b (held (record { place = r; clause = s.clause }) ∷ []) [] ++ back words r s)) s.live

-- no other clause has the reference
pub misses : (at r : ℕ) (cs : List Stored) → (r < at) ⊎ (at + length (spelling_of cs) ≤ r) →
    AllByRecursion (λ (h : Held). eqb h.ref r ≡ false) (live_in (placed_from at cs))
misses at r [] apart = tt
misses at r (c ∷ cs) apart =
    let long : length (spelling c ++ spelling_of cs) ≡ size c + length (spelling_of cs) = omega (arith, length-append (spelling c) (spelling_of cs)) in
    let later : (r < at + size c) ⊎ (at + size c + length (spelling_of cs) ≤ r) =
    elim apart [ inl less ↦ inl (omega (arith, less)) | inr past ↦ inr (omega (arith, past, long)) ] in
    let rest = misses (at + size c) r cs later in
    let here : eqb at r ≡ false = ne_eqb at r (λ e. elim apart [ inl less ↦ omega (arith, less, e) | inr past ↦ omega (arith, past, long, e) ]) in
    elim (c.live) as (λ b. AllByRecursion (λ (h : Held). eqb h.ref r ≡ false)
    (map held (cond b (record { place = at; clause = c } ∷ filter (λ p. p.clause.live) (placed_from (at + size c) cs))
    (filter (λ p. p.clause.live) (placed_from (at + size c) cs))))) [
      | true ↦ (here, rest)
      | false ↦ rest
    ]

front_misses : (words : List ℕ) (r : ℕ) (s : Split words r) → AllByRecursion (λ (h : Held). eqb h.ref r ≡ false) (front words r s)
front_misses words r s = misses 0 r s.before (inr (omega (arith, s.place)))

back_misses : (words : List ℕ) (r : ℕ) (s : Split words r) → AllByRecursion (λ (h : Held). eqb h.ref r ≡ false) (back words r s)
back_misses words r s = misses (r + size s.clause) r s.after (inl (omega arith))

kept_all : {X : Type 0} (p : X → Bool) (xs : List X) → AllByRecursion (λ x. p x ≡ false) xs → filter (λ x. not (p x)) xs ≡ xs
kept_all p [] all = refl
kept_all p (x ∷ xs) all =
    ap (λ b. cond (not b) (x ∷ filter (λ y. not (p y)) xs) (filter (λ y. not (p y)) xs)) all.0 ∙ ap (λ l. x ∷ l) (kept_all p xs all.1)

same_all : {X : Type 0} (p : X → Bool) (f : X → X) (xs : List X) → AllByRecursion (λ x. p x ≡ false) xs → map (λ x. cond (p x) (f x) x) xs ≡ xs
same_all p f [] all = refl
same_all p f (x ∷ xs) all = λ i. cond (all.0 i) (f x) x ∷ same_all p f xs all.1 i

-- the others
pub others : (words : List ℕ) (r : ℕ) (s : Split words r) → filter (λ (h : Held). not (eqb h.ref r)) (clauses_of words) ≡ front words r s ++ back words r s
others words r s =
    let c : Held = held (record { place = r; clause = s.clause }) in
    ap (filter (λ (h : Held). not (eqb h.ref r))) (parts words r s) ∙
    filter-append (λ (h : Held). not (eqb h.ref r)) (front words r s) (c ∷ back words r s) ∙
    ap (λ l. l ++ filter (λ (h : Held). not (eqb h.ref r)) (c ∷ back words r s))
    (kept_all (λ (h : Held). eqb h.ref r) (front words r s) (front_misses words r s)) ∙
    ap (λ b. front words r s ++ cond (not b) (c ∷ filter (λ (h : Held). not (eqb h.ref r)) (back words r s))
    (filter (λ (h : Held). not (eqb h.ref r)) (back words r s))) (eq-eqb r r refl) ∙
    ap (λ l. front words r s ++ l) (kept_all (λ (h : Held). eqb h.ref r) (back words r s) (back_misses words r s))

-- all of them, with a change to this one
pub changed : (words : List ℕ) (r : ℕ) (s : Split words r) (f : Held → Held) →
    map (λ (h : Held). cond (eqb h.ref r) (f h) h) (clauses_of words) ≡ front words r s ++ f (held (record { place = r; clause = s.clause })) ∷ back words r s
changed words r s f =
    let c : Held = held (record { place = r; clause = s.clause }) in
    ap (map (λ (h : Held). cond (eqb h.ref r) (f h) h)) (parts words r s) ∙
    map-append (λ (h : Held). cond (eqb h.ref r) (f h) h) (front words r s) (c ∷ back words r s) ∙
    ap (λ l. l ++ map (λ (h : Held). cond (eqb h.ref r) (f h) h) (c ∷ back words r s))
    (same_all (λ (h : Held). eqb h.ref r) f (front words r s) (front_misses words r s)) ∙
    ap (λ b. front words r s ++ cond b (f c) c ∷ map (λ (h : Held). cond (eqb h.ref r) (f h) h) (back words r s)) (eq-eqb r r refl) ∙
    ap (λ l. front words r s ++ f c ∷ l) (same_all (λ (h : Held). eqb h.ref r) f (back words r s) (back_misses words r s))

-- ---- a clause is killed

stored_again : (before after : List Stored) (c d : Stored) → All IsStored (before ++ c ∷ after) → IsStored d → All IsStored (before ++ d ∷ after)
stored_again [] after c d all is = All-cons IsStored d after is (All-tail IsStored c after all)
stored_again (b ∷ before) after c d all is =
    All-cons IsStored b (before ++ d ∷ after) (All-head IsStored b (before ++ c ∷ after) all)
    (stored_again before after c d (All-tail IsStored b (before ++ c ∷ after) all) is)

stored_here : (before after : List Stored) (c : Stored) → All IsStored (before ++ c ∷ after) → IsStored c
stored_here [] after c all = All-head IsStored c after all
stored_here (b ∷ before) after c all = stored_here before after c (All-tail IsStored b (before ++ c ∷ after) all)

pub stored_is : (words : List ℕ) (r : ℕ) (s : Split words r) → IsStored s.clause
stored_is words r s = stored_here s.before s.after s.clause s.each

pub killed_words : (words : List ℕ) (r : ℕ) (s : Split words r) →
    set words (r + 3) 0 ≡ spelling_of (s.before ++ record { id = s.clause.id; live = false; codes = s.clause.codes } ∷ s.after)
killed_words words r s =
    let three : r + 3 - r ≡ 3 = omega arith in
    ap (λ ws. set ws (r + 3) 0) (inside words r s) ∙
    set-append_right (spelling_of s.before) (spelling s.clause ++ spelling_of s.after) r (r + 3) 0 (sym s.place) (omega arith) ∙
    ap (λ n. spelling_of s.before ++ set (spelling s.clause ++ spelling_of s.after) n 0) three ∙
    sym (spelling_of-append s.before (record { id = s.clause.id; live = false; codes = s.clause.codes } ∷ s.after))

pub killed : (words : List ℕ) (r : ℕ) (s : Split words r) → clauses_of (set words (r + 3) 0) ≡ front words r s ++ back words r s
killed words r s =
    ap clauses_of (killed_words words r s)
    ∙ replaced s.before s.after (record { id = s.clause.id; live = false; codes = s.clause.codes }) r (r + size s.clause) s.place refl

pub well_formed_kill : (words : List ℕ) (r : ℕ) → Split words r → IsWellFormed (set words (r + 3) 0)
well_formed_kill words r s =
    let was : IsStored s.clause = stored_is words r s in
    record {
      stored = s.before ++ record { id = s.clause.id; live = false; codes = s.clause.codes } ∷ s.after;
      each =
          stored_again s.before s.after s.clause (record { id = s.clause.id; live = false; codes = s.clause.codes }) s.each
          (record { id = was.id; codes = was.codes; short = was.short });
      spelled = killed_words words r s;
    }

-- the words and the number of the clauses with this one among them
pub words_of_parts : (xs ys : List Held) (h : Held) → live_words (xs ++ h ∷ ys) ≡ live_words (xs ++ ys) + (length h.literals + 4)
words_of_parts xs ys h =
    let words : Held → ℕ = λ g. length g.literals + 4 in
    omega (arith, sum_by-append words xs (h ∷ ys), sum_by-cons words h ys, sum_by-append words xs ys)

pub count_of_parts : (xs ys : List Held) (h : Held) → length (xs ++ h ∷ ys) ≡ length (xs ++ ys) + 1
count_of_parts xs ys h = omega (arith, length-append xs (h ∷ ys), length-append xs ys)

pub arena_kill : (words : List ℕ) (r live count : ℕ) → IsArena words live count → (s : Split words r) →
    IsArena (set words (r + 3) 0) (live - (length s.clause.codes + 4)) (count - 1)
arena_kill words r live count a s =
    let c : Held = held (record { place = r; clause = s.clause }) in
    let long : length c.literals ≡ length s.clause.codes = length-map s.clause.codes literal_of in
    record {
      form = well_formed_kill words r s;
      few = omega (arith, a.few, length-set words (r + 3) 0);
      live_is =
          omega (
            arith,
            a.live_is,
            ap live_words (parts words r s),
            words_of_parts (front words r s) (back words r s) c,
            long,
            ap live_words (killed words r s),
          );
      count_is = omega (arith, a.count_is, ap length (parts words r s), count_of_parts (front words r s) (back words r s) c, ap length (killed words r s));
    }

-- what is taken off the counts is there
pub fits_kill : (words : List ℕ) (r live count : ℕ) → IsArena words live count → (s : Split words r) → (length s.clause.codes + 4 ≤ live) × (1 ≤ count)
fits_kill words r live count a s =
    let c : Held = held (record { place = r; clause = s.clause }) in
    let long : length c.literals ≡ length s.clause.codes = length-map s.clause.codes literal_of in (
      omega (arith, a.live_is, ap live_words (parts words r s), words_of_parts (front words r s) (back words r s) c, long),
      omega (arith, a.count_is, ap length (parts words r s), count_of_parts (front words r s) (back words r s) c),
    )

-- ---- two literals are exchanged

swap_inside : {X : Type 0} (xs ys zs : List X) (n i j : ℕ) (d : X) → length xs ≡ n → i < length ys → j < length ys →
    swap (xs ++ (ys ++ zs)) (n + i) (n + j) ≡ xs ++ (swap ys i j ++ zs)
swap_inside {X} xs ys zs n i j d long li lj =
    let all = xs ++ (ys ++ zs) in
    let a : get_or all (n + j) d ≡ get_or ys j d =
    ap (λ k. get_or all (k + j) d) (sym long) ∙ get_or-append-add xs (ys ++ zs) j d ∙ get_or_append_left ys zs d j lj in
    let b : get_or all (n + i) d ≡ get_or ys i d =
    ap (λ k. get_or all (k + i) d) (sym long) ∙ get_or-append-add xs (ys ++ zs) i d ∙ get_or_append_left ys zs d i li in
    let total : length all ≡ n + (length ys + length zs) = omega (arith, length-append xs (ys ++ zs), length-append ys zs, long) in
    let put : (vs : List X) (k : ℕ) (v : X) → k < length vs → set (xs ++ (vs ++ zs)) (n + k) v ≡ xs ++ (set vs k v ++ zs) = λ vs k v lt.
    let at : n + k - n ≡ k = omega arith in
    set-append_right xs (vs ++ zs) n (n + k) v long (omega arith) ∙ ap (λ m. xs ++ set (vs ++ zs) m v) at ∙ ap (λ l. xs ++ l) (set-append_left vs zs k v lt) in
    sym (swap_is all (n + i) (n + j) d (omega (arith, total, li)) (omega (arith, total, lj))) ∙
    (λ t. set (set all (n + i) (a t)) (n + j) (b t)) ∙
    ap (λ l. set l (n + j) (get_or ys i d)) (put ys i (get_or ys j d) li) ∙
    put (set ys i (get_or ys j d)) j (get_or ys i d) (omega (arith, lj, length-set ys i (get_or ys j d))) ∙
    ap (λ l. xs ++ (l ++ zs)) (swap_is ys i j d li lj)

map_swap : {X Y : Type 0} (f : X → Y) (xs : List X) (i j : ℕ) (d : X) → i < length xs → j < length xs → map f (swap xs i j) ≡ swap (map f xs) i j
map_swap f xs i j d li lj =
    ap (map f) (sym (swap_is xs i j d li lj)) ∙ map-set f (set xs i (get_or xs j d)) j (get_or xs i d)
    ∙ ap (λ l. set l j (f (get_or xs i d))) (map-set f xs i (get_or xs j d)) ∙
    sym (λ t. set (set (map f xs) i (get_or-map f xs j d (f d) lj t)) j (get_or-map f xs i d (f d) li t)) ∙
    swap_is (map f xs) i j (f d) (omega (arith, li, length-map xs f)) (omega (arith, lj, length-map xs f))

codes_swap : (codes : List ℕ) (i j : ℕ) → i < length codes → j < length codes → AreCodes codes → AreCodes (swap codes i j)
codes_swap codes i j li lj all =
    subst AreCodes (swap_is codes i j 0 li lj)
    (All-set IsCode (set codes i (get_or codes j 0)) j (get_or codes i 0) (All-get_or IsCode codes i 0 li all)
    (All-set IsCode codes i (get_or codes j 0) (All-get_or IsCode codes j 0 lj all) all))

pub swapped_words : (words : List ℕ) (r i j : ℕ) (s : Split words r) → i < length s.clause.codes → j < length s.clause.codes →
    swap words (r + 4 + i) (r + 4 + j) ≡ spelling_of (s.before ++ record { id = s.clause.id; live = s.clause.live; codes = swap s.clause.codes i j } ∷ s.after)
swapped_words words r i j s li lj =
    let header : List ℕ = s.clause.id % 2 ^ 32 ∷ s.clause.id / 2 ^ 32 ∷ length s.clause.codes ∷ cond s.clause.live 1 0 ∷ [] in
    let swapped_clause : Stored = record { id = s.clause.id; live = s.clause.live; codes = swap s.clause.codes i j } in
    let opened : words ≡ (spelling_of s.before ++ header) ++ (s.clause.codes ++ spelling_of s.after) =
    inside words r s ∙ sym (append_assoc (spelling_of s.before) header (s.clause.codes ++ spelling_of s.after)) in
    let long : length (spelling_of s.before ++ header) ≡ r + 4 = omega (arith, length-append (spelling_of s.before) header, s.place) in
    ap (λ ws. swap ws (r + 4 + i) (r + 4 + j)) opened ∙
    swap_inside (spelling_of s.before ++ header) s.clause.codes (spelling_of s.after) (r + 4) i j 0 long li lj ∙
    append_assoc (spelling_of s.before) header (swap s.clause.codes i j ++ spelling_of s.after) ∙
    ap (λ n. spelling_of s.before ++ (s.clause.id % 2 ^ 32 ∷ s.clause.id / 2 ^ 32 ∷ n ∷ cond s.clause.live 1 0 ∷
    (swap s.clause.codes i j ++ spelling_of s.after)))
    (sym (length-swap s.clause.codes i j)) ∙
    sym (spelling_of-append s.before (swapped_clause ∷ s.after))

pub swapped_are : (words : List ℕ) (r i j : ℕ) (s : Split words r) → i < length s.clause.codes → j < length s.clause.codes →
    clauses_of (swap words (r + 4 + i) (r + 4 + j)) ≡ front words r s ++ swapped (held (record { place = r; clause = s.clause })) i j ∷ back words r s
swapped_are words r i j s li lj =
    let d : Stored = record { id = s.clause.id; live = s.clause.live; codes = swap s.clause.codes i j } in
    let long : length (swap s.clause.codes i j) ≡ length s.clause.codes = length-swap s.clause.codes i j in
    ap clauses_of (swapped_words words r i j s li lj) ∙
    replaced s.before s.after d r (r + size s.clause) s.place (omega (arith, long)) ∙
    ap (λ b. front words r s ++ (cond b (held (record { place = r; clause = d }) ∷ []) [] ++ back words r s)) s.live ∙
    ap (λ ls. front words r s ++ record { ref = r; id = s.clause.id; literals = ls } ∷ back words r s) (map_swap literal_of s.clause.codes i j 0 li lj)

pub arena_swap : (words : List ℕ) (r i j live count : ℕ) → IsArena words live count → (s : Split words r) → i < length s.clause.codes →
    j < length s.clause.codes →
    IsArena (swap words (r + 4 + i) (r + 4 + j)) live count
arena_swap words r i j live count a s li lj =
    let c : Held = held (record { place = r; clause = s.clause }) in
    let was : IsStored s.clause = stored_is words r s in
    let long : length (swap s.clause.codes i j) ≡ length s.clause.codes = length-swap s.clause.codes i j in
    let same : length (swap c.literals i j) ≡ length c.literals = length-swap c.literals i j in
    record {
      form = record {
        stored = s.before ++ record { id = s.clause.id; live = s.clause.live; codes = swap s.clause.codes i j } ∷ s.after;
        each = stored_again s.before s.after s.clause (record { id = s.clause.id; live = s.clause.live; codes = swap s.clause.codes i j }) s.each
            (record { id = was.id; codes = codes_swap s.clause.codes i j li lj was.codes; short = omega (arith, was.short, long) });
        spelled = swapped_words words r i j s li lj;
      };
      few = omega (arith, a.few, length-swap words (r + 4 + i) (r + 4 + j));
      live_is = omega (
        arith,
        a.live_is,
        ap live_words (parts words r s),
        words_of_parts (front words r s) (back words r s) c,
        same,
        ap live_words (swapped_are words r i j s li lj),
        words_of_parts (front words r s) (back words r s) (swapped c i j),
      );
      count_is = omega (
        arith,
        a.count_is,
        ap length (parts words r s),
        count_of_parts (front words r s) (back words r s) c,
        ap length (swapped_are words r i j s li lj),
        count_of_parts (front words r s) (back words r s) (swapped c i j),
      );
    }

-- ---- what a clause's words say

pub record Header (words : List ℕ) (at : ℕ) (c : Stored) : Type 0 where
  pub low : get_or words at 0 ≡ c.id % 2 ^ 32
  pub high : get_or words (at + 1) 0 ≡ c.id / 2 ^ 32
  pub count : get_or words (at + 2) 0 ≡ length c.codes
  pub alive : get_or words (at + 3) 0 ≡ cond c.live 1 0
  pub fits : at + size c ≤ length words

pub header : (words before rest : List ℕ) (at : ℕ) (c : Stored) → at ≡ length before → words ≡ before ++ (spelling c ++ rest) → Header words at c
header words before rest at c place parts =
    let read : (n : ℕ) → get_or words (at + n) 0 ≡ get_or (spelling c ++ rest) n 0 = λ n.
    ap (λ ws. get_or ws (at + n) 0) parts ∙ ap (λ k. get_or (before ++ (spelling c ++ rest)) (k + n) 0) place
    ∙ get_or-append-add before (spelling c ++ rest) n 0 in
    let first : at + 0 ≡ at = omega arith in
    record {
      low = ap (λ k. get_or words k 0) (sym first) ∙ read 0;
      high = read 1;
      count = read 2;
      alive = read 3;
      fits = omega (arith, place, ap length parts, length-append before (spelling c ++ rest), length-append (spelling c) rest);
    }

pub header_of : (words : List ℕ) (r : ℕ) (s : Split words r) → Header words r s.clause
header_of words r s = header words (spelling_of s.before) (spelling_of s.after) r s.clause s.place (inside words r s)

-- the literals of the clause
pub literals_of : (words : List ℕ) (r : ℕ) (s : Split words r) → literals_at (clauses_of words) r ≡ map literal_of s.clause.codes
literals_of words r s = ap (λ o. unwrap_or (option_map (λ (h : Held). h.literals) o) []) s.found

pub place_of : (words : List ℕ) (r i : ℕ) (s : Split words r) → i < length (literals_at (clauses_of words) r) → i < length s.clause.codes
place_of words r i s lt = omega (arith, lt, ap length (literals_of words r s), length-map s.clause.codes literal_of)

-- its words are those of the live clause in an arena's view
pub split_of : (words : List ℕ) (clauses : List Held) (r : ℕ) → IsWellFormed words → clauses_of words ≡ clauses → is_some (held_at clauses r) ≡ true →
    Split words r
split_of words clauses r w same some = split_at words r w (subst (λ cs. is_some (held_at cs r) ≡ true) (sym same) some)
