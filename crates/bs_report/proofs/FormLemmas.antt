-- Each line of a report's text is read back, and lacks line feeds.
use Rattle.std.proofs.Common.{◌≡◌, ℕ, ◌<◌, ◌≤◌, ◌+◌, ◌^◌, Bool, true, false, cond, not, ◌&&◌, List, [], ◌∷◌, ◌++◌, refl, arith, ap, sym, subst, ◌∙◌}
use Rattle.std.proofs.Common.{◌⊎◌, inl, inr, Option, Some, None}
use Rattle.std.specs.Prelude.{◌==◌, codes, decimal, nat_le, nat_lt, option_map}
use Rattle.std.specs.List.{AllByRecursion as Each, flat_map, list_all}
use Rattle.std.specs.Str.{bytes_eq}
use Rattle.std.proofs.lemmas.Bool.{and_from, eqb-true, le-leb, lt-ltb}
use Rattle.std.proofs.lemmas.List.{append-nil}
use Rattle.bs_bits.specs.Text.{bits_text, bits_of}
use Rattle.bs_bits.specs.Lines.{words_of, number_in, digits_in}
use Rattle.bs_bits.proofs.TextLemmas.{bits_again}
use Rattle.bs_scan.specs.declared.seen.Seen.{Seen}
use Rattle.bs_scan.specs.Seen.{IsSeen}
use Rattle.bs_scan.specs.SeenText.{seen_of, seen_text}
use Rattle.bs_scan.proofs.TextLemmas.{seen_again, seen_lacks}
use Rattle.bs_bits.proofs.LineTextLemmas.{Lacks, lacks_append, bits_lack, number_lacks}
use Rattle.bs_bits.proofs.NumberLemmas.{decimal_canonical, number_of_decimal}
use Rattle.bs_clause.specs.Literal.{Literal}
use Rattle.bs_log.specs.declared.line.Line.{Line}
use Rattle.bs_log.specs.declared.line.Line.TheVariants as lines
use Rattle.bs_log.specs.LineForms.{IsId, HasVariable, HasText}
use Rattle.bs_log.specs.LineReading.{id_in}
use Rattle.bs_log.specs.LineText.{line_text, literal_text, id_text}
use Rattle.bs_log.proofs.WordLemmas.{id_of_decimal, IsWord, words_joined}
use Rattle.bs_stim.specs.declared.limits.TheConstants.{MAX_RUNS, MAX_CYCLES}
use Rattle.bs_report.specs.declared.limits.TheConstants.{MAX_STEPS, MAX_CANDIDATES, MAX_CONFLICTS}
use Rattle.bs_report.specs.declared.report.Budgets.{Budgets}
use Rattle.bs_scan.specs.Choice.{IsDepth}
use Rattle.bs_scan.specs.DumpText.{signature_text}
use Rattle.bs_report.specs.declared.report.Before.{Before}
use Rattle.bs_report.specs.declared.report.Cand.{Cand}
use Rattle.bs_report.specs.declared.report.HitLine.{HitLine}
use Rattle.bs_report.specs.declared.report.ListEnd.{ListEnd}
use Rattle.bs_report.specs.declared.report.ListEnd.TheVariants.{Finished, Candidates as ByCandidates, Conflicts as ByConflicts}
use Rattle.bs_report.specs.declared.report.Stop.{Stop}
use Rattle.bs_report.specs.declared.report.Stop.TheVariants.{Reset, Length, Nohit, Empty, Candidates, Conflicts}
use Rattle.bs_report.specs.Forms.{◌>>=◌, next_in, behind, at_end, within, number_within, number_behind, bits_behind, bits_next, seen_behind, seen_in, count_in, bits_in}
use Rattle.bs_report.specs.Forms.{budgets_in, depth_in, older_in, source_in, before_in, cand_in, end_of, end_in, moment_in, hit_in, stop_in}
use Rattle.bs_report.specs.Text.{title, before_text, cand_words, end_word, stop_word, IsOfDepth, HasEndText}

-- ---- words

is_word : (w : List ℕ) → Lacks 32 w → IsWord w
is_word [] h = refl
is_word (b ∷ bs) h = and_from (not (b == 32)) (list_all (λ b. not (b == 32)) bs) (ap not h.0) (is_word bs h.1)

pub number_word : (n : ℕ) → n < 2 ^ 64 → IsWord (decimal n)
number_word n h = is_word (decimal n) (number_lacks 32 n (omega arith) h)

pub bits_word : (bs : List Bool) → IsWord (bits_text bs)
bits_word bs = is_word (bits_text bs) (bits_lack 32 bs (omega arith))

pub seen_word : (s : Seen) → IsWord (seen_text s)
seen_word s = is_word (seen_text s) (seen_lacks 32 s (omega arith))

-- ---- numbers

pub number_again : (n : ℕ) → n < 2 ^ 64 → number_in (decimal n) ≡ Some n
number_again n h =
    ap (λ (b : Bool). cond {A = Option ℕ} b (digits_in (decimal n)) None) (decimal_canonical n h)
    ∙ (ap (λ (k : ℕ). cond {A = Option ℕ} (nat_lt k (2 ^ 64)) (Some k) None) (number_of_decimal n h)
    ∙ ap (λ (b : Bool). cond {A = Option ℕ} b (Some n) None) (lt-ltb n (2 ^ 64) h))

pub within_again : (low high n : ℕ) → low ≤ n → n ≤ high → n < 2 ^ 64 → number_within low high (decimal n) ≡ Some n
within_again low high n l u h =
    ap (within low high) (number_again n h)
    ∙ ap (λ (b : Bool). cond {A = Option ℕ} b (Some n) None) (and_from (nat_le low n) (nat_le n high) (le-leb low n l) (le-leb n high u))

-- ---- parts of lines

-- what a part that is there gives to the rest
pub given : {A B : Type 0} (o : Option A) (a : A) (f : A → Option B) → o ≡ Some a → (o >>= f) ≡ f a
given o a f e = ap (λ (o : Option _). o >>= f) e

pub behind_again : (tag w : List ℕ) (ws : List (List ℕ)) → bytes_eq tag tag ≡ true → behind tag (tag ∷ w ∷ ws) ≡ Some (w, ws)
behind_again tag w ws t = ap (λ (b : Bool). cond {A = Option (List ℕ × List (List ℕ))} b (Some (w, ws)) None) t

pub number_behind_again : (tag : List ℕ) (low high n : ℕ) (ws : List (List ℕ)) → bytes_eq tag tag ≡ true → low ≤ n → n ≤ high → n < 2 ^ 64 →
    number_behind tag low high (tag ∷ decimal n ∷ ws) ≡ Some (n, ws)
number_behind_again tag low high n ws t l u h =
    given (behind tag (tag ∷ decimal n ∷ ws)) (decimal n, ws) (λ found. number_within low high found.0 >>= λ n. Some (n, found.1))
    (behind_again tag (decimal n) ws t)
    ∙ given (number_within low high (decimal n)) n (λ n. Some (n, ws)) (within_again low high n l u h)

pub bits_behind_again : (tag : List ℕ) (bs : List Bool) (ws : List (List ℕ)) → bytes_eq tag tag ≡ true →
    bits_behind tag (tag ∷ bits_text bs ∷ ws) ≡ Some (bs, ws)
bits_behind_again tag bs ws t =
    given (behind tag (tag ∷ bits_text bs ∷ ws)) (bits_text bs, ws) (λ found. bits_of found.0 >>= λ bits. Some (bits, found.1))
    (behind_again tag (bits_text bs) ws t)
    ∙ given (bits_of (bits_text bs)) bs (λ bits. Some (bits, ws)) (bits_again bs)

-- ---- lines

pub count_again : (tag text : List ℕ) (n : ℕ) → words_of text ≡ tag ∷ decimal n ∷ [] → bytes_eq tag tag ≡ true → n < 2 ^ 64 → count_in tag text ≡ Some n
count_again tag text n w t h =
    ap (λ (ws : List (List ℕ)). behind tag ws >>= λ found. number_in found.0 >>= λ n. at_end found.1 n) w
    ∙ (given (behind tag (tag ∷ decimal n ∷ [])) (decimal n, []) (λ found. number_in found.0 >>= λ n. at_end found.1 n) (behind_again tag (decimal n) [] t)
    ∙ given (number_in (decimal n)) n (λ n. Some n) (number_again n h))

pub bits_line_again : (tag text : List ℕ) (bs : List Bool) → words_of text ≡ tag ∷ bits_text bs ∷ [] → bytes_eq tag tag ≡ true → bits_in tag text ≡ Some bs
bits_line_again tag text bs w t =
    ap (λ (ws : List (List ℕ)). bits_behind tag ws >>= λ found. at_end found.1 found.0) w
    ∙ given (bits_behind tag (tag ∷ bits_text bs ∷ [])) (bs, []) (λ found. at_end found.1 found.0) (bits_behind_again tag bs [] t)

seen_behind_again : (tag : List ℕ) (s : Seen) (ws : List (List ℕ)) → IsSeen s → bytes_eq tag tag ≡ true →
    seen_behind tag (tag ∷ seen_text s ∷ ws) ≡ Some (s, ws)
seen_behind_again tag s ws sound t =
    given (behind tag (tag ∷ seen_text s ∷ ws)) (seen_text s, ws) (λ found. seen_of found.0 >>= λ seen. Some (seen, found.1))
    (behind_again tag (seen_text s) ws t)
    ∙ given (seen_of (seen_text s)) s (λ seen. Some (seen, ws)) (seen_again s sound)

pub seen_line_again : (tag text : List ℕ) (s : Seen) → IsSeen s → words_of text ≡ tag ∷ seen_text s ∷ [] → bytes_eq tag tag ≡ true → seen_in tag text ≡ Some s
seen_line_again tag text s sound w t =
    ap (λ (ws : List (List ℕ)). seen_behind tag ws >>= λ found. at_end found.1 found.0) w
    ∙ given (seen_behind tag (tag ∷ seen_text s ∷ [])) (s, []) (λ found. at_end found.1 found.0) (seen_behind_again tag s [] sound t)

pub budgets_again : (b : Budgets) → 1 ≤ b.steps → b.steps ≤ MAX_STEPS → 1 ≤ b.candidates → b.candidates ≤ MAX_CANDIDATES → 1 ≤ b.conflicts →
    b.conflicts ≤ MAX_CONFLICTS →
    budgets_in (codes "asked " ++ (decimal b.steps
    ++ (codes " candidates " ++ (decimal b.candidates ++ (codes " conflicts " ++ decimal b.conflicts))))) ≡ Some b
budgets_again b sl su cl cu fl fu =
    ap (λ (ws : List (List ℕ)). number_behind (codes "asked") 1 MAX_STEPS ws >>= first) words
    ∙ (given _ (b.steps, after_steps) first (number_behind_again (codes "asked") 1 MAX_STEPS b.steps after_steps refl sl su (omega (arith, su)))
    ∙ (given _ (b.candidates, after_candidates) (second b.steps)
    (number_behind_again (codes "candidates") 1 MAX_CANDIDATES b.candidates after_candidates refl cl cu (omega (arith, cu)))
    ∙ given _ (b.conflicts, []) (third b.steps b.candidates)
    (number_behind_again (codes "conflicts") 1 MAX_CONFLICTS b.conflicts [] refl fl fu (omega (arith, fu)))))
  where
    after_candidates : List (List ℕ)
    after_candidates = codes "conflicts" ∷ decimal b.conflicts ∷ []

    after_steps : List (List ℕ)
    after_steps = codes "candidates" ∷ decimal b.candidates ∷ after_candidates

    third : ℕ → ℕ → ℕ × List (List ℕ) → Option Budgets
    third s c conflicts = at_end conflicts.1 (record { steps = s; candidates = c; conflicts = conflicts.0 })

    second : ℕ → ℕ × List (List ℕ) → Option Budgets
    second s candidates = number_behind (codes "conflicts") 1 MAX_CONFLICTS candidates.1 >>= third s candidates.0

    first : ℕ × List (List ℕ) → Option Budgets
    first steps = number_behind (codes "candidates") 1 MAX_CANDIDATES steps.1 >>= second steps.0

    words : words_of (codes "asked "
        ++ (decimal b.steps ++ (codes " candidates " ++ (decimal b.candidates ++ (codes " conflicts " ++ decimal b.conflicts))))) ≡ codes "asked"
        ∷ decimal b.steps ∷ after_steps
    words =
        words_joined (codes "asked") (decimal b.steps ∷ after_steps) (
          refl,
          (
            number_word b.steps (omega (arith, su)),
            (refl, (number_word b.candidates (omega (arith, cu)), (refl, (number_word b.conflicts (omega (arith, fu)), tt)))),
          ),
        )

pub title_again : (depth : ℕ) → IsDepth depth → depth_in (title depth) ≡ Some depth
title_again depth (inl e) = subst (λ (d : ℕ). depth_in (title d) ≡ Some d) (sym e) refl
title_again depth (inr e) = subst (λ (d : ℕ). depth_in (title d) ≡ Some d) (sym e) refl

pub title_lacks : (depth : ℕ) → Lacks 10 (title depth)
title_lacks depth = by (depth == 1)
  where
    by : (one : Bool) → Lacks 10 (cond one (codes "backspace 1") (codes "backspace 2"))
    by true = (refl, (refl, (refl, (refl, (refl, (refl, (refl, (refl, (refl, (refl, (refl, tt)))))))))))
    by false = (refl, (refl, (refl, (refl, (refl, (refl, (refl, (refl, (refl, (refl, (refl, tt)))))))))))

bits_next_again : (bs : List Bool) (ws : List (List ℕ)) → bits_next (bits_text bs ∷ ws) ≡ Some (bs, ws)
bits_next_again bs ws = given (bits_of (bits_text bs)) bs (λ bits. Some (bits, ws)) (bits_again bs)

not_none : (bs : List Bool) → bytes_eq (codes "older " ++ bits_text bs) (codes "older none") ≡ false
not_none [] = refl
not_none (false ∷ bs) = refl
not_none (true ∷ bs) = refl

pub older_again : (older : Option (List Bool)) → older_in (codes "older " ++ signature_text older) ≡ Some older
older_again None = refl
older_again (Some bs) =
    ap (λ (b : Bool). cond {A = Option (Option (List Bool))} b (Some None)
    (option_map (λ (bits : List Bool). Some bits) (bits_in (codes "older") (codes "older " ++ bits_text bs)))) (not_none bs)
    ∙ ap (option_map (λ (bits : List Bool). Some bits))
    (bits_line_again (codes "older") (codes "older " ++ bits_text bs) bs (words_joined (codes "older") (bits_text bs ∷ []) (refl, (bits_word bs, tt))) refl)

pub older_lacks : (older : Option (List Bool)) → Lacks 10 (codes "older " ++ signature_text older)
older_lacks older = lacks_append 10 (codes "older ") (signature_text older) (refl, (refl, (refl, (refl, (refl, (refl, tt)))))) (by older)
  where
    by : (older : Option (List Bool)) → Lacks 10 (signature_text older)
    by None = (refl, (refl, (refl, (refl, tt))))
    by (Some bs) = bits_lack 10 bs (omega arith)

-- the words of the state before a candidate
abbrev before_words : Option Before → List (List ℕ)
before_words None = []
before_words (Some before) = codes "from" ∷ bits_text before.state ∷ codes "input" ∷ bits_text before.input ∷ []

source_again : (before : Before) → source_in (bits_text before.state ∷ codes "input" ∷ bits_text before.input ∷ []) ≡ Some before
source_again before =
    given _ (before.state, codes "input" ∷ bits_text before.input ∷ []) first (bits_next_again before.state (codes "input" ∷ bits_text before.input ∷ []))
    ∙ given _ (before.input, []) (second before.state) (bits_behind_again (codes "input") before.input [] refl)
  where
    second : List Bool → List Bool × List (List ℕ) → Option Before
    second state input = at_end input.1 (record { state = state; input = input.0 })

    first : List Bool × List (List ℕ) → Option Before
    first state = bits_behind (codes "input") state.1 >>= second state.0

before_again : (depth : ℕ) (before : Option Before) → IsOfDepth depth before → before_in depth (before_words before) ≡ Some before
before_again depth None h = refl
before_again depth (Some before) h = by (depth == 1) refl
  where
    by : (one : Bool) → (depth == 1) ≡ one →
        cond {A = Option (Option Before)} one None (option_map (λ (before : Before). Some before)
        (source_in (bits_text before.state ∷ codes "input" ∷ bits_text before.input ∷ []))) ≡ Some (Some before)
    by true z = let none : Some before ≡ None = h (eqb-true depth 1 z) in absurd (cc)
    by false z = ap (option_map (λ (before : Before). Some before)) (source_again before)

pub cand_again : (depth : ℕ) (c : Cand) → IsOfDepth depth c.before → cand_in depth (cand_words c) ≡ Some c
cand_again depth c h =
    ap (λ (ws : List (List ℕ)). bits_behind (codes "cand") ws >>= first) (words c.before)
    ∙ (given _ (c.state, codes "input" ∷ bits_text c.input ∷ before_words c.before) first
    (bits_behind_again (codes "cand") c.state (codes "input" ∷ bits_text c.input ∷ before_words c.before) refl)
    ∙ (given _ (c.input, before_words c.before) (second c.state) (bits_behind_again (codes "input") c.input (before_words c.before) refl)
    ∙ given _ c.before (third c.state c.input) (before_again depth c.before h)))
  where
    third : List Bool → List Bool → Option Before → Option Cand
    third state input before = Some (record { state = state; input = input; before = before })

    second : List Bool → List Bool × List (List ℕ) → Option Cand
    second state input = before_in depth input.1 >>= third state input.0

    first : List Bool × List (List ℕ) → Option Cand
    first state = bits_behind (codes "input") state.1 >>= second state.0

    words : (before : Option Before) →
        words_of (codes "cand " ++ (bits_text c.state ++ (codes " input " ++ (bits_text c.input ++ before_text before)))) ≡ codes "cand" ∷ bits_text c.state
        ∷ codes "input" ∷ bits_text c.input ∷ before_words before
    words None =
        ap (λ (t : List ℕ). words_of (codes "cand " ++ (bits_text c.state ++ (codes " input " ++ t)))) (append-nil (bits_text c.input))
        ∙ words_joined (codes "cand") (bits_text c.state ∷ codes "input" ∷ bits_text c.input ∷ [])
        (refl, (bits_word c.state, (refl, (bits_word c.input, tt))))
    words (Some before) =
        words_joined (codes "cand")
        (bits_text c.state ∷ codes "input" ∷ bits_text c.input ∷ codes "from" ∷ bits_text before.state ∷ codes "input" ∷ bits_text before.input ∷ [])
        (refl, (bits_word c.state, (refl, (bits_word c.input, (refl, (bits_word before.state, (refl, (bits_word before.input, tt))))))))

pub cand_lacks : (c : Cand) → Lacks 10 (cand_words c)
cand_lacks c =
    lacks_append 10 (codes "cand ") _ (refl, (refl, (refl, (refl, (refl, tt)))))
    (lacks_append 10 (bits_text c.state) _ (bits_lack 10 c.state (omega arith))
    (lacks_append 10 (codes " input ") _ input_lacks (lacks_append 10 (bits_text c.input) _ (bits_lack 10 c.input (omega arith)) (by c.before))))
  where
    input_lacks : Lacks 10 (codes " input ")
    input_lacks = (refl, (refl, (refl, (refl, (refl, (refl, (refl, tt)))))))

    by : (before : Option Before) → Lacks 10 (before_text before)
    by None = tt
    by (Some before) =
        lacks_append 10 (codes " from ") _ (refl, (refl, (refl, (refl, (refl, (refl, tt))))))
        (lacks_append 10 (bits_text before.state) _ (bits_lack 10 before.state (omega arith))
        (lacks_append 10 (codes " input ") (bits_text before.input) input_lacks (bits_lack 10 before.input (omega arith))))

pub end_again : (e : ListEnd) → HasEndText e → end_in (codes "list " ++ end_word e) ≡ Some e
end_again (Finished id) h =
    ap (λ (ws : List (List ℕ)). behind (codes "list") ws >>= λ found. end_of found.0 found.1)
    (words_joined (codes "list") (codes "finished" ∷ decimal id ∷ []) (refl, (refl, (number_word id h.1, tt))))
    ∙ given (id_in (decimal id)) id (λ id. Some (Finished id)) (id_of_decimal id h)
end_again ByCandidates h = refl
end_again ByConflicts h = refl

hit_words : HitLine → List (List ℕ)
hit_words hit = codes "hit" ∷ decimal hit.run ∷ decimal hit.cycle ∷ bits_text hit.state ∷ []

pub hit_again : (hit : HitLine) → 1 ≤ hit.run → hit.run ≤ MAX_RUNS → hit.cycle ≤ MAX_CYCLES →
    hit_in (codes "hit " ++ (decimal hit.run ++ (codes " " ++ (decimal hit.cycle ++ (codes " " ++ bits_text hit.state))))) ≡ Some (Some hit)
hit_again hit l u c =
    ap (option_map (λ (hit : HitLine). Some hit))
    (ap moment_in words
    ∙ (given _ ((hit.run, hit.cycle), bits_text hit.state ∷ []) second
    (given _ (hit.run, decimal hit.cycle ∷ bits_text hit.state ∷ []) first
    (number_behind_again (codes "hit") 1 MAX_RUNS hit.run (decimal hit.cycle ∷ bits_text hit.state ∷ []) refl l u (omega (arith, u)))
    ∙ given _ hit.cycle (λ cycle. Some ((hit.run, cycle), bits_text hit.state ∷ [])) (within_again 0 MAX_CYCLES hit.cycle (omega arith) c (omega (arith, c))))
    ∙ given (bits_of (bits_text hit.state)) hit.state (λ bits. Some (record { run = hit.run; cycle = hit.cycle; state = bits })) (bits_again hit.state)))
  where
    first : ℕ × List (List ℕ) → Option ((ℕ × ℕ) × List (List ℕ))
    first run = next_in run.1 >>= λ found. number_within 0 MAX_CYCLES found.0 >>= λ cycle. Some ((run.0, cycle), found.1)

    second : (ℕ × ℕ) × List (List ℕ) → Option HitLine
    second moment = next_in moment.1 >>= λ found. bits_of found.0 >>= λ bits. at_end found.1 (record { run = moment.0.0; cycle = moment.0.1; state = bits })

    words : words_of (codes "hit " ++ (decimal hit.run ++ (codes " " ++ (decimal hit.cycle ++ (codes " " ++ bits_text hit.state))))) ≡ codes "hit"
        ∷ decimal hit.run ∷ decimal hit.cycle ∷ bits_text hit.state ∷ []
    words =
        words_joined (codes "hit") (decimal hit.run ∷ decimal hit.cycle ∷ bits_text hit.state ∷ [])
        (refl, (number_word hit.run (omega (arith, u)), (number_word hit.cycle (omega (arith, c)), (bits_word hit.state, tt))))

pub stop_again : (stop : Stop) → stop_in (codes "stop " ++ stop_word stop) ≡ Some stop
stop_again Reset = refl
stop_again Length = refl
stop_again Nohit = refl
stop_again Empty = refl
stop_again Candidates = refl
stop_again Conflicts = refl

-- the words of a line of a word and a number, and of a word and bits
pub words_of_count : (tag : List ℕ) (n : ℕ) → IsWord tag → n < 2 ^ 64 → words_of (tag ++ 32 ∷ decimal n) ≡ tag ∷ decimal n ∷ []
words_of_count tag n w h = words_joined tag (decimal n ∷ []) (w, (number_word n h, tt))

pub words_of_bits : (tag : List ℕ) (bs : List Bool) → IsWord tag → words_of (tag ++ 32 ∷ bits_text bs) ≡ tag ∷ bits_text bs ∷ []
words_of_bits tag bs w = words_joined tag (bits_text bs ∷ []) (w, (bits_word bs, tt))

pub words_of_seen : (tag : List ℕ) (s : Seen) → IsWord tag → words_of (tag ++ 32 ∷ seen_text s) ≡ tag ∷ seen_text s ∷ []
words_of_seen tag s w = words_joined tag (seen_text s ∷ []) (w, (seen_word s, tt))

-- ---- log lines

id_lacks : (n : ℕ) → IsId n → Lacks 10 (id_text n)
id_lacks n h = lacks_append 10 (decimal n) (codes " ") (number_lacks 10 n (omega arith) h.1) (refl, tt)

ids_lack : (ids : List ℕ) → Each IsId ids → Lacks 10 (flat_map id_text ids)
ids_lack [] h = tt
ids_lack (n ∷ ns) h = lacks_append 10 (id_text n) (flat_map id_text ns) (id_lacks n h.0) (ids_lack ns h.1)

literal_lacks : (l : Literal) → HasVariable l → Lacks 10 (literal_text l)
literal_lacks l h =
    lacks_append 10 (cond l.positive [] (codes "-")) (decimal l.variable ++ codes " ") (by l.positive)
    (lacks_append 10 (decimal l.variable) (codes " ") (number_lacks 10 l.variable (omega arith) (let small = h.1 in omega (arith, small))) (refl, tt))
  where
    by : (b : Bool) → Lacks 10 (cond b [] (codes "-"))
    by true = tt
    by false = (refl, tt)

literals_lack : (ls : List Literal) → Each HasVariable ls → Lacks 10 (flat_map literal_text ls)
literals_lack [] h = tt
literals_lack (l ∷ ls) h = lacks_append 10 (literal_text l) (flat_map literal_text ls) (literal_lacks l h.0) (literals_lack ls h.1)

pub log_line_lacks : (l : Line) → HasText l → Lacks 10 (line_text l)
log_line_lacks lines.Solve h = (refl, tt)
log_line_lacks (lines.Lemma id lits hints) h =
    lacks_append 10 (id_text id) _ (id_lacks id h.0)
    (lacks_append 10 (flat_map literal_text lits) _ (literals_lack lits h.1)
    (lacks_append 10 (codes "0 ") _ (refl, (refl, tt))
    (lacks_append 10 (flat_map id_text hints) (codes "0") (ids_lack hints h.2) (refl, tt))))
log_line_lacks (lines.Block id lits) h =
    lacks_append 10 (codes "b ") _ (refl, (refl, tt))
    (lacks_append 10 (id_text id) _ (id_lacks id h.0) (lacks_append 10 (flat_map literal_text lits) (codes "0") (literals_lack lits h.1) (refl, tt)))
log_line_lacks (lines.Finish id) h = lacks_append 10 (codes "e ") (decimal id) (refl, (refl, tt)) (number_lacks 10 id (omega arith) h.1)
log_line_lacks (lines.Retire id) h = lacks_append 10 (codes "r ") (decimal id) (refl, (refl, tt)) (number_lacks 10 id (omega arith) h.1)
log_line_lacks (lines.Delete ids) h =
    lacks_append 10 (codes "d ") _ (refl, (refl, tt)) (lacks_append 10 (flat_map id_text ids) (codes "0") (ids_lack ids h.0) (refl, tt))
