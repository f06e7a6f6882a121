-- A wave that has a text is read back from it.
use Rattle.std.proofs.Common.{◌≡◌, ℕ, zero, suc, ◌<◌, ◌≤◌, ◌+◌, Bool, true, false, cond, not, List, [], ◌∷◌, ◌++◌, length, get_or, set, refl, arith, ap}
use Rattle.std.proofs.Common.{sym, subst, ◌∙◌, Some, None, append_assoc, append-nil, zero-add}
use Rattle.std.specs.Fmt.{digits, digits_onto, digit_glyph}
use Rattle.std.specs.Prelude.{◌==◌, ◌%◌, ◌/◌, codes, nat_lt, IsTrue, option_map, Ok}
use Rattle.std.specs.List.{AllByRecursion as Each, flat_map, list_all}
use Rattle.std.specs.Str.{bytes_eq}
use Rattle.std.proofs.lemmas.Bool.{eq-eqb, ne_eqb, and_parts, not-true}
use Rattle.std.proofs.lemmas.List.{length-append}
use Rattle.std.proofs.lemmas.List.Elements.{recursion_from_All}
use Rattle.bs_bits.specs.Lines.{line, pieces_of, is_name, is_visible}
use Rattle.bs_bits.specs.Reading.{◌>>=◌}
use Rattle.bs_bits.proofs.LineTextLemmas.{Lacks, lacks_append, piece_first, visible_lacks}
use Rattle.bs_wave.specs.declared.place.TextPlace.{TextPlace}
use Rattle.bs_wave.specs.declared.place.TextPlace.TheVariants as places
use Rattle.bs_wave.specs.declared.value.Value.{Value}
use Rattle.bs_wave.specs.declared.value.Value.TheVariants.{Zero, One, Unknown}
use Rattle.bs_wave.specs.declared.wave.Wave.{Wave}
use Rattle.bs_wave.specs.WaveText.{id_of, net_line, net_lines, head_lines, time_line, value_line, same_value, change_lines, moment_lines}
use Rattle.bs_wave.specs.WaveText.{wave_lines, wave_text}
use Rattle.bs_wave.specs.WaveReading.{key_in, value_for, Change, change_in, PartialWave, Reached, with_key, with_value, with_change, with_moment}
use Rattle.bs_wave.specs.WaveReading.{first_place, taken, line_or_fault, whole, wave_from, nothing_read, wave_in}
use Rattle.bs_wave.specs.Law.{WavesReadBack}
use Rattle.bs_wave.proofs.IdLemmas.{id_lacks}
use Rattle.bs_wave.proofs.FormLemmas.{bytes_same, value_again, change_again, no_time, key_again, same_values}
use Rattle.bs_wave.proofs.SpelledLemmas.{scale, scope, upscope, definitions, Named}

-- ---- one line after another

-- the lines lead from one place to another
abbrev pub Goes : TextPlace → PartialWave → List (List ℕ) → TextPlace → PartialWave → Type 0
Goes p b [] q c = (p ≡ q) × (b ≡ c)
Goes p b (text ∷ lines) q c = (s : Reached) × (taken p b text ≡ Some s) × Goes s.0 s.1 lines q c

pub goes_on : (p q r : TextPlace) (b c d : PartialWave) (ls ms : List (List ℕ)) → Goes p b ls q c → Goes q c ms r d → Goes p b (ls ++ ms) r d
goes_on p q r b c d [] ms g h =
    subst (λ (x : PartialWave). Goes p x ms r d) (sym g.1) (subst (λ (x : TextPlace). Goes x c ms r d) (sym g.0) h)
goes_on p q r b c d (l ∷ ls) ms g h = (g.0, g.1, goes_on g.0.0 q r g.0.1 c d ls ms g.2 h)

pub one_line : (p : TextPlace) (b : PartialWave) (text : List ℕ) (s : Reached) → taken p b text ≡ Some s → Goes p b (text ∷ []) s.0 s.1
one_line p b text s e = (s, e, (refl, refl))

went : (n : ℕ) (p q : TextPlace) (b c : PartialWave) (lines : List (List ℕ)) (next : List ℕ) (more : List (List ℕ)) → Goes p b lines q c →
    wave_from n p b (lines ++ next ∷ more) ≡ wave_from (n + length lines) q c (next ∷ more)
went n p q b c [] next more g =
    ap (λ (x : TextPlace). wave_from n x b (next ∷ more)) g.0
    ∙ (ap (λ (x : PartialWave). wave_from n q x (next ∷ more)) g.1 ∙ ap (λ k. wave_from k q c (next ∷ more)) (omega arith))
went n p q b c (l ∷ []) next more g =
    ap (λ o. line_or_fault n o >>= λ (s : Reached). wave_from (n + 1) s.0 s.1 (next ∷ more)) g.1
    ∙ (went (n + 1) g.0.0 q g.0.1 c [] next more g.2 ∙ ap (λ k. wave_from k q c (next ∷ more)) (omega arith))
went n p q b c (l ∷ k ∷ ls) next more g =
    ap (λ o. line_or_fault n o >>= λ (s : Reached). wave_from (n + 1) s.0 s.1 (k ∷ ls ++ next ∷ more)) g.1
    ∙ (went (n + 1) g.0.0 q g.0.1 c (k ∷ ls) next more g.2 ∙ ap (λ j. wave_from j q c (next ∷ more)) (omega arith))

-- ---- the nets

goes_nets : (n : ℕ) (b : PartialWave) (keys : List (List ℕ)) → n ≡ length b.keys → Named keys →
    Goes places.Net b (net_lines n keys) places.Net (record b { keys = b.keys ++ keys })
goes_nets n b [] e named = (refl, λ i. record b { keys = sym (append-nil b.keys) i })
goes_nets n b (key ∷ keys) e named =
    let read : key_in (length b.keys) (net_line n key) ≡ Some key = ap (λ m. key_in m (net_line n key)) (sym e) ∙ key_again n key named.0 in
    let rest = goes_nets (suc n) (with_key b key) keys (omega (arith, e, length-append b.keys (key ∷ []))) named.1 in (
      (places.Net, with_key b key),
      ap (λ o. option_map (λ key. (places.Net, with_key b key)) o) read,
      subst (λ (ks : List (List ℕ)). Goes places.Net (with_key b key) (net_lines (suc n) keys) places.Net (record b { keys = ks }))
          (append_assoc b.keys (key ∷ []) keys) rest,
    )

-- ---- the first moment

goes_first : (n : ℕ) (b : PartialWave) (vs : List Value) → n ≡ length b.values → length b.values + length vs ≡ length b.keys →
    Goes (first_place (length b.keys) (length b.values)) b (change_lines n [] vs) (places.Change (length b.keys)) (record b { values = b.values ++ vs })
goes_first n b [] e total =
    let all : length b.values ≡ length b.keys = omega (arith, total) in (
      ap (λ z. cond z (places.Change (length b.values)) places.First) (eq-eqb (length b.values) (length b.keys) all) ∙ ap (λ k. places.Change k) all,
      λ i. record b { values = sym (append-nil b.values) i },
    )
goes_first n b (v ∷ vs) e total =
    let more : (length b.values == length b.keys) ≡ false =
    ne_eqb (length b.values) (length b.keys) (λ (same : length b.values ≡ length b.keys). omega (arith, same, total)) in
    let here : first_place (length b.keys) (length b.values) ≡ places.First = ap (λ z. cond z (places.Change (length b.values)) places.First) more in
    let read : value_for (length b.values) (value_line n v) ≡ Some v = ap (λ m. value_for m (value_line n v)) (sym e) ∙ value_again n v in
    let long : length (b.values ++ v ∷ []) ≡ length b.values + 1 = length-append b.values (v ∷ []) in
    let rest = goes_first (suc n) (with_value b v) vs (omega (arith, e, long)) (omega (arith, total, long)) in
    let behind : Goes (first_place (length b.keys) (length b.values + 1)) (with_value b v) (change_lines (suc n) [] vs) (places.Change (length b.keys))
    (record b { values = (b.values ++ v ∷ []) ++ vs }) =
    subst (λ k. Goes (first_place (length b.keys) k) (with_value b v) (change_lines (suc n) [] vs) (places.Change (length b.keys))
    (record b { values = (b.values ++ v ∷ []) ++ vs })) long rest in
    subst (λ (p : TextPlace). Goes p b (value_line n v ∷ change_lines (suc n) [] vs) (places.Change (length b.keys)) (record b { values = b.values ++ v ∷ vs }))
    (sym here) (
      (first_place (length b.keys) (length b.values + 1), with_value b v),
      ap (λ o. option_map (λ value. (first_place (length b.keys) (length b.values + 1), with_value b value)) o) read,
      subst (λ (l : List Value). Goes (first_place (length b.keys) (length b.values + 1)) (with_value b v) (change_lines (suc n) [] vs)
          (places.Change (length b.keys)) (record b { values = l })) (append_assoc b.values (v ∷ []) vs) behind,
    )

-- ---- changes

get_middle : (done : List Value) (u : Value) (us : List Value) → get_or (done ++ u ∷ us) (length done) Unknown ≡ u
get_middle [] u us = refl
get_middle (d ∷ ds) u us = get_middle ds u us

set_middle : (done : List Value) (u v : Value) (us : List Value) → set (done ++ u ∷ us) (length done) v ≡ (done ++ v ∷ []) ++ us
set_middle [] u v us = refl
set_middle (d ∷ ds) u v us = ap (λ l. d ∷ l) (set_middle ds u v us)

-- some place behind the changes
abbrev GoesLater : ℕ → PartialWave → List (List ℕ) → PartialWave → Type 0
GoesLater p b lines c = (q : ℕ) × Goes (places.Change p) b lines (places.Change q) c

goes_changes : (n : ℕ) (b : PartialWave) (p : ℕ) (done us vs : List Value) → n ≡ length done → p ≤ n → length us ≡ length vs → b.values ≡ done ++ us →
    GoesLater p b (change_lines n us vs) (record b { values = done ++ vs })
goes_changes n b p done [] [] e le same is = (p, (refl, λ i. record b { values = is i }))
goes_changes n b p done [] (v ∷ vs) e le same is = absurd (omega (arith, same))
goes_changes n b p done (u ∷ us) [] e le same is = absurd (omega (arith, same))
goes_changes n b p done (u ∷ us) (v ∷ vs) e le same is =
    by (same_value u v) refl
    (λ (kept : u ≡ v). goes_changes (suc n) b p (done ++ u ∷ []) us vs next_of (omega (arith, le)) (omega (arith, same))
    (is ∙ sym (append_assoc done (u ∷ []) us)))
    (goes_changes (suc n) (with_change b change) (n + 1) (done ++ v ∷ []) us vs next_v (omega arith) (omega (arith, same)) changed)
  where
    change : Change
    change = record { net = n; value = v }

    next_of : suc n ≡ length (done ++ u ∷ [])
    next_of = omega (arith, e, length-append done (u ∷ []))

    next_v : suc n ≡ length (done ++ v ∷ [])
    next_v = omega (arith, e, length-append done (v ∷ []))

    changed : set b.values n v ≡ (done ++ v ∷ []) ++ us
    changed = ap (λ (l : List Value). set l n v) is ∙ (ap (λ m. set (done ++ u ∷ us) m v) e ∙ set_middle done u v us)

    here : get_or b.values n Unknown ≡ u
    here = ap (λ (l : List Value). get_or l n Unknown) is ∙ (ap (λ m. get_or (done ++ u ∷ us) m Unknown) e ∙ get_middle done u us)

    below : n < length b.values
    below = omega (arith, e, ap length is, length-append done (u ∷ us))

    by : (z : Bool) → same_value u v ≡ z → (u ≡ v → GoesLater p b (change_lines (suc n) us vs) (record b { values = (done ++ u ∷ []) ++ vs })) →
        GoesLater (n + 1) (with_change b change) (change_lines (suc n) us vs) (record b { values = (done ++ v ∷ []) ++ vs }) →
        GoesLater p b (cond z [] (value_line n v ∷ []) ++ change_lines (suc n) us vs) (record b { values = done ++ v ∷ vs })
    by true z kept moved =
        let k : u ≡ v = same_values u v z in
        subst (λ (l : List Value). GoesLater p b (change_lines (suc n) us vs) (record b { values = l }))
        (append_assoc done (u ∷ []) vs ∙ ap (λ x. done ++ x ∷ vs) k) (kept k)
    by false z kept moved =
        let read : change_in p b.values (value_line n v) ≡ Some change =
        change_again p n b.values v le below (ap (λ x. same_value x v) here ∙ z) in
        let time : bytes_eq (value_line n v) (time_line (length b.moments + 1)) ≡ false = no_time n (length b.moments + 1) v in
        let goes = subst (λ (l : List Value). GoesLater (n + 1) (with_change b change) (change_lines (suc n) us vs) (record b { values = l }))
        (append_assoc done (v ∷ []) vs) moved in (
          goes.0,
          (
            (places.Change (n + 1), with_change b change),
            ap (λ z. cond z (Some (places.Change 0, with_moment b))
                (option_map (λ (change : Change). (places.Change (change.net + 1), with_change b change)) (change_in p b.values (value_line n v)))) time
                ∙ ap (λ o. option_map (λ (change : Change). (places.Change (change.net + 1), with_change b change)) o) read,
            goes.1,
          ),
        )

-- ---- moments

-- the wave whose moments are those that are whole, the one under way, and some more
abbrev wave_with : PartialWave → List (List Value) → Wave
wave_with b more = record { keys = b.keys; moments = b.moments ++ b.values ∷ more }

record GoesMoments (p : ℕ) (b : PartialWave) (lines : List (List ℕ)) (w : Wave) : Type 0 where
  last : ℕ
  end : PartialWave
  goes : Goes (places.Change p) b lines (places.Change last) end
  is : whole end ≡ w

goes_moments : (i : ℕ) (b : PartialWave) (p : ℕ) (ms : List (List Value)) → i ≡ length b.moments + 1 → length b.values ≡ length b.keys →
    Each (λ values. length values ≡ length b.keys) ms → GoesMoments p b (moment_lines i b.values ms) (wave_with b ms)
goes_moments i b p [] e wide widths = record { last = p; end = b; goes = (refl, refl); is = refl }
goes_moments i b p (m ∷ ms) e wide widths =
    let c : PartialWave = with_moment b in
    let d : PartialWave = record c { values = m } in
    let time : bytes_eq (time_line i) (time_line (length b.moments + 1)) ≡ true = ap (λ j. bytes_eq (time_line i) (time_line j)) (sym e) ∙
    bytes_same (time_line i) in
    let start : Goes (places.Change p) b (time_line i ∷ []) (places.Change 0) c =
    one_line (places.Change p) b (time_line i) (places.Change 0, c)
    (ap (λ z. cond z (Some (places.Change 0, with_moment b))
    (option_map (λ (change : Change). (places.Change (change.net + 1), with_change b change)) (change_in p b.values (time_line i)))) time) in
    let changes = goes_changes 0 c 0 [] b.values m refl (omega arith) (wide ∙ sym widths.0) refl in
    let rest = goes_moments (suc i) d changes.0 ms (omega (arith, e, length-append b.moments (b.values ∷ []))) widths.0 widths.1 in
    record {
      last = rest.last;
      end = rest.end;
      goes =
          goes_on (places.Change p) (places.Change 0) (places.Change rest.last) b c rest.end (time_line i ∷ [])
          (change_lines 0 b.values m ++ moment_lines (suc i) m ms) start
          (goes_on (places.Change 0) (places.Change changes.0) (places.Change rest.last) c d rest.end (change_lines 0 b.values m)
          (moment_lines (suc i) m ms) changes.1 rest.goes);
      is = rest.is ∙ (λ j. record { keys = b.keys; moments = append_assoc b.moments (b.values ∷ []) (m ∷ ms) j });
    }

-- ---- the whole wave

pub record GoesWhole (w : Wave) : Type 0 where
  pub last : ℕ
  pub end : PartialWave
  pub goes : Goes places.Timescale nothing_read (wave_lines w) (places.Change last) end
  pub is : whole end ≡ w

goes_head : (keys : List (List ℕ)) → Named keys →
    Goes places.Timescale nothing_read (head_lines keys) places.Start (record { keys = keys; moments = []; values = [] })
goes_head keys named =
    let b : PartialWave = record { keys = keys; moments = []; values = [] } in
    let nets = goes_nets 0 nothing_read keys refl named in (
      (places.Scope, nothing_read),
      refl,
      (
        (places.Net, nothing_read),
        refl,
        goes_on places.Net places.Net places.Start nothing_read b b (net_lines 0 keys) (upscope ∷ definitions ∷ []) nets
            ((places.Definitions, b), refl, ((places.Start, b), refl, (refl, refl))),
      ),
    )

goes_whole : (keys : List (List ℕ)) (m : List Value) (ms : List (List Value)) → Named keys → length m ≡ length keys →
    Each (λ values. length values ≡ length keys) ms → GoesWhole (record { keys = keys; moments = m ∷ ms })
goes_whole keys m ms named wide widths =
    let b : PartialWave = record { keys = keys; moments = []; values = [] } in
    let c : PartialWave = record { keys = keys; moments = []; values = m } in
    let count : ℕ = length keys in
    let start : Goes places.Start b (time_line 0 ∷ []) (first_place count 0) b =
    one_line places.Start b (time_line 0) (first_place count 0, b) (ap (λ z. cond z (Some (first_place count 0, b)) None) (bytes_same (time_line 0))) in
    let first : Goes (first_place count 0) b (change_lines 0 [] m) (places.Change count) c = goes_first 0 b m refl (zero-add (length m) ∙ wide) in
    let rest = goes_moments 1 c count ms refl wide widths in
    let later : List (List ℕ) = moment_lines 1 m ms in
    record {
      last = rest.last;
      end = rest.end;
      goes =
          goes_on places.Timescale places.Start (places.Change rest.last) nothing_read b rest.end (head_lines keys)
          (time_line 0 ∷ (change_lines 0 [] m ++ later)) (goes_head keys named)
          (goes_on places.Start (first_place count 0) (places.Change rest.last) b b rest.end (time_line 0 ∷ []) (change_lines 0 [] m ++ later) start
          (goes_on (first_place count 0) (places.Change count) (places.Change rest.last) b c rest.end (change_lines 0 [] m) later first rest.goes));
      is = rest.is;
    }

-- ---- no line has a line feed

lacks_by : (text : List ℕ) → list_all (λ b. not (b == 10)) text ≡ true → Lacks 10 text
lacks_by [] e = tt
lacks_by (c ∷ cs) e =
    let both = and_parts (not (c == 10)) (list_all (λ b. not (b == 10)) cs) e in
    (not-true (c == 10) both.0, lacks_by cs both.1)

net_lacks : (n : ℕ) (key : List ℕ) → is_name key ≡ true → Lacks 10 (net_line n key)
net_lacks n key named =
    let visible = (and_parts (nat_lt 0 (length key)) (is_visible key) named).1 in
    lacks_append 10 (codes "$var wire 1 ") (id_of n ++ (codes " " ++ (key ++ codes " $end"))) (lacks_by (codes "$var wire 1 ") refl)
    (lacks_append 10 (id_of n) (codes " " ++ (key ++ codes " $end")) (id_lacks 10 n (omega arith))
    (lacks_append 10 (codes " ") (key ++ codes " $end") (lacks_by (codes " ") refl)
    (lacks_append 10 key (codes " $end") (visible_lacks 10 key (omega arith) visible) (lacks_by (codes " $end") refl))))

value_lacks : (n : ℕ) (v : Value) → Lacks 10 (value_line n v)
value_lacks n Zero = (refl, id_lacks 10 n (omega arith))
value_lacks n One = (refl, id_lacks 10 n (omega arith))
value_lacks n Unknown = (refl, id_lacks 10 n (omega arith))

each_append : (xs ys : List (List ℕ)) → Each (Lacks 10) xs → Each (Lacks 10) ys → Each (Lacks 10) (xs ++ ys)
each_append [] ys h k = k
each_append (x ∷ xs) ys h k = (h.0, each_append xs ys h.1 k)

nets_lack : (n : ℕ) (keys : List (List ℕ)) → Named keys → Each (Lacks 10) (net_lines n keys)
nets_lack n [] named = tt
nets_lack n (key ∷ keys) named = (net_lacks n key named.0, nets_lack (suc n) keys named.1)

changes_lack : (n : ℕ) (before values : List Value) → Each (Lacks 10) (change_lines n before values)
changes_lack n before [] = tt
changes_lack n [] (v ∷ vs) = (value_lacks n v, changes_lack (suc n) [] vs)
changes_lack n (u ∷ us) (v ∷ vs) = by (same_value u v) (changes_lack (suc n) us vs)
  where
    by : (z : Bool) → Each (Lacks 10) (change_lines (suc n) us vs) → Each (Lacks 10) (cond z [] (value_line n v ∷ []) ++ change_lines (suc n) us vs)
    by true rest = rest
    by false rest = (value_lacks n v, rest)

glyph_lacks : (d : ℕ) → (digit_glyph false d == 10) ≡ false
glyph_lacks d = by (nat_lt d 10)
  where
    by : (z : Bool) → (cond z (48 + d) (87 + d) == 10) ≡ false
    by true = ne_eqb (48 + d) 10 (λ (same : 48 + d ≡ 10). omega (arith, same))
    by false = ne_eqb (87 + d) 10 (λ (same : 87 + d ≡ 10). omega (arith, same))

onto_lacks : (k n : ℕ) (acc : List ℕ) → Lacks 10 acc → Lacks 10 (digits_onto k 10 false n acc)
onto_lacks zero n acc h = h
onto_lacks (suc k) n acc h =
    let more : Lacks 10 (digit_glyph false (n % 10) ∷ acc) = (glyph_lacks (n % 10), h) in
    by (n / 10 == 0) more (onto_lacks k (n / 10) (digit_glyph false (n % 10) ∷ acc) more)
  where
    by : (z : Bool) → Lacks 10 (digit_glyph false (n % 10) ∷ acc) → Lacks 10 (digits_onto k 10 false (n / 10) (digit_glyph false (n % 10) ∷ acc)) →
        Lacks 10 (cond z (digit_glyph false (n % 10) ∷ acc) (digits_onto k 10 false (n / 10) (digit_glyph false (n % 10) ∷ acc)))
    by true h k = h
    by false h k = k

time_lacks : (i : ℕ) → Lacks 10 (time_line i)
unfolding digits
time_lacks i = (refl, onto_lacks 64 i [] tt)

moments_lack : (i : ℕ) (before : List Value) (ms : List (List Value)) → Each (Lacks 10) (moment_lines i before ms)
moments_lack i before [] = tt
moments_lack i before (m ∷ ms) =
    (time_lacks i, each_append (change_lines 0 before m) (moment_lines (suc i) m ms) (changes_lack 0 before m) (moments_lack (suc i) m ms))

wave_lacks : (w : Wave) → Named w.keys → Each (Lacks 10) (wave_lines w)
wave_lacks w named =
    let tail : List (List ℕ) = upscope ∷ definitions ∷ [] in
    each_append (head_lines w.keys) (moment_lines 0 [] w.moments) (
      lacks_by scale refl,
      (
        lacks_by scope refl,
        each_append (net_lines 0 w.keys) tail (nets_lack 0 w.keys named) (lacks_by upscope refl, (lacks_by definitions refl, tt)),
      ),
    )
    (moments_lack 0 [] w.moments)

pieces_are : (lines : List (List ℕ)) → Each (Lacks 10) lines → pieces_of (flat_map line lines) ≡ lines ++ [] ∷ []
pieces_are [] h = refl
pieces_are (l ∷ ls) h = piece_first l (flat_map line ls) h.0 ∙ ap (λ t. l ∷ t) (pieces_are ls h.1)

-- ---- the law

read_again : (w : Wave) → Named w.keys → GoesWhole w → wave_in (wave_text w) ≡ Ok w
unfolding wave_in
read_again w named g =
    ap (wave_from 1 places.Timescale nothing_read) (pieces_are (wave_lines w) (wave_lacks w named))
    ∙ (went 1 places.Timescale (places.Change g.last) nothing_read g.end (wave_lines w) [] [] g.goes
    ∙ ap (λ (x : Wave). Ok x) g.is)

pub by_moments : (keys : List (List ℕ)) (ms : List (List Value)) → 0 < length ms → Named keys → Each (λ values. length values ≡ length keys) ms →
    GoesWhole (record { keys = keys; moments = ms })
by_moments keys [] some named widths = absurd (omega (arith, some))
by_moments keys (m ∷ ms) some named widths = goes_whole keys m ms named widths.0 widths.1

pub waves_read_back : WavesReadBack
waves_read_back w has =
    let named : Named w.keys = recursion_from_All (λ key. IsTrue (is_name key)) w.keys has.names in
    read_again w named
    (by_moments w.keys w.moments has.some named (recursion_from_All (λ (values : List Value). length values ≡ length w.keys) w.moments has.widths))
