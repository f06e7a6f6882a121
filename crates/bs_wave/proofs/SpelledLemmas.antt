-- What is read of a text has that text.
use Rattle.std.proofs.Common.{◌≡◌, ◌⊎◌, inl, inr, ⊎_elim, ℕ, ◌<◌, ◌≤◌, ◌+◌, Bool, true, false, cond, List, [], ◌∷◌, ◌++◌, length, get_or}
use Rattle.std.proofs.Common.{set, refl, arith, ap}
use Rattle.std.proofs.Common.{sym, subst, ◌∙◌, Option, Some, None, append_assoc, append-nil, zero-add, length-set, get_or-set_other}
use Rattle.std.specs.Prelude.{◌==◌, codes, IsTrue, option_map, Ok, Err}
use Rattle.std.specs.List.{AllByRecursion as Each, flat_map}
use Rattle.std.specs.Str.{bytes_eq}
use Rattle.std.proofs.lemmas.Bool.{eqb-true, eqb-false}
use Rattle.std.proofs.lemmas.List.{length-append}
use Rattle.std.proofs.lemmas.List.Elements.{All-from_recursion}
use Rattle.std.proofs.lemmas.Grind.{flat_map-append}
use Rattle.bs_bits.specs.Lines.{line, onto_first, pieces_of, is_name}
use Rattle.bs_bits.specs.Reading.{◌>>=◌}
use Rattle.bs_bits.proofs.LineLemmas.{nothing_left}
use Rattle.bs_wave.specs.declared.fault.WaveFault.TheVariants.{Line}
use Rattle.bs_wave.specs.declared.place.TextPlace.{TextPlace}
use Rattle.bs_wave.specs.declared.place.TextPlace.TheVariants as places
use Rattle.bs_wave.specs.declared.value.Value.{Value}
use Rattle.bs_wave.specs.declared.value.Value.TheVariants.{Unknown}
use Rattle.bs_wave.specs.declared.wave.Wave.{Wave}
use Rattle.bs_wave.specs.WaveText.{net_line, net_lines, head_lines, time_line, value_line, change_lines, moment_lines, wave_lines, wave_text, HasWaveText}
use Rattle.bs_wave.specs.WaveReading.{key_in, value_for, Change, change_in, PartialWave, Reached, when, with_key, with_value, with_change, with_moment}
use Rattle.bs_wave.specs.WaveReading.{first_place, taken, line_or_fault, whole, ended, wave_from, nothing_read, wave_in}
use Rattle.bs_wave.specs.Law.{WaveTextsAreExact}
use Rattle.bs_wave.proofs.FormLemmas.{bytes_are, key_is, value_line_is, IsChange, change_is}
use Rattle.bs_wave.proofs.ChangeLemmas.{net_snoc, first_snoc, no_changes, Agree, change_more, last_of, moment_snoc}
use Rattle.bs_wave.proofs.ReadingLemmas.{some_piece}

-- ---- the lines so far

abbrev pub scale : List ℕ
scale = codes "$timescale 1ns $end"

abbrev pub scope : List ℕ
scope = codes "$scope module trace $end"

abbrev pub upscope : List ℕ
upscope = codes "$upscope $end"

abbrev pub definitions : List ℕ
definitions = codes "$enddefinitions $end"

-- the lines that lead to a place
abbrev pub lines_at : TextPlace → PartialWave → List (List ℕ)
lines_at places.Timescale b = []
lines_at places.Scope b = scale ∷ []
lines_at places.Net b = scale ∷ scope ∷ net_lines 0 b.keys
lines_at places.Definitions b = scale ∷ scope ∷ (net_lines 0 b.keys ++ upscope ∷ [])
lines_at places.Start b = head_lines b.keys
lines_at places.First b = wave_lines (whole b)
lines_at (places.Change next) b = wave_lines (whole b)

abbrev pub Named : List (List ℕ) → Type 0
Named keys = Each (λ key. is_name key ≡ true) keys

-- keys alone are read
pub record IsHead (b : PartialWave) : Type 0 where
  pub named : Named b.keys
  pub moments : b.moments ≡ []
  pub values : b.values ≡ []

-- values of the first moment are due
pub record IsFirst (b : PartialWave) : Type 0 where
  pub named : Named b.keys
  pub moments : b.moments ≡ []
  pub below : length b.values < length b.keys

-- the moment before this one has as many values, the same from the next net on; or there is none, and no net is left
abbrev pub Tied : ℕ → List (List Value) → List Value → Type 0
Tied next moments values =
    ((moments ≡ []) × (length values ≤ next)) ⊎ ((length (last_of [] moments) ≡ length values) × Agree next (last_of [] moments) values)

-- the moment under way has a value for each key
pub record IsLater (next : ℕ) (b : PartialWave) : Type 0 where
  pub named : Named b.keys
  pub widths : Each (λ values. length values ≡ length b.keys) b.moments
  pub wide : length b.values ≡ length b.keys
  pub tied : Tied next b.moments b.values

abbrev pub Right : TextPlace → PartialWave → Type 0
Right places.Timescale b = b ≡ nothing_read
Right places.Scope b = b ≡ nothing_read
Right places.Net b = IsHead b
Right places.Definitions b = IsHead b
Right places.Start b = IsHead b
Right places.First b = IsFirst b
Right (places.Change next) b = IsLater next b

-- one line more
abbrev pub Stepped : TextPlace → PartialWave → List ℕ → Reached → Type 0
Stepped p b text s = Right s.0 s.1 × (lines_at s.0 s.1 ≡ lines_at p b ++ text ∷ [])

pub each_snoc : {X : Type 0} (P : X → Type 0) (xs : List X) (x : X) → Each P xs → P x → Each P (xs ++ x ∷ [])
each_snoc P [] x h p = (p, tt)
each_snoc P (y ∷ ys) x h p = (h.0, each_snoc P ys x h.1 p)

last_snoc : {X : Type 0} (d : X) (xs : List X) (x : X) → last_of d (xs ++ x ∷ []) ≡ x
last_snoc d [] x = refl
last_snoc d (y ∷ ys) x = last_snoc y ys x

when_is : (p : TextPlace) (b : PartialWave) (text : List ℕ) (z : Bool) (r s : Reached) → when z r ≡ Some s → (z ≡ true → Stepped p b text r) → Stepped p b text s
when_is p b text true r s e h = let same : r ≡ s = cc in subst (Stepped p b text) same (h refl)
when_is p b text false r s e h = absurd cc

-- ---- the first moment

-- a wave with one moment
pub one_moment : (b : PartialWave) → b.moments ≡ [] → wave_lines (whole b) ≡ head_lines b.keys ++ time_line 0 ∷ change_lines 0 [] b.values
one_moment b none =
    ap (λ (ms : List (List Value)). head_lines b.keys ++ moment_lines 0 [] (ms ++ b.values ∷ [])) none
    ∙ ap (λ t. head_lines b.keys ++ time_line 0 ∷ t) (append-nil (change_lines 0 [] b.values))

first_right : (b : PartialWave) (done : ℕ) (text : List ℕ) (p : TextPlace) (a : PartialWave) → Named b.keys → b.moments ≡ [] → length b.values ≡ done →
    done ≤ length b.keys → wave_lines (whole b) ≡ lines_at p a ++ text ∷ [] → Stepped p a text (first_place (length b.keys) done, b)
first_right b done text p a named none counted le lines = by (done == length b.keys) refl
  where
    less : (d k : ℕ) → d ≤ k → (d ≡ k → ⊥) → length b.values ≡ d → length b.values < k
    less d k le other e = omega (arith, le, other, e)

    by : (z : Bool) → (done == length b.keys) ≡ z → Stepped p a text (cond z (places.Change done) places.First, b)
    by true e = (
      record {
        named = named;
        widths = subst (λ (ms : List (List Value)). Each (λ values. length values ≡ length b.keys) ms) (sym none) tt;
        wide = counted ∙ eqb-true done (length b.keys) e;
        tied = inl (none, omega (arith, counted));
      },
      lines,
    )
    by false e =
        let other = eqb-false done (length b.keys) e in
        let below : length b.values < length b.keys = less done (length b.keys) le other counted in
        (record { named = named; moments = none; below = below }, lines)

-- ---- each place

net_step : (b : PartialWave) (text : List ℕ) (s : Reached) → IsHead b → taken places.Net b text ≡ Some s → Stepped places.Net b text s
net_step b text s head e = by (bytes_eq text upscope) refl (key_in (length b.keys) text) refl e
  where
    by : (z : Bool) → bytes_eq text upscope ≡ z → (o : Option (List ℕ)) → key_in (length b.keys) text ≡ o →
        cond z (Some (places.Definitions, b)) (option_map (λ key. (places.Net, with_key b key)) o) ≡ Some s → Stepped places.Net b text s
    by true is o f e =
        let same : (places.Definitions, b) ≡ s = cc in
        subst (Stepped places.Net b text) same
        (head, ap (λ t. scale ∷ scope ∷ (net_lines 0 b.keys ++ t ∷ [])) (sym (bytes_are text upscope is)))
    by false is None f e = absurd cc
    by false is (Some key) f e =
        let found = key_is (length b.keys) text key f in
        let same : (places.Net, with_key b key) ≡ s = cc in
        subst (Stepped places.Net b text) same (
          record { named = each_snoc (λ key. is_name key ≡ true) b.keys key head.named found.named; moments = head.moments; values = head.values },
          ap (λ t. scale ∷ scope ∷ t)
              (net_snoc 0 b.keys key
              ∙ ap (λ t. net_lines 0 b.keys ++ t ∷ []) (ap (λ n. net_line n key) (zero-add (length b.keys)) ∙ sym found.is)),
        )

first_step : (b : PartialWave) (text : List ℕ) (s : Reached) → IsFirst b → taken places.First b text ≡ Some s → Stepped places.First b text s
first_step b text s first e = by (value_for (length b.values) text) refl e
  where
    lines : (v : Value) → text ≡ value_line (length b.values) v → wave_lines (whole (with_value b v)) ≡ wave_lines (whole b) ++ text ∷ []
    lines v is =
        one_moment (with_value b v) first.moments
        ∙ (ap (λ t. head_lines b.keys ++ time_line 0 ∷ t)
        (first_snoc 0 b.values v
        ∙ ap (λ t. change_lines 0 [] b.values ++ t ∷ []) (ap (λ n. value_line n v) (zero-add (length b.values)) ∙ sym is))
        ∙ (sym (append_assoc (head_lines b.keys) (time_line 0 ∷ change_lines 0 [] b.values) (text ∷ []))
        ∙ ap (λ t. t ++ text ∷ []) (sym (one_moment b first.moments))))

    by : (o : Option Value) → value_for (length b.values) text ≡ o →
        option_map (λ value. (first_place (length b.keys) (length b.values + 1), with_value b value)) o ≡ Some s → Stepped places.First b text s
    by None f e = absurd cc
    by (Some v) f e =
        let same : (first_place (length b.keys) (length b.values + 1), with_value b v) ≡ s = cc in
        subst (Stepped places.First b text) same
        (first_right (with_value b v) (length b.values + 1) text places.First b first.named first.moments (length-append b.values (v ∷ []))
        (omega (arith, first.below)) (lines v (value_line_is (length b.values) text v f)))

-- the lines of a wave by its last moment
by_last : (b : PartialWave) (values : List Value) → wave_lines (record { keys = b.keys; moments = b.moments ++ values ∷ [] }) ≡
    (head_lines b.keys ++ (moment_lines 0 [] b.moments ++ time_line (length b.moments) ∷ [])) ++ change_lines 0 (last_of [] b.moments) values
by_last b values =
    let h = head_lines b.keys in
    let m = moment_lines 0 [] b.moments in
    let c = change_lines 0 (last_of [] b.moments) values in
    ap (λ t. h ++ t)
    (moment_snoc 0 [] b.moments values
    ∙ (ap (λ n. m ++ time_line n ∷ c) (zero-add (length b.moments)) ∙ sym (append_assoc m (time_line (length b.moments) ∷ []) c)))
    ∙ sym (append_assoc h (m ++ time_line (length b.moments) ∷ []) c)

time_step : (next : ℕ) (b : PartialWave) (text : List ℕ) → IsLater next b → text ≡ time_line (length b.moments + 1) →
    Stepped (places.Change next) b text (places.Change 0, with_moment b)
time_step next b text later is =
    let moments : List (List Value) = b.moments ++ b.values ∷ [] in
    let last : last_of [] moments ≡ b.values = last_snoc [] b.moments b.values in
    let W : List Value → Type 0 = λ values. length values ≡ length b.keys in (
      record {
        named = later.named;
        widths = each_snoc W b.moments b.values later.widths later.wide;
        wide = later.wide;
        tied = inr (ap length last, λ n le lt. ap (λ (vs : List Value). get_or vs n Unknown) last);
      },
      ap (λ t. head_lines b.keys ++ t)
          (moment_snoc 0 [] moments b.values
          ∙ (ap (λ n. moment_lines 0 [] moments ++ time_line n ∷ change_lines 0 (last_of [] moments) b.values)
          (zero-add (length moments) ∙ length-append b.moments (b.values ∷ []))
          ∙ (ap (λ (vs : List Value). moment_lines 0 [] moments ++ time_line (length b.moments + 1) ∷ change_lines 0 vs b.values) last
          ∙ (ap (λ t. moment_lines 0 [] moments ++ time_line (length b.moments + 1) ∷ t) (no_changes 0 b.values)
          ∙ ap (λ t. moment_lines 0 [] moments ++ t ∷ []) (sym is)))))
          ∙ sym (append_assoc (head_lines b.keys) (moment_lines 0 [] moments) (text ∷ [])),
    )

change_step : (next : ℕ) (b : PartialWave) (text : List ℕ) (change : Change) → IsLater next b → IsChange next b.values text change →
    Stepped (places.Change next) b text (places.Change (change.net + 1), with_change b change)
change_step next b text change later is =
    ⊎_elim
    (λ (none : (b.moments ≡ []) × (length b.values ≤ next)). absurd (omega (arith, none.1, is.from, is.below)))
    (λ (tied : (length (last_of [] b.moments) ≡ length b.values) × Agree next (last_of [] b.moments) b.values). by tied.0 tied.1)
    later.tied
  where
    before : List Value
    before = last_of [] b.moments

    values : List Value
    values = set b.values change.net change.value

    by : length before ≡ length b.values → Agree next before b.values →
        Stepped (places.Change next) b text (places.Change (change.net + 1), with_change b change)
    by same agree =
        let front : List (List ℕ) = head_lines b.keys ++ (moment_lines 0 [] b.moments ++ time_line (length b.moments) ∷ []) in (
          record {
            named = later.named;
            widths = later.widths;
            wide = length-set b.values change.net change.value ∙ later.wide;
            tied =
                inr (
                  same ∙ sym (length-set b.values change.net change.value),
                  λ n le lt.
                      let wide : length values ≡ length b.values = length-set b.values change.net change.value in
                      agree n (omega (arith, le, is.from)) (omega (arith, lt, wide))
                      ∙ sym (get_or-set_other b.values change.net n change.value Unknown (λ (e : n ≡ change.net). omega (arith, e, le))),
                );
          },
          by_last b values
              ∙ (ap (λ t. front ++ t)
              (change_more 0 before b.values next change.net change.value same agree is.from is.below is.other
              ∙ ap (λ t. change_lines 0 before b.values ++ t ∷ []) (ap (λ n. value_line n change.value) (zero-add change.net) ∙ sym is.is))
              ∙ (sym (append_assoc front (change_lines 0 before b.values) (text ∷ [])) ∙ ap (λ t. t ++ text ∷ []) (sym (by_last b b.values)))),
        )

later_step : (next : ℕ) (b : PartialWave) (text : List ℕ) (s : Reached) → IsLater next b → taken (places.Change next) b text ≡ Some s →
    Stepped (places.Change next) b text s
later_step next b text s later e = by (bytes_eq text (time_line (length b.moments + 1))) refl (change_in next b.values text) refl e
  where
    by : (z : Bool) → bytes_eq text (time_line (length b.moments + 1)) ≡ z → (o : Option Change) → change_in next b.values text ≡ o →
        cond z (Some (places.Change 0, with_moment b)) (option_map (λ (change : Change). (places.Change (change.net + 1), with_change b change)) o) ≡ Some s →
        Stepped (places.Change next) b text s
    by true is o f e =
        let same : (places.Change 0, with_moment b) ≡ s = cc in
        subst (Stepped (places.Change next) b text) same (time_step next b text later (bytes_are text (time_line (length b.moments + 1)) is))
    by false is None f e = absurd cc
    by false is (Some change) f e =
        let same : (places.Change (change.net + 1), with_change b change) ≡ s = cc in
        subst (Stepped (places.Change next) b text) same (change_step next b text change later (change_is next b.values text change f))

pub step : (p : TextPlace) (b : PartialWave) (text : List ℕ) (s : Reached) → Right p b → taken p b text ≡ Some s → Stepped p b text s
step places.Timescale b text s right e =
    when_is places.Timescale b text (bytes_eq text scale) (places.Scope, b) s e
    (λ is. (right, ap (λ t. t ∷ []) (sym (bytes_are text scale is))))
step places.Scope b text s right e =
    when_is places.Scope b text (bytes_eq text scope) (places.Net, b) s e
    (λ is. (
      subst IsHead (sym right) (record { named = tt; moments = refl; values = refl }),
      ap (λ (x : PartialWave). scale ∷ scope ∷ net_lines 0 x.keys) right ∙ ap (λ t. scale ∷ t ∷ []) (sym (bytes_are text scope is)),
    ))
step places.Net b text s right e = net_step b text s right e
step places.Definitions b text s right e =
    when_is places.Definitions b text (bytes_eq text definitions) (places.Start, b) s e
    (λ is. (
      right,
      ap (λ t. scale ∷ scope ∷ (net_lines 0 b.keys ++ upscope ∷ t ∷ [])) (sym (bytes_are text definitions is))
          ∙ ap (λ t. scale ∷ scope ∷ t) (sym (append_assoc (net_lines 0 b.keys) (upscope ∷ []) (text ∷ []))),
    ))
step places.Start b text s right e =
    when_is places.Start b text (bytes_eq text (time_line 0)) (first_place (length b.keys) 0, b) s e
    (λ is. first_right b 0 text places.Start b right.named right.moments (ap length right.values) (omega arith)
    (one_moment b right.moments
    ∙ (ap (λ (vs : List Value). head_lines b.keys ++ time_line 0 ∷ change_lines 0 [] vs) right.values
    ∙ ap (λ t. head_lines b.keys ++ t ∷ []) (sym (bytes_are text (time_line 0) is)))))
step places.First b text s right e = first_step b text s right e
step (places.Change next) b text s right e = later_step next b text s right e

-- ---- the whole text

-- the text that has these pieces
abbrev text_of : List (List ℕ) → List ℕ
text_of [] = []
text_of (rest ∷ []) = rest
text_of (text ∷ next ∷ pieces) = line text ++ text_of (next ∷ pieces)

pieces_again : (bs : List ℕ) → text_of (pieces_of bs) ≡ bs
pieces_again [] = refl
pieces_again (b ∷ bs) = by (b == 10) refl (pieces_of bs) (some_piece bs) (pieces_again bs)
  where
    by : (z : Bool) → (b == 10) ≡ z → (ps : List (List ℕ)) → ((p : List ℕ) × (rest : List (List ℕ)) × (ps ≡ p ∷ rest)) → text_of ps ≡ bs →
        text_of (cond z ([] ∷ ps) (onto_first b ps)) ≡ b ∷ bs
    by z e [] s h = cc
    by true e (p ∷ ps) s h = ap (λ t. 10 ∷ t) h ∙ ap (λ x. x ∷ bs) (sym (eqb-true b 10 e))
    by false e (p ∷ []) s h = ap (λ t. b ∷ t) h
    by false e (p ∷ q ∷ ps) s h = ap (λ t. b ∷ t) h

record IsRead (p : TextPlace) (b : PartialWave) (pieces : List (List ℕ)) (w : Wave) : Type 0 where
  has_text : HasWaveText w
  spells : wave_text w ≡ flat_map line (lines_at p b) ++ text_of pieces

end_read : (n : ℕ) (p : TextPlace) (b : PartialWave) (rest : List ℕ) (w : Wave) → Right p b → ended n p b rest ≡ Ok w → IsRead p b (rest ∷ []) w
end_read n places.Timescale b rest w right e = absurd cc
end_read n places.Scope b rest w right e = absurd cc
end_read n places.Net b rest w right e = absurd cc
end_read n places.Definitions b rest w right e = absurd cc
end_read n places.Start b rest w right e = absurd cc
end_read n places.First b rest w right e = absurd cc
end_read n (places.Change next) b rest w right e = by (length rest == 0) refl e
  where
    W : List Value → Type 0
    W values = length values ≡ length b.keys

    by : (z : Bool) → (length rest == 0) ≡ z → cond z (Ok (whole b)) (Err (Line n)) ≡ Ok w → IsRead (places.Change next) b (rest ∷ []) w
    by false z e = absurd cc
    by true z e =
        let same : whole b ≡ w = cc in
        let none : rest ≡ [] = nothing_left rest z in
        subst (IsRead (places.Change next) b (rest ∷ [])) same
        (record {
          has_text = record {
            names = All-from_recursion (λ key. IsTrue (is_name key)) b.keys right.named;
            widths = All-from_recursion W (b.moments ++ b.values ∷ []) (each_snoc W b.moments b.values right.widths right.wide);
            some = omega (arith, length-append b.moments (b.values ∷ []));
          };
          spells = sym (ap (λ t. wave_text (whole b) ++ t) none ∙ append-nil (wave_text (whole b)));
        })

all_read : (pieces : List (List ℕ)) (n : ℕ) (p : TextPlace) (b : PartialWave) (w : Wave) → Right p b → wave_from n p b pieces ≡ Ok w → IsRead p b pieces w
all_read [] n p b w right e = let r = end_read n p b [] w right e in record { has_text = r.has_text; spells = r.spells }
all_read (rest ∷ []) n p b w right e = end_read n p b rest w right e
all_read (text ∷ next ∷ pieces) n p b w right e =
    by (taken p b text) refl (λ s r e. all_read (next ∷ pieces) (n + 1) s.0 s.1 w r e) e
  where
    by : (o : Option Reached) → taken p b text ≡ o →
        ((s : Reached) → Right s.0 s.1 → wave_from (n + 1) s.0 s.1 (next ∷ pieces) ≡ Ok w → IsRead s.0 s.1 (next ∷ pieces) w) →
        (line_or_fault n o >>= λ (s : Reached). wave_from (n + 1) s.0 s.1 (next ∷ pieces)) ≡ Ok w → IsRead p b (text ∷ next ∷ pieces) w
    by None f rec e = absurd cc
    by (Some s) f rec e =
        let went = step p b text s right f in
        let r = rec s went.0 e in
        let rest : List ℕ = text_of (next ∷ pieces) in
        record {
          has_text = r.has_text;
          spells =
              r.spells
              ∙ (ap (λ ls. flat_map line ls ++ rest) went.1
              ∙ (ap (λ t. t ++ rest) (flat_map-append line (lines_at p b) (text ∷ []) ∙ ap (λ t. flat_map line (lines_at p b) ++ t) (append-nil (line text)))
              ∙ append_assoc (flat_map line (lines_at p b)) (line text) rest));
        }

pub wave_texts_are_exact : WaveTextsAreExact
unfolding wave_in
wave_texts_are_exact text w e =
    let r = all_read (pieces_of text) 1 places.Timescale nothing_read w refl e in
    (r.has_text, r.spells ∙ pieces_again text)
