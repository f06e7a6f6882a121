-- A line that is refused is the first that cannot stand in its place.
use Rattle.std.proofs.Common.{◌≡◌, ℕ, suc, ◌<◌, ◌+◌, ◌-◌, Bool, true, false, cond, List, [], ◌∷◌, ◌++◌, length, take, replicate, refl}
use Rattle.std.proofs.Common.{arith, ap, sym, subst, ◌∙◌, Option, Some, None, append_assoc, append-nil}
use Rattle.std.specs.Prelude.{◌==◌, IsTrue, Ok, Err}
use Rattle.std.proofs.lemmas.List.{length-append, length-replicate}
use Rattle.std.proofs.lemmas.List.Elements.{All-from_recursion, recursion_from_All}
use Rattle.bs_bits.specs.Lines.{pieces_of, is_name}
use Rattle.bs_bits.specs.Reading.{◌>>=◌}
use Rattle.bs_wave.specs.declared.fault.WaveFault.TheVariants.{Line}
use Rattle.bs_wave.specs.declared.place.TextPlace.{TextPlace}
use Rattle.bs_wave.specs.declared.place.TextPlace.TheVariants as places
use Rattle.bs_wave.specs.declared.value.Value.{Value}
use Rattle.bs_wave.specs.declared.value.Value.TheVariants.{Unknown}
use Rattle.bs_wave.specs.declared.wave.Wave.{Wave}
use Rattle.bs_wave.specs.WaveText.{net_lines, head_lines, time_line, value_line, change_lines, moment_lines, wave_lines, HasWaveText}
use Rattle.bs_wave.specs.WaveReading.{PartialWave, Reached, taken, line_or_fault, whole, ended, wave_from, nothing_read, wave_in}
use Rattle.bs_wave.specs.Law.{BeginsWave, IsWrongLine, WrongLinesAreNamed}
use Rattle.bs_wave.proofs.ReadingLemmas.{some_piece}
use Rattle.bs_wave.proofs.SpelledLemmas.{scale, scope, upscope, definitions, lines_at, Named, IsFirst, IsLater, Right, step, each_snoc, one_moment}
use Rattle.bs_wave.proofs.ReadBackLemmas.{Goes, goes_on, one_line, GoesWhole, by_moments}

-- ---- what is read so far goes on to a wave

-- a wave of one moment
one_text : (keys : List (List ℕ)) (values : List Value) → Named keys → length values ≡ length keys → HasWaveText (record { keys = keys; moments = values ∷ [] })
one_text keys values named wide =
    record {
      names = All-from_recursion (λ key. IsTrue (is_name key)) keys named;
      widths = All-from_recursion (λ (vs : List Value). length vs ≡ length keys) (values ∷ []) (wide, tt);
      some = omega arith;
    }

-- a head goes on to a wave of unknown values
head_begins : (keys : List (List ℕ)) (lines rest : List (List ℕ)) → Named keys → head_lines keys ≡ lines ++ rest → BeginsWave lines
head_begins keys lines rest named e =
    let values : List Value = replicate (length keys) Unknown in
    let moments : List (List ℕ) = moment_lines 0 [] (values ∷ []) in
    record {
      wave = record { keys = keys; moments = values ∷ [] };
      has_text = one_text keys values named (length-replicate (length keys) Unknown);
      rest = rest ++ moments;
      spells = ap (λ t. t ++ moments) e ∙ append_assoc lines rest moments;
    }

first_append : (n : ℕ) (xs ys : List Value) → change_lines n [] (xs ++ ys) ≡ change_lines n [] xs ++ change_lines (n + length xs) [] ys
first_append n [] ys = ap (λ m. change_lines m [] ys) (omega arith)
first_append n (x ∷ xs) ys =
    ap (λ t. value_line n x ∷ t) (first_append (suc n) xs ys ∙ ap (λ m. change_lines (suc n) [] xs ++ change_lines m [] ys) (omega arith))

first_begins : (b : PartialWave) → IsFirst b → BeginsWave (wave_lines (whole b))
first_begins b first =
    let more : List Value = replicate (length b.keys - length b.values) Unknown in
    let values : List Value = b.values ++ more in
    let wide : length values ≡ length b.keys =
    omega (arith, length-append b.values more, length-replicate (length b.keys - length b.values) Unknown, first.below) in
    let rest : List (List ℕ) = change_lines (0 + length b.values) [] more in
    let front : List (List ℕ) = head_lines b.keys ++ time_line 0 ∷ change_lines 0 [] b.values in
    record {
      wave = record { keys = b.keys; moments = values ∷ [] };
      has_text = one_text b.keys values first.named wide;
      rest = rest;
      spells =
          ap (λ t. head_lines b.keys ++ time_line 0 ∷ t) (append-nil (change_lines 0 [] values) ∙ first_append 0 b.values more)
          ∙ (sym (append_assoc (head_lines b.keys) (time_line 0 ∷ change_lines 0 [] b.values) rest)
          ∙ ap (λ t. t ++ rest) (sym (one_moment b first.moments)));
    }

later_begins : (next : ℕ) (b : PartialWave) → IsLater next b → BeginsWave (wave_lines (whole b))
later_begins next b later =
    let W : List Value → Type 0 = λ values. length values ≡ length b.keys in
    record {
      wave = whole b;
      has_text = record {
        names = All-from_recursion (λ key. IsTrue (is_name key)) b.keys later.named;
        widths = All-from_recursion W (b.moments ++ b.values ∷ []) (each_snoc W b.moments b.values later.widths later.wide);
        some = omega (arith, length-append b.moments (b.values ∷ []));
      };
      rest = [];
      spells = sym (append-nil (wave_lines (whole b)));
    }

begins_at : (p : TextPlace) (b : PartialWave) → Right p b → BeginsWave (lines_at p b)
begins_at places.Timescale b right = head_begins [] [] (head_lines []) tt refl
begins_at places.Scope b right = head_begins [] (scale ∷ []) (scope ∷ upscope ∷ definitions ∷ []) tt refl
begins_at places.Net b right = head_begins b.keys (scale ∷ scope ∷ net_lines 0 b.keys) (upscope ∷ definitions ∷ []) right.named refl
begins_at places.Definitions b right =
    head_begins b.keys (scale ∷ scope ∷ (net_lines 0 b.keys ++ upscope ∷ [])) (definitions ∷ []) right.named
    (ap (λ t. scale ∷ scope ∷ t) (sym (append_assoc (net_lines 0 b.keys) (upscope ∷ []) (definitions ∷ []))))
begins_at places.Start b right = head_begins b.keys (head_lines b.keys) [] right.named (sym (append-nil (head_lines b.keys)))
begins_at places.First b right = first_begins b right
begins_at (places.Change next) b right = later_begins next b right

-- ---- there is one way to go

same_way : (p q r : TextPlace) (b c d : PartialWave) (lines : List (List ℕ)) → Goes p b lines q c → Goes p b lines r d → (q ≡ r) × (c ≡ d)
same_way p q r b c d [] g h = (sym g.0 ∙ h.0, sym g.1 ∙ h.1)
same_way p q r b c d (text ∷ lines) g h =
    let both : Some g.0 ≡ Some h.0 = sym g.1 ∙ h.1 in
    let same : g.0 ≡ h.0 = cc in
    same_way h.0.0 q r h.0.1 c d lines (subst (λ (s : Reached). Goes s.0 s.1 lines q c) same g.2) h.2

-- a longer way begins with a shorter one, and goes on with its next line
pub record Split (p : TextPlace) (b : PartialWave) (front : List (List ℕ)) (text : List ℕ) : Type 0 where
  place : TextPlace
  begun : PartialWave
  goes : Goes p b front place begun
  next : Reached
  is : taken place begun text ≡ Some next

split : (p q : TextPlace) (b c : PartialWave) (front : List (List ℕ)) (text : List ℕ) (rest : List (List ℕ)) → Goes p b (front ++ text ∷ rest) q c → Split p b front text
split p q b c [] text rest g = record { place = p; begun = b; goes = (refl, refl); next = g.0; is = g.1 }
split p q b c (l ∷ front) text rest g =
    let s = split g.0.0 q g.0.1 c front text rest g.2 in
    record { place = s.place; begun = s.begun; goes = (g.0, g.1, s.goes); next = s.next; is = s.is }

-- ---- the line that is refused

take_front : (xs ys : List (List ℕ)) → take (length xs) (xs ++ ys) ≡ xs
take_front [] ys = take_none ys
  where
    take_none : (ys : List (List ℕ)) → take 0 ys ≡ []
    take_none ys = refl
take_front (x ∷ xs) ys = ap (λ t. x ∷ t) (take_front xs ys)

start : TextPlace
start = places.Timescale

refused_here : (done : List (List ℕ)) (p : TextPlace) (b : PartialWave) (text : List ℕ) (rest : List (List ℕ)) (n m : ℕ) → n ≡ length done + 1 → n ≡ m → Right p b →
    lines_at p b ≡ done → Goes places.Timescale nothing_read done p b → (0 < length rest → taken p b text ≡ None) →
    IsWrongLine (done ++ text ∷ rest) m
refused_here done p b text rest n m e same right lines goes none =
    let before : m - 1 ≡ length done = omega (arith, e, same) in
    let count : m ≡ length (done ++ text ∷ []) = omega (arith, e, same, length-append done (text ∷ [])) in
    let long : length (done ++ text ∷ rest) ≡ length done + suc (length rest) = length-append done (text ∷ rest) in
    record {
      counted = omega (arith, e, same);
      within = omega (arith, e, same, long);
      before = subst BeginsWave (lines ∙ sym (ap (λ k. take k (done ++ text ∷ rest)) before ∙ take_front done (text ∷ rest))) (begins_at p b right);
      wrong = λ below begins.
          let more : 0 < length rest = omega (arith, below, long, e, same) in
          let taken_so : take m (done ++ text ∷ rest) ≡ done ++ text ∷ [] =
          ap (λ k. take k (done ++ text ∷ rest)) count
          ∙ (ap (take (length (done ++ text ∷ []))) (sym (append_assoc done (text ∷ []) rest)) ∙ take_front (done ++ text ∷ []) rest) in
          clash (none more) (subst BeginsWave taken_so begins);
    }
  where
    clash : taken p b text ≡ None → BeginsWave (done ++ text ∷ []) → ⊥
    clash absent begins =
        let w : Wave = begins.wave in
        let has : HasWaveText w = begins.has_text in
        let way : GoesWhole w =
        by_moments w.keys w.moments has.some (recursion_from_All (λ key. IsTrue (is_name key)) w.keys has.names)
        (recursion_from_All (λ (values : List Value). length values ≡ length w.keys) w.moments has.widths) in
        let lines_are : wave_lines w ≡ done ++ text ∷ begins.rest = begins.spells ∙ append_assoc done (text ∷ []) begins.rest in
        let goes_so = subst (λ (ls : List (List ℕ)). Goes places.Timescale nothing_read ls (places.Change way.last) way.end) lines_are way.goes in
        let s = split places.Timescale (places.Change way.last) nothing_read way.end done text begins.rest goes_so in
        let same_state = same_way places.Timescale s.place p nothing_read s.begun b done s.goes goes in
        let some : taken p b text ≡ Some s.next =
        sym (ap (λ (x : TextPlace). taken x s.begun text) same_state.0 ∙ ap (λ (x : PartialWave). taken p x text) same_state.1) ∙ s.is in
        let both : None ≡ Some s.next = sym absent ∙ some in
        cc

end_fault : (n m : ℕ) (p : TextPlace) (b : PartialWave) (rest : List ℕ) → ended n p b rest ≡ Err (Line m) → n ≡ m
end_fault n m places.Timescale b rest e = cc
end_fault n m places.Scope b rest e = cc
end_fault n m places.Net b rest e = cc
end_fault n m places.Definitions b rest e = cc
end_fault n m places.Start b rest e = cc
end_fault n m places.First b rest e = cc
end_fault n m (places.Change next) b rest e = by (length rest == 0) e
  where
    by : (z : Bool) → cond z (Ok (whole b)) (Err (Line n)) ≡ Err (Line m) → n ≡ m
    by true e = absurd cc
    by false e = cc

wrong_from : (pieces done : List (List ℕ)) (n m : ℕ) (p : TextPlace) (b : PartialWave) → 0 < length pieces → n ≡ length done + 1 → Right p b →
    lines_at p b ≡ done → Goes places.Timescale nothing_read done p b → wave_from n p b pieces ≡ Err (Line m) → IsWrongLine (done ++ pieces) m
wrong_from [] done n m p b some e right lines goes fault = absurd (omega (arith, some))
wrong_from (rest ∷ []) done n m p b some e right lines goes fault =
    refused_here done p b rest [] n m e (end_fault n m p b rest fault) right lines goes (λ none. absurd (omega (arith, none)))
wrong_from (text ∷ next ∷ pieces) done n m p b some e right lines goes fault =
    by (taken p b text) refl
    (λ s went is later. wrong_from (next ∷ pieces) (done ++ text ∷ []) (n + 1) m s.0 s.1 (omega arith) (omega (arith, e, length-append done (text ∷ []))) went.0
    (went.1 ∙ ap (λ l. l ++ text ∷ []) lines)
    (goes_on places.Timescale p s.0 nothing_read b s.1 done (text ∷ []) goes (one_line p b text s is)) later)
    fault
  where
    by : (o : Option Reached) → taken p b text ≡ o →
        ((s : Reached) → Right s.0 s.1 × (lines_at s.0 s.1 ≡ lines_at p b ++ text ∷ []) → taken p b text ≡ Some s →
        wave_from (n + 1) s.0 s.1 (next ∷ pieces) ≡ Err (Line m) → IsWrongLine ((done ++ text ∷ []) ++ next ∷ pieces) m) →
        (line_or_fault n o >>= λ (s : Reached). wave_from (n + 1) s.0 s.1 (next ∷ pieces)) ≡ Err (Line m) → IsWrongLine (done ++ text ∷ next ∷ pieces) m
    by None f rec fault =
        let same : n ≡ m = cc in
        refused_here done p b text (next ∷ pieces) n m e same right lines goes (λ some. f)
    by (Some s) f rec fault =
        subst (λ (all : List (List ℕ)). IsWrongLine all m) (append_assoc done (text ∷ []) (next ∷ pieces)) (rec s (step p b text s right f) f fault)

pub wrong_lines_are_named : WrongLinesAreNamed
unfolding wave_in
wrong_lines_are_named text n e =
    let s = some_piece text in
    let some : 0 < length (pieces_of text) = omega (arith, ap length s.2) in
    wrong_from (pieces_of text) [] 1 n places.Timescale nothing_read some refl refl refl (refl, refl) e
