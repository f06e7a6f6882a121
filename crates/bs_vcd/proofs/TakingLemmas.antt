-- The words of a text, taken one by one.
use Rattle.std.proofs.Common.{◌≡◌, ℕ, List, [], ◌∷◌, map, ap, sym, ◌∙◌, ◌⊎◌, inl, inr, Option, Some, Result, Ok, Err}
use Rattle.std.specs.Prelude.{◌++◌}
use Rattle.std.specs.Option.{option_or}
use Rattle.std.proofs.lemmas.List.{map-append}
use Rattle.bs_bits.specs.Reading.{◌>>=◌}
use Rattle.bs_vcd_header.specs.declared.fault.VcdFault.{VcdFault}
use Rattle.bs_vcd_header.specs.declared.fault.VcdFault.TheVariants.{NoMemory}
use Rattle.bs_vcd.specs.Sampled.{SamplingRequest}
use Rattle.bs_vcd_header.specs.Tokens.{VcdToken}
use Rattle.bs_vcd.specs.declared.changes.ValueChange.{ValueChange as CodeValueChange}
use Rattle.bs_vcd.specs.declared.clock_edges.SampledLines.{SampledLines}
use Rattle.bs_vcd.specs.History.{ValueChange, WordPlace, step, change_in}
use Rattle.bs_vcd.specs.Levels.{Known}
use Rattle.bs_vcd.specs.Watching.{SamplingState, known_after, closed, moved, took, finished, watched_from, with_change, with_times}
use Rattle.std.specs.Prelude.{Bool}

abbrev Lines : Type 0
Lines = Result (List (List Bool)) VcdFault

abbrev Timed : Type 0
Timed = Result SampledLines VcdFault

-- the rest of the words behind one
abbrev on : SamplingRequest → List VcdToken → Result (WordPlace × SamplingState) VcdFault → Timed
on a ts r = r >>= λ next. watched_from a next.0 next.1 ts

pub word_taken : (all : Timed) (a : SamplingRequest) (mode behind : WordPlace) (w after : SamplingState) (words ts : List VcdToken) (t : VcdToken) →
    all ≡ watched_from a mode w words → words ≡ t ∷ ts → took a t.line (step mode t.text) w ≡ Ok (behind, after) →
    all ≡ watched_from a behind after ts
word_taken all a mode behind w after words ts t e f g =
    e ∙ (ap (watched_from a mode w) f ∙ ap (on a ts) g)

pub word_faulty : (all : Timed) (a : SamplingRequest) (mode : WordPlace) (w : SamplingState) (words ts : List VcdToken) (t : VcdToken) (fault : VcdFault) →
    all ≡ watched_from a mode w words → words ≡ t ∷ ts →
    (fault ≡ NoMemory) ⊎ (took a t.line (step mode t.text) w ≡ Err fault) → (fault ≡ NoMemory) ⊎ (all ≡ Err fault)
word_faulty all a mode w words ts t fault e f (inl want) = inl want
word_faulty all a mode w words ts t fault e f (inr g) =
    inr (e ∙ (ap (watched_from a mode w) f ∙ ap (on a ts) g))

-- the end of the text
abbrev at_end : SamplingState → Lines → Timed
at_end w r = r >>= λ lines. Ok (with_times w lines)

pub end_taken : (all : Timed) (a : SamplingRequest) (mode : WordPlace) (w : SamplingState) (words : List VcdToken) (first : Option ℕ) (last : ℕ)
    (lines : List (List Bool)) → all ≡ watched_from a mode w words → words ≡ [] → finished a mode w ≡ Ok lines → last ≡ w.time → first ≡ w.first →
    all ≡ Ok (record { first = first; last = last; lines = lines })
end_taken all a mode w words first last lines e f g time begun =
    e ∙ (ap (watched_from a mode w) f
    ∙ (ap (at_end w) g ∙ λ i. Ok record { first = sym begun i; last = sym time i; lines = lines }))

pub end_faulty : (all : Timed) (a : SamplingRequest) (mode : WordPlace) (w : SamplingState) (words : List VcdToken) (fault : VcdFault) →
    all ≡ watched_from a mode w words → words ≡ [] → (fault ≡ NoMemory) ⊎ (finished a mode w ≡ Err fault) → (fault ≡ NoMemory) ⊎ (all ≡ Err fault)
end_faulty all a mode w words fault e f (inl want) = inl want
end_faulty all a mode w words fault e f (inr g) = inr (e ∙ (ap (watched_from a mode w) f ∙ ap (at_end w) g))

abbrev watching : ℕ → Option ℕ → Known → List ValueChange → List (List Bool) → SamplingState
watching time first known changes lines = record { time = time; first = first; known = known; changes = changes; lines = lines }

-- a change more
pub change_taken : (time : ℕ) (first next : Option ℕ) (known : Known) (old new : List CodeValueChange) (c : CodeValueChange) (lines : List (List Bool)) →
    next ≡ option_or first (Some time) → new ≡ old ++ c ∷ [] →
    watching time next known (map change_in new) lines ≡ with_change (watching time first known (map change_in old) lines) (change_in c)
change_taken time first next known old new c lines e f =
    λ i. watching time (e i) known ((ap (map change_in) f ∙ map-append change_in old (c ∷ [])) i) lines

-- the moment behind these lines
abbrev next_of : ℕ → Option ℕ → Known → Lines → Result SamplingState VcdFault
next_of time first known r = r >>= λ lines. Ok record { time = time; first = first; known = known; changes = []; lines = lines }

-- the next moment, from its parts
pub moved_on : (a : SamplingRequest) (time at : ℕ) (first : Option ℕ) (known behind : Known) (items one two none : List CodeValueChange)
    (old lines : List (List Bool)) → one ≡ items → two ≡ items → closed a at known (map change_in one) old ≡ Ok lines →
    behind ≡ known_after known (map change_in two) → none ≡ [] →
    moved a time (record { time = at; first = first; known = known; changes = map change_in items; lines = old })
    ≡ Ok (record { time = time; first = first; known = behind; changes = map change_in none; lines = lines })
moved_on a time at first known behind items one two none old lines e f done after empty =
    ap (λ (xs : List CodeValueChange). next_of time first (known_after known (map change_in items)) (closed a at known (map change_in xs) old)) (sym e)
    ∙ (ap (next_of time first (known_after known (map change_in items))) done
    ∙ λ i. Ok record {
      time = time;
      first = first;
      known = (ap (λ (xs : List CodeValueChange). known_after known (map change_in xs)) (sym f) ∙ sym after) i;
      changes = map change_in (sym empty i);
      lines = lines;
    })

-- the end of the text, from its parts
pub tail_known : (known behind : Known) (items slice : List CodeValueChange) → slice ≡ items → behind ≡ known_after known (map change_in slice) →
    behind ≡ known_after known (map change_in items)
tail_known known behind items slice same after = after ∙ ap (λ (xs : List CodeValueChange). known_after known (map change_in xs)) same
