-- Signals and their values in words.
use Rattle.std.proofs.Common.{◌≡◌, ℕ, ◌<◌, ◌+◌, ◌-◌, ◌^◌, Bool, List, [], ◌∷◌, ◌++◌, length, map, take, get_or, refl, ap, sym, subst, ◌∙◌}
use Rattle.std.specs.Prelude.{◌==◌, codes, if◌then◌else◌}
use Rattle.std.specs.List.{All}
use Rattle.std.proofs.lemmas.List.Folds.{flat_map-map}
use Rattle.bs_net.specs.Parts.{Parts}
use Rattle.bs_net_facts.specs.declared.fact.Fact.{Fact}
use Rattle.bs_inspect_view.specs.Signals.{AreSignals, Signal, signal_in}
use Rattle.bs_inspect_view.specs.declared.signal.Signal.{Signal as CodeSignal}
use Rattle.bs_inspect_why_words.specs.Facts.{TellsFacts, TellsFirst, behind_words, fact_bits, fact_keys, more_words, signal_words, signals_words}
use Rattle.bs_inspect_why_words.proofs.StepLemmas.{listed, listed_more}

pub narrow_here : (signals : List CodeSignal) (i : ℕ) (s : CodeSignal) → All (λ s. length s.places < 2 ^ 32) signals → i < length signals →
    s ≡ get_or signals i s → length s.places < 2 ^ 32
narrow_here signals i s narrow lt e = subst (λ (x : CodeSignal). length x.places < 2 ^ 32) (sym e) (narrow i s lt)

-- the words of one signal
abbrev words_of : List Bool → CodeSignal → List ℕ
words_of bits s = signal_words bits (signal_in s)

words_listed : (bits : List Bool) (signals : List CodeSignal) → signals_words bits (map signal_in signals) ≡ listed (words_of bits) signals
words_listed bits [] = refl
words_listed bits (s ∷ signals) = ap (λ (t : List ℕ). words_of bits s ++ t) (flat_map-map (behind_words bits) signal_in signals)

pub signals_more : (bits : List Bool) (signals : List CodeSignal) (i : ℕ) (s : CodeSignal) (old text mid after : List ℕ) → i < length signals →
    s ≡ get_or signals i s → text ≡ old ++ signals_words bits (map signal_in (take i signals)) → mid ≡ text ++ (if i == 0 then [] else codes ", ") →
    after ≡ mid ++ signal_words bits (signal_in s) → after ≡ old ++ signals_words bits (map signal_in (take (i + 1) signals))
signals_more bits signals i s old text mid after lt at e comma goes =
    listed_more (words_of bits) signals i s old text mid after lt (e ∙ ap (λ (t : List ℕ). old ++ t) (words_listed bits (take i signals))) comma
    (goes ∙ ap (λ (x : CodeSignal). mid ++ words_of bits x) at)
    ∙ ap (λ (t : List ℕ). old ++ t) (sym (words_listed bits (take (i + 1) signals)))

pub facts_told : (raw : Parts) (facts : List Fact) (signals : List Signal) (words : List ℕ) → AreSignals [] (fact_keys raw facts) signals →
    words ≡ signals_words (fact_bits facts) signals → TellsFacts raw facts words
facts_told raw facts signals words are says = record { signals = signals; are = are; says = says }

pub first_told : (raw : Parts) (facts few : List Fact) (most count : ℕ) (front text words : List ℕ) → few ≡ take most facts → TellsFacts raw few front →
    count ≡ length facts - most → text ≡ front ++ more_words count → words ≡ text → TellsFirst raw most facts words
first_told raw facts few most count front text words e tells n goes same = record {
  front = front;
  tells = subst (λ (fs : List Fact). TellsFacts raw fs front) e tells;
  says = same ∙ (goes ∙ ap (λ (k : ℕ). front ++ more_words k) n);
}
