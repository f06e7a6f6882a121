-- A text that stands for runs is the text of those runs, or it without the last line feed.
use Rattle.std.proofs.Common.{◌≡◌, inl, inr, ⊎_elim, ℕ, zero, suc, ◌≤◌, ◌+◌, Bool, true, false, cond, not, ◌&&◌, List, [], ◌∷◌, ◌++◌, length, refl}
use Rattle.std.proofs.Common.{arith, ap, sym, ◌∙◌, Option, Some, None, append_assoc}
use Rattle.std.specs.Prelude.{◌==◌, ◌^◌, codes, decimal, nat_le, nat_lt, Result, Ok, Err}
use Rattle.std.specs.List.{flat_map}
use Rattle.std.specs.Str.{bytes_eq}
use Rattle.std.proofs.lemmas.Slice.Eq.{bytes_eq-Decides}
use Rattle.std.proofs.lemmas.Bool.{and_parts, eqb-true, lt-ltb, ltb-false}
use Rattle.bs_bits.specs.Text.{bits_text, bits_of}
use Rattle.bs_bits.specs.Reading.{◌>>=◌}
use Rattle.bs_bits.specs.Lines.{line, lines_of, words_of, onto_first, is_name, is_canonical, number_of, digits_in}
use Rattle.bs_bits.proofs.TextLemmas.{text_again}
use Rattle.bs_bits.proofs.NumberLemmas.{canonical}
use Rattle.bs_bits.proofs.LineTextLemmas.{lines_again}
use Rattle.bs_stim.specs.declared.limits.TheConstants.{MAX_RUNS, MAX_CYCLES, MAX_NAME}
use Rattle.bs_stim.specs.declared.fault.StimFault.{StimFault}
use Rattle.bs_stim.specs.declared.fault.StimFault.TheVariants.{Line, Width, Count, TooManyRuns, TooManyCycles}
use Rattle.bs_stim.specs.Runs.{Stimulus}
use Rattle.bs_stim.specs.StimulusText.{First, Rest, head, first, head_of, is_head, first_of, input_of, of_width, no_end, end_of, rest_of, stimulus_of}
use Rattle.bs_stim.specs.StimulusText.{inputs_text, run_text, stimulus_text}
use Rattle.bs_stim.specs.Law.{StimulusTextsAreExact}
use Rattle.bs_stim.proofs.RunLemmas.{onto, named}
use Rattle.bs_stim.proofs.HeadLemmas.{some_word}

-- ---- the words of a line are the line

abbrev joined : List (List ℕ) → List ℕ
joined [] = []
joined (w ∷ []) = w
joined (w ∷ v ∷ ws) = w ++ 32 ∷ joined (v ∷ ws)

words_again : (text : List ℕ) → joined (words_of text) ≡ text
words_again [] = refl
words_again (b ∷ bs) = by (b == 32) refl (words_of bs) refl (words_again bs)
  where
    front : (w : List ℕ) (ws : List (List ℕ)) → joined ((b ∷ w) ∷ ws) ≡ b ∷ joined (w ∷ ws)
    front w [] = refl
    front w (v ∷ ws) = refl

    none : words_of bs ≡ [] → ⊥
    none f = let s = some_word bs in let clash : [] ≡ s.0 ∷ s.1 = sym f ∙ s.2 in cc

    by : (z : Bool) → (b == 32) ≡ z → (ws : List (List ℕ)) → words_of bs ≡ ws → joined ws ≡ bs → joined (cond z ([] ∷ ws) (onto_first b ws)) ≡ b ∷ bs
    by true e [] f h = absurd (none f)
    by true e (w ∷ ws) f h = rw (eqb-true b 32 e) (ap (λ t. 32 ∷ t) h)
    by false e [] f h = ap (λ t. b ∷ t) h
    by false e (w ∷ ws) f h = front w ws ∙ ap (λ t. b ∷ t) h

-- ---- the first line of a run

abbrev spelled_head : First → List ℕ
spelled_head f = codes "run " ++ (f.name ++ (codes " " ++ decimal f.cycles))

number_again : (digits : List ℕ) → is_canonical digits ≡ true → number_of digits ≤ MAX_CYCLES → decimal (number_of digits) ≡ digits
number_again digits form few =
    let below : nat_lt (number_of digits) (2 ^ 64) ≡ true = lt-ltb (number_of digits) (2 ^ 64) (omega (arith, few)) in
    let read : Some (number_of digits) ≡ digits_in digits = sym (ap (λ b. cond b (Some (number_of digits)) None) below) in
    canonical digits (Some (number_of digits)) form read

head_again : (n b : ℕ) (w name c text : List ℕ) (f : First) → w ++ 32 ∷ (name ++ 32 ∷ c) ≡ text → first_of n b (Some (head w name c)) ≡ Ok f →
    text ≡ spelled_head f
head_again n b w name c text f joins e = by (is_head (head w name c)) refl (nat_le MAX_RUNS b) (nat_lt MAX_CYCLES (number_of c)) refl e
  where
    spelled : is_head (head w name c) ≡ true → nat_lt MAX_CYCLES (number_of c) ≡ false → first name (number_of c) ≡ f → text ≡ spelled_head f
    spelled is few same =
        let all = and_parts (bytes_eq w (codes "run") && is_name name && nat_le (length name) MAX_NAME) (is_canonical c) is in
        let two = and_parts (bytes_eq w (codes "run") && is_name name) (nat_le (length name) MAX_NAME) all.0 in
        let one = and_parts (bytes_eq w (codes "run")) (is_name name) two.0 in
        let word : w ≡ codes "run" = (bytes_eq-Decides w (codes "run")).0 one.0 in
        let number : decimal (number_of c) ≡ c = number_again c all.1 (ltb-false MAX_CYCLES (number_of c) few) in
        sym joins
        ∙ (ap (λ v. v ++ 32 ∷ (name ++ 32 ∷ c)) word
        ∙ (ap (λ d. codes "run " ++ (name ++ 32 ∷ d)) (sym number)
        ∙ ap spelled_head same))

    by : (is : Bool) → is_head (head w name c) ≡ is → (full many : Bool) → nat_lt MAX_CYCLES (number_of c) ≡ many →
        cond (not is) (Err (Line n)) (cond full (Err (TooManyRuns n)) (cond many (Err (TooManyCycles n)) (Ok (first name (number_of c))))) ≡ Ok f →
        text ≡ spelled_head f
    by false is full many m e = absurd cc
    by true is true many m e = absurd cc
    by true is false true m e = absurd cc
    by true is false false m e = spelled is m cc

first_again : (n b : ℕ) (text : List ℕ) (f : First) → first_of n b (head_of (words_of text)) ≡ Ok f → text ≡ spelled_head f
first_again n b text f e = by (words_of text) (words_again text) e
  where
    by : (ws : List (List ℕ)) → joined ws ≡ text → first_of n b (head_of ws) ≡ Ok f → text ≡ spelled_head f
    by [] j e = absurd cc
    by (w ∷ []) j e = absurd cc
    by (w ∷ name ∷ []) j e = absurd cc
    by (w ∷ name ∷ c ∷ []) j e = head_again n b w name c text f j e
    by (w ∷ name ∷ c ∷ d ∷ ws) j e = absurd cc

-- ---- an input, and the last line

input_again : (w n : ℕ) (text : List ℕ) (x : List Bool) → input_of w n text ≡ Ok x → bits_text x ≡ text
input_again w n text x e = by (bytes_eq text (codes "end")) e
  where
    same : (bits : List Bool) → bits_of text ≡ Some bits → (b : Bool) → cond b (Ok bits) (Err (Width n)) ≡ Ok x → bits_text x ≡ text
    same bits read true e = let is : bits ≡ x = cc in ap bits_text (sym is) ∙ text_again text bits read
    same bits read false e = absurd cc

    read_bits : (o : Option (List Bool)) → bits_of text ≡ o → of_width w n o ≡ Ok x → bits_text x ≡ text
    read_bits None read e = absurd cc
    read_bits (Some bits) read e = same bits read (length bits == w) e

    by : (b : Bool) → cond b (Err (Count n)) (of_width w n (bits_of text)) ≡ Ok x → bits_text x ≡ text
    by true e = absurd cc
    by false e = read_bits (bits_of text) refl e

end_again : (n : ℕ) (text : List ℕ) (t : Bool) → end_of n text ≡ Ok t → text ≡ codes "end"
end_again n text t e = by (bytes_eq text (codes "end")) refl e
  where
    other : (o : Option (List Bool)) → no_end n o ≡ Ok t → ⊥
    other None e = cc
    other (Some bits) e = cc

    by : (b : Bool) → bytes_eq text (codes "end") ≡ b → cond b (Ok true) (no_end n (bits_of text)) ≡ Ok t → text ≡ codes "end"
    by true is e = (bytes_eq-Decides text (codes "end")).0 is
    by false is e = absurd (other (bits_of text) e)

-- ---- all lines

-- what is left of a text, where a first line is due, or so many inputs
abbrev Spells : Option ℕ → Rest → List ℕ → Type 0
Spells None rest text = (text ≡ flat_map run_text rest.runs) × (rest.inputs ≡ [])
Spells (Some due) rest text = (text ≡ inputs_text rest.inputs ++ (line (codes "end") ++ flat_map run_text rest.runs)) × (length rest.inputs ≡ due)

abbrev Again : ℕ → ℕ → ℕ → Option ℕ → List (List ℕ) → Type 0
Again w n b o lines = (rest : Rest) → rest_of w n b o lines ≡ Ok rest → Spells o rest (flat_map line lines)

run_spelled : (text more : List ℕ) (f : First) (rest : Rest) → text ≡ spelled_head f → Spells (Some f.cycles) rest more →
    line text ++ more ≡ flat_map run_text (record { name = f.name; inputs = rest.inputs } ∷ rest.runs)
run_spelled text more f rest e h =
    let head : List ℕ = line (spelled_head f) in
    let counted : line (spelled_head f) ≡ line (codes "run " ++ (f.name ++ (codes " " ++ decimal (length rest.inputs)))) =
    ap (λ n. line (codes "run " ++ (f.name ++ (codes " " ++ decimal n)))) (sym h.1) in
    ap (λ t. line t ++ more) e
    ∙ (ap (λ t. head ++ t) h.0
    ∙ (ap (λ t. head ++ t) (sym (append_assoc (inputs_text rest.inputs) (line (codes "end")) (flat_map run_text rest.runs)))
    ∙ (sym (append_assoc head (inputs_text rest.inputs ++ line (codes "end")) (flat_map run_text rest.runs))
    ∙ ap (λ t. (t ++ (inputs_text rest.inputs ++ line (codes "end"))) ++ flat_map run_text rest.runs) counted)))

first_spelled : (w n b : ℕ) (text : List ℕ) (texts : List (List ℕ)) → ((cycles : ℕ) → Again w (n + 1) (b + 1) (Some cycles) texts) →
    Again w n b None (text ∷ texts)
unfolding rest_of
first_spelled w n b text texts later rest e = by (first_of n b (head_of (words_of text))) refl e
  where
    runs : (f : First) → text ≡ spelled_head f → (o : Result Rest StimFault) → rest_of w (n + 1) (b + 1) (Some f.cycles) texts ≡ o →
        (o >>= named f.name) ≡ Ok rest → Spells None rest (line text ++ flat_map line texts)
    runs f is (Err x) o e = absurd cc
    runs f is (Ok r) o e =
        let same : record { inputs = []; runs = record { name = f.name; inputs = r.inputs } ∷ r.runs } ≡ rest = cc in
        (run_spelled text (flat_map line texts) f r is (later f.cycles r o) ∙ ap (λ r. flat_map run_text r.runs) same, ap (λ r. r.inputs) (sym same))

    by : (o : Result First StimFault) → first_of n b (head_of (words_of text)) ≡ o →
        (o >>= λ first. rest_of w (n + 1) (b + 1) (Some first.cycles) texts >>= named first.name) ≡ Ok rest →
        Spells None rest (line text ++ flat_map line texts)
    by (Err x) o e = absurd cc
    by (Ok f) o e = runs f (first_again n b text f o) (rest_of w (n + 1) (b + 1) (Some f.cycles) texts) refl e

end_spelled : (w n b : ℕ) (text : List ℕ) (texts : List (List ℕ)) → Again w (n + 1) b None texts → Again w n b (Some zero) (text ∷ texts)
unfolding rest_of
end_spelled w n b text texts later rest e = by (end_of n text) refl e
  where
    by : (o : Result Bool StimFault) → end_of n text ≡ o → (o >>= λ ended. rest_of w (n + 1) b None texts) ≡ Ok rest →
        Spells (Some zero) rest (line text ++ flat_map line texts)
    by (Err x) o e = absurd cc
    by (Ok t) o e =
        let h = later rest e in (
          ap (λ t. line t ++ flat_map line texts) (end_again n text t o)
              ∙ (ap (λ t. line (codes "end") ++ t) h.0
              ∙ ap (λ xs. inputs_text xs ++ (line (codes "end") ++ flat_map run_text rest.runs)) (sym h.1)),
          ap length h.1,
        )

input_spelled : (w n b due : ℕ) (text : List ℕ) (texts : List (List ℕ)) → Again w (n + 1) b (Some due) texts → Again w n b (Some (suc due)) (text ∷ texts)
unfolding rest_of
input_spelled w n b due text texts later rest e = by (input_of w n text) refl e
  where
    more : (x : List Bool) → bits_text x ≡ text → (o : Result Rest StimFault) → rest_of w (n + 1) b (Some due) texts ≡ o → (o >>= onto x) ≡ Ok rest →
        Spells (Some (suc due)) rest (line text ++ flat_map line texts)
    more x is (Err f) o e = absurd cc
    more x is (Ok r) o e =
        let same : record { inputs = x ∷ r.inputs; runs = r.runs } ≡ rest = cc in
        let h = later r o in (
          ap (λ t. line t ++ flat_map line texts) (sym is)
              ∙ (ap (λ t. line (bits_text x) ++ t) h.0
              ∙ (sym (append_assoc (line (bits_text x)) (inputs_text r.inputs) (line (codes "end") ++ flat_map run_text r.runs))
              ∙ ap (λ r. inputs_text r.inputs ++ (line (codes "end") ++ flat_map run_text r.runs)) same)),
          ap (λ r. length r.inputs) (sym same) ∙ ap suc h.1,
        )

    by : (o : Result (List Bool) StimFault) → input_of w n text ≡ o → (o >>= λ input. rest_of w (n + 1) b (Some due) texts >>= onto input) ≡ Ok rest →
        Spells (Some (suc due)) rest (line text ++ flat_map line texts)
    by (Err f) o e = absurd cc
    by (Ok x) o e = more x (input_again w n text x o) (rest_of w (n + 1) b (Some due) texts) refl e

lines_spelled : (w n b : ℕ) (o : Option ℕ) (lines : List (List ℕ)) → Again w n b o lines
unfolding rest_of
lines_spelled w n b None [] rest e =
    let same : record { inputs = []; runs = [] } ≡ rest = cc in
    (ap (λ r. flat_map run_text r.runs) same, ap (λ r. r.inputs) (sym same))
lines_spelled w n b (Some due) [] rest e = absurd cc
lines_spelled w n b None (text ∷ texts) rest e = first_spelled w n b text texts (λ cycles. lines_spelled w (n + 1) (b + 1) (Some cycles) texts) rest e
lines_spelled w n b (Some zero) (text ∷ texts) rest e = end_spelled w n b text texts (lines_spelled w (n + 1) b None texts) rest e
lines_spelled w n b (Some (suc due)) (text ∷ texts) rest e = input_spelled w n b due text texts (lines_spelled w (n + 1) b (Some due) texts) rest e

-- ---- a whole text

runs_spelled : (w : ℕ) (lines : List (List ℕ)) (s : Stimulus) → stimulus_of w lines ≡ Ok s → (flat_map line lines ≡ stimulus_text s) × (s.width ≡ w)
runs_spelled w [] s e = absurd cc
runs_spelled w (text ∷ texts) s e = by (rest_of w 1 0 None (text ∷ texts)) refl e
  where
    by : (o : Result Rest StimFault) → rest_of w 1 0 None (text ∷ texts) ≡ o →
        ((o >>= λ rest. Ok rest.runs) >>= λ runs. Ok (record { width = w; runs = runs })) ≡ Ok s →
        (flat_map line (text ∷ texts) ≡ stimulus_text s) × (s.width ≡ w)
    by (Err f) o e = absurd cc
    by (Ok r) o e =
        let same : record { width = w; runs = r.runs } ≡ s = cc in
        ((lines_spelled w 1 0 None (text ∷ texts) r o).0 ∙ ap stimulus_text same, ap (λ s. s.width) (sym same))

pub stimulus_texts_are_exact : StimulusTextsAreExact
stimulus_texts_are_exact width text s e =
    let spelled = (runs_spelled width (lines_of text) s e).0 in
    ⊎_elim (λ (whole : text ≡ flat_map line (lines_of text)). inl (whole ∙ spelled))
    (λ (short : line text ≡ flat_map line (lines_of text)). inr (short ∙ spelled)) (lines_again text)
