-- The first line of a run.
use Rattle.std.proofs.Common.{◌≡◌, ℕ, suc, zero, ◌<◌, ◌+◌, ◌-◌, ◌*◌, Bool, true, false, cond, ◌&&◌, List, [], ◌∷◌, length, take, get_or, refl, arith}
use Rattle.std.proofs.Common.{ap, sym, ◌∙◌, None, min}
use Rattle.std.specs.Prelude.{◌==◌, fold, nat_lt, nat_le}
use Rattle.std.specs.Str.{IsUtf8}
use Rattle.std.proofs.lemmas.Bool.{leb-true, and_parts}
use Rattle.std.proofs.lemmas.Str.{IsUtf8-from_ascii}
use Rattle.bs_bits.specs.Lines.{words_of, onto_first, is_name, is_visible, number_of}
use Rattle.bs_stim.specs.declared.limits.TheConstants.{MAX_CYCLES}
use Rattle.bs_stim.specs.StimulusText.{head_of}

-- ---- words

pub some_word : (bs : List ℕ) → (w : List ℕ) × (ws : List (List ℕ)) × (words_of bs ≡ w ∷ ws)
some_word [] = ([], [], refl)
some_word (b ∷ bs) = by (b == 32) refl (words_of bs) refl
  where
    by : (z : Bool) → b == 32 ≡ z → (o : List (List ℕ)) → words_of bs ≡ o →
        (w : List ℕ) × (ws : List (List ℕ)) × (cond z ([] ∷ words_of bs) (onto_first b (words_of bs)) ≡ w ∷ ws)
    by true e o f = ([], words_of bs, refl)
    by false e [] f = (b ∷ [], [], ap (onto_first b) f)
    by false e (w ∷ ws) f = (b ∷ w, ws, ap (onto_first b) f)

-- a line of four words or more is no first line
pub four_words : (line rest more last : List ℕ) (a b c : List ℕ) → words_of line ≡ a ∷ words_of rest → words_of rest ≡ b ∷ words_of more →
    words_of more ≡ c ∷ words_of last → None ≡ head_of (words_of line)
four_words line rest more last a b c e f g =
    let s = some_word last in
    sym (ap head_of (e ∙ ap (λ ws. a ∷ ws) (f ∙ ap (λ ws. b ∷ ws) (g ∙ ap (λ ws. c ∷ ws) s.2))))

-- ---- names are texts

visible_small : (bs : List ℕ) → is_visible bs ≡ true → (i : ℕ) → get_or bs i 0 < 128
visible_small [] e i = omega arith
visible_small (b ∷ bs) e zero =
    let both = and_parts (nat_le 33 b && nat_le b 126) (is_visible bs) e in
    let range = and_parts (nat_le 33 b) (nat_le b 126) both.0 in
    omega (arith, leb-true b 126 range.1)
visible_small (b ∷ bs) e (suc i) = visible_small bs (and_parts (nat_le 33 b && nat_le b 126) (is_visible bs) e).1 i

pub name_is_text : (name : List ℕ) → is_name name ≡ true → IsUtf8 name
name_is_text name e = IsUtf8-from_ascii name (visible_small name (and_parts (nat_lt 0 (length name)) (is_visible name) e).1)

-- ---- numbers

abbrev after : ℕ → List ℕ → ℕ
after n ds = fold (λ n d. 10 * n + (d - 48)) n ds

after_more : (n : ℕ) (ds : List ℕ) (i : ℕ) → i < length ds → after n (take (suc i) ds) ≡ 10 * after n (take i ds) + (get_or ds i 0 - 48)
after_more n [] i h = absurd (omega arith)
after_more n (d ∷ ds) zero h = refl
after_more n (d ∷ ds) (suc i) h = after_more (10 * n + (d - 48)) ds i (omega arith)

least : (cycles n d m : ℕ) → cycles ≡ min (MAX_CYCLES + 1) n → m ≡ 10 * n + d → min (10 * cycles + d) (MAX_CYCLES + 1) ≡ min (MAX_CYCLES + 1) m
least cycles n d m e f = omega arith

pub number_more : (cycles : ℕ) (ds : List ℕ) (i : ℕ) → i < length ds → cycles ≡ min (MAX_CYCLES + 1) (number_of (take i ds)) →
    min (10 * cycles + (get_or ds i 0 - 48)) (MAX_CYCLES + 1) ≡ min (MAX_CYCLES + 1) (number_of (take (i + 1) ds))
number_more cycles ds i h e =
    let next : i + 1 ≡ suc i = omega arith in
    least cycles (number_of (take i ds)) (get_or ds i 0 - 48) (number_of (take (i + 1) ds)) e (ap (λ k. number_of (take k ds)) next ∙ after_more 0 ds i h)
