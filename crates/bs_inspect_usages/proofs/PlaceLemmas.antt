-- The words by position: how many there are, the third of them, and what is said by them.
use Rattle.std.proofs.Common.{◌≡◌, ◌≤◌, ◌<◌, ◌+◌, ℕ, zero, suc, arith, Bool, true, false, List, [], ◌∷◌, length, map, get_or, Option, Some, None, Result, Vec, refl, ap, sym, ◌∙◌, subst}
use Rattle.std.specs.Prelude.{IfOk, slice_index_or, if◌then◌else◌}
use Rattle.std.specs.Borrow.{Bor}
use Rattle.std.specs.declared.alloc.Global.{Global}
use Rattle.std.proofs.lemmas.List.{length-map}
use Rattle.bs_bits.specs.declared.memory.NoMemory.{NoMemory}
use Rattle.bs_top_words.specs.Asked.{given_in}
use Rattle.bs_top_words.specs.Given.{Given}
use Rattle.bs_top_words.specs.declared.given.Given.{Given as CodeGiven}
use Rattle.bs_inspect_usages.specs.Usages.{counted_text, is_bad_run, is_miscounted, placed_text, run_text, stand_by, stand_sentence, third_text}

abbrev Texts : Type 0
Texts = List (Bor (List ℕ))

abbrev shown : Texts → List (List ℕ)
shown texts = map (λ s. s.now) texts

-- ---- a word

pub count_is : (words : List (Bor (List ℕ))) (n : ℕ) → n ≡ length words → n ≡ length (map (λ s. s.now) words)
count_is words n e = e ∙ sym (length-map words (λ (s : Bor (List ℕ)). s.now))

there : (words : Texts) (i : ℕ) (word : Bor (List ℕ)) (bytes : List ℕ) → i < length words → word ≡ get_or words i word → bytes ≡ word.now →
    bytes ≡ slice_index_or (shown words) i []
there [] i word bytes lt e is = absurd (omega (arith, lt))
there (w ∷ ws) zero word bytes lt e is = is ∙ ap (λ (b : Bor (List ℕ)). b.now) e
there (w ∷ ws) (suc i) word bytes lt e is = there ws i word bytes (omega (arith, lt)) e is

at_place : (words : Texts) (i : ℕ) (d : Bor (List ℕ)) → i < length words → (get_or words i d).now ≡ slice_index_or (shown words) i []
at_place [] i d lt = absurd (omega (arith, lt))
at_place (w ∷ ws) zero d lt = refl
at_place (w ∷ ws) (suc i) d lt = at_place ws i d (omega (arith, lt))

past : (words : Texts) (i : ℕ) → length words ≤ i → [] ≡ slice_index_or (shown words) i []
past [] i le = refl
past (w ∷ ws) zero le = absurd (omega (arith, le))
past (w ∷ ws) (suc i) le = past ws i (omega (arith, le))

pub third_there : (words : List (Bor (List ℕ))) (word : Bor (List ℕ)) (bytes : List ℕ) → 2 < length words → word ≡ get_or words 2 word → bytes ≡ word.now →
    bytes ≡ slice_index_or (map (λ s. s.now) words) 2 []
third_there words word bytes lt e is = there words 2 word bytes lt e is

pub third_at : (words : List (Bor (List ℕ))) (d : Bor (List ℕ)) (bytes : List ℕ) → 2 < length words → bytes ≡ (get_or words 2 d).now →
    bytes ≡ slice_index_or (map (λ s. s.now) words) 2 []
third_at words d bytes lt is = is ∙ at_place words 2 d lt

pub third_past : (words : List (Bor (List ℕ))) → length words ≤ 2 → [] ≡ slice_index_or (map (λ s. s.now) words) 2 []
third_past words le = past words 2 le

-- ---- what is said

abbrev Said : Type 0
Said = Result (Vec ℕ Global) NoMemory

abbrev by_run : List ℕ → Bool → Said → Type 0
by_run third b r = IfOk r (λ n. n.items ≡ (if b then run_text third else stand_sentence))

pub run_said : (command third : List ℕ) (b : Bool) (r : Result (Vec ℕ Global) NoMemory) → b ≡ is_bad_run command third → b ≡ true →
    IfOk r (λ n. n.items ≡ run_text third) → IfOk r (λ n. n.items ≡ third_text command third)
run_said command third b r e is says = subst (λ (c : Bool). by_run third c r) (sym is ∙ e) says

pub stand_said : (command third : List ℕ) (b : Bool) (r : Result (Vec ℕ Global) NoMemory) → b ≡ is_bad_run command third → b ≡ false →
    IfOk r (λ n. n.items ≡ stand_sentence) → IfOk r (λ n. n.items ≡ third_text command third)
stand_said command third b r e is says = subst (λ (c : Bool). by_run third c r) (sym is ∙ e) says

abbrev by_count : (command : List ℕ) → ℕ → (third : List ℕ) → Bool → Said → Type 0
by_count command count third b r = IfOk r (λ n. n.items ≡ (if b then counted_text count else third_text command third))

pub count_said : (command : List ℕ) (count : ℕ) (third : List ℕ) (b : Bool) (r : Result (Vec ℕ Global) NoMemory) → b ≡ is_miscounted command count → b ≡ true →
    IfOk r (λ n. n.items ≡ counted_text count) → IfOk r (λ n. n.items ≡ placed_text command count third)
count_said command count third b r e is says = subst (λ (c : Bool). by_count command count third c r) (sym is ∙ e) says

pub third_said : (command : List ℕ) (count : ℕ) (third : List ℕ) (b : Bool) (r : Result (Vec ℕ Global) NoMemory) → b ≡ is_miscounted command count → b ≡ false →
    IfOk r (λ n. n.items ≡ third_text command third) → IfOk r (λ n. n.items ≡ placed_text command count third)
third_said command count third b r e is says = subst (λ (c : Bool). by_count command count third c r) (sym is ∙ e) says

abbrev by_positions : List ℕ → Texts → List ℕ
by_positions command texts = placed_text command (length (shown texts)) (slice_index_or (shown texts) 2 [])

pub given_said : (command : List ℕ) (found : Option Given) (g : CodeGiven) (slice : List (Bor (List ℕ))) (said : List ℕ) → Some (given_in g) ≡ found →
    slice ≡ g.positions.items →
    said ≡ placed_text command (length (map (λ s. s.now) slice)) (slice_index_or (map (λ s. s.now) slice) 2 []) → said ≡ stand_by command found
given_said command found g slice said e same is = is ∙ (ap (by_positions command) same ∙ ap (stand_by command) e)

pub none_said : (command : List ℕ) (found : Option Given) (said : List ℕ) → None ≡ found → said ≡ stand_sentence → said ≡ stand_by command found
none_said command found said e is = is ∙ ap (stand_by command) e
