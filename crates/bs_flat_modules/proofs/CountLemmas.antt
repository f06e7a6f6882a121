-- Each module of the text is among those that are read.
use Rattle.std.proofs.Common.{◌≡◌, ℕ, ◌+◌, Bool, true, false, List, [], ◌∷◌, length, map, Result, Ok, Err, refl, sym, ap, ◌∙◌, arith}
use Rattle.std.specs.Prelude.{⊤, IfOk}
use Rattle.std.proofs.Math.Path.{subst}
use Rattle.std.proofs.lemmas.Bool.{false≢true}
use Rattle.std.proofs.lemmas.List.{length-map}
use Rattle.bs_bits.specs.Reading.{◌>>=◌, Answers}
use Rattle.bs_verilog_syntax.specs.declared.fault.VerilogFault.{VerilogFault}
use Rattle.bs_verilog_syntax.specs.Reading.{Rest}
use Rattle.bs_flat_meaning.specs.declared.fault.FlatFault.{FlatFault}
use Rattle.bs_flat_meaning.specs.declared.fault.FlatFault.TheVariants.{NoMemory}
use Rattle.bs_flat_meaning.specs.Pieces.{modules_of}
use Rattle.bs_flat_modules.specs.declared.dealing.ModuleSpan.{ModuleSpan}
use Rattle.bs_flat_modules.specs.declared.dealing.Dealt.{Dealt}
use Rattle.bs_flat_modules.specs.declared.owns.Modules.{Modules}
use Rattle.bs_flat_modules.specs.Copying.{part}
use Rattle.bs_flat_meaning.specs.declared.limits.TheConstants.{MAX_OWN_NETS}
use Rattle.bs_flat_meaning.specs.Reading.{◌then◌, as_verilog}
use Rattle.bs_flat_modules.specs.Names.{all_apart, begin}
use Rattle.bs_flat_modules.specs.Owns.{each_of, said, module_and_parts, own_text, owns, written, all_written}
use Rattle.bs_flat_modules.specs.Reading.{IsDealtOut, AreAll, parts_read, all_read, apart_or, apart}
use Rattle.bs_flat_modules.proofs.ReadLemmas.{modules_are, piece_in}
use Rattle.bs_flat_modules.proofs.WithinLemmas.{within_count}

abbrev is_ok : {A F : Type 0} → Result A F → Bool
is_ok (Ok x) = true
is_ok (Err e) = false

abbrev value_or : {A F : Type 0} → A → Result A F → A
value_or d (Ok x) = x
value_or d (Err e) = d

step_count : {B : Type 0} (r : Result B VerilogFault) (s : Result (List B) VerilogFault) (n : ℕ) (zs : List B)
    → (r >>= λ y. s >>= λ ys. Ok (y ∷ ys)) ≡ Ok zs → ((ys : List B) → s ≡ Ok ys → length ys ≡ n) → length zs ≡ n + 1
step_count (Err e) s n zs q rest = absurd (false≢true (ap is_ok q))
step_count (Ok y) (Err e) n zs q rest = absurd (false≢true (ap is_ok q))
step_count {B} (Ok y) (Ok ys) n zs q rest =
    let same : length (y ∷ ys) ≡ length zs = ap (λ (r : Result (List B) VerilogFault). length (value_or [] r)) q in
    let less = rest ys refl in
    omega (arith, same, less)

each_count : {A B : Type 0} (f : A → Result B VerilogFault) (xs : List A) (ys : List B) → each_of f xs ≡ Ok ys → length ys ≡ length xs
unfolding each_of
each_count {A} {B} f [] ys e = sym (ap (λ (r : Result (List B) VerilogFault). length (value_or [] r)) e)
each_count f (x ∷ xs) ys e =
    let all = step_count (f x) (each_of f xs) (length xs) ys e (λ zs q. each_count f xs zs q) in
    omega (arith, all)

abbrev pair_of : {A B : Type 0} → Result (List A) FlatFault → Result (List B) VerilogFault → Result (List A × List B) FlatFault
pair_of r s = r then (λ o. as_verilog s then (λ w. Ok (o, w)))

both_count : {A B : Type 0} (r : Result (List A) FlatFault) (s : Result (List B) VerilogFault) (n : ℕ) (os : List A) (ws : List B)
    → pair_of r s ≡ Ok (os, ws) → ((o : List A) → r ≡ Ok o → length o ≡ n) → ((w : List B) → s ≡ Ok w → length w ≡ n)
    → (length os ≡ n) × (length ws ≡ n)
both_count (Err e) s n os ws q left right = absurd (false≢true (ap is_ok q))
both_count (Ok o) (Err e) n os ws q left right = absurd (false≢true (ap is_ok q))
both_count {A} {B} (Ok o) (Ok w) n os ws q left right = (
  sym (ap (λ (r : Result (List A × List B) FlatFault). length (value_or (os, ws) r).0) q) ∙ left o refl,
  sym (ap (λ (r : Result (List A × List B) FlatFault). length (value_or (os, ws) r).1) q) ∙ right w refl,
)

all_are : (table : List (List ℕ)) (ts : Rest) (d : Dealt) (marks : ℕ → Bool) (m : Modules) → IsDealtOut ts d → all_read table marks ts d ≡ Ok (parts_read m)
    → AreAll ts m
all_are table ts d marks m out read =
    let counts =
    both_count (owns table marks d.others ts d.modules) (all_written marks ts d.modules) (length d.modules) (map module_and_parts m.owns) m.written read
    (λ os e. within_count (begin ts) (λ (p : ModuleSpan). as_verilog (said table (own_text marks d.others ts p))) MAX_OWN_NETS d.modules os e)
    (λ ws e. each_count (λ (p : ModuleSpan). written marks (part ts p.body p.stop)) d.modules ws e) in
    let there : length d.modules ≡ length (modules_of ts) = sym (length-map d.modules (piece_in ts)) ∙ ap length (modules_are ts d out.dealt) in
    record {
      owns = sym (length-map m.owns module_and_parts) ∙ (counts.0 ∙ there);
      written = counts.1 ∙ there;
    }

kept_apart : (m n : Modules) (r : Result ⊤ VerilogFault) → apart_or m r ≡ Ok n → m ≡ n
kept_apart m n (Ok done) e = ap (value_or m) e
kept_apart m n (Err fault) e = absurd (false≢true (ap is_ok e))

pub apart_all : (table : List (List ℕ)) (ts : Rest) (d : Dealt) (marks : ℕ → Bool) (m : Modules) (r : Result Modules FlatFault) → IsDealtOut ts d
    → all_read table marks ts d ≡ Ok (parts_read m) → Answers NoMemory (λ m. m) r (apart m) → IfOk r (λ n. AreAll ts n)
apart_all table ts d marks m (Ok n) out read a = subst (λ (x : Modules). AreAll ts x) (kept_apart m n (all_apart m.written) a) (all_are table ts d marks m out read)
apart_all table ts d marks m (Err fault) out read a = tt
