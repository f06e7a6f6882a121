-- A text whose last lexeme is its only `endmodule`, with no attribute open there; and readings that go the same way whatever
-- stands behind such a text.
use Rattle.std.proofs.Common.{◌≡◌, ℕ, zero, suc, ◌+◌, ◌-◌, ◌<◌, ◌≤◌, ◌==◌, Bool, true, false, cond, not, ◌&&◌, [], ◌∷◌, ◌++◌, length, drop}
use Rattle.std.proofs.Common.{get_or, Result, Ok, Err, refl, sym, ap, ◌∙◌, subst, arith}
use Rattle.std.proofs.lemmas.Bool.{eqb-true, ne_eqb}
use Rattle.std.proofs.lemmas.List.{drop_more, drop_all, length-drop}
use Rattle.bs_bits.specs.Reading.{◌>>=◌}
use Prim.Native.String.{String}
use Rattle.bs_lex.specs.Bytes.{◌∈◌}
use Rattle.bs_lex.specs.Packed.{Lexeme}
use Rattle.bs_lex.specs.Lexemes.{is_name}
use Rattle.bs_lex.specs.declared.lexeme.Sort.{Sort}
use Rattle.bs_lex.specs.declared.lexeme.Sort.TheVariants as sorts
use Rattle.bs_verilog_syntax.specs.Reading.{Rest, Read, Skip, at, sort, rest, is_at}
use Rattle.bs_verilog_syntax.specs.Unsupported.{symbol}
use Rattle.bs_verilog_syntax.specs.Modules.{is_endmodule}
use Rattle.bs_flat_modules.specs.Items.{stays_inside}
use Rattle.bs_flat_modules.specs.Alone.{is_shut}

abbrev pub is_open : Sort → Bool
is_open sorts.AttrOpen = true
is_open _ = false

abbrev pub is_close : Sort → Bool
is_close sorts.AttrClose = true
is_close _ = false

-- an attribute that is open is closed in what follows
pub data Closes : Rest → Type 0 where
  now : {t : Lexeme} {ts : Rest} → is_close t.sort ≡ true → Closes (t ∷ ts)
  later : {t : Lexeme} {ts : Rest} → Closes ts → Closes (t ∷ ts)

-- `endmodule` stands last alone, and each attribute that begins is closed before
pub data Shut : Rest → Type 0 where
  last : {t : Lexeme} → is_endmodule t.sort ≡ true → Shut (t ∷ [])
  on : {t : Lexeme} {ts : Rest} → is_endmodule t.sort ≡ false → (is_open t.sort ≡ true → Closes ts) → Shut ts → Shut (t ∷ ts)

-- ---- by the test

pub true_is_not_false : ◌≡◌ {A = Bool} true false → ⊥
true_is_not_false e = cc

not_both : (b c : Bool) → (not b && c) ≡ true → (b ≡ false) × (c ≡ true)
not_both true c e = absurd (none e)
  where
    none : ◌≡◌ {A = Bool} false true → ⊥
    none e = cc
not_both false c e = (refl, e)

nothing_more : (ts : Rest) → (length ts == 0) ≡ true → ts ≡ []
nothing_more [] e = refl
nothing_more (t ∷ ts) e = absurd (omega (arith, eqb-true (length (t ∷ ts)) 0 e))

pub record IsShutIn (inside : Bool) (ts : Rest) : Type 0 where
  pub shut : Shut ts
  pub closes : inside ≡ true → Closes ts

pub shut_in : (inside : Bool) (ts : Rest) → is_shut inside ts ≡ true → IsShutIn inside ts
unfolding is_shut
shut_in inside [] e = absurd cc
shut_in inside (t ∷ ts) e = by (is_endmodule t.sort) refl e (λ f. shut_in (stays_inside inside t.sort) ts f)
  where
    opened : (s : Sort) → is_open s ≡ true → stays_inside inside s ≡ true
    opened sorts.AttrOpen o = refl
    opened (sorts.Word w) o = absurd cc
    opened (sorts.Name n) o = absurd cc
    opened (sorts.Bit b) o = absurd cc
    opened (sorts.Digits n) o = absurd cc
    opened (sorts.Symbol c) o = absurd cc
    opened _ o = absurd cc

    open_on : (s : Sort) → t.sort ≡ s → inside ≡ true → (stays_inside inside s ≡ true → Closes ts) → Closes (t ∷ ts)
    open_on sorts.AttrClose same i k = now (ap is_close same)
    open_on sorts.AttrOpen same i k = later (k refl)
    open_on (sorts.Word w) same i k = later (k i)
    open_on (sorts.Name n) same i k = later (k i)
    open_on (sorts.Bit b) same i k = later (k i)
    open_on (sorts.Digits n) same i k = later (k i)
    open_on (sorts.Symbol c) same i k = later (k i)
    open_on _ same i k = later (k i)

    by : (b : Bool) → is_endmodule t.sort ≡ b
        → cond b (not inside && length ts == 0) (is_shut (stays_inside inside t.sort) ts) ≡ true
        → (is_shut (stays_inside inside t.sort) ts ≡ true → IsShutIn (stays_inside inside t.sort) ts) → IsShutIn inside (t ∷ ts)
    by true m e further =
        let both = not_both inside (length ts == 0) e in
        let none = nothing_more ts both.1 in
        record {
          shut = subst (λ (xs : Rest). Shut (t ∷ xs)) (sym none) (last m);
          closes = λ i. absurd (true_is_not_false (sym i ∙ both.0));
        }
    by false m e further =
        let k = further e in
        record {
          shut = on m (λ o. k.closes (opened t.sort o)) k.shut;
          closes = λ i. open_on t.sort refl i k.closes;
        }

-- ---- the test, lexeme by lexeme

pub record IsShutting (ts : Rest) (inside : Bool) (i left : ℕ) : Type 0 where
  pub left_is : left + i ≡ length ts
  pub same : is_shut inside (drop i ts) ≡ is_shut false ts

pub shut_start : (ts : Rest) → IsShutting ts false 0 (length ts)
shut_start ts = record { left_is = omega arith; same = refl }

shut_on : (inside : Bool) (t : Lexeme) (ts : Rest) → is_endmodule t.sort ≡ false → is_shut inside (t ∷ ts) ≡ is_shut (stays_inside inside t.sort) ts
unfolding is_shut
shut_on inside t ts e = ap (λ b. cond b (not inside && length ts == 0) (is_shut (stays_inside inside t.sort) ts)) e

shut_here : (inside : Bool) (t : Lexeme) (ts : Rest) → is_endmodule t.sort ≡ true → is_shut inside (t ∷ ts) ≡ (not inside && length ts == 0)
unfolding is_shut
shut_here inside t ts e = ap (λ b. cond b (not inside && length ts == 0) (is_shut (stays_inside inside t.sort) ts)) e

pub shut_step : (ts : Rest) (inside : Bool) (i left : ℕ) (d : Lexeme) → i < length ts → is_endmodule (get_or ts i d).sort ≡ false
    → IsShutting ts inside i left → IsShutting ts (stays_inside inside (get_or ts i d).sort) (i + 1) (left - 1)
shut_step ts inside i left d h e s =
    let count = s.left_is in
    record {
      left_is = omega (arith, count, h);
      same =
          sym (shut_on inside (get_or ts i d) (drop (i + 1) ts) e) ∙ ap (is_shut inside) (sym (drop_more ts i d h)) ∙ s.same;
    }

pub shut_found : (ts : Rest) (inside : Bool) (i left : ℕ) (d : Lexeme) → i < length ts → is_endmodule (get_or ts i d).sort ≡ true
    → IsShutting ts inside i left → (not inside && (left == 1)) ≡ is_shut false ts
shut_found ts inside i left d h e s =
    let count = s.left_is in
    let more : length (drop (i + 1) ts) ≡ length ts - (i + 1) = length-drop (i + 1) ts in
    let same : (left == 1) ≡ (length (drop (i + 1) ts) == 0) = by left (length (drop (i + 1) ts)) (omega (arith, count, more, h)) in
    ap (λ b. not inside && b) same ∙ sym (shut_here inside (get_or ts i d) (drop (i + 1) ts) e)
    ∙ ap (is_shut inside) (sym (drop_more ts i d h)) ∙ s.same
  where
    by : (a b : ℕ) → a ≡ b + 1 → (a == 1) ≡ (b == 0)
    by a zero e = ap (λ k. k == 1) e
    by a (suc b) e = ne_eqb a 1 (λ f. omega (arith, e, f)) ∙ sym (ne_eqb (suc b) 0 (λ f. omega (arith, f)))

pub shut_closed : (ts : Rest) (inside : Bool) (left : ℕ) → inside ≡ false → (not inside && (left == 1)) ≡ is_shut false ts → (left == 1) ≡ is_shut false ts
shut_closed ts inside left e f = ap (λ b. not b && (left == 1)) (sym e) ∙ f

pub shut_open : (ts : Rest) (inside : Bool) (left : ℕ) → inside ≡ true → (not inside && (left == 1)) ≡ is_shut false ts → not inside ≡ is_shut false ts
shut_open ts inside left e f = ap not e ∙ ap (λ b. not b && (left == 1)) (sym e) ∙ f

pub shut_none : (ts : Rest) (inside : Bool) (i left : ℕ) → length ts ≤ i → IsShutting ts inside i left → false ≡ is_shut false ts
unfolding is_shut
shut_none ts inside i left h s = ap (is_shut inside) (sym (drop_all i ts h)) ∙ s.same

-- ---- what is next

pub tail_shut : (ts : Rest) → Shut ts → is_endmodule (sort ts) ≡ false → Shut (rest ts)
tail_shut [] k e = absurd (elim k [ ])
tail_shut (t ∷ ts) (last m) e = absurd (true_is_not_false (sym m ∙ e))
tail_shut (t ∷ ts) (on m o k) e = k

-- nothing stands behind `endmodule`
pub shut_end : (t : Lexeme) (ts : Rest) → Shut (t ∷ ts) → is_endmodule t.sort ≡ true → ts ≡ []
shut_end t [] k e = refl
shut_end t (s ∷ ts) (on m o k) e = absurd (true_is_not_false (sym e ∙ m))

pub sort_more : (u ts : Rest) → Shut ts → sort (ts ++ u) ≡ sort ts
sort_more u [] k = absurd (elim k [ ])
sort_more u (t ∷ ts) k = refl

pub at_more : (u ts : Rest) → Shut ts → at (ts ++ u) ≡ at ts
at_more u [] k = absurd (elim k [ ])
at_more u (t ∷ ts) k = refl

pub rest_more : (u ts : Rest) → Shut ts → rest (ts ++ u) ≡ rest ts ++ u
rest_more u [] k = absurd (elim k [ ])
rest_more u (t ∷ ts) k = refl

-- ---- what is no `endmodule`

pub mark_passes : (s : String) → (0 ∈ s) ≡ false → (ts : Rest) → is_at s ts ≡ true → is_endmodule (sort ts) ≡ false
mark_passes s n [] e = refl
mark_passes s n (t ∷ ts) e = by t.sort e
  where
    by : (k : Sort) → (symbol k ∈ s) ≡ true → is_endmodule k ≡ false
    by (sorts.Word w) e = absurd (true_is_not_false (sym e ∙ n))
    by (sorts.Symbol c) e = refl
    by (sorts.Name c) e = refl
    by (sorts.Bit b) e = refl
    by (sorts.Digits d) e = refl
    by _ e = refl

pub name_passes : (s : Sort) → is_name s ≡ true → is_endmodule s ≡ false
name_passes (sorts.Name c) e = refl
name_passes (sorts.Word w) e = absurd cc
name_passes _ e = refl

-- ---- readings

abbrev pub Each : {A F : Type 0} → Result A F → (A → Type 0) → Type 0
Each (Ok x) Q = Q x
Each (Err e) Q = Unit {0}

-- what the one reads of a text that is shut, the other reads of the same text with more behind it
pub record Goes {A : Type 0} (u : Rest) (r s : Read A) : Type 0 where
  pub is : Each r (λ x. Shut x.1 × (s ≡ Ok (x.0, x.1 ++ u)))

-- the same of what has no value
pub record Passes (u : Rest) (r s : Skip) : Type 0 where
  pub is : Each r (λ x. Shut x × (s ≡ Ok (x ++ u)))

-- the same where all of the text is read
pub record Ends {A : Type 0} (u : Rest) (r s : Read A) : Type 0 where
  pub is : Each r (λ x. (x.1 ≡ []) × (s ≡ Ok (x.0, u)))

pub goes_then : {A B : Type 0} {u : Rest} (r s : Read A) (f g : A × Rest → Read B) → Goes u r s
    → ((x : A × Rest) → Shut x.1 → Goes u (f x) (g (x.0, x.1 ++ u))) → Goes u (r >>= f) (s >>= g)
goes_then {A} {B} {u} (Ok x) s f g h k = subst (λ (v : Read A). Goes u (f x) (v >>= g)) (sym h.is.1) (k x h.is.0)
goes_then (Err e) s f g h k = record { is = tt }

pub goes_pass : {A : Type 0} {u : Rest} (r s : Read A) (f g : A × Rest → Skip) → Goes u r s
    → ((x : A × Rest) → Shut x.1 → Passes u (f x) (g (x.0, x.1 ++ u))) → Passes u (r >>= f) (s >>= g)
goes_pass {A} {u} (Ok x) s f g h k = subst (λ (v : Read A). Passes u (f x) (v >>= g)) (sym h.is.1) (k x h.is.0)
goes_pass (Err e) s f g h k = record { is = tt }

pub pass_then : {B : Type 0} {u : Rest} (r s : Skip) (f g : Rest → Read B) → Passes u r s
    → ((x : Rest) → Shut x → Goes u (f x) (g (x ++ u))) → Goes u (r >>= f) (s >>= g)
pass_then {B} {u} (Ok x) s f g h k = subst (λ (v : Skip). Goes u (f x) (v >>= g)) (sym h.is.1) (k x h.is.0)
pass_then (Err e) s f g h k = record { is = tt }

pub pass_pass : {u : Rest} (r s : Skip) (f g : Rest → Skip) → Passes u r s
    → ((x : Rest) → Shut x → Passes u (f x) (g (x ++ u))) → Passes u (r >>= f) (s >>= g)
pass_pass {u} (Ok x) s f g h k = subst (λ (v : Skip). Passes u (f x) (v >>= g)) (sym h.is.1) (k x h.is.0)
pass_pass (Err e) s f g h k = record { is = tt }

pub goes_end : {A B : Type 0} {u : Rest} (r s : Read A) (f g : A × Rest → Read B) → Goes u r s
    → ((x : A × Rest) → Shut x.1 → Ends u (f x) (g (x.0, x.1 ++ u))) → Ends u (r >>= f) (s >>= g)
goes_end {A} {B} {u} (Ok x) s f g h k = subst (λ (v : Read A). Ends u (f x) (v >>= g)) (sym h.is.1) (k x h.is.0)
goes_end (Err e) s f g h k = record { is = tt }

pub pass_end : {B : Type 0} {u : Rest} (r s : Skip) (f g : Rest → Read B) → Passes u r s
    → ((x : Rest) → Shut x → Ends u (f x) (g (x ++ u))) → Ends u (r >>= f) (s >>= g)
pass_end {B} {u} (Ok x) s f g h k = subst (λ (v : Skip). Ends u (f x) (v >>= g)) (sym h.is.1) (k x h.is.0)
pass_end (Err e) s f g h k = record { is = tt }

pub end_end : {A B : Type 0} {u : Rest} (r s : Read A) (f g : A × Rest → Read B) → Ends u r s
    → ((x : A × Rest) → x.1 ≡ [] → Ends u (f x) (g (x.0, u))) → Ends u (r >>= f) (s >>= g)
end_end {A} {B} {u} (Ok x) s f g h k = subst (λ (v : Read A). Ends u (f x) (v >>= g)) (sym h.is.1) (k x h.is.0)
end_end (Err e) s f g h k = record { is = tt }

pub goes_if : {A : Type 0} {u : Rest} (b : Bool) (p q v w : Read A) → (b ≡ true → Goes u p v) → (b ≡ false → Goes u q w)
    → Goes u (cond b p q) (cond b v w)
goes_if true p q v w f g = f refl
goes_if false p q v w f g = g refl

pub passes_if : {u : Rest} (b : Bool) (p q v w : Skip) → (b ≡ true → Passes u p v) → (b ≡ false → Passes u q w)
    → Passes u (cond b p q) (cond b v w)
passes_if true p q v w f g = f refl
passes_if false p q v w f g = g refl
