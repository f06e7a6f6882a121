-- Literals and their codes.
use Rattle.std.proofs.Common.{◌≡◌, ℕ, ◌+◌, ◌*◌, ◌/◌, ◌%◌, true, false, cond, List, [], ◌∷◌, map, eqb, refl, arith, ap, sym, ◌∙◌, inl, inr}
use Rattle.std.proofs.lemmas.Bool.{eq-eqb, ne_eqb, cases_eq}
use Rattle.bs_clause.specs.Literal.{Literal, code_of, literal_of}

-- each literal is that of its code
pub literal_back : (l : Literal) → literal_of (code_of l) ≡ l
literal_back l =
    elim (l.positive) as (λ b. literal_of (2 * l.variable + cond b 0 1) ≡ record { variable = l.variable; positive = b }) [
      | true ↦ let v : (2 * l.variable + 0) / 2 ≡ l.variable = omega arith in
          let p : eqb ((2 * l.variable + 0) % 2) 0 ≡ true = eq-eqb ((2 * l.variable + 0) % 2) 0 (omega arith) in
          λ i. record { variable = v i; positive = p i }
      | false ↦ let v : (2 * l.variable + 1) / 2 ≡ l.variable = omega arith in
          let p : eqb ((2 * l.variable + 1) % 2) 0 ≡ false = ne_eqb ((2 * l.variable + 1) % 2) 0 (λ e. omega arith) in
          λ i. record { variable = v i; positive = p i }
    ]

-- literals of one code are the same
pub literals_same : (a b : Literal) → code_of a ≡ code_of b → a ≡ b
literals_same a b e = sym (literal_back a) ∙ ap literal_of e ∙ literal_back b

pub literals_back : (ls : List Literal) → map literal_of (map code_of ls) ≡ ls
literals_back [] = refl
literals_back (l ∷ ls) = λ i. literal_back l i ∷ literals_back ls i

-- each number is the code of its literal
pub code_back : (code : ℕ) → code_of (literal_of code) ≡ code
code_back code = elim (cases_eq (code % 2) 0) [
  | inl even ↦ ap (λ b. 2 * (code / 2) + cond b 0 1) (eq-eqb (code % 2) 0 even) ∙ omega (arith, even)
  | inr odd ↦ ap (λ b. 2 * (code / 2) + cond b 0 1) (ne_eqb (code % 2) 0 odd) ∙ omega (arith, odd)
]

pub codes_back : (codes : List ℕ) → map code_of (map literal_of codes) ≡ codes
codes_back [] = refl
codes_back (c ∷ cs) = λ i. code_back c i ∷ codes_back cs i
