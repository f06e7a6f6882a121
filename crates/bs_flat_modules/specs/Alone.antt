-- A module's own text without what stands outside the modules, and when it says alone what it says with that.
use Rattle.std.specs.Prelude.{◌≡◌, ℕ, ◌==◌, Bool, true, false, not, ◌&&◌, if◌then◌else◌, List, [], ◌∷◌, ◌++◌, length, take, drop, All, ⊤, Option, Some, None, Ok}
use Rattle.std.specs.List.{list_all}
use Rattle.bs_lex.specs.Packed.{Lexeme}
use Rattle.bs_verilog_syntax.specs.declared.tree.Module.{Module}
use Rattle.bs_verilog_syntax.specs.Reading.{Rest, sort}
use Rattle.bs_verilog_syntax.specs.Modules.{syntax_of, is_end, is_endmodule, is_module}
use Rattle.bs_flat_meaning.specs.Pieces.{Piece}
use Rattle.bs_flat_modules.specs.declared.dealing.ModuleSpan.{ModuleSpan}
use Rattle.bs_flat_modules.specs.declared.owns.Own.{Own}
use Rattle.bs_flat_modules.specs.Copying.{part}
use Rattle.bs_flat_modules.specs.Items.{stays_inside}
use Rattle.bs_flat_modules.specs.Owns.{own_body, module_and_parts, said}

-- `endmodule` stands last and nowhere before, and no attribute is open there; the flag says that one is open at the begin
unfoldable pub is_shut : Bool → Rest → Bool
is_shut inside [] = false
is_shut inside (t ∷ ts) =
    if is_endmodule t.sort then not inside && length ts == 0
    else is_shut (stays_inside inside t.sort) ts

-- each piece is a module without an end of the text in it, but the last, which is the end of the text
pub data AreTidy : List Piece → Type 0 where
  text_end : (t : Lexeme) → is_end t.sort ≡ true → AreTidy (record { attributes = t ∷ []; body = [] } ∷ [])
  one_module : (p : Piece) (ps : List Piece) → is_module (sort p.body) ≡ true → list_all (λ t. not (is_end t.sort)) p.body ≡ true → AreTidy ps
      → AreTidy (p ∷ ps)

-- a module without an end of the text in it
abbrev pub is_whole_module : Rest → Bool
is_whole_module body = is_module (sort body) && list_all (λ t. not (is_end t.sort)) body

-- the flag says so of pieces only where they are tidy
pub record IsSure (tidy : Bool) (ps : List Piece) : Type 0 where
  pub sure : tidy ≡ true → AreTidy ps

-- the own text of the module at a place, without what stands outside the modules
abbrev pub own_alone : (ℕ → Bool) → Rest → ModuleSpan → Rest
own_alone marks ts p = part ts p.from p.body ++ own_body marks (part ts p.body p.stop)

-- a text that is shut says what it says alone also between so many of these lexemes and the others
pub record SaysAlike (others : Rest) (n : ℕ) : Type 0 where
  pub is : (x : Rest) (m : Module) → is_shut false x ≡ true → syntax_of x ≡ Ok m → syntax_of (take n others ++ (x ++ drop n others)) ≡ Ok m

-- where the flag is set, that holds at each of these places
pub record AlikeWhere (tidy : Bool) (others : Rest) (places : List ModuleSpan) : Type 0 where
  pub is : tidy ≡ true → All (λ p. SaysAlike others p.before) places

-- the same at one place
pub record IsAlikeWhere (tidy : Bool) (others : Rest) (place : ModuleSpan) : Type 0 where
  pub is : tidy ≡ true → SaysAlike others place.before

-- what was read of a text, if anything, is what it says, and the text is shut
abbrev pub IsSaidOf : List (List ℕ) → Rest → Option Own → Type 0
IsSaidOf table own None = ⊤
IsSaidOf table own (Some o) = (is_shut false own ≡ true) × (said table own ≡ Ok (module_and_parts o))

-- the same, and the flag is set
abbrev pub IsSaidWhere : Bool → List (List ℕ) → Rest → Option Own → Type 0
IsSaidWhere tidy table own None = ⊤
IsSaidWhere tidy table own (Some o) = (tidy ≡ true) × ((is_shut false own ≡ true) × (said table own ≡ Ok (module_and_parts o)))
