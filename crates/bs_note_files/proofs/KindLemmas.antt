-- The lines of a text, up to one that begins a module.
use Rattle.std.proofs.Common.{◌≡◌, ℕ, Bool, true, false, List, [], ◌∷◌, ap, sym, ◌∙◌}
use Rattle.std.specs.Prelude.{◌||◌}
use Rattle.std.specs.List.{list_any}
use Rattle.bs_bits.specs.Lines.{lines_of}
use Rattle.bs_note_files.specs.Kinds.{begins_module}

module_step : (rest line behind : List ℕ) (b goal : Bool) → lines_of rest ≡ line ∷ lines_of behind → b ≡ begins_module line →
    list_any begins_module (lines_of rest) ≡ goal → (b || list_any begins_module (lines_of behind)) ≡ goal
module_step rest line behind b goal cut is e =
    ap (λ (z : Bool). z || list_any begins_module (lines_of behind)) is ∙ (sym (ap (list_any begins_module) cut) ∙ e)

pub module_found : (rest line behind : List ℕ) (b goal : Bool) → lines_of rest ≡ line ∷ lines_of behind → b ≡ begins_module line →
    list_any begins_module (lines_of rest) ≡ goal → b ≡ true → true ≡ goal
module_found rest line behind b goal cut is e t =
    sym (ap (λ (z : Bool). z || list_any begins_module (lines_of behind)) t) ∙ module_step rest line behind b goal cut is e

pub module_next : (rest line behind : List ℕ) (b goal : Bool) → lines_of rest ≡ line ∷ lines_of behind → b ≡ begins_module line →
    list_any begins_module (lines_of rest) ≡ goal → b ≡ false → list_any begins_module (lines_of behind) ≡ goal
module_next rest line behind b goal cut is e f =
    sym (ap (λ (z : Bool). z || list_any begins_module (lines_of behind)) f) ∙ module_step rest line behind b goal cut is e

pub module_none : (rest : List ℕ) (goal : Bool) → lines_of rest ≡ [] → list_any begins_module (lines_of rest) ≡ goal → false ≡ goal
module_none rest goal none e = sym (ap (list_any begins_module) none) ∙ e
