use Rattle.std.proofs.Common.{◌≡◌, ap, sym, ◌∙◌, ◌++◌, ◌∷◌, [], map, length, List, ℕ, Some, None}
use Rattle.std.specs.String.{string_bytes}
use Rattle.bs_net.specs.Names.{number_of}
use Rattle.bs_net.proofs.NamesLemmas.{keys_after, place_after, appended, appended_number}
use Rattle.bs_lex.proofs.naming.NameTable.append.Goals as goal

pub returns-clause-ok : goal.returns-clause-ok
returns-clause-ok c =
    let none : number_of (map string_bytes c.self.inside.names.keys) c.args.name.now ≡ None = rw c.self.view_is c.requires.absent in
    ap (map string_bytes) c.in_ok-number.ensures.keys
    ∙ (keys_after c.self.inside.names.keys c.in_ok-text.text c.args.name.now c.in_ok-text.ensures.ok none
    ∙ (ap (λ (names : List (List ℕ)). names ++ c.args.name.now ∷ []) c.self.view_is
    ∙ appended c.args.self.now c.args.name.now c.requires.absent))

pub returns-clause-number : goal.returns-clause-number
returns-clause-number c =
    let none : number_of (map string_bytes c.self.inside.names.keys) c.args.name.now ≡ None = rw c.self.view_is c.requires.absent in
    let keys : map string_bytes c.insert_full.new.self.keys ≡ c.args.self.now ++ c.args.name.now ∷ [] =
    ap (map string_bytes) c.in_ok-number.ensures.keys
    ∙ (keys_after c.self.inside.names.keys c.in_ok-text.text c.args.name.now c.in_ok-text.ensures.ok none
    ∙ ap (λ (names : List (List ℕ)). names ++ c.args.name.now ∷ []) c.self.view_is) in
    ap Some (place_after c.self.inside.names.keys c.in_ok-text.text c.args.name.now _ c.in_ok-text.ensures.ok none c.in_ok-number.ensures.index)
    ∙ (ap (λ (names : List (List ℕ)). Some (length names)) c.self.view_is
    ∙ (sym (appended_number c.args.self.now c.args.name.now c.requires.absent)
    ∙ ap (λ (names : List (List ℕ)). number_of names c.args.name.now) (sym keys)))
