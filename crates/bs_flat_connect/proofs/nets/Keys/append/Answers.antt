use Rattle.std.proofs.Common.{◌≡◌, ap, ◌∙◌, ◌++◌, ◌∷◌, [], map, length, List, ℕ, None}
use Rattle.std.specs.String.{string_bytes}
use Rattle.bs_net.specs.Names.{number_of}
use Rattle.bs_net.proofs.NamesLemmas.{keys_after, place_after}
use Rattle.bs_flat_connect.proofs.nets.Keys.append.Goals as goal

pub returns-clause-ok : goal.returns-clause-ok
returns-clause-ok c =
    let none : number_of (map string_bytes c.self.inside.keys.keys) c.args.key.now ≡ None = rw c.self.view_is c.requires.absent in
    ap (map string_bytes) c.in_ok-index.ensures.keys
    ∙ (keys_after c.self.inside.keys.keys c.in_ok-text.text c.args.key.now c.in_ok-text.ensures.ok none
    ∙ ap (λ (names : List (List ℕ)). names ++ c.args.key.now ∷ []) c.self.view_is)

pub returns-clause-number : goal.returns-clause-number
returns-clause-number c =
    let none : number_of (map string_bytes c.self.inside.keys.keys) c.args.key.now ≡ None = rw c.self.view_is c.requires.absent in
    place_after c.self.inside.keys.keys c.in_ok-text.text c.args.key.now _ c.in_ok-text.ensures.ok none c.in_ok-index.ensures.index
    ∙ ap length c.self.view_is
