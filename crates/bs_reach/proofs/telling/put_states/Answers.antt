use Rattle.std.proofs.Common.{◌≡◌, ◌++◌, ◌∷◌, ◌∙◌, [], List, Bool, ap, sym, ℕ, zero-add, rules}
use Rattle.std.proofs.lemmas.List.FromFn.{map-range_with_len_more}
use Rattle.bs_solve_lemmas.specs.Values.{value_of}
use Rattle.bs_encode.specs.Cycle.{bits_on}
use Rattle.bs_reach_unrolled.specs.Unrolled.{states_at}
use Rattle.bs_reach.proofs.telling.put_states.Goals as goal

pub frames-preserved : goal.frames-preserved
frames-preserved c =
    let f = λ (i : ℕ). bits_on (value_of c.args.values.now) (states_at c.args.encoding.now i) in
    let grown : c.push.new.self ≡ c.frames.states ++ f c.frames.i ∷ [] = search rules in
    grown
    ∙ (ap (λ (l : List (List Bool)). l ++ f c.frames.i ∷ []) c.frames.invariant
    ∙ sym (map-range_with_len_more f 0 c.frames.i c.frames.i (zero-add c.frames.i)))
