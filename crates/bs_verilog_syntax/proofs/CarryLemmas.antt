-- What the ports of a header declare, port by port.
use Rattle.std.proofs.Common.{◌≡◌, ℕ, ◌+◌, ◌<◌, ◌≤◌, List, [], ◌∷◌, ◌++◌, length, get_or, drop, refl, sym, ap, ◌∙◌, append_assoc}
use Rattle.std.proofs.lemmas.List.{drop_more, drop_all, append-nil}
use Rattle.std.specs.Prelude.{unwrap_or}
use Rattle.bs_verilog_syntax.specs.declared.tree.Says.{Says}
use Rattle.bs_verilog_syntax.specs.declared.tree.Declared.{Declared}
use Rattle.bs_verilog_syntax.specs.declared.tree.HeaderPort.{HeaderPort}
use Rattle.bs_verilog_syntax.specs.Declarations.{carried, passed_on}

step : (before : Says) (p : HeaderPort) (ps : List HeaderPort)
    → carried before (p ∷ ps) ≡ record { says = unwrap_or p.says (passed_on before); name = p.name } ∷ carried (unwrap_or p.says (passed_on before)) ps
unfolding carried
step before p ps = refl

pub carried_on : (front : List Declared) (before says : Says) (ps : List HeaderPort) (i : ℕ) (d : HeaderPort) (total : List Declared) → i < length ps
    → says ≡ unwrap_or (get_or ps i d).says (passed_on before) → front ++ carried before (drop i ps) ≡ total
    → (front ++ record { says = says; name = (get_or ps i d).name } ∷ []) ++ carried says (drop (i + 1) ps) ≡ total
carried_on front before says ps i d total h e so_far =
    let here : carried before (drop i ps) ≡ record { says = says; name = (get_or ps i d).name } ∷ carried says (drop (i + 1) ps) =
    ap (carried before) (drop_more ps i d h) ∙ step before (get_or ps i d) (drop (i + 1) ps)
    ∙ ap (λ (s : Says). record { says = s; name = (get_or ps i d).name } ∷ carried s (drop (i + 1) ps)) (sym e) in
    append_assoc front (record { says = says; name = (get_or ps i d).name } ∷ []) (carried says (drop (i + 1) ps)) ∙ ap (λ xs. front ++ xs) (sym here) ∙ so_far

pub carried_end : (front : List Declared) (before : Says) (ps : List HeaderPort) (i : ℕ) (total : List Declared) → length ps ≤ i
    → front ++ carried before (drop i ps) ≡ total → total ≡ front
unfolding carried
carried_end front before ps i total h so_far =
    sym so_far ∙ ap (λ qs. front ++ carried before qs) (drop_all i ps h) ∙ append-nil front
