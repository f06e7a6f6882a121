-- The sources of names, one after another.
use Rattle.std.proofs.Common.{◌≡◌, ℕ, ◌<◌, ◌≤◌, ◌+◌, ◌*◌, ◌^◌, ◌&&◌, nat_lt, nat_le, fold, arith, Bool, true, false, Some, None, refl, subst, List, [], ◌∷◌, ◌++◌, length, map, take, get_or, Option, ap, sym, ◌∙◌}
use Rattle.std.specs.Prelude.{if◌then◌else◌}
use Rattle.std.specs.Borrow.{Bor}
use Rattle.std.specs.List.{list_all}
use Rattle.std.proofs.lemmas.Bool.{and_parts, leb-true}
use Rattle.bs_bits.specs.Lines.{is_name, is_visible}
use Rattle.bs_vcd_header.specs.Words.{id_in, if_small, packed}
use Rattle.std.proofs.lemmas.List.{length-map, map-append, map_more}
use Rattle.bs_net_names.specs.Keys.{key_parts}
use Rattle.bs_vcd_header.specs.declared.sources.BitSource.{BitSource}
use Rattle.bs_vcd_header.specs.Header.{HeaderDeclarations}
use Rattle.bs_vcd_header.specs.Sources.{source_in}
use Rattle.bs_vcd.specs.Found.{or_nowhere, sources_of}

-- a name more
pub sources_more : (d : HeaderDeclarations) (path : List ℕ) (names : List (Bor (List ℕ))) (i : ℕ) (k : Bor (List ℕ)) (sources after : List (Option BitSource))
    (source : Option BitSource) → i < length names → sources ≡ sources_of d path (map (λ name. name.now) (take i names)) →
    source ≡ source_in d.paths path (key_parts (get_or names i k).now) d.variables → after ≡ sources ++ source ∷ [] →
    after ≡ sources_of d path (map (λ name. name.now) (take (i + 1) names))
sources_more d path names i k sources after source lt e is goes =
    let own : List ℕ → Option BitSource = λ (name : List ℕ). source_in d.paths path (key_parts name) d.variables in
    let now : Bor (List ℕ) → List ℕ = λ (name : Bor (List ℕ)). name.now in
    goes
    ∙ ((λ j. e j ++ is j ∷ [])
    ∙ sym (ap (map own) (map_more now names i k lt) ∙ map-append own (map now (take i names)) (now (get_or names i k) ∷ [])))

-- as many sources as names
pub sources_count : (d : HeaderDeclarations) (path : List ℕ) (names : List (Bor (List ℕ))) (sources : List (Option BitSource)) →
    sources ≡ sources_of d path (map (λ name. name.now) names) → length sources ≡ length names
sources_count d path names sources e =
    let own : List ℕ → Option BitSource = λ (name : List ℕ). source_in d.paths path (key_parts name) d.variables in
    let now : Bor (List ℕ) → List ℕ = λ (name : Bor (List ℕ)). name.now in
    ap length e ∙ (length-map (map now names) own ∙ length-map names now)

-- a source more
pub nowhere_more : (sources : List (Option BitSource)) (i : ℕ) (d : Option BitSource) (inputs after : List BitSource) (s : BitSource) → i < length sources →
    inputs ≡ map or_nowhere (take i sources) → s ≡ or_nowhere (get_or sources i d) → after ≡ inputs ++ s ∷ [] →
    after ≡ map or_nowhere (take (i + 1) sources)
nowhere_more sources i d inputs after s lt e is goes = goes ∙ ((λ j. e j ++ is j ∷ []) ∙ sym (map_more or_nowhere sources i d lt))

-- ---- identifier codes

more_is : (text : List ℕ) (n : ℕ) → 0 < n → 0 < fold (λ n b. 256 * n + b) n text
more_is [] n some = some
more_is (b ∷ bs) n some = more_is bs (256 * n + b) (omega (arith, some))

visible_is : (b : ℕ) (bs : List ℕ) → is_name (b ∷ bs) ≡ true → 0 < b
visible_is b bs e =
    let each : list_all (λ b. nat_le 33 b && nat_le b 126) (b ∷ bs) ≡ true = (and_parts (nat_lt 0 (length (b ∷ bs))) (is_visible (b ∷ bs)) e).1 in
    let front : (nat_le 33 b && nat_le b 126) ≡ true = (and_parts (nat_le 33 b && nat_le b 126) (list_all (λ b. nat_le 33 b && nat_le b 126) bs) each).0 in
    let least : 33 ≤ b = leb-true 33 b (and_parts (nat_le 33 b) (nat_le b 126) front).0 in
    omega (arith, least)

pub code_is_somewhere : (text : List ℕ) (id : ℕ) → id_in text ≡ Some id → 0 < id
code_is_somewhere [] id e = absurd cc
code_is_somewhere (b ∷ bs) id e = by (is_name (b ∷ bs)) refl e
  where
    small : (small : Bool) (n : ℕ) → 0 < n → (if small then Some n else None) ≡ Some id → 0 < id
    small true n some is = let same : n ≡ id = cc in subst (λ (k : ℕ). 0 < k) same some
    small false n some is = absurd cc

    by : (named : Bool) → is_name (b ∷ bs) ≡ named → (if named then if_small (packed (b ∷ bs)) else None) ≡ Some id → 0 < id
    by true named is =
        small (nat_lt (packed (b ∷ bs)) (2 ^ 64)) (packed (b ∷ bs)) (more_is bs (256 * 0 + b) (omega (arith, visible_is b bs named))) is
    by false named is = absurd cc
