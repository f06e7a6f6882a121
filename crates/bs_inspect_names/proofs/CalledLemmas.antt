-- Names that stand for flip-flops, one by one.
use Rattle.std.proofs.Common.{◌≡◌, ℕ, ◌<◌, ◌≤◌, ◌+◌, ◌==◌, Bool, true, false, List, [], ◌∷◌, ◌++◌, length, map, take, drop, get_or}
use Rattle.std.proofs.Common.{Option, Some, None, refl, ap, sym, subst, ◌∙◌, append_assoc}
use Rattle.std.specs.Borrow.{Bor}
use Rattle.std.proofs.lemmas.Bool.{false≢true, true≢false}
use Rattle.std.proofs.lemmas.List.{drop_more, drop_all, take_all, take_more, map-append, append-nil}
use Rattle.bs_net.specs.Parts.{Parts}
use Rattle.bs_inspect_netlist.specs.declared.mark.Measure.TheVariants.{Source}
use Rattle.bs_inspect_names.specs.Cone.{IsCone, cone_line}
use Rattle.bs_inspect_netlist.specs.Marks.{AreMarks}
use Rattle.bs_inspect_names.specs.Called.{AddsCone, AddsName, AddsNames, AddsNets, TellsKeys, TellsName, TellsNames, first_unnamed, item_line, nets_named, shows_some}

abbrev bytes : List (Bor (List ℕ)) → List (List ℕ)
bytes names = map (λ s. s.now) names

-- ---- the line of a name

pub cone_added : (r : Parts) (name : List ℕ) (cone given : List Bool) (old new : List ℕ) → IsCone r name cone → given ≡ cone →
    new ≡ old ++ cone_line r given → AddsCone r name old new
cone_added r name cone given old new is same put = record {
  more = cone_line r cone;
  tells = record { cone = cone; is = is; says = refl };
  put = put ∙ ap (λ (t : List Bool). old ++ cone_line r t) same;
}

pub item_told : (r s : Parts) (sources name nets : List ℕ) (b : Bool) (old new : List ℕ) → s ≡ r → b ≡ shows_some s sources nets → b ≡ true →
    new ≡ old ++ item_line s sources nets → AddsNets r sources name nets old new
item_told r s sources name nets b old new same is held put =
    let shows : shows_some r sources nets ≡ true = ap (λ (p : Parts). shows_some p sources nets) (sym same) ∙ (sym is ∙ held) in
    record {
      more = item_line r sources nets;
      tells = record { item = λ e. refl; others = λ e. absurd (true≢false (sym shows ∙ e)) };
      put = put ∙ ap (λ (p : Parts). old ++ item_line p sources nets) same;
    }

pub cone_told : (r s : Parts) (sources name nets : List ℕ) (b : Bool) (old new : List ℕ) → s ≡ r → b ≡ shows_some s sources nets → b ≡ false →
    AddsCone r name old new → AddsNets r sources name nets old new
cone_told r s sources name nets b old new same is failed adds =
    let none : shows_some r sources nets ≡ false = ap (λ (p : Parts). shows_some p sources nets) (sym same) ∙ (sym is ∙ failed) in
    record {
      more = adds.more;
      tells = record { item = λ e. absurd (false≢true (sym none ∙ e)); others = λ e. adds.tells };
      put = adds.put;
    }

pub nets_told : (r s : Parts) (sources name nets slice : List ℕ) (old new : List ℕ) → s ≡ r → nets ≡ nets_named s name → slice ≡ nets →
    AddsNets r sources name slice old new → AddsName r sources name old new
nets_told r s sources name nets slice old new same are is adds =
    subst (λ (ns : List ℕ). AddsNets r sources name ns old new) (is ∙ (are ∙ ap (λ (p : Parts). nets_named p name) same)) adds

pub text_added : (r : Parts) (sources given name : List ℕ) (old new : List ℕ) → given ≡ name → AddsName r sources given old new →
    AddsName r sources name old new
text_added r sources given name old new same adds = subst (λ (n : List ℕ). AddsName r sources n old new) same adds

-- no line
pub names_none : (r : Parts) (sources : List ℕ) (names : List (Bor (List ℕ))) (text : List ℕ) →
    AddsNames r sources (map (λ s. s.now) (take 0 names)) text text
names_none r sources names text = record { more = []; tells = refl; put = sym (append-nil text) }

-- a line more
told_more : (r : Parts) (sources : List ℕ) (names : List (List ℕ)) (name before more : List ℕ) → TellsNames r sources names before →
    TellsName r sources name more → TellsNames r sources (names ++ name ∷ []) (before ++ more)
told_more r sources [] name before more tells is =
    (more, [], is, refl, ap (λ (t : List ℕ). t ++ more) tells ∙ sym (append-nil more))
told_more r sources (n ∷ ns) name before more tells is = (
  tells.0,
  tells.1 ++ more,
  tells.2,
  told_more r sources ns name tells.1 more tells.3 is,
  ap (λ (t : List ℕ). t ++ more) tells.4 ∙ append_assoc tells.0 tells.1 more,
)

pub names_more : (r : Parts) (sources : List ℕ) (names : List (Bor (List ℕ))) (i : ℕ) (d : Bor (List ℕ)) (old before after : List ℕ) → i < length names →
    AddsNames r sources (map (λ s. s.now) (take i names)) old before → AddsName r sources (get_or names i d).now before after →
    AddsNames r sources (map (λ s. s.now) (take (i + 1) names)) old after
names_more r sources names i d old before after lt so adds =
    let name : List ℕ = (get_or names i d).now in
    let more : bytes (take (i + 1) names) ≡ bytes (take i names) ++ name ∷ [] =
    ap bytes (take_more names i d lt) ∙ map-append (λ (s : Bor (List ℕ)). s.now) (take i names) (get_or names i d ∷ []) in
    record {
      more = so.more ++ adds.more;
      tells = subst (λ (ns : List (List ℕ)). TellsNames r sources ns (so.more ++ adds.more)) (sym more)
          (told_more r sources (bytes (take i names)) name so.more adds.more so.tells adds.tells);
      put = adds.put ∙ (ap (λ (t : List ℕ). t ++ adds.more) so.put ∙ append_assoc old so.more adds.more);
    }

-- all lines
pub names_all : (r : Parts) (sources : List ℕ) (names : List (Bor (List ℕ))) (i : ℕ) (old new : List ℕ) → length names ≤ i →
    AddsNames r sources (map (λ s. s.now) (take i names)) old new → AddsNames r sources (map (λ s. s.now) names) old new
names_all r sources names i old new le so =
    subst (λ (ns : List (Bor (List ℕ))). AddsNames r sources (bytes ns) old new) (take_all i names le) so

-- the whole text
pub keys_told : (r : Parts) (sources given : List ℕ) (names : List (List ℕ)) (old text : List ℕ) → AreMarks Source r sources → given ≡ sources → old ≡ [] →
    AddsNames r given names old text → TellsKeys r names text
keys_told r sources given names old text are same none adds = record {
  sources = sources;
  are = are;
  says = subst (λ (t : List ℕ). TellsNames r sources names t) (sym (adds.put ∙ ap (λ (t : List ℕ). t ++ adds.more) none))
      (subst (λ (s : List ℕ). TellsNames r s names adds.more) same adds.tells);
}

-- ---- the first name that no net has

abbrev unnamed : Parts → List (Bor (List ℕ)) → Option (List ℕ)
unnamed r names = first_unnamed r (map (λ s. s.now) names)

pub unnamed_more : (r : Parts) (names : List (Bor (List ℕ))) (i : ℕ) (d : Bor (List ℕ)) → i < length names →
    first_unnamed r (map (λ s. s.now) names) ≡ first_unnamed r (map (λ s. s.now) (drop i names)) →
    false ≡ (length (nets_named r (get_or names i d).now) == 0) →
    first_unnamed r (map (λ s. s.now) names) ≡ first_unnamed r (map (λ s. s.now) (drop (i + 1) names))
unnamed_more r names i d lt e is = e ∙ (ap (unnamed r) (drop_more names i d lt) ∙ rw (sym is) refl)

pub unnamed_found : (r : Parts) (names : List (Bor (List ℕ))) (i : ℕ) (d : Bor (List ℕ)) → i < length names →
    first_unnamed r (map (λ s. s.now) names) ≡ first_unnamed r (map (λ s. s.now) (drop i names)) →
    true ≡ (length (nets_named r (get_or names i d).now) == 0) → Some (get_or names i d).now ≡ first_unnamed r (map (λ s. s.now) names)
unnamed_found r names i d lt e is = sym (e ∙ (ap (unnamed r) (drop_more names i d lt) ∙ rw (sym is) refl))

pub unnamed_none : (r : Parts) (names : List (Bor (List ℕ))) (i : ℕ) → length names ≤ i →
    first_unnamed r (map (λ s. s.now) names) ≡ first_unnamed r (map (λ s. s.now) (drop i names)) → None ≡ first_unnamed r (map (λ s. s.now) names)
unnamed_none r names i le e = sym (e ∙ ap (unnamed r) (drop_all i names le))
