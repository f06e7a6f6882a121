-- Facts of the trace, one by one.
use Rattle.std.proofs.Common.{◌≡◌, ℕ, ◌<◌, ◌≤◌, ◌+◌, Bool, List, [], ◌∷◌, ◌++◌, length, get_or, take, refl, subst, ap, sym, ◌∙◌}
use Rattle.std.specs.List.{All}
use Rattle.std.proofs.lemmas.List.{map_push, take_all, take_more}
use Rattle.std.proofs.lemmas.List.Elements.{All-nil, All-push}
use Rattle.bs_net.specs.declared.net.NetId.{NetId}
use Rattle.bs_net_facts.specs.declared.fact.Fact.{Fact}
use Rattle.bs_net_facts.specs.Seen.{Seen}
use Rattle.bs_inspect_causes.specs.Accounts.{AreFactsOf, IsRealIn}

-- ---- the facts of nets at a cycle

pub facts_none : (m : Seen) (t : ℕ) → AreFactsOf m [] t []
facts_none m t = record { nets_are = refl; at_cycle = All-nil (λ (f : Fact). f.cycle ≡ t); real = All-nil (IsRealIn m) }

pub facts_more : (m : Seen) (nets : List NetId) (j : ℕ) (d : NetId) (t : ℕ) (facts : List Fact) (bit : Bool) → j < length nets →
    AreFactsOf m (take j nets) t facts → IsRealIn m (record { net = get_or nets j d; cycle = t; bit = bit }) →
    AreFactsOf m (take (j + 1) nets) t (facts ++ record { net = get_or nets j d; cycle = t; bit = bit } ∷ [])
facts_more m nets j d t facts bit lt h real =
    let f : Fact = record { net = get_or nets j d; cycle = t; bit = bit } in
    record {
      nets_are =
          map_push (λ (g : Fact). g.net) facts f
          ∙ (ap (λ (ns : List NetId). ns ++ get_or nets j d ∷ []) h.nets_are ∙ sym (take_more nets j d lt));
      at_cycle = All-push (λ (g : Fact). g.cycle ≡ t) facts f h.at_cycle refl;
      real = All-push (IsRealIn m) facts f h.real real;
    }

pub facts_put : (m : Seen) (nets : List NetId) (j : ℕ) (d : NetId) (t : ℕ) (facts after : List Fact) (bit : Bool) → j < length nets →
    AreFactsOf m (take j nets) t facts → IsRealIn m (record { net = get_or nets j d; cycle = t; bit = bit }) →
    after ≡ facts ++ record { net = get_or nets j d; cycle = t; bit = bit } ∷ [] → AreFactsOf m (take (j + 1) nets) t after
facts_put m nets j d t facts after bit lt h real e =
    subst (λ (fs : List Fact). AreFactsOf m (take (j + 1) nets) t fs) (sym e) (facts_more m nets j d t facts bit lt h real)

pub facts_all : (m : Seen) (nets : List NetId) (j t : ℕ) (facts : List Fact) → length nets ≤ j → AreFactsOf m (take j nets) t facts →
    AreFactsOf m nets t facts
facts_all m nets j t facts le h = subst (λ (ns : List NetId). AreFactsOf m ns t facts) (take_all j nets le) h

-- ---- those that are the trace's

pub real_none : (m : Seen) → All (IsRealIn m) []
real_none m = All-nil (IsRealIn m)

pub real_push : (m : Seen) (facts after : List Fact) (f : Fact) → All (IsRealIn m) facts → IsRealIn m f → after ≡ facts ++ f ∷ [] → All (IsRealIn m) after
real_push m facts after f h real e = subst (λ (fs : List Fact). All (IsRealIn m) fs) (sym e) (All-push (IsRealIn m) facts f h real)
