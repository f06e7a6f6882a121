-- Facts of one cycle.
use Rattle.std.proofs.Common.{◌≡◌, ℕ, ◌<◌, ◌≤◌, List, length, get_or, ap, sym, ◌∙◌}
use Rattle.std.proofs.lemmas.List.{get_or_default, get_or_past, get_or-map}
use Rattle.bs_net_facts.specs.declared.fact.Fact.{Fact}
use Rattle.bs_inspect_why_words.specs.Stretches.{cycle_at}

pub cycle_is : (facts : List Fact) (i : ℕ) (f : Fact) → i < length facts → f ≡ get_or facts i f → f.cycle ≡ cycle_at facts i
cycle_is facts i f lt e = ap (λ (x : Fact). x.cycle) e ∙ sym (get_or-map (λ (x : Fact). x.cycle) facts i f 0 lt)

pub number_there : (numbers : List ℕ) (i other : ℕ) (n : ℕ) → i < length numbers → n ≡ get_or numbers i n → n ≡ get_or numbers i other
number_there numbers i other n lt e = e ∙ get_or_default numbers i n other lt

pub number_past : (numbers : List ℕ) (i other : ℕ) → length numbers ≤ i → other ≡ get_or numbers i other
number_past numbers i other le = sym (get_or_past numbers i other le)
