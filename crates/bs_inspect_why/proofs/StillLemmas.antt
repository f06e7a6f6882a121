-- Data inputs that stand still, and what they stand for.
use Rattle.std.proofs.Common.{◌≡◌, ℕ, ◌<◌, ◌≤◌, ◌+◌, ◌-◌, Bool, true, false, not, ◌&&◌, List, [], ◌∷◌, ◌++◌, length, get_or, ap, sym, subst, ◌∙◌, arith}
use Rattle.std.specs.Prelude.{nat_lt}
use Rattle.std.specs.List.{All, flat_map, range_with_len}
use Rattle.std.proofs.lemmas.Bool.{and_parts, ltb-true}
use Rattle.std.proofs.lemmas.Grind.{flat_map-append}
use Rattle.std.proofs.lemmas.List.{append-nil, get_or_default}
use Rattle.bs_bits.proofs.RangeLemmas.{range_push}
use Rattle.bs_net.specs.Circuit.{Circuit}
use Rattle.bs_net.specs.Netlist.{circuit}
use Rattle.bs_net_facts.specs.declared.fact.Fact.{Fact}
use Rattle.bs_net_facts.specs.Facts.{IsReal, IsWayOf}
use Rattle.bs_net_facts.specs.Seen.{Seen}
use Rattle.bs_inspect_causes.specs.Accounts.{AreFactsOf}
use Rattle.bs_inspect_causes.specs.Since.{AreAges}
use Rattle.bs_inspect_why.specs.Stills.{AreStills, AreStillsFor, AreStillsWhere, no_fact, still_at, still_since, stills_of}

-- ---- which they are

pub stills_more : (cycles i : ℕ) (facts : List Fact) (ages : List ℕ) (d : Fact) (e : ℕ) (stills after : List Fact) → i < length facts →
    length ages ≡ length facts → stills ≡ stills_of cycles facts ages i → after ≡ stills ++ still_since cycles (get_or facts i d) (get_or ages i e) →
    after ≡ stills_of cycles facts ages (i + 1)
stills_more cycles i facts ages d e stills after lt long so_far goes =
    let at : still_since cycles (get_or facts i d) (get_or ages i e) ≡ still_at cycles facts ages i =
    ap (λ (x : Fact). still_since cycles x (get_or ages i e)) (get_or_default facts i d no_fact lt)
    ∙ ap (still_since cycles (get_or facts i no_fact)) (get_or_default ages i e 0 (omega (arith, lt, long))) in
    goes
    ∙ (ap (λ (fs : List Fact). fs ++ still_since cycles (get_or facts i d) (get_or ages i e)) so_far
    ∙ (ap (λ (fs : List Fact). stills_of cycles facts ages i ++ fs) (at ∙ sym (append-nil (still_at cycles facts ages i)))
    ∙ sym (ap (flat_map (still_at cycles facts ages)) (range_push i) ∙ flat_map-append (still_at cycles facts ages) (range_with_len 0 i) (i ∷ []))))

pub facts_real : (m : Seen) (t : ℕ) (facts : List Fact) → AreFactsOf m (circuit m.net).inputs t facts →
    All (λ f. IsReal (circuit m.net) m.states m.inputs f) facts
facts_real m t facts are = are.real

pub ages_long : (c : Circuit) (states inputs : List (List Bool)) (facts : List Fact) (ages slice : List ℕ) → slice ≡ ages →
    AreAges c states inputs facts (length facts) ages → length slice ≡ length facts
ages_long c states inputs facts ages slice same aged = ap length same ∙ aged.size

pub stills_are : (m : Seen) (cycles : ℕ) (facts : List Fact) (ages slice : List ℕ) (stills : List Fact) → cycles ≡ length m.inputs → slice ≡ ages →
    AreFactsOf m (circuit m.net).inputs (cycles - 1) facts → AreAges (circuit m.net) m.states m.inputs facts (length facts) ages →
    stills ≡ stills_of cycles facts slice (length facts) → AreStills m stills
stills_are m cycles facts ages slice stills n same are aged e = record {
  facts = facts;
  are = subst (λ (k : ℕ). AreFactsOf m (circuit m.net).inputs (k - 1) facts) n are;
  ages = ages;
  aged = aged;
  stills_are = e ∙ (λ i. stills_of (n i) facts (same i) (length facts));
}

pub one_there : (c : Circuit) (states inputs : List (List Bool)) (count : ℕ) → IsWayOf c states inputs → count ≡ length states → 1 ≤ count
one_there c states inputs count way e = omega (arith, way.one_more, e)

pub cycles_are : (c : Circuit) (states inputs : List (List Bool)) (count : ℕ) → IsWayOf c states inputs → count ≡ length states →
    count - 1 ≡ length inputs
cycles_are c states inputs count way e = omega (arith, way.one_more, e)

still_path : (all told : Bool) (m : Seen) (cycles : ℕ) → cycles ≡ length m.inputs → told ≡ (not all && nat_lt 0 cycles) →
    (not all && nat_lt 0 (length m.inputs)) ≡ told
still_path all told m cycles n is = ap (λ (k : ℕ). not all && nat_lt 0 k) (sym n) ∙ sym is

pub stills_none : (all told : Bool) (m : Seen) (cycles : ℕ) (stills : List Fact) → cycles ≡ length m.inputs → told ≡ (not all && nat_lt 0 cycles) →
    told ≡ false → stills ≡ [] → AreStillsFor all m stills
stills_none all told m cycles stills n is off none =
    subst (λ (b : Bool). AreStillsWhere b m stills) (sym (still_path all told m cycles n is ∙ off)) none

pub stills_some : (all told : Bool) (m : Seen) (cycles : ℕ) (stills : List Fact) → cycles ≡ length m.inputs → told ≡ (not all && nat_lt 0 cycles) →
    told ≡ true → AreStills m stills → AreStillsFor all m stills
stills_some all told m cycles stills n is on are =
    subst (λ (b : Bool). AreStillsWhere b m stills) (sym (still_path all told m cycles n is ∙ on)) are

pub some_cycles : (all told : Bool) (cycles : ℕ) → told ≡ (not all && nat_lt 0 cycles) → told ≡ true → 0 < cycles
some_cycles all told cycles is on = ltb-true 0 cycles (and_parts (not all) (nat_lt 0 cycles) (sym is ∙ on)).1
