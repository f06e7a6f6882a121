-- The runs of connections join the bits that the definition says.
use Rattle.std.proofs.Common.{◌≡◌, ℕ, ◌+◌, Bool, true, false, List, [], ◌∷◌, map, length, refl, sym, ap, ◌∙◌, arith}
use Rattle.std.proofs.Common.{Option, Some, None, Result, Ok, Err, cond, subst, inr}
use Rattle.std.specs.Prelude.{unwrap_or, not, ◌&&◌, ◌==◌}
use Rattle.std.specs.List.{range_with_len}
use Rattle.bs_verilog_syntax.specs.declared.tree.Term.{Term}
use Rattle.bs_verilog_syntax.specs.declared.tree.Direction.TheVariants as directions
use Rattle.bs_verilog_scope.specs.Declaring.{direction_of}
use Rattle.bs_verilog_scope.specs.Nets.{net_of, nets_of}
use Rattle.bs_verilog.specs.Netlist.{is_towards}
use Rattle.bs_flat_meaning.specs.Design.{Join}
use Rattle.bs_flat_meaning.specs.Connecting as flat
use Rattle.bs_flat_nets.specs.Blocks.{joins_of_run}
use Rattle.bs_flat_nets.specs.declared.blocks.JoinedNets.{JoinedNets}
use Rattle.bs_flat_connect.specs.Wiring.{TellsTerm, StandsFor, side_by_side}
use Rattle.bs_flat_connect.specs.Ports.{port_in}
use Rattle.bs_flat_connect.specs.declared.ports.Port.{Port}
use Rattle.bs_flat_connect.specs.declared.terms.NetRange.{NetRange}
use Rattle.bs_flat_connect.specs.declared.wiring.Wiring.{Wiring}
use Rattle.bs_flat_connect.specs.Joining.{unless, Tells, run_of, run_for, whole_names, JoinsTerm, JoinsPlain}
use Rattle.bs_flat_connect.specs.declared.fault.Fault.{Fault}
use Rattle.bs_flat_connect.specs.declared.fault.Fault.TheVariants.{At}

-- ---- nets side by side

-- the bits of a run from a place on
abbrev bits_from : ℕ → ℕ → ℕ → ℕ → List Join
bits_from inner outer a width = map (λ k. record { outer = record { 0 = outer + k }; inner = record { 0 = inner + k } }) (range_with_len a width)

run_from : (names : List (List ℕ)) (inner outer a : ℕ) (ks : List (List ℕ)) →
    nets_of names ks ≡ map (λ k. record { 0 = outer + k }) (range_with_len a (length ks)) →
    bits_from inner outer a (length ks) ≡ flat.joins_from names (inner + a) ks
unfolding flat.joins_from
run_from names inner outer a [] e = refl
run_from names inner outer a (k ∷ ks) e =
    let head : net_of names k ≡ record { 0 = outer + a } = cc in
    let tail : nets_of names ks ≡ map (λ k. record { 0 = outer + k }) (range_with_len (a + 1) (length ks)) = cc in
    let next : inner + (a + 1) ≡ (inner + a) + 1 = omega arith in
    let rest : bits_from inner outer (a + 1) (length ks) ≡ flat.joins_from names ((inner + a) + 1) ks =
    run_from names inner outer (a + 1) ks tail ∙ ap (λ n. flat.joins_from names n ks) next in
    λ i. record { outer = sym head i; inner = record { 0 = inner + a } } ∷ rest i

run_joined : (names : List (List ℕ)) (inner outer width : ℕ) (ks : List (List ℕ)) → length ks ≡ width → nets_of names ks ≡ side_by_side outer width →
    joins_of_run (record { inner = inner; outer = outer; width = width }) ≡ flat.joins_from names inner ks
run_joined names inner outer width ks long e =
    let same : inner + 0 ≡ inner = omega arith in
    ap (λ n. joins_of_run (record { inner = inner; outer = outer; width = n })) (sym long)
    ∙ (run_from names inner outer 0 ks (e ∙ ap (λ n. side_by_side outer n) (sym long)) ∙ ap (λ n. flat.joins_from names n ks) same)

-- ---- a term

module _ (table : List (List ℕ)) (m below : flat.ReadModule) where
  abbrev is_driven : flat.Port → Term → Bool
  is_driven q t = flat.is_constant_term t && is_towards directions.Output (direction_of (flat.scope_of below q.name.id))

  goes_some : (q : flat.Port) (t : Term) (ks : List (List ℕ)) → flat.term_keys table (flat.scope_of m) t ≡ Some ks →
      flat.goes table m below q t ≡ (length ks == q.width && not (is_driven q t))
  unfolding flat.goes
  goes_some q t ks e =
      ap (λ (o : Option (List (List ℕ))). elim o as (λ _. Bool) [ None ↦ false | Some ls ↦ length ls == q.width && not (is_driven q t) ]) e

  goes_none : (q : flat.Port) (t : Term) → flat.term_keys table (flat.scope_of m) t ≡ None → flat.goes table m below q t ≡ false
  unfolding flat.goes
  goes_none q t e =
      ap (λ (o : Option (List (List ℕ))). elim o as (λ _. Bool) [ None ↦ false | Some ls ↦ length ls == q.width && not (is_driven q t) ]) e

  told : (r : JoinedNets) (place : ℕ) (js : List Join) (b : Bool) → joins_of_run r ≡ js →
      Tells joins_of_run (cond b (Ok r) (Err (At place))) (cond b None (Some place)) js
  told r place js true e = ap Ok (sym e)
  told r place js false e = inr refl

  term_there : (q : flat.Port) (t : Term) (s : NetRange) (ks : List (List ℕ)) → flat.term_keys table (flat.scope_of m) t ≡ Some ks → length ks ≡ s.width →
      nets_of (whole_names table m) ks ≡ side_by_side s.first s.width →
      Tells joins_of_run (run_of (port_in below q) t s) (flat.term_fault table m below (Some q) (Some t))
      (flat.joins_from (whole_names table m) q.first (flat.keys_for table m (Some t)))
  term_there q t s ks e long nets =
      let run : JoinedNets = record { inner = q.first; outer = s.first; width = s.width } in
      let keys : ks ≡ flat.keys_for table m (Some t) = sym (ap (λ o. unwrap_or o []) e) in
      let same : (s.width == q.width && not (is_driven q t)) ≡ flat.goes table m below q t =
      ap (λ n. n == q.width && not (is_driven q t)) (sym long) ∙ sym (goes_some q t ks e) in
      let joined = run_joined (whole_names table m) q.first s.first s.width ks long nets ∙ ap (flat.joins_from (whole_names table m) q.first) keys in
      subst (λ b. Tells joins_of_run (run_of (port_in below q) t s) (cond b None (Some (flat.term_place t)))
      (flat.joins_from (whole_names table m) q.first (flat.keys_for table m (Some t)))) same
      (told run (flat.term_place t) _ (s.width == q.width && not (is_driven q t)) joined)

  term_absent : (q : flat.Port) (t : Term) (js : List Join) → flat.term_keys table (flat.scope_of m) t ≡ None →
      Tells joins_of_run (Err (At (flat.term_place t))) (flat.term_fault table m below (Some q) (Some t)) js
  term_absent q t js e = inr (ap (λ b. unless (cond b None (Some (flat.term_place t))) js) (goes_none q t e))

pub term_joined : (table : List (List ℕ)) (w : Wiring) (p : Port) (t : Term) (found : Option NetRange) → TellsTerm table w t found →
    JoinsTerm table w p t (run_for p t found)
term_joined table w p t found tells =
    record {
      is = λ m below q wired e.
          subst (λ (r : Port). Tells joins_of_run (run_for r t found) (flat.term_fault table m below (Some q) (Some t))
          (flat.joins_from (whole_names table m) q.first (flat.keys_for table m (Some t)))) (sym e) (by m below q found (tells.is m wired));
    }
  where
    by : (m below : flat.ReadModule) (q : flat.Port) (o : Option NetRange) → StandsFor table m t o →
        Tells joins_of_run (run_for (port_in below q) t o) (flat.term_fault table m below (Some q) (Some t))
        (flat.joins_from (whole_names table m) q.first (flat.keys_for table m (Some t)))
    by m below q (Some s) h = term_there table m below q t s h.0 h.1 h.2 h.3
    by m below q None h = term_absent table m below q t _ h

-- ---- a term that may be missing

pub no_term : (table : List (List ℕ)) (w : Wiring) (p : Option Port) → JoinsPlain table w p None (Ok None)
unfolding flat.joins_from
no_term table w p = record { is = λ m below q wired e. by (whole_names table m) q }
  where
    by : (names : List (List ℕ)) (q : Option flat.Port) → ◌≡◌ {A = Result (List Join) Fault} (Ok (flat.joins_with names q [])) (Ok [])
    by names (Some q) = refl
    by names None = refl
