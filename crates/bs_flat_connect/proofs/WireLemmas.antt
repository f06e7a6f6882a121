-- The wiring of a module, and the nets of its terms.
use Rattle.std.proofs.Common.{◌≡◌, ℕ, ◌+◌, Bool, true, false, List, [], ◌∷◌, length, Option, Some, None, refl, sym, ap, ◌∙◌, subst, arith}
use Rattle.std.specs.Prelude.{if◌then◌else◌}
use Rattle.std.specs.Option.{option_map}
use Rattle.std.proofs.lemmas.List.Elements.{All-weaker}
use Rattle.bs_net.specs.declared.net.NetId.{NetId}
use Rattle.bs_net.specs.Parts.{Parts}
use Rattle.bs_net.specs.Names.{number_of, net}
use Rattle.bs_lex.specs.declared.lexeme.Name.{Name}
use Rattle.bs_verilog_syntax.specs.declared.tree.Range.{Range}
use Rattle.bs_verilog_syntax.specs.declared.tree.Says.{Says}
use Rattle.bs_verilog_syntax.specs.declared.tree.Term.{Term}
use Rattle.bs_verilog_syntax.specs.declared.tree.Term.TheVariants.{Constant, Named}
use Rattle.bs_verilog_scope.specs.Checking.{looked}
use Rattle.bs_verilog_scope.specs.Declaring.{said}
use Rattle.bs_verilog_scope.specs.Keys.{text, keys, scalar_key, constant_key}
use Rattle.bs_verilog_scope.specs.Nets.{nets_of}
use Rattle.bs_verilog.specs.Building.{has_key}
use Rattle.bs_flat_meaning.specs.declared.statements.Written.{Written}
use Rattle.bs_flat_meaning.specs.Connecting.{ReadModule, scope_of, with_net, with_term, with_terms, whole_parts, term_keys, declared_keys, undeclared_keys}
use Rattle.bs_flat_modules.specs.declared.owns.Own.{Own}
use Rattle.bs_flat_connect.specs.declared.wiring.Wiring.{Wiring}
use Rattle.bs_flat_connect.specs.declared.terms.NetRange.{NetRange}
use Rattle.bs_flat_connect.specs.Growing.{bare_of, terms_in}
use Rattle.bs_flat_connect.specs.Wiring.{read_of, side_by_side, net_at, spanned, StandFrom, AreSpans, HasSpan, HaveSpans, ids_of, IsWiringOf, AreNets, IsStretch, TellsDeclared, StandsFor, TellsTerm}
use Rattle.bs_flat_connect.proofs.PortLemmas.{length_keys}
use Rattle.bs_flat_connect.proofs.SpanLemmas.{found_net}

-- ---- parts without what connections leave alone

abbrev bared : Parts → Parts
bared p = bare_of p.names p.consts

bared_either : (b : Bool) (p q : Parts) → bared (if b then p else q) ≡ if b then bared p else bared q
bared_either true p q = refl
bared_either false p q = refl

bared_term : (table : List (List ℕ)) (scope : ℕ → Option Says) (p : Parts) (t : Term) → bared (with_term table scope p t) ≡ with_term table scope (bared p) t
unfolding with_term
bared_term table scope p (Constant place b) = bared_either (has_key p.names (constant_key b)) p _
bared_term table scope p (Named n index) = by (scope n.id)
  where
    by : (o : Option Says)
        → bared (elim o as (λ _. Parts) [ Some s ↦ p | None ↦ with_net p (scalar_key (text table n)) ])
        ≡ elim o as (λ _. Parts) [ Some s ↦ bared p | None ↦ with_net (bared p) (scalar_key (text table n)) ]
    by (Some s) = refl
    by None = refl

bared_terms : (table : List (List ℕ)) (scope : ℕ → Option Says) (p : Parts) (ts : List Term)
    → bared (with_terms table scope p ts) ≡ with_terms table scope (bared p) ts
unfolding with_terms
bared_terms table scope p [] = refl
bared_terms table scope p (t ∷ ts) =
    bared_terms table scope (with_term table scope p t) ts ∙ ap (λ q. with_terms table scope q ts) (bared_term table scope p t)

whole_bared : (table : List (List ℕ)) (own : Own) (ws : List Written)
    → bared (whole_parts table (read_of own ws))
    ≡ with_terms table (said own.says.declared) (bare_of own.parts.names own.parts.consts) (terms_in ws)
unfolding whole_parts
whole_bared table own ws = bared_terms table (said own.says.declared) (read_of own ws).own (terms_in ws)

pub is_wiring : (table : List (List ℕ)) (own : Own) (ws : List Written) (w : Wiring) → looked w.scope ≡ said own.says.declared
    → bare_of w.keys w.consts ≡ with_terms table (looked w.scope) (bare_of own.parts.names own.parts.consts) (terms_in ws)
    → AreSpans table w.keys (looked w.scope) w.spans → HaveSpans table w.keys (looked w.scope) (ids_of own.says.declared) w.spans
    → IsWiringOf table (read_of own ws) w
is_wiring table own ws w scope made spans turns =
    let all : bare_of w.keys w.consts ≡ bared (whole_parts table (read_of own ws)) =
    made ∙ ap (λ s. with_terms table s (bare_of own.parts.names own.parts.consts) (terms_in ws)) scope ∙ sym (whole_bared table own ws) in
    record {
      names = ap (λ (p : Parts). p.names) all;
      consts = ap (λ (p : Parts). p.consts) all;
      scope = scope;
      spans = record { is = λ id first s found there. spans.is id first s (ap (λ (f : ℕ → Option Says). f id) scope ∙ found) there };
      turns = record {
        have =
            All-weaker (HasSpan table w.keys (looked w.scope) w.spans) (HasSpan table w.keys (said own.says.declared) w.spans)
            (λ id h. record { is = λ s first found t. h.is s first (ap (λ (f : ℕ → Option Says). f id) scope ∙ found) t })
            (ids_of own.says.declared) turns.have;
      };
    }

-- ---- the nets of a term

pub one_net : (names : List (List ℕ)) (key : List ℕ) (n : NetId) (s : NetRange) → Some n ≡ option_map net (number_of names key) → s.first ≡ n.0 → s.width ≡ 1
    → AreNets names (Some (key ∷ [])) (Some s)
one_net names key n s found first width = (key ∷ [], refl, sym width, nets)
  where
    plus_zero : (a : ℕ) → a ≡ a + 0
    plus_zero a = omega arith

    net_is : n ≡ net_at s.first 0
    net_is = λ i. record { 0 = (sym first ∙ plus_zero s.first) i }

    nets : nets_of names (key ∷ []) ≡ side_by_side s.first s.width
    nets = ap (λ (k : NetId). k ∷ []) (found_net names key n found ∙ net_is) ∙ ap (side_by_side s.first) (sym width)

pub whole_name : (names : List (List ℕ)) (name : List ℕ) (range : Option Range) (span : Option ℕ) (s : Option NetRange) → IsStretch range span s
    → ((first : ℕ) → span ≡ Some first → StandFrom names (keys name range) first) → AreNets names (Some (keys name range)) s
whole_name names name range span None e stand = absurd e
whole_name names name range span (Some s) e stand =
    let long : length (keys name range) ≡ s.width = length_keys name range ∙ sym e.1 in (
      keys name range,
      refl,
      long,
      stand s.first e.0 ∙ ap (side_by_side s.first) long,
    )

pub tells_whole : (names : List (List ℕ)) (name : List ℕ) (range : Option Range) (index span : Option ℕ) (s : Option NetRange) → index ≡ None
    → IsStretch range span s → TellsDeclared names name range index span s
tells_whole names name range index span s e is =
    record { is = λ stand. subst (λ (i : Option ℕ). AreNets names (declared_keys name range i) s) (sym e) (whole_name names name range span s is stand) }

-- what holds of the keys of a wiring holds in its module
in_module : (table : List (List ℕ)) (w : Wiring) (m : ReadModule) (found keys : Option (List (List ℕ))) (s : Option NetRange) → IsWiringOf table m w
    → found ≡ keys → AreNets w.keys keys s → AreNets (whole_parts table m).names found s
in_module table w m found keys s wired is nets =
    subst (λ (ks : List (List ℕ)). AreNets ks found s) wired.names (subst (λ (o : Option (List (List ℕ))). AreNets w.keys o s) (sym is) nets)

constant_keys : (table : List (List ℕ)) (scope : ℕ → Option Says) (t : Term) (place : ℕ) (b : Bool) → t ≡ Constant place b
    → term_keys table scope t ≡ Some (constant_key b ∷ [])
unfolding term_keys
constant_keys table scope t place b e = rw e refl

pub tells_constant : (table : List (List ℕ)) (w : Wiring) (t : Term) (place : ℕ) (b : Bool) (s : Option NetRange) → t ≡ Constant place b
    → AreNets w.keys (Some (constant_key b ∷ [])) s → TellsTerm table w t s
tells_constant table w t place b s e nets =
    record { is = λ m wired. in_module table w m _ _ s wired (constant_keys table (scope_of m) t place b e) nets }

named_keys : (table : List (List ℕ)) (scope : ℕ → Option Says) (n : Name) (index : Option ℕ) (o : Option Says) → scope n.id ≡ o
    → term_keys table scope (Named n index)
    ≡ elim o as (λ _. Option (List (List ℕ))) [ None ↦ undeclared_keys (text table n) index | Some s ↦ declared_keys (text table n) s.range index ]
unfolding term_keys
named_keys table scope n index o e =
    ap (λ (o : Option Says). elim o as
    (λ _. Option (List (List ℕ))) [ None ↦ undeclared_keys (text table n) index | Some s ↦ declared_keys (text table n) s.range index ]) e

pub tells_declared : (table : List (List ℕ)) (w : Wiring) (n : Name) (index : Option ℕ) (says : Says) (span : Option ℕ) (name : List ℕ) (s : Option NetRange)
    → Some says ≡ looked w.scope n.id → span ≡ spanned w.spans n.id → name ≡ text table n
    → TellsDeclared w.keys name says.range index span s → TellsTerm table w (Named n index) s
tells_declared table w n index says span name s found there is tells = record { is = stands }
  where
    stands : (m : ReadModule) → IsWiringOf table m w → StandsFor table m (Named n index) s
    stands m wired =
        let said : scope_of m n.id ≡ Some says = sym (ap (λ (f : ℕ → Option Says). f n.id) wired.scope) ∙ sym found in
        in_module table w m _ (declared_keys (text table n) says.range index) s wired (named_keys table (scope_of m) n index (Some says) said)
        (subst (λ (t : List ℕ). AreNets w.keys (declared_keys t says.range index) s) is
        (tells.is (λ first e. subst (λ (t : List ℕ). StandFrom w.keys (keys t says.range) first) (sym is) (wired.spans.is n.id first says said (sym there ∙ e)))))

pub tells_undeclared : (table : List (List ℕ)) (w : Wiring) (n : Name) (index : Option ℕ) (name : List ℕ) (s : Option NetRange)
    → None ≡ looked w.scope n.id → name ≡ text table n → AreNets w.keys (undeclared_keys name index) s → TellsTerm table w (Named n index) s
tells_undeclared table w n index name s found is nets = record { is = stands }
  where
    stands : (m : ReadModule) → IsWiringOf table m w → StandsFor table m (Named n index) s
    stands m wired =
        let said : scope_of m n.id ≡ None = sym (ap (λ (f : ℕ → Option Says). f n.id) wired.scope) ∙ sym found in
        in_module table w m _ (undeclared_keys (text table n) index) s wired (named_keys table (scope_of m) n index None said)
        (subst (λ (t : List ℕ). AreNets w.keys (undeclared_keys t index) s) is nets)
