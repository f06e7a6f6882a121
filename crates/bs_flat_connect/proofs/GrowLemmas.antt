-- The nets that connections add, one after the other.
use Rattle.std.proofs.Common.{◌≡◌, ℕ, ◌+◌, ◌<◌, ◌≤◌, Bool, true, false, List, [], ◌∷◌, ◌++◌, length, take, drop, get_or, Option, Some, None}
use Rattle.std.proofs.Common.{Result, Ok, Err, refl, sym, ap, ◌∙◌, slice_get}
use Rattle.std.specs.Prelude.{OnOk, is_some, if◌then◌else◌}
use Rattle.std.specs.Option.{option_map}
use Rattle.std.proofs.lemmas.List.{drop_more, drop_all, take_more}
use Rattle.std.proofs.lemmas.Option.{get_or_from_slice_get, slice_get_within}
use Rattle.bs_net.specs.declared.net.NetId.{NetId}
use Rattle.bs_net.specs.declared.net.Const.{Const}
use Rattle.bs_net.specs.Parts.{Parts}
use Rattle.bs_net.specs.Names.{with_key, number_of, net}
use Rattle.bs_net.proofs.NamesLemmas.{kept, appended}
use Rattle.bs_lex.specs.declared.lexeme.Name.{Name}
use Rattle.bs_verilog_syntax.specs.declared.tree.Says.{Says}
use Rattle.bs_verilog_syntax.specs.declared.tree.Term.{Term}
use Rattle.bs_verilog_syntax.specs.declared.tree.Term.TheVariants.{Constant, Named}
use Rattle.bs_verilog_syntax.specs.declared.tree.Connection.{Connection}
use Rattle.bs_verilog_syntax.specs.declared.tree.Connection.TheVariants.{Empty, Place, Pin}
use Rattle.bs_verilog_scope.specs.Keys.{text, scalar_key, constant_key}
use Rattle.bs_flat_meaning.specs.declared.statements.Written.{Written}
use Rattle.bs_flat_meaning.specs.Connecting.{with_net, with_term, with_terms, terms_of}
use Rattle.bs_flat_connect.specs.Growing.{bare_of, with_constant, with_connection, terms_in}

pub then_on : {A E X : Type 0} (r : Result A E) (a b c : X) → OnOk r (a ≡ b) → b ≡ c → OnOk r (a ≡ c)
then_on (Ok x) a b c p q = p ∙ q
then_on (Err e) a b c p q = tt

-- ---- a key that is looked up

pub not_there : (names : List (List ℕ)) (key : List ℕ) (found : Option NetId) → found ≡ option_map net (number_of names key) → is_some found ≡ false
    → number_of names key ≡ None
not_there names key found e none = by (number_of names key) refl (sym (ap is_some e) ∙ none)
  where
    by : (o : Option ℕ) → number_of names key ≡ o → is_some (option_map net o) ≡ false → number_of names key ≡ None
    by None at e = at
    by (Some i) at e = absurd cc

pub stays : (names : List (List ℕ)) (key : List ℕ) (found : Option NetId) → found ≡ option_map net (number_of names key) → is_some found ≡ true
    → names ≡ with_key names key
stays names key found e there = by (number_of names key) refl (sym (ap is_some e) ∙ there)
  where
    by : (o : Option ℕ) → number_of names key ≡ o → is_some (option_map net o) ≡ true → names ≡ with_key names key
    by None at e = absurd cc
    by (Some i) at e = kept names key i at

pub joins : (names after : List (List ℕ)) (key : List ℕ) (found : Option NetId) → found ≡ option_map net (number_of names key) → is_some found ≡ false
    → after ≡ names ++ key ∷ [] → after ≡ with_key names key
joins names after key found e none made = made ∙ appended names key (not_there names key found e none)

pub pushed : (names keys after : List (List ℕ)) (i : ℕ) (key : List ℕ) → slice_get names i ≡ Some key → keys ≡ take i names → after ≡ keys ++ key ∷ []
    → after ≡ take (i + 1) names
pushed names keys after i key at so_far made =
    made ∙ ap (λ ks. ks ++ key ∷ []) so_far ∙ ap (λ k. take i names ++ k ∷ []) (sym (get_or_from_slice_get names i key key at))
    ∙ sym (take_more names i key (slice_get_within names i key at))

-- ---- a term

pub constant_added : (names after : List (List ℕ)) (consts more : List Const) (b : Bool) (key : List ℕ) (k : NetId) (found : Option NetId)
    → key ≡ constant_key b
    → found ≡ option_map net (number_of names key) → is_some found ≡ false → after ≡ names ++ key ∷ [] → k.0 ≡ length names
    → more ≡ consts ++ record { net = k; value = b } ∷ [] → bare_of after more ≡ with_constant (bare_of names consts) b
constant_added names after consts more b key k found is e none made at added =
    let absent : number_of names (constant_key b) ≡ None = rw is at (not_there names key found e none) in
    let keys : after ≡ with_key names (constant_key b) = made ∙ ap (λ x. names ++ x ∷ []) is ∙ appended names (constant_key b) absent in
    let net : k ≡ record { 0 = length names } = λ i. record { 0 = at i } in
    let later : more ≡ consts ++ record { net = record { 0 = length names }; value = b } ∷ [] =
    added ∙ ap (λ (m : NetId). consts ++ record { net = m; value = b } ∷ []) net in
    ap (λ ks. bare_of ks more) keys ∙ ap (bare_of (with_key names (constant_key b))) later
    ∙ sym (ap (λ o. if is_some o then bare_of names consts
    else bare_of (with_key names (constant_key b)) (consts ++ record { net = record { 0 = length names }; value = b } ∷ [])) absent)

pub constant_there : (names : List (List ℕ)) (consts : List Const) (b : Bool) (key : List ℕ) (found : Option NetId) → key ≡ constant_key b
    → found ≡ option_map net (number_of names key) → is_some found ≡ true → bare_of names consts ≡ with_constant (bare_of names consts) b
constant_there names consts b key found is e there =
    let here : is_some (number_of names (constant_key b)) ≡ true = rw is at (by (number_of names key) (sym (ap is_some e) ∙ there)) in
    sym (ap (λ (c : Bool). if c then bare_of names consts
    else bare_of (with_key names (constant_key b)) (consts ++ record { net = record { 0 = length names }; value = b } ∷ [])) here)
  where
    by : (o : Option ℕ) → is_some (option_map net o) ≡ true → is_some o ≡ true
    by None e = absurd cc
    by (Some i) e = refl

pub constant_term : (table : List (List ℕ)) (scope : ℕ → Option Says) (parts : Parts) (place : ℕ) (b : Bool) (t : Term) → t ≡ Constant place b
    → with_constant parts b ≡ with_term table scope parts t
unfolding with_term
constant_term table scope parts place b t e = rw e refl

pub declared_term : (table : List (List ℕ)) (scope : ℕ → Option Says) (parts : Parts) (n : Name) (index : Option ℕ) (s : Says) (t : Term)
    → t ≡ Named n index → Some s ≡ scope n.id → parts ≡ with_term table scope parts t
unfolding with_term
declared_term table scope parts n index s t e found =
    rw e (ap (λ (o : Option Says). elim o as (λ _. Parts) [ Some s ↦ parts | None ↦ with_net parts (scalar_key (text table n)) ]) found)

pub free_term : (table : List (List ℕ)) (scope : ℕ → Option Says) (parts : Parts) (n : Name) (index : Option ℕ) (t : Term) (name : List ℕ)
    → t ≡ Named n index → None ≡ scope n.id → name ≡ text table n → with_net parts (scalar_key name) ≡ with_term table scope parts t
unfolding with_term
free_term table scope parts n index t name e found is =
    rw (e, is) (ap (λ (o : Option Says). elim o as (λ _. Parts) [ Some s ↦ parts | None ↦ with_net parts (scalar_key (text table n)) ]) found)

-- ---- as a loop goes on

first_connection : (table : List (List ℕ)) (scope : ℕ → Option Says) (parts : Parts) (c : Connection) (cs : List Connection)
    → with_terms table scope parts (terms_of (c ∷ cs)) ≡ with_terms table scope (with_connection table scope parts c) (terms_of cs)
unfolding with_terms
first_connection table scope parts Empty cs = refl
first_connection table scope parts (Place t) cs = refl
first_connection table scope parts (Pin n None) cs = refl
first_connection table scope parts (Pin n (Some t)) cs = refl

pub connection_more : (table : List (List ℕ)) (scope : ℕ → Option Says) (parts after total : Parts) (cs : List Connection) (i : ℕ) (c : Connection)
    → i < length cs → c ≡ get_or cs i c → after ≡ with_connection table scope parts c
    → with_terms table scope parts (terms_of (drop i cs)) ≡ total → with_terms table scope after (terms_of (drop (i + 1) cs)) ≡ total
connection_more table scope parts after total cs i c h is made so_far =
    let here : drop i cs ≡ c ∷ drop (i + 1) cs = drop_more cs i c h ∙ ap (λ x. x ∷ drop (i + 1) cs) (sym is) in
    ap (λ p. with_terms table scope p (terms_of (drop (i + 1) cs))) made
    ∙ sym (ap (λ xs. with_terms table scope parts (terms_of xs)) here ∙ first_connection table scope parts c (drop (i + 1) cs)) ∙ so_far

pub connections_all : (table : List (List ℕ)) (scope : ℕ → Option Says) (parts total : Parts) (cs : List Connection) (i : ℕ) → length cs ≤ i
    → with_terms table scope parts (terms_of (drop i cs)) ≡ total → parts ≡ total
unfolding with_terms
connections_all table scope parts total cs i h so_far = sym (ap (λ xs. with_terms table scope parts (terms_of xs)) (drop_all i cs h)) ∙ so_far

pub terms_append : (table : List (List ℕ)) (scope : ℕ → Option Says) (parts : Parts) (ts us : List Term)
    → with_terms table scope parts (ts ++ us) ≡ with_terms table scope (with_terms table scope parts ts) us
unfolding with_terms
terms_append table scope parts [] us = refl
terms_append table scope parts (t ∷ ts) us = terms_append table scope (with_term table scope parts t) ts us

pub instance_more : (table : List (List ℕ)) (scope : ℕ → Option Says) (parts after total : Parts) (ws : List Written) (i : ℕ) (w : Written)
    (cs : List Connection) → i < length ws → w ≡ get_or ws i w → cs ≡ w.connections → after ≡ with_terms table scope parts (terms_of cs)
    → with_terms table scope parts (terms_in (drop i ws)) ≡ total → with_terms table scope after (terms_in (drop (i + 1) ws)) ≡ total
instance_more table scope parts after total ws i w cs h is at made so_far =
    let here : drop i ws ≡ w ∷ drop (i + 1) ws = drop_more ws i w h ∙ ap (λ x. x ∷ drop (i + 1) ws) (sym is) in
    ap (λ p. with_terms table scope p (terms_in (drop (i + 1) ws))) (made ∙ ap (λ x. with_terms table scope parts (terms_of x)) at)
    ∙ sym (ap (λ xs. with_terms table scope parts (terms_in xs)) here
    ∙ terms_append table scope parts (terms_of w.connections) (terms_in (drop (i + 1) ws))) ∙ so_far

pub instances_all : (table : List (List ℕ)) (scope : ℕ → Option Says) (parts total : Parts) (ws : List Written) (i : ℕ) → length ws ≤ i
    → with_terms table scope parts (terms_in (drop i ws)) ≡ total → parts ≡ total
unfolding with_terms
instances_all table scope parts total ws i h so_far = sym (ap (λ xs. with_terms table scope parts (terms_in xs)) (drop_all i ws h)) ∙ so_far
