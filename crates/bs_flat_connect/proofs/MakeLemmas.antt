-- The modules with their joined nets are those of the definition.
use Rattle.std.proofs.Common.{◌≡◌, ℕ, zero, suc, ◌<◌, ◌≤◌, ◌+◌, Bool, true, false, cond, List, [], ◌∷◌, ◌++◌, map, length, get_or, refl, sym, ap, ◌∙◌, arith}
use Rattle.std.proofs.Common.{Option, Some, None, Result, Ok, Err, subst, ◌⊎◌, inl, inr, ⊎_elim}
use Rattle.std.specs.Prelude.{IsTrue, String, not, string_bytes}
use Rattle.std.specs.List.{All, flat_map}
use Rattle.std.specs.declared.alloc.Global.{Global}
use Rattle.std.proofs.lemmas.List.{get_or-map, length-map, map-append}
use Rattle.std.proofs.lemmas.List.Concat.{flat_map_single}
use Rattle.bs_bits.specs.Reading.{Answers}
use Rattle.bs_net.specs.declared.net.Const.{Const}
use Rattle.bs_net.specs.declared.net.Gate.{Gate}
use Rattle.bs_net.specs.Parts.{Parts}
use Rattle.bs_net.specs.Gate.{takes}
use Rattle.bs_verilog_syntax.specs.declared.tree.Says.{Says}
use Rattle.bs_verilog_syntax.specs.declared.tree.Term.{Term}
use Rattle.bs_verilog_syntax.specs.declared.tree.Term.TheVariants.{Constant, Named}
use Rattle.bs_verilog_scope.specs.Keys.{text, scalar_key, constant_key}
use Rattle.bs_net.specs.Names.{with_key}
use Rattle.bs_verilog.specs.Building.{has_key}
use Rattle.bs_flat_meaning.specs.declared.fault.FlatFault.{FlatFault}
use Rattle.bs_flat_meaning.specs.declared.fault.FlatFault.TheVariants.{NoMemory as want, Connect}
use Rattle.bs_flat_meaning.specs.declared.statements.Written.{Written}
use Rattle.bs_flat_meaning.specs.Design.{Module}
use Rattle.bs_flat_meaning.specs.Pieces.{Piece, name_id}
use Rattle.bs_flat_meaning.specs.Connecting as flat
use Rattle.bs_flat_meaning.specs.Reading.{first_of, no_read_module, is_id, place_in, connect_fault, connected_modules, read_at, connections_of, module_from}
use Rattle.bs_flat_meaning.specs.ModuleNumbers.{numbers_by}
use Rattle.bs_flat_meaning.specs.Places.{place_by_id}
use Rattle.bs_flat_nets.specs.Blocks.{instance_of, own_of, module_of, numbers_of, AreThere}
use Rattle.bs_flat_nets.specs.Order.{below_blocks}
use Rattle.bs_flat_nets.specs.declared.blocks.FlatModule.{FlatModule}
use Rattle.bs_flat_nets.specs.declared.blocks.Child.{Child}
use Rattle.bs_flat_modules.specs.Reading.{read_modules_of}
use Rattle.bs_flat_modules.specs.declared.owns.Own.{Own}
use Rattle.bs_flat_modules.specs.declared.owns.Modules.{Modules}
use Rattle.bs_flat_connect.specs.Wiring.{IsWiringOf, read_of}
use Rattle.bs_flat_connect.specs.declared.ports.Ports.{Ports}
use Rattle.bs_flat_connect.specs.declared.wiring.Wiring.{Wiring}
use Rattle.bs_flat_connect.specs.Joining.{unless, Tells}
use Rattle.bs_flat_connect.specs.Instances.{AreAllPorts, ArePortsOfAll, instance_by, TellsChildren}
use Rattle.bs_flat_connect.specs.Connecting.{ConnectsTo, IsMade, with_parts, without_parts, fault_in, module_by, TellsBlock, reads, TellsBlocks, fault_of, Connects}
use Rattle.bs_flat_connect.specs.declared.fault.Fault.{Fault}
use Rattle.bs_flat_connect.specs.declared.fault.Fault.TheVariants.{At, NoMemory}
use Rattle.bs_flat_connect.proofs.FirstLemmas.{first_each}
use Rattle.bs_flat_connect.proofs.LoopLemmas.{SoFar, so_far_none, so_far_more, so_far_stop, so_far_all, goes_well, goes_ill}
use Rattle.bs_flat_connect.proofs.ChildLemmas.{ports_of_all, one_child}

-- ---- a module's parts with the nets of its connections

-- what connections leave as it is
record Keeps (p q : Parts) : Type 0 where
  inputs : p.inputs ≡ q.inputs
  outputs : p.outputs ≡ q.outputs
  gates : p.gates ≡ q.gates
  flops : p.flops ≡ q.flops

same_parts : (p : Parts) → Keeps p p
same_parts p = record { inputs = refl; outputs = refl; gates = refl; flops = refl }

keeps_term : (table : List (List ℕ)) (scope : ℕ → Option Says) (p : Parts) (t : Term) → Keeps p (flat.with_term table scope p t)
unfolding flat.with_term
keeps_term table scope p (Constant place b) = by (has_key p.names (constant_key b))
  where
    by : (x : Bool) → Keeps p (cond x p (record p {
      names = with_key p.names (constant_key b);
      consts =
          p.consts ++ record { net = record { 0 = length p.names }; value = b } ∷ [];
    }))
    by true = same_parts p
    by false = record { inputs = refl; outputs = refl; gates = refl; flops = refl }
keeps_term table scope p (Named n index) = by (scope n.id)
  where
    by : (o : Option Says) → Keeps p (elim o as (λ _. Parts) [ Some s ↦ p | None ↦ record p { names = with_key p.names (scalar_key (text table n)) } ])
    by (Some s) = same_parts p
    by None = record { inputs = refl; outputs = refl; gates = refl; flops = refl }

keeps_terms : (table : List (List ℕ)) (scope : ℕ → Option Says) (p : Parts) (ts : List Term) → Keeps p (flat.with_terms table scope p ts)
unfolding flat.with_terms
keeps_terms table scope p [] = same_parts p
keeps_terms table scope p (t ∷ ts) =
    let a = keeps_term table scope p t in
    let b = keeps_terms table scope (flat.with_term table scope p t) ts in
    record { inputs = a.inputs ∙ b.inputs; outputs = a.outputs ∙ b.outputs; gates = a.gates ∙ b.gates; flops = a.flops ∙ b.flops }

keeps_whole : (table : List (List ℕ)) (m : flat.ReadModule) → Keeps m.own (flat.whole_parts table m)
unfolding flat.whole_parts
keeps_whole table m = keeps_terms table (flat.scope_of m) m.own (flat_map (λ (w : Written). flat.terms_of w.connections) m.written)

own_same : (table : List (List ℕ)) (own : Own) (ws : List Written) (w : Wiring) (cs : List Child) (b : FlatModule) → IsWiringOf table (read_of own ws) w →
    IsMade own w cs b → own_of b ≡ flat.whole_parts table (read_of own ws)
own_same table own ws w cs b wired made =
    let keeps = keeps_whole table (read_of own ws) in
    let names = made.names ∙ wired.names in
    let inputs = made.inputs ∙ keeps.inputs in
    let outputs = made.outputs ∙ keeps.outputs in
    let consts = made.consts ∙ wired.consts in
    let gates = made.gates ∙ keeps.gates in
    let flops = made.flops ∙ keeps.flops in
    λ i. record { names = names i; inputs = inputs i; outputs = outputs i; consts = consts i; gates = gates i; flops = flops i }

-- ---- a module

pub block_told : (table : List (List ℕ)) (ps : List Ports) (below : List ℕ) (own : Own) (ws : List Written) (w : Wiring) (cs : List Child) (b : FlatModule) →
    IsWiringOf table (read_of own ws) w → IsMade own w cs b → TellsChildren table w ps below ws (Ok cs) → TellsBlock table ps below own ws (Ok b)
block_told table ps below own ws w cs b wired made tells =
    record {
      is = λ ks at ports e.
          let m = read_of own ws in
          let told = goes_well _ _ _ (tells.is ks at m wired ports e) in
          let parts = own_same table own ws w cs b wired made in
          let instances : map (instance_by table ks at m) ws ≡ map instance_of b.children =
          told.1 ∙ ap (map instance_of) (sym made.children) in
          let same : module_by table ks at m ≡ module_of b = λ i. record { own = sym parts i; instances = instances i } in
          ap (λ o. unless o (module_by table ks at m)) told.0 ∙ ap Ok same;
    }

-- the same refusal in place of another value
refused_as : {A B : Type 0} (o : Option ℕ) (v : A) (w : B) (fault : Fault) → (fault ≡ NoMemory) ⊎ (unless o v ≡ Err fault) →
    (fault ≡ NoMemory) ⊎ (unless o w ≡ Err fault)
refused_as o v w fault (inl memory) = inl memory
refused_as None v w fault (inr e) = absurd cc
refused_as (Some place) v w fault (inr e) = let same : At place ≡ fault = cc in inr (ap (λ (f : Fault). Err f) same)

pub block_refused : (table : List (List ℕ)) (ps : List Ports) (below : List ℕ) (own : Own) (ws : List Written) (w : Wiring) (fault : Fault) →
    IsWiringOf table (read_of own ws) w → TellsChildren table w ps below ws (Err fault) → TellsBlock table ps below own ws (Err fault)
block_refused table ps below own ws w fault wired tells =
    record {
      is = λ ks at ports e.
          let m = read_of own ws in
          refused_as (fault_in table ks at m) (map (instance_by table ks at m) ws) (module_by table ks at m) fault (tells.is ks at m wired ports e);
    }

-- ---- all modules

reads_long : (owns : List Own) (written : List (List Written)) → length owns ≡ length written → length (reads owns written) ≡ length owns
reads_long [] ws e = refl
reads_long (o ∷ os) [] e = absurd (omega (arith, e))
reads_long (o ∷ os) (w ∷ ws) e = let rest = reads_long os ws (omega (arith, e)) in omega (arith, rest)

read_there : (owns : List Own) (written : List (List Written)) (k : ℕ) (o : Own) → k < length owns → length owns ≡ length written →
    get_or (reads owns written) k no_read_module ≡ read_of (get_or owns k o) (get_or written k [])
read_there [] ws k o lt e = absurd (omega (arith, lt))
read_there (p ∷ ps) [] k o lt e = absurd (omega (arith, e))
read_there (p ∷ ps) (w ∷ ws) zero o lt e = refl
read_there (p ∷ ps) (w ∷ ws) (suc k) o lt e = read_there ps ws k o (omega (arith, lt)) (omega (arith, e))

pub record BlocksSoFar (table : List (List ℕ)) (ps : List Ports) (below : List (List ℕ)) (owns : List Own) (written : List (List Written)) (k : ℕ)
    (made : List FlatModule) : Type 0 where
  pub is : (ks : List flat.ReadModule) (at : Written → ℕ) → ArePortsOfAll table ks ps → below ≡ map (map at) written →
      SoFar (fault_in table ks at) (λ m. module_by table ks at m ∷ []) (reads owns written) k (map module_of made)

pub blocks_none : (table : List (List ℕ)) (ps : List Ports) (below : List (List ℕ)) (owns : List Own) (written : List (List Written)) →
    BlocksSoFar table ps below owns written 0 []
blocks_none table ps below owns written =
    record { is = λ ks at ports e. so_far_none (fault_in table ks at) (λ m. module_by table ks at m ∷ []) (reads owns written) }

told_at : (table : List (List ℕ)) (ps : List Ports) (below : List (List ℕ)) (owns : List Own) (written : List (List Written)) (k : ℕ) (o : Own)
    (r : Result FlatModule Fault) (ks : List flat.ReadModule) (at : Written → ℕ) → k < length owns → length owns ≡ length written →
    TellsBlock table ps (get_or below k []) (get_or owns k o) (get_or written k []) r → ArePortsOfAll table ks ps → below ≡ map (map at) written →
    Tells module_of r (fault_in table ks at (get_or (reads owns written) k no_read_module)) (module_by table ks at (get_or (reads owns written) k no_read_module))
told_at table ps below owns written k o r ks at lt long tells ports e =
    let within : k < length written = omega (arith, lt, long) in
    let numbers : get_or below k [] ≡ map at (get_or written k []) = ap (λ l. get_or l k []) e ∙ get_or-map (map at) written k [] [] within in
    subst (λ (m : flat.ReadModule). Tells module_of r (fault_in table ks at m) (module_by table ks at m)) (sym (read_there owns written k o lt long))
    (tells.is ks at ports numbers)

-- each gate of a module has as many inputs as its kind takes
abbrev pub Takes : FlatModule → Type 0
Takes b = All (λ (g : Gate). IsTrue (takes g.kind (length g.ins))) b.gates

-- a module of its nets, its instances and its own parts
parts_put : (own : Own) (cs : List Child) (names : List (String Global)) (consts : List Const) (bare b : FlatModule) → bare ≡ without_parts names consts cs →
    b ≡ with_parts bare own → b ≡ with_parts (without_parts names consts cs) own
parts_put own cs names consts bare b e eb = eb ∙ ap (λ (x : FlatModule). with_parts x own) e

pub made_is : (own : Own) (w : Wiring) (cs : List Child) (names : List (String Global)) (consts : List Const) (bare b : FlatModule) →
    bare ≡ without_parts names consts cs → b ≡ with_parts bare own → map string_bytes names ≡ w.keys → consts ≡ w.consts → IsMade own w cs b
made_is own w cs names consts bare b e eb en ec =
    let all = parts_put own cs names consts bare b e eb in
    record {
      names = ap (λ (x : FlatModule). map string_bytes x.names) all ∙ en;
      consts = ap (λ (x : FlatModule). x.consts) all ∙ ec;
      inputs = ap (λ (x : FlatModule). x.inputs) all;
      outputs = ap (λ (x : FlatModule). x.outputs) all;
      gates = ap (λ (x : FlatModule). x.gates) all;
      flops = ap (λ (x : FlatModule). x.flops) all;
      children = ap (λ (x : FlatModule). x.children) all;
    }

pub made_takes : (own : Own) (cs : List Child) (names : List (String Global)) (consts : List Const) (bare b : FlatModule) → bare ≡ without_parts names consts cs →
    b ≡ with_parts bare own → All (λ (g : Gate). IsTrue (takes g.kind (length g.ins))) own.parts.gates → Takes b
made_takes own cs names consts bare b e eb h =
    subst (λ (gs : List Gate). All (λ (g : Gate). IsTrue (takes g.kind (length g.ins))) gs)
    (sym (ap (λ (x : FlatModule). x.gates) (parts_put own cs names consts bare b e eb))) h

pub counted : (below : List (List ℕ)) (written : List (List Written)) → map length below ≡ map length written → length below ≡ length written
counted below written e =
    let wide = ap length e in
    omega (arith, wide, length-map below (length {A = ℕ}), length-map written (length {A = Written}))

pub lengths_at : (below : List (List ℕ)) (written : List (List Written)) (k : ℕ) (d : List ℕ) (w : List Written) → k < length written →
    map length below ≡ map length written → length (get_or below k d) ≡ length (get_or written k w)
lengths_at below written k d w lt e =
    let all = counted below written e in
    sym (get_or-map (length {A = ℕ}) below k d 0 (omega (arith, lt, all)))
    ∙ (ap (λ l. get_or l k 0) e ∙ get_or-map (length {A = Written}) written k w 0 lt)

same_default : {X : Type 0} (xs : List X) (k : ℕ) (d e : X) → k < length xs → get_or xs k d ≡ get_or xs k e
same_default [] k d e lt = absurd (omega (arith, lt))
same_default (x ∷ xs) zero d e lt = refl
same_default (x ∷ xs) (suc k) d e lt = same_default xs k d e (omega (arith, lt))

-- what is told of a module by its parts is told of it by its place
pub told_here : (table : List (List ℕ)) (ps : List Ports) (below : List (List ℕ)) (owns : List Own) (written : List (List Written)) (k : ℕ) (ns d : List ℕ)
    (o : Own) (ws w : List Written) (r : Result FlatModule Fault) → k < length owns → length owns ≡ length written → map length below ≡ map length written →
    ns ≡ get_or below k d → o ≡ get_or owns k o → ws ≡ get_or written k w → TellsBlock table ps ns o ws r →
    TellsBlock table ps (get_or below k []) (get_or owns k o) (get_or written k []) r
told_here table ps below owns written k ns d o ws w r lt long each numbers own instances tells =
    let all = counted below written each in
    let first = numbers ∙ same_default below k d [] (omega (arith, lt, long, all)) in
    let last = instances ∙ same_default written k w [] (omega (arith, lt, long)) in
    subst (λ (x : List ℕ). TellsBlock table ps x (get_or owns k o) (get_or written k []) r) first
    (subst (λ (x : Own). TellsBlock table ps ns x (get_or written k []) r) own
    (subst (λ (x : List Written). TellsBlock table ps ns o x r) last tells))

pub blocks_more : (table : List (List ℕ)) (ps : List Ports) (below : List (List ℕ)) (owns : List Own) (written : List (List Written)) (k : ℕ) (o : Own)
    (made : List FlatModule) (b : FlatModule) → k < length owns → length owns ≡ length written →
    TellsBlock table ps (get_or below k []) (get_or owns k o) (get_or written k []) (Ok b) → BlocksSoFar table ps below owns written k made →
    BlocksSoFar table ps below owns written (k + 1) (made ++ b ∷ [])
blocks_more table ps below owns written k o made b lt long tells so_far =
    record {
      is = λ ks at ports e.
          let all = reads_long owns written long in
          subst (λ l. SoFar (fault_in table ks at) (λ m. module_by table ks at m ∷ []) (reads owns written) (k + 1) l) (sym (map-append module_of made (b ∷ [])))
          (so_far_more (fault_in table ks at) (λ m. module_by table ks at m ∷ []) (reads owns written) k no_read_module (map module_of made) (module_of b ∷ [])
          (omega (arith, lt, all)) (so_far.is ks at ports e)
          (one_child _ _ _ (told_at table ps below owns written k o (Ok b) ks at lt long tells ports e)));
    }

pub blocks_stop : (table : List (List ℕ)) (ps : List Ports) (below : List (List ℕ)) (owns : List Own) (written : List (List Written)) (k : ℕ) (o : Own)
    (made : List FlatModule) (f : Fault) → k < length owns → length owns ≡ length written →
    TellsBlock table ps (get_or below k []) (get_or owns k o) (get_or written k []) (Err f) → BlocksSoFar table ps below owns written k made →
    TellsBlocks table ps below owns written (Err f)
blocks_stop table ps below owns written k o made f lt long tells so_far =
    record {
      is = λ ks at ports e.
          let all = reads_long owns written long in
          so_far_stop (fault_in table ks at) (λ m. module_by table ks at m ∷ []) (reads owns written) k no_read_module (map module_of made) f
          (module_by table ks at (get_or (reads owns written) k no_read_module)) (map (module_by table ks at) (reads owns written)) (omega (arith, lt, all))
          (so_far.is ks at ports e) (told_at table ps below owns written k o (Err f) ks at lt long tells ports e);
    }

pub blocks_all : (table : List (List ℕ)) (ps : List Ports) (below : List (List ℕ)) (owns : List Own) (written : List (List Written)) (k : ℕ)
    (made : List FlatModule) → length owns ≤ k → length owns ≡ length written → BlocksSoFar table ps below owns written k made →
    TellsBlocks table ps below owns written (Ok made)
blocks_all table ps below owns written k made le long so_far =
    record {
      is = λ ks at ports e.
          let all = reads_long owns written long in
          ap (unless (first_of (map (fault_in table ks at) (reads owns written)))) (sym (flat_map_single (module_by table ks at) (reads owns written)))
          ∙ so_far_all (fault_in table ks at) (λ m. module_by table ks at m ∷ []) (reads owns written) k (map module_of made) (omega (arith, le, all))
          (so_far.is ks at ports e);
    }

pub connects : (table : List (List ℕ)) (ps : List Ports) (below : List (List ℕ)) (modules : Modules) (r : Result (List FlatModule) Fault) →
    length modules.written ≡ length modules.owns → AreAllPorts modules.owns ps → TellsBlocks table ps below modules.owns modules.written r →
    Connects table below modules r
connects table ps below modules r long ports tells =
    record { is = λ at e. tells.is (read_modules_of modules) at (ports_of_all table modules.owns modules.written ps (sym long) ports) e }

-- ---- the definition

place_same : (ms : List Piece) (id : ℕ) → place_by_id (map name_id ms) id ≡ place_in ms id
place_same [] id = refl
place_same (p ∷ ps) id = ap (λ n. cond (not (is_id id (name_id p))) (1 + n) 0) (place_same ps id)

numbers_same : (ms : List Piece) (ids : List (Option ℕ)) (written : List (List Written)) → map name_id ms ≡ ids →
    numbers_by ids written ≡ map (map (λ (w : Written). place_in ms w.of.id)) written
numbers_same ms ids written e =
    let each : (λ (w : Written). place_by_id ids w.of.id) ≡ (λ (w : Written). place_in ms w.of.id) =
    λ i w. (ap (λ l. place_by_id l w.of.id) (sym e) ∙ place_same ms w.of.id) i in
    ap (λ (at : Written → ℕ). map (map at) written) each

fault_same : (table : List (List ℕ)) (ms : List Piece) (ks : List flat.ReadModule) →
    connect_fault table ms ks ≡ first_of (map (fault_in table ks (λ (w : Written). place_in ms w.of.id)) ks)
unfolding connect_fault
fault_same table ms ks =
    let one : flat.ReadModule → Written → List (Option ℕ) =
    λ m w. map (flat.connected_fault table m (read_at ms ks w.of)) (connections_of table ms ks w) in
    let each : (λ (m : flat.ReadModule). first_of (flat_map (one m) m.written)) ≡ fault_in table ks (λ (w : Written). place_in ms w.of.id) =
    λ i m. first_each (one m) m.written i in
    first_each (λ (m : flat.ReadModule). flat_map (one m) m.written) ks ∙ ap (λ (f : flat.ReadModule → Option ℕ). first_of (map f ks)) each

-- the answer of a text from the one of the modules
abbrev pub as_flat : Result (List FlatModule) Fault → Result (List FlatModule) FlatFault
as_flat (Ok bs) = Ok bs
as_flat (Err f) = Err (fault_of f)

modules_or : (table : List (List ℕ)) (ms : List Piece) (ks : List flat.ReadModule) (o : Option ℕ) → connect_fault table ms ks ≡ o →
    connected_modules table ms ks ≡ elim o as (λ _. Result (List Module) FlatFault) [
      | Some place ↦ Err (Connect place)
      | None ↦ Ok (map (module_from table ms ks) ks)
    ]
unfolding connected_modules
modules_or table ms ks o e =
    ap (λ (p : Option ℕ). elim p as (λ _. Result (List Module) FlatFault) [ Some place ↦ Err (Connect place) | None ↦ Ok (map (module_from table ms ks) ks) ]) e

pub connects_to : (table : List (List ℕ)) (ids : List (Option ℕ)) (below : List (List ℕ)) (modules : Modules) (r : Result (List FlatModule) Fault) →
    below ≡ numbers_by ids modules.written → Connects table below modules r → ConnectsTo table ids modules (as_flat r)
connects_to table ids below modules r numbers h =
    record {
      is = λ ms named.
          let at : Written → ℕ = λ w. place_in ms w.of.id in
          by ms r (h.is at (numbers ∙ numbers_same ms ids modules.written named));
    }
  where
    by : (ms : List Piece) (q : Result (List FlatModule) Fault) →
        Tells (λ bs. map module_of bs) q (first_of (map (fault_in table (read_modules_of modules) (λ (w : Written). place_in ms w.of.id)) (read_modules_of modules)))
        (map (module_by table (read_modules_of modules) (λ (w : Written). place_in ms w.of.id)) (read_modules_of modules)) →
        Answers want (λ bs. map module_of bs) (as_flat q) (connected_modules table ms (read_modules_of modules))
    by ms (Ok bs) e =
        let ks = read_modules_of modules in
        let well = goes_well _ _ _ e in
        modules_or table ms ks None (fault_same table ms ks ∙ well.0) ∙ ap Ok well.1
    by ms (Err f) e =
        let ks = read_modules_of modules in
        ⊎_elim (λ (n : f ≡ NoMemory). inl (ap fault_of n))
        (λ (k : unless (first_of (map (fault_in table ks (λ (w : Written). place_in ms w.of.id)) ks))
        (map (module_by table ks (λ (w : Written). place_in ms w.of.id)) ks) ≡ Err f).
        let ill = goes_ill _ _ f k in
        inr (modules_or table ms ks (Some ill.0) (fault_same table ms ks ∙ ill.1) ∙ ap (λ g. Err (fault_of g)) (sym ill.2))) e

-- ---- what the modules keep

pub lengths_same : (ids : List (Option ℕ)) (written : List (List Written)) → map length (numbers_by ids written) ≡ map length written
lengths_same ids [] = refl
lengths_same ids (w ∷ ws) =
    ap (λ n. n ∷ map length (numbers_by ids ws)) (length-map w (λ (x : Written). place_by_id ids x.of.id)) ∙ ap (λ l. length w ∷ l) (lengths_same ids ws)

pub are_there : (bs : List FlatModule) (below : List (List ℕ)) (count : ℕ) → below_blocks bs ≡ below → All (λ ns. All (λ n. n < count) ns) below →
    length below ≡ count → (length bs ≡ count) × AreThere bs
are_there bs below count numbers within long =
    let wide = ap length numbers in
    let size : length bs ≡ count = omega (arith, long, wide, length-map bs (λ (b : FlatModule). numbers_of b.children)) in (
      size,
      λ k d lt j e low.
          let here : numbers_of (get_or bs k d).children ≡ get_or below k [] =
          sym (get_or-map (λ (b : FlatModule). numbers_of b.children) bs k d [] lt) ∙ ap (λ l. get_or l k []) numbers in
          let one : get_or (get_or below k []) j 0 ≡ (get_or (get_or bs k d).children j e).of =
          ap (λ l. get_or l j 0) (sym here) ∙ get_or-map (λ (c : Child). c.of) (get_or bs k d).children j e 0 low in
          let many = ap length here in
          let inside : j < length (get_or below k []) = omega (arith, low, many, length-map (get_or bs k d).children (λ (c : Child). c.of)) in
          let bound = within k [] (omega (arith, lt, size, long)) j 0 inside in
          omega (arith, bound, one, size),
    )
