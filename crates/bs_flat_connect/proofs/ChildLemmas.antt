-- The instances of a module are those of the definition.
use Rattle.std.proofs.Common.{◌≡◌, ℕ, zero, suc, ◌<◌, ◌≤◌, ◌+◌, List, [], ◌∷◌, ◌++◌, map, take, length, get_or, Option, Some, None, refl, sym, ap, ◌∙◌, arith}
use Rattle.std.proofs.Common.{Result, Ok, Err, subst}
use Rattle.std.specs.Prelude.{slice_index_or, zip}
use Rattle.std.proofs.lemmas.List.{get_or-map, map-append, take_more}
use Rattle.std.proofs.lemmas.List.Concat.{flat_map_single}
use Rattle.bs_flat_meaning.specs.Connecting as flat
use Rattle.bs_flat_meaning.specs.Reading.{gathered, first_of}
use Rattle.bs_flat_meaning.specs.declared.statements.Written.{Written}
use Rattle.bs_flat_nets.specs.Blocks.{instance_of}
use Rattle.bs_flat_nets.specs.declared.blocks.Child.{Child}
use Rattle.bs_flat_modules.specs.declared.owns.Own.{Own}
use Rattle.bs_flat_modules.specs.Owns.{module_and_parts}
use Rattle.bs_flat_connect.specs.Wiring.{IsWiringOf}
use Rattle.bs_flat_connect.specs.Ports.{ArePortsOf}
use Rattle.bs_flat_connect.specs.declared.ports.Ports.{Ports}
use Rattle.bs_flat_connect.specs.declared.wiring.Wiring.{Wiring}
use Rattle.bs_flat_connect.specs.Matching.{ArePortsIn}
use Rattle.bs_flat_connect.specs.Joining.{unless, Tells}
use Rattle.bs_flat_connect.specs.Instances.{AreAllPorts, ArePortsOfAll, module_at, fault_at, instance_at, fault_by, instance_by, TellsChild, TellsChildren}
use Rattle.bs_flat_connect.specs.declared.fault.Fault.{Fault}
use Rattle.bs_flat_connect.proofs.LoopLemmas.{SoFar, so_far_none, so_far_more, so_far_stop, so_far_all}

-- ---- the instances of a module

pub record ChildrenSoFar (table : List (List ℕ)) (w : Wiring) (ps : List Ports) (below : List ℕ) (written : List Written) (i : ℕ) (made : List Child) : Type 0 where
  pub is : (ks : List flat.ReadModule) (at : Written → ℕ) (m : flat.ReadModule) → IsWiringOf table m w → ArePortsOfAll table ks ps →
      below ≡ map at written →
      SoFar (fault_by table ks at m) (λ x. instance_by table ks at m x ∷ []) written i (map instance_of made)

pub children_none : (table : List (List ℕ)) (w : Wiring) (ps : List Ports) (below : List ℕ) (written : List Written) → ChildrenSoFar table w ps below written 0 []
children_none table w ps below written =
    record { is = λ ks at m wired ports e. so_far_none (fault_by table ks at m) (λ x. instance_by table ks at m x ∷ []) written }

-- an instance of a module, as one of the module that is at its place
told_at : (table : List (List ℕ)) (w : Wiring) (ps : List Ports) (below : List ℕ) (written : List Written) (i : ℕ) (one d : Written) (p : Ports)
    (r : Result Child Fault) (ks : List flat.ReadModule) (at : Written → ℕ) (m : flat.ReadModule) → i < length written → one ≡ get_or written i d →
    get_or below i 0 < length ps → TellsChild table w (get_or ps (get_or below i 0) p) (get_or below i 0) one r → IsWiringOf table m w → ArePortsOfAll table ks ps →
    below ≡ map at written → Tells instance_of r (fault_by table ks at m (get_or written i d)) (instance_by table ks at m (get_or written i d))
told_at table w ps below written i one d p r ks at m lt here within tells wired ports e =
    let n = get_or below i 0 in
    let number : n ≡ at (get_or written i d) = ap (λ l. get_or l i 0) e ∙ get_or-map at written i d 0 lt in
    let told : Tells instance_of r (fault_at table m (module_at ks n) one) (instance_at table m (module_at ks n) n one) =
    tells.is m (module_at ks n) wired (ports.each n p within) in
    subst (λ x. Tells instance_of r (fault_by table ks at m x) (instance_by table ks at m x)) here
    (subst (λ k. Tells instance_of r (fault_at table m (module_at ks k) one) (instance_at table m (module_at ks k) k one))
    (number ∙ ap at (sym here)) told)

pub one_child : {A : Type 0} (o : Option ℕ) (x y : A) → unless o x ≡ Ok y → unless o (x ∷ []) ≡ Ok (y ∷ [])
one_child (Some n) x y e = absurd cc
one_child None x y e = let same : x ≡ y = cc in ap (λ z. Ok (z ∷ [])) same

pub children_more : (table : List (List ℕ)) (w : Wiring) (ps : List Ports) (below : List ℕ) (written : List Written) (i : ℕ) (one d : Written) (p : Ports)
    (made : List Child) (c : Child) → i < length written → one ≡ get_or written i d → get_or below i 0 < length ps →
    TellsChild table w (get_or ps (get_or below i 0) p) (get_or below i 0) one (Ok c) → ChildrenSoFar table w ps below written i made →
    ChildrenSoFar table w ps below written (i + 1) (made ++ c ∷ [])
children_more table w ps below written i one d p made c lt here within tells so_far =
    record {
      is = λ ks at m wired ports e.
          subst (λ l. SoFar (fault_by table ks at m) (λ x. instance_by table ks at m x ∷ []) written (i + 1) l) (sym (map-append instance_of made (c ∷ [])))
          (so_far_more (fault_by table ks at m) (λ x. instance_by table ks at m x ∷ []) written i d (map instance_of made) (instance_of c ∷ []) lt
          (so_far.is ks at m wired ports e) (one_child _ _ _ (told_at table w ps below written i one d p (Ok c) ks at m lt here within tells wired ports e)));
    }

pub children_stop : (table : List (List ℕ)) (w : Wiring) (ps : List Ports) (below : List ℕ) (written : List Written) (i : ℕ) (one d : Written) (p : Ports)
    (made : List Child) (f : Fault) → i < length written → one ≡ get_or written i d → get_or below i 0 < length ps →
    TellsChild table w (get_or ps (get_or below i 0) p) (get_or below i 0) one (Err f) → ChildrenSoFar table w ps below written i made →
    TellsChildren table w ps below written (Err f)
children_stop table w ps below written i one d p made f lt here within tells so_far =
    record {
      is = λ ks at m wired ports e.
          so_far_stop (fault_by table ks at m) (λ x. instance_by table ks at m x ∷ []) written i d (map instance_of made) f
          (instance_by table ks at m (get_or written i d)) (map (instance_by table ks at m) written) lt (so_far.is ks at m wired ports e)
          (told_at table w ps below written i one d p (Err f) ks at m lt here within tells wired ports e);
    }

pub children_all : (table : List (List ℕ)) (w : Wiring) (ps : List Ports) (below : List ℕ) (written : List Written) (i : ℕ) (made : List Child) →
    length written ≤ i → ChildrenSoFar table w ps below written i made → TellsChildren table w ps below written (Ok made)
children_all table w ps below written i made le so_far =
    record {
      is = λ ks at m wired ports e.
          ap (unless (first_of (map (fault_by table ks at m) written))) (sym (flat_map_single (instance_by table ks at m) written))
          ∙ so_far_all (fault_by table ks at m) (λ x. instance_by table ks at m x ∷ []) written i (map instance_of made) le (so_far.is ks at m wired ports e);
    }

-- ---- the ports of each module

pub ports_of_all : (table : List (List ℕ)) (owns : List Own) (written : List (List Written)) (ps : List Ports) → length owns ≡ length written →
    AreAllPorts owns ps → ArePortsOfAll table (map gathered (zip (map module_and_parts owns) written)) ps
ports_of_all table owns written ps long all = record { each = by owns written ps long all }
  where
    by : (owns : List Own) (written : List (List Written)) (ps : List Ports) → length owns ≡ length written → AreAllPorts owns ps →
        (n : ℕ) (p : Ports) → n < length ps →
        ArePortsIn table (module_at (map gathered (zip (map module_and_parts owns) written)) n) (slice_index_or ps n p)
    by [] written [] long all n p lt = absurd (omega (arith, lt))
    by [] written (q ∷ ps) long all n p lt = absurd all
    by (o ∷ os) written [] long all n p lt = absurd all
    by (o ∷ os) [] (q ∷ ps) long all n p lt = absurd (omega (arith, long))
    by (o ∷ os) (w ∷ ws) (q ∷ ps) long all zero p lt = record { ids = all.0.ids table w; ports = all.0.ports table w }
    by (o ∷ os) (w ∷ ws) (q ∷ ps) long all (suc n) p lt = by os ws ps (omega (arith, long)) all.1 n p (omega (arith, lt))

ports_push : (os : List Own) (ps : List Ports) (o : Own) (p : Ports) → AreAllPorts os ps → ArePortsOf o p → AreAllPorts (os ++ o ∷ []) (ps ++ p ∷ [])
ports_push [] [] o p all here = (here, tt)
ports_push [] (q ∷ qs) o p all here = absurd all
ports_push (n ∷ ns) [] o p all here = absurd all
ports_push (n ∷ ns) (q ∷ qs) o p all here = (all.0, ports_push ns qs o p all.1 here)

pub ports_more : (os : List Own) (ps : List Ports) (i : ℕ) (o d : Own) (p : Ports) → i < length os → o ≡ get_or os i d → AreAllPorts (take i os) ps →
    ArePortsOf o p → AreAllPorts (take (i + 1) os) (ps ++ p ∷ [])
ports_more os ps i o d p lt here all is =
    subst (λ l. AreAllPorts l (ps ++ p ∷ [])) (ap (λ x. take i os ++ x ∷ []) here ∙ sym (take_more os i d lt)) (ports_push (take i os) ps o p all is)

pub ports_long : (os : List Own) (ps : List Ports) → AreAllPorts os ps → length ps ≡ length os
ports_long [] [] all = refl
ports_long [] (q ∷ qs) all = absurd all
ports_long (n ∷ ns) [] all = absurd all
ports_long (n ∷ ns) (q ∷ qs) all = let rest = ports_long ns qs all.1 in omega (arith, rest)
