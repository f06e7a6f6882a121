-- The marks of what is given in a cycle, and of what is carried to the next one.
use Rattle.std.proofs.Common.{◌≡◌, ℕ, ◌<◌, Bool, true, false, ◌&&◌, List, [], ◌∷◌, ◌++◌, map, length, get_or, refl, subst, ap, sym, ◌∙◌}
use Rattle.std.specs.List.{All, AllByRecursion}
use Rattle.std.specs.Prelude.{IsTrue}
use Rattle.std.proofs.lemmas.Bool.{false≢true}
use Rattle.std.proofs.lemmas.List.{get_or-map, get_or_default}
use Rattle.std.proofs.lemmas.List.Elements.{All-append, All-from_recursion}
use Rattle.bs_net.specs.declared.net.NetId.{NetId}
use Rattle.bs_net.specs.declared.net.Gate.{Gate}
use Rattle.bs_net.specs.declared.net.Flop.{Flop}
use Rattle.bs_net.specs.Circuit.{Circuit, IsSettled, bit_at, shown, next_state, loaded}
use Rattle.bs_net.specs.Gate.{gate_value, takes}
use Rattle.bs_sim.specs.declared.mark.Mark.{Mark}
use Rattle.bs_sim.specs.declared.mark.Mark.TheVariants.{Low, High, Still, Moved}
use Rattle.bs_sim.specs.Marks.{Holds, Hold, mark_at, fixed, gate_mark, flop_mark}
use Rattle.bs_sim.proofs.MarkLemmas.{holds_of, fixed_holds, gate_holds, flop_holds}
use Rattle.bs_net.specs.Netlist.{Checked, circuit}
use Rattle.bs_net.specs.Parts.{Parts, PartsArePlaced}
use Rattle.bs_net_facts.specs.declared.fact.Fact.{Fact}
use Rattle.bs_net_facts.specs.declared.block.Block.{Block}
use Rattle.bs_net_facts.specs.declared.known_loads.KnownNet.{KnownNet}
use Rattle.bs_net_facts.specs.Marked.{Marking, Marks, Stays, ShowBits, ShowAt, ShowKept, ShowBegun, AllSettled, IsGivenAt, Carry, CarryOn, has_bit, tell_bits}

pub stays_same : (K : List Bool → Type 0) (m : Marking) → Stays K m m
stays_same K m = record { net = refl; each = λ v k now. now }

-- one net more
pub stays_put : (K : List Bool → Type 0) (old now new : Marking) (n : ℕ) (m : Mark) → Stays K old now → new.net ≡ now.net →
    Marks n m now.marks new.marks → ((v : List Bool) → K v → Hold now.marks v v → Holds m (bit_at v n) (bit_at v n)) → Stays K old new
stays_put K old now new n m h e put right =
    record {
      net = e ∙ h.net;
      each = λ v k held. let here = h.each v k held in put.each v here (right v k here);
    }

-- what holds of each holds of the one that stands in a place
of_each : {X : Type 0} (P : X → Type 0) (xs : List X) (i : ℕ) (x : X) → i < length xs → x ≡ get_or xs i x → All P xs → P x
of_each P xs i x lt e h = subst P (sym e) (h i x lt)

-- a bit that is known
pub fixed_shown : (bit b : Bool) → b ≡ bit → Holds (fixed bit) b b
fixed_shown bit b e = fixed_holds bit b b e e

-- the facts, bits and marks of what stands in a place, whatever stands past the end
at_place : {X : Type 0} (P : X → Type 0) (xs : List X) (i : ℕ) (d : X) → i < length xs → All P xs → P (get_or xs i d)
at_place P xs i d lt h = h i d lt

pub stays_fact : (given : List Fact) (cycle : ℕ) (old now new : Marking) (i : ℕ) (d : Fact) (m : Mark) → i < length given →
    (get_or given i d).cycle ≡ cycle → m ≡ fixed (get_or given i d).bit → Stays (ShowAt cycle given) old now → new.net ≡ now.net →
    Marks (get_or given i d).net.0 m now.marks new.marks → Stays (ShowAt cycle given) old new
stays_fact given cycle old now new i d m lt same e h net put =
    let f = get_or given i d in
    stays_put (ShowAt cycle given) old now new f.net.0 m h net put
    (λ v k held.
    subst (λ (a : Mark). Holds a (bit_at v f.net.0) (bit_at v f.net.0)) (sym e)
    (fixed_shown f.bit (bit_at v f.net.0) (at_place (λ (g : Fact). g.cycle ≡ cycle → bit_at v g.net.0 ≡ g.bit) given i d lt k same)))

pub stays_bit : (bits : List Fact) (old now new : Marking) (i : ℕ) (d : Fact) (m : Mark) → i < length bits → m ≡ fixed (get_or bits i d).bit →
    Stays (ShowBits bits) old now → new.net ≡ now.net → Marks (get_or bits i d).net.0 m now.marks new.marks → Stays (ShowBits bits) old new
stays_bit bits old now new i d m lt e h net put =
    let f = get_or bits i d in
    stays_put (ShowBits bits) old now new f.net.0 m h net put
    (λ v k held.
    subst (λ (a : Mark). Holds a (bit_at v f.net.0) (bit_at v f.net.0)) (sym e)
    (fixed_shown f.bit (bit_at v f.net.0) (at_place (λ (g : Fact). bit_at v g.net.0 ≡ g.bit) bits i d lt k)))

pub stays_kept : (kept : List KnownNet) (old now new : Marking) (i : ℕ) (d : KnownNet) → i < length kept →
    Stays (ShowKept kept) old now → new.net ≡ now.net → Marks (get_or kept i d).net.0 (get_or kept i d).mark now.marks new.marks →
    Stays (ShowKept kept) old new
stays_kept kept old now new i d lt h net put =
    let k = get_or kept i d in
    stays_put (ShowKept kept) old now new k.net.0 k.mark h net put
    (λ v all held. at_place (λ (j : KnownNet). Holds j.mark (bit_at v j.net.0) (bit_at v j.net.0)) kept i d lt all)

-- what the parts keep of a gate
pub gate_placed : (n : Checked) (r : Parts) (gates : List Gate) (i : ℕ) (g : Gate) → PartsArePlaced r → r ≡ n.raw → gates ≡ r.gates → i < length gates →
    g ≡ get_or gates i g → All (λ (m : NetId). m.0 < (circuit n).nets) g.ins
gate_placed n r gates i g placed same is lt e =
    let P : Gate → Type 0 = λ h. All (λ (m : NetId). m.0 < length r.names) h.ins in
    let below : i < length r.gates = subst (λ (gs : List Gate). i < length gs) is lt in
    let here : P (get_or r.gates i g) = (placed.gates.1 i g below).1.1 in
    let there : P g = subst P (sym (e ∙ ap (λ (gs : List Gate). get_or gs i g) is)) here in
    subst (λ (x : Parts). All (λ (m : NetId). m.0 < length x.names) g.ins) same there

pub gate_takes : (r : Parts) (gates : List Gate) (i : ℕ) (g : Gate) → PartsArePlaced r → gates ≡ r.gates → i < length gates →
    g ≡ get_or gates i g → IsTrue (takes g.kind (length g.ins))
gate_takes r gates i g placed is lt e =
    let P : Gate → Type 0 = λ h. IsTrue (takes h.kind (length h.ins)) in
    let below : i < length r.gates = subst (λ (gs : List Gate). i < length gs) is lt in
    let here : P (get_or r.gates i g) = (placed.gates.1 i g below).2 in
    subst P (sym (e ∙ ap (λ (gs : List Gate). get_or gs i g) is)) here

pub gate_done : (old new : Marking) (gates : List Gate) (i : ℕ) (g : Gate) → gates ≡ (circuit old.net).gates → i < length gates → g ≡ get_or gates i g →
    new.net ≡ old.net → Marks g.out.0 (gate_mark old.marks g.kind g.ins) old.marks new.marks → IsTrue (takes g.kind (length g.ins)) →
    Stays (AllSettled (circuit old.net)) old new
gate_done old new gates i g same lt e net put taken =
    let c = circuit old.net in
    let below : i < length c.gates = subst (λ (gs : List Gate). i < length gs) same lt in
    let is : g ≡ get_or c.gates i g = subst (λ (gs : List Gate). g ≡ get_or gs i g) same e in
    stays_put (AllSettled c) old old new g.out.0 (gate_mark old.marks g.kind g.ins) (stays_same (AllSettled c) old) net put
    (λ v all held.
    let settled : bit_at v g.out.0 ≡ gate_value g.kind (shown v g.ins) = of_each (λ (k : Gate). IsSettled v k) c.gates i g below is all in
    holds_of (gate_mark old.marks g.kind g.ins) (bit_at v g.out.0) (bit_at v g.out.0) (gate_value g.kind (shown v g.ins))
    (gate_value g.kind (shown v g.ins)) settled settled (gate_holds old.marks v v held g.kind g.ins taken))

pub stays_gates : (old now new : Marking) → Stays (AllSettled (circuit old.net)) old now → Stays (AllSettled (circuit now.net)) now new →
    Stays (AllSettled (circuit old.net)) old new
stays_gates old now new h more =
    record {
      net = more.net ∙ h.net;
      each = λ v all held. more.each v (subst (λ (n : Checked). AllSettled (circuit n) v) (sym h.net) all) (h.each v all held);
    }

-- ---- what marks tell

has_bit_holds : (m : Mark) (bit b : Bool) → has_bit m bit ≡ true → Holds m b b → b ≡ bit
has_bit_holds Low true b e h = absurd (false≢true e)
has_bit_holds Low false b e h = h.0
has_bit_holds High true b e h = h.0
has_bit_holds High false b e h = absurd (false≢true e)
has_bit_holds Still bit b e h = absurd (false≢true e)
has_bit_holds Moved bit b e h = absurd (false≢true e)

both : (a b : Bool) → (a && b) ≡ true → (a ≡ true) × (b ≡ true)
both true b e = (refl, e)
both false b e = absurd (false≢true e)

told_by : (marks : List Mark) (v : List Bool) → Hold marks v v → (bits : List Fact) → tell_bits marks bits ≡ true →
    AllByRecursion (λ (f : Fact). bit_at v f.net.0 ≡ f.bit) bits
told_by marks v held [] e = tt
told_by marks v held (f ∷ bits) e =
    let parts = both (has_bit (mark_at marks f.net.0) f.bit) (tell_bits marks bits) e in
    (has_bit_holds (mark_at marks f.net.0) f.bit (bit_at v f.net.0) parts.0 (held.each f.net.0), told_by marks v held bits parts.1)

-- nets whose marks say that they have their bits show them
pub told_bits : (marks : List Mark) (bits : List Fact) (v : List Bool) → tell_bits marks bits ≡ true → Hold marks v v → ShowBits bits v
told_bits marks bits v e held = All-from_recursion (λ (f : Fact). bit_at v f.net.0 ≡ f.bit) bits (told_by marks v held bits e)

-- ---- what is carried

q_bits : (w : List Bool) (flops : List Flop) → shown w (map (λ (x : Flop). x.q) flops) ≡ map (λ (x : Flop). bit_at w x.q.0) flops
q_bits w [] = refl
q_bits w (x ∷ flops) = ap (λ rest. bit_at w x.q.0 ∷ rest) (q_bits w flops)

-- the bit of a flip-flop in what the state's nets show
pub flop_shows : (w bits : List Bool) (flops : List Flop) (i : ℕ) (f : Flop) → shown w (map (λ (x : Flop). x.q) flops) ≡ bits → i < length flops →
    f ≡ get_or flops i f → bit_at w f.q.0 ≡ get_or bits i false
flop_shows w bits flops i f e lt is =
    ap (λ (x : Flop). bit_at w x.q.0) is
    ∙ (sym (get_or-map (λ (x : Flop). bit_at w x.q.0) flops i f false lt)
    ∙ (ap (λ bs. get_or bs i false) (sym (q_bits w flops)) ∙ ap (λ bs. get_or bs i false) e))

pub carry_none : (c : Circuit) (marks : List Mark) → Carry c marks []
carry_none c marks =
    record { each = λ v w held lead. All-from_recursion (λ (k : KnownNet). Holds k.mark (bit_at w k.net.0) (bit_at w k.net.0)) [] tt }

pub carry_more : (c : Circuit) (marks : List Mark) (kept : List KnownNet) (i : ℕ) (f : Flop) (k : KnownNet) → i < length c.flops → f ≡ get_or c.flops i f →
    k.net ≡ f.q → k.mark ≡ flop_mark marks f → Carry c marks kept → Carry c marks (kept ++ k ∷ [])
carry_more c marks kept i f k lt e net mark h =
    record {
      each = λ v w held lead.
          let q : bit_at w f.q.0 ≡ loaded v f =
          flop_shows w (next_state c v) c.flops i f lead lt e ∙ (get_or-map (loaded v) c.flops i f false lt ∙ ap (loaded v) (sym e)) in
          let here : Holds (flop_mark marks f) (bit_at w f.q.0) (bit_at w f.q.0) =
          holds_of (flop_mark marks f) (bit_at w f.q.0) (bit_at w f.q.0) (loaded v f) (loaded v f) q q (flop_holds marks v v held f) in
          let there : Holds (flop_mark marks f) (bit_at w k.net.0) (bit_at w k.net.0) =
          subst (λ (n : NetId). Holds (flop_mark marks f) (bit_at w n.0) (bit_at w n.0)) (sym net) here in
          let last : Holds k.mark (bit_at w k.net.0) (bit_at w k.net.0) =
          subst (λ (m : Mark). Holds m (bit_at w k.net.0) (bit_at w k.net.0)) (sym mark) there in
          All-append (λ (j : KnownNet). Holds j.mark (bit_at w j.net.0) (bit_at w j.net.0)) kept (k ∷ []) (h.each v w held lead)
          (All-from_recursion (λ (j : KnownNet). Holds j.mark (bit_at w j.net.0) (bit_at w j.net.0)) (k ∷ []) (last, tt));
    }

-- one flip-flop more
pub carry_done : (c : Circuit) (marks : List Mark) (old new : List KnownNet) → CarryOn c marks old new → Carry c marks old → Carry c marks new
carry_done c marks old new on h = on.each h

pub carry_same : (c : Circuit) (marks : List Mark) (kept : List KnownNet) → CarryOn c marks kept kept
carry_same c marks kept = record { each = λ h. h }

pub carry_pushed : (c : Circuit) (marks : List Mark) (flops : List Flop) (kept new : List KnownNet) (i : ℕ) (d : Flop) (m : Mark) → flops ≡ c.flops →
    i < length flops → m ≡ flop_mark marks (get_or flops i d) → new ≡ kept ++ record { net = (get_or flops i d).q; mark = m } ∷ [] →
    CarryOn c marks kept new
carry_pushed c marks flops kept new i d m same lt mark is =
    let f = get_or flops i d in
    let below : i < length c.flops = subst (λ (fs : List Flop). i < length fs) same lt in
    let e : f ≡ get_or c.flops i f = get_or_default flops i d f lt ∙ ap (λ (fs : List Flop). get_or fs i f) same in
    record {
      each = λ h.
          subst (λ (ks : List KnownNet). Carry c marks ks) (sym is)
          (carry_more c marks kept i f (record { net = f.q; mark = m }) below e refl mark h);
    }

-- ---- a whole cycle

pub stays_all : (b : Block) (kept : List KnownNet) (t : ℕ) (given : List Fact) (m₀ m₁ m₂ m₃ m₄ : Marking) → given ≡ b.given → Stays (ShowKept kept) m₀ m₁ →
    Stays (ShowAt t given) m₁ m₂ → Stays (ShowBegun b t) m₂ m₃ → Stays (AllSettled (circuit m₃.net)) m₃ m₄ →
    Stays (IsGivenAt (circuit m₀.net) b kept t) m₀ m₄
stays_all b kept t given m₀ m₁ m₂ m₃ m₄ e first second third fourth =
    let same : m₃.net ≡ m₀.net = third.net ∙ (second.net ∙ first.net) in
    record {
      net = fourth.net ∙ same;
      each = λ v is held.
          let facts : ShowAt t given v = subst (λ (fs : List Fact). ShowAt t fs v) (sym e) is.given_holds in
          let gates : AllSettled (circuit m₃.net) v = subst (λ (n : Checked). AllSettled (circuit n) v) (sym same) is.gates_hold in
          fourth.each v gates (third.each v is.begun_holds (second.each v facts (first.each v is.kept_holds held)));
    }

pub stays_begun : (b : Block) (t : ℕ) (bits : List Fact) (old new : Marking) → bits ≡ b.bits → b.begun ≡ true → t ≡ b.since →
    Stays (ShowBits bits) old new → Stays (ShowBegun b t) old new
stays_begun b t bits old new e on at h =
    record {
      net = h.net;
      each = λ v k held. h.each v (subst (λ (fs : List Fact). ShowBits fs v) (sym e) (k.each on at)) held;
    }
