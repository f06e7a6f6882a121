-- Where all runs lead, cycle by cycle, and what a hash that differs says.
use Rattle.std.proofs.Common.{◌≡◌, ℕ, zero, suc, ◌<◌, ◌≤◌, ◌+◌, ◌-◌, ◌*◌, Bool, true, false, ◌||◌, List, [], ◌∷◌, ◌++◌, length, map, take, get_or, refl, arith, ap, ap₂, sym, subst, ◌∙◌, ◌⊎◌, ⊎_elim, length-append, Some, nat_eq}
use Rattle.std.specs.Prelude.{◌==◌, slice_get, OnOk, OnErr, Result, Ok, Err, All}
use Rattle.std.specs.List.{AllByRecursion}
use Rattle.std.proofs.lemmas.Bool.{cases_eq, cases_lt, eqb-false, true≢false}
use Rattle.std.proofs.lemmas.List.{get_or_past, map_more}
use Rattle.std.proofs.lemmas.List.Elements.{All-weaker, recursion_from_All}
use Rattle.std.proofs.lemmas.List.FromFn.{map-range_with_len_more}
use Rattle.bs_net.specs.Circuit.{Circuit, next}
use Rattle.bs_net.specs.Gate.{is_odd}
use Rattle.bs_net.specs.Netlist.{circuit}
use Rattle.bs_preimage_recorded.specs.Independent.{IsIndependent}
use Rattle.bs_stim.specs.declared.limits.TheConstants.{MAX_CYCLES}
use Rattle.bs_stim.specs.Packing.{bit_in, HasPut}
use Rattle.bs_lanes.specs.Lanes.{LaneTable, IsSameTable, AreStepped}
use Rattle.bs_lanes.specs.Planes.{bit_place, lane}
use Rattle.bs_lanes.proofs.PlaneLemmas.{lane_at, length_lane}
use Rattle.bs_scan.specs.Moments.{Run, moment, IsMoment, run_of, state_at}
use Rattle.bs_preimage_recorded.specs.declared.forward.PresentHashes.{PresentHashes}
use Rattle.bs_preimage_recorded.specs.declared.forward.NextStateHashes.{NextStateHashes}
use Rattle.bs_preimage_recorded.specs.Forward.{Holding, Holds, IsHeldIn, IsHolding, TellsLead, TellLeads, TellRuns, TellsRow, no_row, IsSide, IsForward, Extended, LeadsNowhere}
use Rattle.bs_chip.specs.Lockstep.{wide_of, Passing, IsSamePass, ShowsCycle}
use Rattle.bs_chip.specs.Hashes.{hash_more, hash_of, ListsEach}
use Rattle.bs_preimage_recorded.specs.Groups.{parities_of, AreIndependent}
use Rattle.bs_chip.specs.Parities.{HaveParities}
use Rattle.bs_scan.specs.Signature.{parity_of}
use Rattle.bs_chip.proofs.IndexLemmas.{hash_snoc}
use Rattle.bs_chip.proofs.ParityLemmas.{signature_lane}
use Rattle.bs_chip.proofs.TrackLemmas.{track_at}
use Rattle.bs_chip.proofs.StepLemmas.{of_table}

-- ---- hashes of parities

pub parity_next : (groups : List (List ℕ)) (bits : List Bool) (i hash next : ℕ) (group : List ℕ) (bit : Bool) → i < length groups →
    slice_get groups i ≡ Some group → bit ≡ parity_of bits group → hash ≡ hash_of (map (parity_of bits) (take i groups)) →
    next ≡ hash_more hash bit → next ≡ hash_of (map (parity_of bits) (take (i + 1) groups))
parity_next groups bits i hash next group bit lt look e h n =
    let here : bit ≡ parity_of bits (get_or groups i []) = e ∙ ap (parity_of bits) (sym (track_at groups i group look)) in
    n
    ∙ (ap₂ hash_more h here
    ∙ (sym (hash_snoc (map (parity_of bits) (take i groups)) (parity_of bits (get_or groups i [])))
    ∙ sym (ap hash_of (map_more (parity_of bits) groups i [] lt))))

-- the lanes of the groups' planes tell the parities of the lanes
pub parities_told : (groups : List (List ℕ)) (planes words hashes : List ℕ) (wide width count lanes n : ℕ) →
    All (λ group. All (λ place. place < width) group) groups → count ≡ length groups * wide → HaveParities groups planes wide count words →
    lanes ≤ 64 * wide → n ≡ length groups → ListsEach (λ r. hash_of (lane wide n words r)) hashes lanes →
    ListsEach (λ r. hash_of (parities_of groups (lane wide width planes r))) hashes lanes
parities_told groups planes words hashes wide width count lanes n range whole have few number list =
    record {
      size = list.size;
      each = λ r lt.
          list.each r lt
          ∙ (ap (λ (m : ℕ). hash_of (lane wide m words r)) number
          ∙ ap hash_of
          (signature_lane (record { width = width; depth = 1; items = groups }) planes words wide count r range whole have (omega (arith, lt, few))));
    }

-- ---- groups of flagged places

same_map : {X Y : Type 0} (f g : X → Y) (xs : List X) → AllByRecursion (λ x. f x ≡ g x) xs → map f xs ≡ map g xs
same_map f g [] h = refl
same_map f g (x ∷ xs) h = ap (λ y. y ∷ map f xs) h.0 ∙ ap (λ ys. g x ∷ ys) (same_map f g xs h.1)

flagged_below : (flags : List Bool) (k n : ℕ) → length flags ≡ n → get_or flags k false ≡ true → k < n
flagged_below flags k n size on =
    ⊎_elim (λ (there : k < length flags). omega (arith, there, size))
    (λ (past : length flags ≤ k). absurd (true≢false (sym on ∙ get_or_past flags k false past)))
    (cases_lt k (length flags))

pub groups_independent : (c : Circuit) (input : ℕ) (value : Bool) (flags : List Bool) (groups : List (List ℕ)) → IsIndependent c input value flags →
    All (λ group. All (λ place. get_or flags place false ≡ true) group) groups → AreIndependent c input value groups
groups_independent c input value flags groups independent flagged =
    let On : List ℕ → Type 0 = λ group. All (λ place. get_or flags place false ≡ true) group in
    record {
      in_range =
          All-weaker On (λ group. All (λ place. place < length c.flops) group)
          (λ group h.
          All-weaker (λ place. get_or flags place false ≡ true) (λ place. place < length c.flops)
          (λ place on. flagged_below flags place (length c.flops) independent.size on) group h)
          groups flagged;
      same = λ state a b ls la lb ha hb.
          let s : List Bool = next c state a in
          let t : List Bool = next c state b in
          same_map (parity_of s) (parity_of t) groups
          (recursion_from_All (λ group. parity_of s group ≡ parity_of t group) groups
          (All-weaker On (λ group. parity_of s group ≡ parity_of t group)
          (λ group h.
          ap is_odd
          (same_map (λ place. get_or s place false) (λ place. get_or t place false) group
          (recursion_from_All (λ place. get_or s place false ≡ get_or t place false) group
          (All-weaker (λ place. get_or flags place false ≡ true) (λ place. get_or s place false ≡ get_or t place false)
          (λ place on. independent.same place on state a b ls la lb ha hb) group h))))
          groups flagged));
    }

pub holds_groups : (c d : Circuit) (wide w input : ℕ) (value : Bool) (groups : List (List ℕ)) (words : List ℕ) (width count : ℕ) → d ≡ c → w ≡ wide →
    1 ≤ wide → wide ≤ 4 → width ≡ length c.flops → count ≡ length c.inputs → length words ≡ count * wide →
    (input < count → IsHeldIn wide input value words (64 * wide)) → AreIndependent c input value groups →
    IsHolding (record { circuit = d; wide = w; input = input; value = value; groups = groups }) words width
holds_groups c d wide w input value groups words width count e f some few size inputs room held independent =
    let h : Circuit → ℕ → Holding = λ d w. record { circuit = d; wide = w; input = input; value = value; groups = groups } in
    subst (λ (d : Circuit). IsHolding (h d w) words width) (sym e)
    (subst (λ (w : ℕ). IsHolding (h c w) words width) (sym f)
    (record {
      some = some;
      few = few;
      width_is = size;
      size = room ∙ ap (λ (n : ℕ). n * wide) inputs;
      held = λ lt. held (omega (arith, lt, inputs));
      independent = independent;
    }))

-- ---- an input held at a value

pub held_none : (wide input : ℕ) (value : Bool) (planes : List ℕ) → IsHeldIn wide input value planes 0
held_none wide input value planes = record { each = λ r lt. absurd (omega (arith, lt)) }

pub held_more : (wide input at lane : ℕ) (value : Bool) (old new : List ℕ) → IsHeldIn wide input value old at → lane ≡ at →
    HasPut (bit_place wide input lane) value old new → IsHeldIn wide input value new (at + 1)
held_more wide input at lane value old new h is put =
    let p : HasPut (bit_place wide input at) value old new = subst (λ (n : ℕ). HasPut (bit_place wide input n) value old new) is put in
    record {
      each = λ r lt.
          ⊎_elim
          (λ (same : r ≡ at). ap (λ (n : ℕ). bit_in new (bit_place wide input n)) same ∙ p.here)
          (λ (other : r ≡ at → ⊥).
          p.others (bit_place wide input r) (λ (e : bit_place wide input r ≡ bit_place wide input at). other (omega (arith, e)))
          ∙ h.each r (omega (arith, lt, other)))
          (cases_eq r at);
    }

-- the input of a lane has the value, where any input of that width has
lane_holds : (wide count input : ℕ) (value : Bool) (planes : List ℕ) (r : ℕ) (x : List Bool) →
    (input < count → IsHeldIn wide input value planes (64 * wide)) → r < 64 * wide → length x ≡ count → get_or x input false ≡ value →
    get_or (lane wide count planes r) input false ≡ value
lane_holds wide count input value planes r x held lt size has =
    ⊎_elim
    (λ (there : input < count). lane_at wide count planes r input there ∙ (held there).each r lt)
    (λ (past : count ≤ input).
    get_or_past (lane wide count planes r) input false (omega (arith, past, length_lane wide count planes r))
    ∙ (sym (get_or_past x input false (omega (arith, past, size))) ∙ has))
    (cases_lt input count)

lead_told : (h : Holding) (s a : List Bool) (hash : ℕ) → AreIndependent h.circuit h.input h.value h.groups → length s ≡ length h.circuit.flops →
    length a ≡ length h.circuit.inputs →
    ((x : List Bool) → length x ≡ length h.circuit.inputs → get_or x h.input false ≡ h.value → get_or a h.input false ≡ h.value) →
    hash ≡ hash_of (parities_of h.groups (next h.circuit s a)) → TellsLead h s hash
lead_told h s a hash independent ls la holds e =
    record {
      each = λ x lx has. e ∙ ap hash_of (independent.same s a x ls la lx (holds x lx has) has);
    }

pub leads_told : (h : Holding) (loaded new : LaneTable) (inputs planes hashes : List ℕ) (lanes wide width : ℕ) → IsHolding h inputs width →
    circuit loaded.net ≡ h.circuit → loaded.wide ≡ h.wide → loaded.flops ≡ planes → IsSameTable loaded new → AreStepped loaded new inputs →
    wide ≡ new.wide → lanes ≤ 64 * h.wide →
    ListsEach (λ r. hash_of (parities_of h.groups (lane wide width new.flops r))) hashes lanes → TellLeads h planes hashes lanes
leads_told h loaded new inputs planes hashes lanes wide size hold net w flops same step width few list =
    record {
      size = list.size;
      each = λ r lt.
          let small : r < 64 * h.wide = omega (arith, lt, few) in
          let c : Circuit = h.circuit in
          let a : List Bool = lane h.wide (length c.inputs) inputs r in
          let s : List Bool = lane h.wide (length c.flops) planes r in
          let led : lane h.wide (length c.flops) new.flops r ≡ next c (lane h.wide (length c.flops) loaded.flops r) a =
          of_table c (circuit loaded.net) (circuit new.net) h.wide loaded.wide new.wide loaded.flops new.flops inputs r net (ap circuit same.net ∙ net) w
          (same.wide ∙ w) (step.state r (omega (arith, small, w))) in
          let is : lane wide size new.flops r ≡ next c s a =
          ap₂ (λ (i j : ℕ). lane i j new.flops r) (width ∙ (same.wide ∙ w)) hold.width_is
          ∙ (led ∙ ap (λ (ps : List ℕ). next c (lane h.wide (length c.flops) ps r) a) flops) in
          lead_told h s a (get_or hashes r 0) hold.independent (length_lane h.wide (length c.flops) planes r) (length_lane h.wide (length c.inputs) inputs r)
          (λ x lx has. lane_holds h.wide (length c.inputs) h.input h.value inputs r x hold.held small lx has)
          (list.each r lt ∙ ap (λ (bits : List Bool). hash_of (parities_of h.groups bits)) is);
    }

-- ---- all runs at a cycle

pub runs_told : (p : Passing) (h : Holding) (value : Bool) (planes hashes : List ℕ) (lanes : ℕ) → IsSide p h value →
    ShowsCycle p.circuit p.runs planes p.cycle → lanes ≡ length p.runs → TellLeads h planes hashes lanes → TellRuns p h hashes p.cycle
runs_told p h value planes hashes lanes side shows all leads =
    record {
      size = leads.size ∙ all;
      each = λ n low high last.
          let same : lane h.wide (length h.circuit.flops) planes (n - 1) ≡ state_at p.circuit (run_of p.runs n) p.cycle =
          (λ i. lane (side.wide i) (length (side.circuit i).flops) planes (n - 1)) ∙ shows.each n low high last in
          subst (λ (s : List Bool). TellsLead h s (get_or hashes (n - 1) 0)) same (leads.each (n - 1) (omega (arith, low, high, all)));
    }

side_same : (p q : Passing) (h : Holding) (value : Bool) → IsSamePass p q → IsSide p h value → IsSide q h value
side_same p q h value same side = record {
  circuit = side.circuit ∙ sym same.circuit;
  wide = side.wide ∙ ap (λ (runs : List Run). wide_of (length runs)) (sym same.runs);
  held = side.held;
}

told_same : (p q : Passing) (h : Holding) (hashes : List ℕ) (cycle : ℕ) → IsSamePass p q → TellRuns p h hashes cycle → TellRuns q h hashes cycle
told_same p q h hashes cycle same told =
    let P : Circuit → Type 0 = λ c. TellRuns (record { circuit = c; runs = p.runs; cycle = q.cycle }) h hashes cycle in
    let Q : List Run → Type 0 = λ runs. TellRuns (record { circuit = q.circuit; runs = runs; cycle = q.cycle }) h hashes cycle in
    let here : TellRuns (record { circuit = p.circuit; runs = p.runs; cycle = q.cycle }) h hashes cycle = record { size = told.size; each = told.each } in
    subst Q (sym same.runs) (subst P (sym same.circuit) here)

row_same : (p q : Passing) (low high : Holding) (row : NextStateHashes) (cycle : ℕ) → IsSamePass p q → TellsRow p low high row cycle → TellsRow q low high row cycle
row_same p q low high row cycle same told =
    record { lows = told_same p q low row.low cycle same told.lows; highs = told_same p q high row.high cycle same told.highs }

-- ---- the rows

row_at_end : (xs : List NextStateHashes) (x d : NextStateHashes) → get_or (xs ++ x ∷ []) (length xs) d ≡ x
row_at_end [] x d = refl
row_at_end (y ∷ xs) x d = row_at_end xs x d

row_at_front : (xs : List NextStateHashes) (x d : NextStateHashes) (k : ℕ) → k < length xs → get_or (xs ++ x ∷ []) k d ≡ get_or xs k d
row_at_front [] x d k lt = absurd (omega (arith, lt))
row_at_front (y ∷ xs) x d zero lt = refl
row_at_front (y ∷ xs) x d (suc k) lt = row_at_front xs x d k (omega (arith, lt))

pub row_there : (rows : List NextStateHashes) (k : ℕ) (row : NextStateHashes) → slice_get rows k ≡ Some row → get_or rows k no_row ≡ row
row_there [] k row e = absurd (cc)
row_there (x ∷ rows) zero row e = cc
row_there (x ∷ rows) (suc k) row e = row_there rows k row e

pub nothing_ahead : (p : Passing) (low high : Holding) → IsSide p low false → IsSide p high true → high.input ≡ low.input → p.cycle ≡ 0 →
    IsForward p low high []
nothing_ahead p low high one other same reset =
    record {
      low_side = one;
      high_side = other;
      input = same;
      noted = omega (arith, reset);
      near = omega arith;
      few = omega arith;
      show = λ k lt. absurd (omega (arith, lt));
    }

-- both sides of a split, and no row yet
pub starts_ahead : (p : Passing) (low high : Holding) (c : Circuit) (wide input : ℕ) (rows : List NextStateHashes) → Holds c wide input false low →
    Holds c wide input true high → c ≡ p.circuit → wide ≡ wide_of (length p.runs) → p.cycle ≡ 0 → rows ≡ [] → IsForward p low high rows
starts_ahead p low high c wide input rows one other e w reset none =
    let first : IsSide p low false = record { circuit = one.circuit_is ∙ e; wide = one.wide_is ∙ w; held = one.value_is } in
    let second : IsSide p high true = record { circuit = other.circuit_is ∙ e; wide = other.wide_is ∙ w; held = other.value_is } in
    subst (λ (rs : List NextStateHashes). IsForward p low high rs) (sym none) (nothing_ahead p low high first second (other.input_is ∙ sym one.input_is) reset)

-- a pass that stands at the cycle behind the rows
pub still_ahead : (old p : Passing) (low high : Holding) (rows : List NextStateHashes) → IsForward old low high rows → IsSamePass old p → p.cycle ≡ length rows →
    IsForward p low high rows
still_ahead old p low high rows f same there =
    record {
      low_side = side_same old p low false same f.low_side;
      high_side = side_same old p high true same f.high_side;
      input = f.input;
      noted = omega (arith, there);
      near = omega (arith, there);
      few = f.few;
      show = λ k lt. row_same old p low high (get_or rows k no_row) k same (f.show k lt);
    }

-- a pass that was brought to the cycle behind the rows, or has stayed
pub brought_ahead : (old p : Passing) (low high : Holding) (rows : List NextStateHashes) (next : ℕ) → IsForward old low high rows → IsSamePass old p →
    next ≡ length rows → (p.cycle ≡ old.cycle) ⊎ (p.cycle ≡ next) → IsForward p low high rows
brought_ahead old p low high rows next f same is moved =
    record {
      low_side = side_same old p low false same f.low_side;
      high_side = side_same old p high true same f.high_side;
      input = f.input;
      noted = ⊎_elim (λ (e : p.cycle ≡ old.cycle). omega (arith, e, f.noted)) (λ (e : p.cycle ≡ next). omega (arith, e, is)) moved;
      near = ⊎_elim (λ (e : p.cycle ≡ old.cycle). omega (arith, e, f.near)) (λ (e : p.cycle ≡ next). omega (arith, e, is)) moved;
      few = f.few;
      show = λ k lt. row_same old p low high (get_or rows k no_row) k same (f.show k lt);
    }

one_more_ahead : (p : Passing) (low high : Holding) (rows : List NextStateHashes) (row : NextStateHashes) → IsForward p low high rows → p.cycle ≡ length rows →
    length rows ≤ MAX_CYCLES → TellsRow p low high row p.cycle → IsForward p low high (rows ++ row ∷ [])
one_more_ahead p low high rows row f there few told =
    let longer : length (rows ++ row ∷ []) ≡ length rows + 1 = length-append rows (row ∷ []) in
    record {
      low_side = f.low_side;
      high_side = f.high_side;
      input = f.input;
      noted = omega (arith, there, longer);
      near = omega (arith, there, longer);
      few = omega (arith, few, longer);
      show = λ k lt.
          ⊎_elim
          (λ (same : k ≡ length rows).
          subst (λ (x : NextStateHashes). TellsRow p low high x k)
          (sym (ap (λ (i : ℕ). get_or (rows ++ row ∷ []) i no_row) same ∙ row_at_end rows row no_row))
          (subst (λ (n : ℕ). TellsRow p low high row n) (there ∙ sym same) told))
          (λ (other : k ≡ length rows → ⊥).
          let less : k < length rows = omega (arith, lt, other, longer) in
          subst (λ (x : NextStateHashes). TellsRow p low high x k) (sym (row_at_front rows row no_row k less)) (f.show k less))
          (cases_eq k (length rows));
    }

-- a row is put to the others, or nothing has changed
pub pushed_ahead : {A E : Type 0} (p : Passing) (low high : Holding) (rows more : List NextStateHashes) (row : NextStateHashes) (put : Result A E) → IsForward p low high rows →
    p.cycle ≡ length rows → length rows ≤ MAX_CYCLES → TellsRow p low high row p.cycle → OnOk put (more ≡ rows ++ row ∷ []) → OnErr put (more ≡ rows) → IsForward p low high more
pushed_ahead p low high rows more row (Ok done) f there few told is same =
    subst (λ (rs : List NextStateHashes). IsForward p low high rs) (sym is) (one_more_ahead p low high rows row f there few told)
pushed_ahead p low high rows more row (Err want) f there few told is same = subst (λ (rs : List NextStateHashes). IsForward p low high rs) (sym same) f

pub extended_same : (rows more : List NextStateHashes) → more ≡ rows → Extended rows more
extended_same rows more same =
    record { longer = omega (arith, ap length same); each = λ k lt. ap (λ (rs : List NextStateHashes). get_or rs k no_row) same }

pub extended_put : {A E : Type 0} (rows more : List NextStateHashes) (row : NextStateHashes) (put : Result A E) → OnOk put (more ≡ rows ++ row ∷ []) →
    OnErr put (more ≡ rows) → Extended rows more
extended_put rows more row (Ok done) is same =
    record {
      longer = omega (arith, ap length is, length-append rows (row ∷ []));
      each = λ k lt. ap (λ (rs : List NextStateHashes). get_or rs k no_row) is ∙ row_at_front rows row no_row k lt;
    }
extended_put rows more row (Err want) is same = extended_same rows more same

pub extended_more : (rows mid more : List NextStateHashes) → Extended rows mid → Extended mid more → Extended rows more
extended_more rows mid more a b =
    record {
      longer = omega (arith, a.longer, b.longer);
      each = λ k lt. b.each k (omega (arith, lt, a.longer)) ∙ a.each k lt;
    }

-- ---- what a hash says

neither : (a b : Bool) → (a || b) ≡ false → (a ≡ false) × (b ≡ false)
neither true b e = absurd (true≢false e)
neither false b e = (refl, e)

-- a hash that differs tells that the state leads nowhere, where the input has the value
told_apart : (c : Circuit) (h : Holding) (s present x : List Bool) (hash aim : ℕ) → h.circuit ≡ c → TellsLead h s hash →
    aim ≡ hash_of (parities_of h.groups present) → (hash ≡ aim → ⊥) → length x ≡ length c.inputs → get_or x h.input false ≡ h.value →
    next c s x ≡ present → ⊥
told_apart c h s present x hash aim is told e differ lx has leads =
    differ
    (told.each x (lx ∙ ap (λ (d : Circuit). length d.inputs) (sym is)) has
    ∙ (ap (λ (d : Circuit). hash_of (parities_of h.groups (next d s x))) is
    ∙ (ap (λ (bits : List Bool). hash_of (parities_of h.groups bits)) leads ∙ sym e)))

-- two hashes that differ from an aim's tell that a state leads nowhere
pub led_nowhere : (p : Passing) (low high : Holding) (row : NextStateHashes) (aim : PresentHashes) (present : List Bool) (run cycle : ℕ) → IsSide p low false →
    IsSide p high true → high.input ≡ low.input → TellsRow p low high row cycle → IsMoment p.runs (moment run cycle) →
    aim.low ≡ hash_of (parities_of low.groups present) → aim.high ≡ hash_of (parities_of high.groups present) →
    (get_or row.low (run - 1) 0 ≡ aim.low → ⊥) → (get_or row.high (run - 1) 0 ≡ aim.high → ⊥) →
    LeadsNowhere p.circuit (state_at p.circuit (run_of p.runs run) cycle) present
led_nowhere p low high row aim present run cycle low_side high_side input told m one other low_apart high_apart =
    record {
      each = λ x lx leads. by x lx leads (get_or x low.input false) refl;
    }
  where
    by : (x : List Bool) → length x ≡ length p.circuit.inputs → next p.circuit (state_at p.circuit (run_of p.runs run) cycle) x ≡ present →
        (b : Bool) → get_or x low.input false ≡ b → ⊥
    by x lx leads false has =
        told_apart p.circuit low (state_at p.circuit (run_of p.runs run) cycle) present x (get_or row.low (run - 1) 0) aim.low low_side.circuit
        (told.lows.each run m.from_one m.recorded m.lasts) one low_apart lx (has ∙ sym low_side.held) leads
    by x lx leads true has =
        told_apart p.circuit high (state_at p.circuit (run_of p.runs run) cycle) present x (get_or row.high (run - 1) 0) aim.high high_side.circuit
        (told.highs.each run m.from_one m.recorded m.lasts) other high_apart lx
        (ap (λ (n : ℕ). get_or x n false) input ∙ (has ∙ sym high_side.held)) leads

pub nowhere : (p : Passing) (low high : Holding) (rows : List NextStateHashes) (row : NextStateHashes) (aim : PresentHashes) (present : List Bool) (run cycle at : ℕ) (may : Bool) →
    IsForward p low high rows → cycle < length rows → slice_get rows cycle ≡ Some row → IsMoment p.runs (moment run cycle) → at ≡ run - 1 →
    aim.low ≡ hash_of (parities_of low.groups present) → aim.high ≡ hash_of (parities_of high.groups present) →
    may ≡ ((get_or row.low at 0 == aim.low) || (get_or row.high at 0 == aim.high)) → may ≡ false →
    LeadsNowhere p.circuit (state_at p.circuit (run_of p.runs run) cycle) present
nowhere p low high rows row aim present run cycle at may f lt look m back one other is denied =
    let told : TellsRow p low high row cycle = subst (λ (x : NextStateHashes). TellsRow p low high x cycle) (row_there rows cycle row look) (f.show cycle lt) in
    let both : (nat_eq (get_or row.low at 0) aim.low ≡ false) × (nat_eq (get_or row.high at 0) aim.high ≡ false) = neither _ _ (sym is ∙ denied) in
    led_nowhere p low high row aim present run cycle f.low_side f.high_side f.input told m one other
    (λ (e : get_or row.low (run - 1) 0 ≡ aim.low). eqb-false (get_or row.low at 0) aim.low both.0 (ap (λ (n : ℕ). get_or row.low n 0) back ∙ e))
    (λ (e : get_or row.high (run - 1) 0 ≡ aim.high). eqb-false (get_or row.high at 0) aim.high both.1 (ap (λ (n : ℕ). get_or row.high n 0) back ∙ e))
