-- The bits and marks that are kept of a trace are the trace's.
use Rattle.std.proofs.Common.{◌≡◌, ℕ, ◌<◌, ◌≤◌, ◌+◌, Bool, true, false, List, [], ◌∷◌, ◌++◌, length, get_or, set, refl, subst, ap, sym, ◌∙◌, arith}
use Rattle.std.proofs.Common.{⊎_elim, Option, Some, None, length-append}
use Rattle.std.specs.List.{All}
use Rattle.std.specs.Prelude.{IfSome, slice_get}
use Rattle.std.proofs.Math.Seq.{get_or-append_seam}
use Rattle.std.proofs.lemmas.Bool.{cases_lt}
use Rattle.std.proofs.lemmas.List.{get_or_append_left, get_or_default, get_or_past}
use Rattle.std.proofs.lemmas.Option.{get_or_from_slice_get}
use Rattle.bs_net.specs.declared.net.NetId.{NetId}
use Rattle.bs_net.specs.Order.{IsChecked}
use Rattle.bs_sim.specs.declared.mark.Mark.TheVariants.{Moved}
use Rattle.bs_net.specs.declared.net.Flop.{Flop}
use Rattle.bs_net.specs.Circuit.{Circuit, Fits, bit_at}
use Rattle.bs_net.specs.Netlist.{Checked, circuit}
use Rattle.bs_net.proofs.CallerLemmas.{exactly_one_fits}
use Rattle.bs_sim.specs.declared.mark.Mark.{Mark}
use Rattle.bs_sim.specs.Marks.{Holds, SayNothing, StayHeld, AreShown, AreSettled, mark_at, fixed}
use Rattle.bs_sim.proofs.MarkLemmas.{fixed_holds}
use Rattle.bs_sim.proofs.StayLemmas.{stay_set}
use Rattle.bs_net_facts.specs.declared.fact.Fact.{Fact}
use Rattle.bs_net_facts.specs.Facts.{IsWayOf, IsReal}
use Rattle.bs_net_facts.proofs.CycleLemmas.{flop_shows}
use Rattle.bs_net_facts.specs.Seen.{RowsFit, HoldAtLast, ShowState, IsSeen}

-- ---- the last moment

pub stay_state : (flops : List Flop) (state : List Bool) (old now : List Mark) (i : ℕ) (d : Flop) (m : Mark) → i < length flops →
    m ≡ fixed (get_or state i false) → All (λ (g : Flop). g.q.0 < length old) flops → StayHeld (ShowState flops state) old now →
    StayHeld (ShowState flops state) old (set now (get_or flops i d).q.0 m)
stay_state flops state old now i d m lt mark placed h =
    let f = get_or flops i d in
    let e : f ≡ get_or flops i f = get_or_default flops i d f lt in
    let below : f.q.0 < length now = subst (λ (n : ℕ). f.q.0 < n) (sym h.size) (placed i d lt) in
    stay_set (ShowState flops state) old now f.q.0 m h below
    (λ v w r held.
    let both = r.each i f lt e in
    subst (λ (a : Mark). Holds a (bit_at v f.q.0) (bit_at w f.q.0)) (sym mark)
    (fixed_holds (get_or state i false) (bit_at v f.q.0) (bit_at w f.q.0) both.0 both.1))

pub marked_last : (c : Circuit) (s : List Bool) (m₀ m₁ m₂ m₃ : List Mark) → length m₀ ≡ c.nets → SayNothing m₀ →
    StayHeld (ShowState c.flops s) m₀ m₁ → StayHeld (AreShown c.constants) m₁ m₂ → StayHeld (AreSettled c.gates) m₂ m₃ → HoldAtLast c s m₃
marked_last c s m₀ m₁ m₂ m₃ size start states constants gates =
    record {
      size = gates.size ∙ (constants.size ∙ (states.size ∙ size));
      each = λ x v f.
          let shows : ShowState c.flops s v v = record {
            each = λ i g lt e. let b : bit_at v g.q.0 ≡ get_or s i false = flop_shows v s c.flops i g f.state lt e in (b, b);
          } in
          gates.each v v (f.gates, f.gates) (constants.each v v (f.constants, f.constants) (states.each v v shows (start.each v v)));
    }

-- ---- a bit

shown_by : (bit b : Bool) → Holds (fixed bit) b b → b ≡ bit
shown_by true b h = h.0
shown_by false b h = h.0

-- at the last moment
pub last_real : (net : Checked) (states inputs rows : List (List Bool)) (last : List Mark) (cycle : ℕ) (f : Fact) →
    IsSeen net states inputs rows last → cycle ≡ length inputs → f.cycle ≡ cycle → f.net.0 < length last → mark_at last f.net.0 ≡ fixed f.bit →
    IsReal (circuit net) states inputs f
last_real net states inputs rows last cycle f seen e same lt mark =
    record {
      in_time = subst (λ (n : ℕ). f.cycle < n) (sym seen.way.one_more) (omega (arith, e, same));
      placed = subst (λ (n : ℕ). f.net.0 < n) seen.last_holds.size lt;
      each = λ v m.
          let P : ℕ → Type 0 = λ t. Fits (circuit net) (get_or states t []) m.input v in
          let held = seen.last_holds.each m.input v (subst P (same ∙ e) m.fits) in
          shown_by f.bit (bit_at v f.net.0) (subst (λ (a : Mark). Holds a (bit_at v f.net.0) (bit_at v f.net.0)) mark (held.each f.net.0));
    }

-- at a moment with an input
pub row_real : (net : Checked) (states inputs rows : List (List Bool)) (last : List Mark) (cycle : ℕ) (row : List Bool) (f : Fact) →
    IsSeen net states inputs rows last → cycle < length inputs → slice_get rows cycle ≡ Some row → f.cycle ≡ cycle → f.net.0 < length row →
    slice_get row f.net.0 ≡ Some f.bit → IsReal (circuit net) states inputs f
row_real net states inputs rows last cycle row f seen lt at same placed bit =
    let c = circuit net in
    let in_states : cycle < length states = subst (λ (n : ℕ). cycle < n) (sym seen.way.one_more) (omega (arith, lt)) in
    let s = get_or states cycle [] in
    let x = get_or inputs cycle [] in
    let ls : length s ≡ length c.flops = seen.way.state_widths cycle [] in_states in
    let lx : length x ≡ length c.inputs = seen.way.input_widths cycle [] lt in
    let fitting : Fits c s x row = subst (λ (v : List Bool). Fits c s x v) (get_or_from_slice_get rows cycle row [] at) (seen.rows_fit.each cycle lt) in
    let one = exactly_one_fits c s x seen.checked ls lx in
    let mine : row ≡ one.0 = one.2 row fitting in
    record {
      in_time = subst (λ (n : ℕ). n < length states) (sym same) in_states;
      placed = subst (λ (n : ℕ). f.net.0 < n) fitting.every_net placed;
      each = λ v m.
          let input : m.input ≡ x = m.same (subst (λ (n : ℕ). n < length inputs) (sym same) lt) ∙ ap (λ t. get_or inputs t []) same in
          let P : ℕ → Type 0 = λ t. Fits c (get_or states t []) m.input v in
          let there : Fits c s m.input v = subst P same m.fits in
          let fits : Fits c s x v = subst (λ (y : List Bool). Fits c s y v) input there in
          let theirs : v ≡ one.0 = one.2 v fits in
          ap (λ w. bit_at w f.net.0) (theirs ∙ sym mine) ∙ get_or_from_slice_get row f.net.0 f.bit false bit;
    }

-- and past the nets
pub row_none : (net : Checked) (states inputs rows : List (List Bool)) (last : List Mark) (cycle : ℕ) (row : List Bool) (n : ℕ) →
    IsSeen net states inputs rows last → cycle < length inputs → slice_get rows cycle ≡ Some row → length row ≤ n → (circuit net).nets ≤ n
row_none net states inputs rows last cycle row n seen lt at past =
    let fit = seen.rows_fit.each cycle lt in
    subst (λ (m : ℕ). m ≤ n) (sym (ap length (get_or_from_slice_get rows cycle row [] at)) ∙ fit.every_net) past

-- what a mark says of the last moment
pub last_some : (net : Checked) (states inputs rows : List (List Bool)) (last marks : List Mark) (cycle : ℕ) (n : NetId) (o : Option Bool) →
    IsSeen net states inputs rows last → cycle ≡ length inputs → marks ≡ last → IfSome o (λ bit. mark_at marks n.0 ≡ fixed bit) →
    IfSome o (λ bit. IsReal (circuit net) states inputs (record { net = n; cycle = cycle; bit = bit }))
last_some net states inputs rows last marks cycle n None seen e same h = tt
last_some net states inputs rows last marks cycle n (Some bit) seen e same h =
    let mark : mark_at last n.0 ≡ fixed bit = ap (λ (ms : List Mark). mark_at ms n.0) (sym same) ∙ h in
    let lt : n.0 < length last =
    ⊎_elim
    (λ (below : n.0 < length last). below)
    (λ (past : length last ≤ n.0). absurd (not_moved bit (sym (get_or_past last n.0 Moved past) ∙ mark)))
    (cases_lt n.0 (length last)) in
    last_real net states inputs rows last cycle (record { net = n; cycle = cycle; bit = bit }) seen e refl lt mark
  where
    not_moved : (b : Bool) → Moved ≡ fixed b → ⊥
    not_moved true is = cc
    not_moved false is = cc

-- ---- the rows

pub rows_more : (c : Circuit) (states inputs rows : List (List Bool)) (i : ℕ) (row s x : List Bool) → RowsFit c states inputs i rows →
    slice_get states i ≡ Some s → slice_get inputs i ≡ Some x → Fits c s x row → RowsFit c states inputs (i + 1) (rows ++ row ∷ [])
rows_more c states inputs rows i row s x h at_s at_x fits =
    record {
      size = length-append rows (row ∷ []) ∙ ap (λ n. n + 1) h.size;
      each = λ k lt.
          ⊎_elim
          (λ (below : k < i).
          let in_rows : k < length rows = subst (λ (n : ℕ). k < n) (sym h.size) below in
          subst (λ (r : List Bool). Fits c (get_or states k []) (get_or inputs k []) r) (sym (get_or_append_left rows (row ∷ []) [] k in_rows)) (h.each k below))
          (λ (past : i ≤ k).
          let e : k ≡ i = omega (arith, past, lt) in
          let last : get_or (rows ++ row ∷ []) i [] ≡ row =
          ap (λ n. get_or (rows ++ row ∷ []) n []) (sym h.size) ∙ get_or-append_seam rows row [] [] in
          let there : Fits c (get_or states i []) (get_or inputs i []) (get_or (rows ++ row ∷ []) i []) =
          subst (λ (r : List Bool). Fits c (get_or states i []) (get_or inputs i []) r) (sym last)
          (subst (λ (y : List Bool). Fits c (get_or states i []) y row) (sym (get_or_from_slice_get inputs i x [] at_x))
          (subst (λ (y : List Bool). Fits c y x row) (sym (get_or_from_slice_get states i s [] at_s)) fits)) in
          subst (λ (n : ℕ). Fits c (get_or states n []) (get_or inputs n []) (get_or (rows ++ row ∷ []) n [])) (sym e) there)
          (cases_lt k i);
    }

pub seen_made : (net : Checked) (states inputs rows : List (List Bool)) (last : List Mark) (s : List Bool) (n : ℕ) → IsChecked (circuit net) →
    IsWayOf (circuit net) states inputs → RowsFit (circuit net) states inputs (length inputs) rows → slice_get states n ≡ Some s → n ≡ length inputs →
    HoldAtLast (circuit net) s last → IsSeen net states inputs rows last
seen_made net states inputs rows last s n checked way rows_fit there e hold =
    let is : get_or states (length inputs) [] ≡ s =
    ap (λ k. get_or states k []) (sym e) ∙ get_or_from_slice_get states n s [] there in
    record {
      checked = checked;
      way = way;
      rows_fit = rows_fit;
      last_holds = subst (λ (x : List Bool). HoldAtLast (circuit net) x last) (sym is) hold;
    }
