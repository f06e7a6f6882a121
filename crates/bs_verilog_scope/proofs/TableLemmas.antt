-- What is said of names, and marks, as a loop goes on.
use Rattle.std.proofs.Common.{Ok, Result, arith, ◌≡◌, ℕ, ◌+◌, ◌<◌, ◌==◌, ◌||◌, Bool, true, false, cond, List, [], ◌∷◌, ◌++◌}
use Rattle.std.proofs.Common.{length, ◌≤◌, get_or, take, drop, Option, Some, None, refl, sym, ap, ◌∙◌, inl, inr}
use Rattle.std.specs.List.{list_any}
use Rattle.std.proofs.lemmas.List.{take_more, drop_more, drop_all, take_all}
use Rattle.std.proofs.lemmas.List.Folds.{list_any_more}
use Rattle.std.proofs.lemmas.Bool.Decides.{eqb_tells}
use Rattle.bs_lex.specs.declared.lexeme.Name.{Name}
use Rattle.bs_verilog_syntax.specs.declared.tree.Says.{Says}
use Rattle.bs_verilog_syntax.specs.declared.tree.Declared.{Declared}
use Rattle.bs_verilog_syntax.specs.declared.fault.VerilogFault.{VerilogFault}
use Rattle.bs_verilog_scope.specs.Checking.{Entries, looked, marked, with_entry, with_mark}
use Rattle.bs_verilog_scope.specs.Declaring.{first_after, is_in, said, says_of, together, or_later}

-- the mark of each number is whether a name before has it
abbrev pub IsMarked : List ℕ → List Name → Type 0
IsMarked marks before = (id : ℕ) → marked marks id ≡ is_in before id

-- the entry of each number is what was said of it before
abbrev pub IsSaid : Entries → List Declared → Type 0
IsSaid table before = (id : ℕ) → looked table id ≡ said before id

or_true : (b : Bool) → (b || true) ≡ true
or_true true = refl
or_true false = refl

or_false : (b : Bool) → (b || false) ≡ b
or_false true = refl
or_false false = refl

pub marks_start : (marks : List ℕ) → marks ≡ [] → IsMarked marks []
marks_start marks e id = ap (λ (ms : List ℕ). marked ms id) e

pub marks_more : (marks after : List ℕ) (names : List Name) (i : ℕ) (d : Name) → i < length names
    → ((k : ℕ) → marked after k ≡ with_mark (marked marks) (get_or names i d).id k) → IsMarked marks (take i names) → IsMarked after (take (i + 1) names)
marks_more marks after names i d h put seen id =
    let x = get_or names i d in
    let before = list_any (λ b. b.id == id) (take i names) in
    let all : list_any (λ b. b.id == id) (take (i + 1) names) ≡ (before || (x.id == id)) = list_any_more (λ b. b.id == id) names i d h in
    elim (eqb_tells x.id id) [
      | inl same ↦ put id ∙ ap (λ (b : Bool). cond b true (marked marks id)) same.0 ∙ sym (all ∙ ap (λ t. before || t) same.0 ∙ or_true before)
      | inr other ↦
          put id ∙ ap (λ (b : Bool). cond b true (marked marks id)) other.0 ∙ seen id ∙ sym (all ∙ ap (λ t. before || t) other.0 ∙ or_false before)
    ]

-- the first that breaks a rule, one further
step : {A : Type 0} (breaks : List A → A → Bool) (xs : List A) (i : ℕ) (d : A) → i < length xs
    → first_after breaks (take i xs) (drop i xs)
    ≡ cond (breaks (take i xs) (get_or xs i d)) (Some (get_or xs i d)) (first_after breaks (take (i + 1) xs) (drop (i + 1) xs))
unfolding first_after
step breaks xs i d h = rw (drop_more xs i d h, take_more xs i d h) refl

pub first_here : {A : Type 0} (breaks : List A → A → Bool) (xs : List A) (i : ℕ) (d : A) (total : Option A) → i < length xs
    → breaks (take i xs) (get_or xs i d) ≡ true → first_after breaks (take i xs) (drop i xs) ≡ total → total ≡ Some (get_or xs i d)
first_here breaks xs i d total h broken so_far =
    let later = first_after breaks (take (i + 1) xs) (drop (i + 1) xs) in
    sym so_far ∙ step breaks xs i d h ∙ ap (λ b. cond b (Some (get_or xs i d)) later) broken

pub first_later : {A : Type 0} (breaks : List A → A → Bool) (xs : List A) (i : ℕ) (d : A) (total : Option A) → i < length xs
    → breaks (take i xs) (get_or xs i d) ≡ false → first_after breaks (take i xs) (drop i xs) ≡ total
    → first_after breaks (take (i + 1) xs) (drop (i + 1) xs) ≡ total
first_later breaks xs i d total h kept so_far =
    let later = first_after breaks (take (i + 1) xs) (drop (i + 1) xs) in
    sym (step breaks xs i d h ∙ ap (λ b. cond b (Some (get_or xs i d)) later) kept) ∙ so_far

pub first_none : {A : Type 0} (breaks : List A → A → Bool) (xs : List A) (i : ℕ) (total : Option A) → length xs ≤ i
    → first_after breaks (take i xs) (drop i xs) ≡ total → total ≡ None
unfolding first_after
first_none breaks xs i total h so_far = sym so_far ∙ ap (first_after breaks (take i xs)) (drop_all i xs h)

or_later-assoc : {A : Type 0} (a b c : Option A) → or_later (or_later a b) c ≡ or_later a (or_later b c)
or_later-assoc (Some x) b c = refl
or_later-assoc None b c = refl

together-assoc : (a b c : Option Says) → together (together a b) c ≡ together a (together b c)
together-assoc None b c = refl
together-assoc (Some a) None c = refl
together-assoc (Some a) (Some b) None = refl
together-assoc (Some a) (Some b) (Some c) = rw (or_later-assoc a.direction b.direction c.direction, or_later-assoc a.net b.net c.net) refl

together-None : (a : Option Says) → together a None ≡ a
together-None None = refl
together-None (Some a) = refl

-- one declaration more
said-snoc : (ds : List Declared) (d : Declared) (id : ℕ) → said (ds ++ d ∷ []) id ≡ together (said ds id) (says_of d id)
unfolding said
said-snoc [] d id = together-None (says_of d id)
said-snoc (x ∷ ds) d id = ap (together (says_of x id)) (said-snoc ds d id) ∙ sym (together-assoc (says_of x id) (said ds id) (says_of d id))

says_of-same : (d : Declared) (id : ℕ) → (d.name.id == id) ≡ true → says_of d id ≡ Some d.says
says_of-same d id e = rw e refl

says_of-other : (d : Declared) (id : ℕ) → (d.name.id == id) ≡ false → says_of d id ≡ None
says_of-other d id e = rw e refl

pub scope_start : (entries : Entries) → entries ≡ [] → IsSaid entries []
unfolding said
scope_start entries e id = ap (λ (es : Entries). looked es id) e

pub said_more : (scope after : Entries) (ds : List Declared) (i : ℕ) (d : Declared) (says : Says) → i < length ds
    → ((k : ℕ) → looked after k ≡ with_entry (looked scope) (get_or ds i d).name.id says k) → IsSaid scope (take i ds)
    → Some says ≡ together (looked scope (get_or ds i d).name.id) (Some (get_or ds i d).says) → IsSaid after (take (i + 1) ds)
said_more scope after ds i d says h put seen made id =
    let x = get_or ds i d in
    let before = said (take i ds) id in
    let all : said (take (i + 1) ds) id ≡ together before (says_of x id) = ap (λ xs. said xs id) (take_more ds i d h) ∙ said-snoc (take i ds) x id in
    elim (eqb_tells x.name.id id) [
      | inl same ↦
          put id ∙ ap (λ (b : Bool). cond b (Some says) (looked scope id)) same.0 ∙ made
          ∙ ap (λ k. together (looked scope k) (Some x.says)) same.1
          ∙ ap (λ s. together s (Some x.says)) (seen id)
          ∙ sym (all ∙ ap (together before) (says_of-same x id same.0))
      | inr other ↦
          put id ∙ ap (λ (b : Bool). cond b (Some says) (looked scope id)) other.0 ∙ seen id
          ∙ sym (all ∙ ap (together before) (says_of-other x id other.0) ∙ together-None before)
    ]

-- all names, at the end
pub all_marked : (marks : List ℕ) (names : List Name) (i : ℕ) → length names ≤ i → IsMarked marks (take i names) → marked marks ≡ is_in names
all_marked marks names i h seen = λ j id. (seen id ∙ ap (λ xs. is_in xs id) (take_all i names h)) j

pub all_said : (table : Entries) (ds : List Declared) (i : ℕ) → length ds ≤ i → IsSaid table (take i ds) → looked table ≡ said ds
all_said table ds i h seen = λ j id. (seen id ∙ ap (λ xs. said xs id) (take_all i ds h)) j

pub ok_of : {A : Type 0} (x y : A) → ◌≡◌ {A = Result A VerilogFault} (Ok x) (Ok y) → x ≡ y
ok_of x y e = cc
