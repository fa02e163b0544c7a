-- What a pass keeps beside its seat, after each step.
use Rattle.std.proofs.Common.{◌≡◌, ◌≢◌, ℕ, suc, ◌+◌, ◌<◌, ◌≤◌, eqb, Bool, true, false, cond, ◌||◌, List, [], ◌∷◌, length, drop, sym, refl, ap, ◌∙◌, subst, arith, ne_eqb, length-append}
use mathlib.Core.Option.{Option, some, none, some-ne-none}
use Rattle.std.specs.List.{IsDistinct, AllByRecursion, list_any}
use Rattle.std.proofs.lemmas.Map.Steps.{length-le_from_distinct_below}
use Rattle.atomic_table.specs.Table.{rest}
use Rattle.board_rule.proofs.Items.{tested, off, has_cons_here, has_cons_else, has_without_here, has_without_else}
use Rattle.vertex_claims.proofs.Turns.{single_parts}
use Rattle.complex_core.specs.Complexes.{ComplexView}
use Rattle.board_rule.specs.Tries.{Try, wins}
use Rattle.vertex_claims.specs.Marks.{mark_of, marks_of}
use Rattle.board_rule.specs.Items.{item, has_item, single, places_of, without}
use Rattle.board_rule.specs.Views.{Empty, keeps, pass_view_of, is_pass, is_main, main_view_of, opened_by, without_item}
use Rattle.board_rule.specs.Plays.{Seated}
use Rattle.vertex_claims.specs.Held.{Ready, Shuffled, slot_at, knows}
use Rattle.board_rule.specs.Homes.{VersionedStar}
use Rattle.board_rule.specs.declared.data.Slot.{Slot}
use Rattle.board_rule.specs.declared.data.Slot.TheVariants.{Out}
use Rattle.board_rule.specs.declared.view.PassView.{PassView}
use Rattle.board_rule.specs.declared.view.View.{View}
use Rattle.board_rule.specs.declared.view.View.TheVariants.{Main, Pass, Spent}

pub is_a_pass : (x : View) → is_pass x ≡ true → x ≡ Pass (pass_view_of x)
is_a_pass (Main c) h = off h
is_a_pass (Pass v) h = refl
is_a_pass Spent h = off h

apart_from : (p : ℕ) (l : List (ℕ × Slot)) → has_item l p ≡ false → AllByRecursion (λ y. eqb p y ≡ false) (places_of l)
apart_from p [] h = tt
apart_from p (x ∷ xs) h = let t = parts x xs p h in (ne_eqb p x.0 (λ e. t.0 (sym e)), apart_from p xs t.1)
  where
    parts : (y : ℕ × Slot) (ys : List (ℕ × Slot)) (q : ℕ) → has_item (y ∷ ys) q ≡ false → (y.0 ≢ q) × (has_item ys q ≡ false)
    parts y ys q g = tested y.0 q (λ b. cond b true (has_item ys q) ≡ false → (y.0 ≢ q) × (has_item ys q ≡ false)) (λ _ t. off (sym t)) (λ ne t. (ne, t)) g

distinct : (l : List (ℕ × Slot)) → single l ≡ true → IsDistinct eqb (places_of l)
unfolding IsDistinct
distinct [] h = tt
distinct (x ∷ xs) h = let t = single_parts x xs h in (apart_from x.0 xs t.0, distinct xs t.1)

any_has : (q : ℕ) (l : List (ℕ × Slot)) → list_any (eqb q) (places_of l) ≡ true → has_item l q ≡ true
any_has q [] h = h
any_has q (x ∷ xs) h = tested q x.0 (λ b. b || list_any (eqb q) (places_of xs) ≡ true → cond (eqb x.0 q) true (has_item xs q) ≡ true)
    (λ e _. tested x.0 q (λ b. cond b true (has_item xs q) ≡ true) (λ _. refl) (λ ne. absurd (ne (sym e))))
    (λ ne t. tested x.0 q (λ b. cond b true (has_item xs q) ≡ true) (λ _. refl) (λ _. any_has q xs t)) h

-- there is room for one place more
pub room_left : (l : List (ℕ × Slot)) (p n : ℕ) → single l ≡ true → ((q : ℕ) → has_item l q ≡ true → q < n) → has_item l p ≡ false → p < n → length (places_of l) < n
room_left l p n one below free near =
    let longer : List (ℕ × Slot) = (p, Out) ∷ l in
    let one' : single longer ≡ true = ap (λ (b : Bool). cond b false (single l)) free ∙ one in
    let all : (q : ℕ) → list_any (eqb q) (places_of longer) ≡ true → q < n = λ q h. tested p q (λ b. cond b true (has_item l q) ≡ true → q < n) (λ e _. subst (λ (k : ℕ). k < n) e near) (λ _ t. below q t) (any_has q longer h) in
    let t = length-le_from_distinct_below (places_of longer) n (distinct longer one') all in
    omega arith

-- the place in front goes
ready_less_at : (x : View) (c l : List (ℕ × Slot)) (order order' : List ℕ) (room worker p : ℕ) (y : Slot) (w : PassView) → c ≡ (p, y) ∷ l → Ready (x, c) order room worker → order' ≡ places_of l → w.worker ≡ (pass_view_of x).worker
    → keeps w p ≡ false → ((q : ℕ) → q ≢ p → keeps w q ≡ keeps (pass_view_of x) q) → Ready (Pass w, l) order' room worker
ready_less_at x c l order order' room worker p y w is r ord same now others =
    let one : single ((p, y) ∷ l) ≡ true = ap single (sym is) ∙ r.once in
    let t = single_parts (p, y) l one in
    let back : (q : ℕ) → has_item c q ≡ has_item ((p, y) ∷ l) q = λ q. ap (λ (z : List (ℕ × Slot)). has_item z q) is in
    record {
      passes = refl;
      number = same ∙ r.number;
      ordered = ord;
      once = t.1;
      agrees = λ q. tested p q (λ b. cond b true (has_item l q) ≡ keeps (pass_view_of x) q → has_item l q ≡ keeps w q) (λ e _. subst (λ (k : ℕ). has_item l k ≡ keeps w k) e (t.0 ∙ sym now)) (λ ne g. g ∙ sym (others q (λ e. ne (sym e)))) (sym (back q) ∙ r.agrees q);
      below = λ q h. r.below q (back q ∙ tested p q (λ b. cond b true (has_item l q) ≡ true) (λ _. refl) (λ _. h));
    }

pub ready_less : (m n : Seated) (order order' : List ℕ) (room worker p : ℕ) (y : Slot) (w : PassView) → m.1 ≡ (p, y) ∷ rest m.1 → n ≡ (Pass w, rest m.1) → Ready m order room worker → order' ≡ places_of (rest m.1) → w.worker ≡ (knows m).worker
    → keeps w p ≡ false → ((q : ℕ) → q ≢ p → keeps w q ≡ keeps (knows m) q) → Ready n order' room worker
ready_less m n order order' room worker p y w is ends r ord same now others = subst (λ (z : Seated). Ready z order' room worker) (sym ends) (ready_less_at m.0 m.1 (rest m.1) order order' room worker p y w is r ord same now others)

-- what is left of the order when its first is gone
pub order_rest : (order : List ℕ) (m : Seated) (p : ℕ) (y : Slot) → order ≡ places_of m.1 → m.1 ≡ (p, y) ∷ rest m.1 → drop 1 order ≡ places_of (rest m.1)
order_rest order m p y o is = ap (drop 1) (o ∙ ap places_of is)

-- the slots are in another order
pub ready_shuffled : (m n : Seated) (order order' : List ℕ) (room worker : ℕ) → Ready m order room worker → Shuffled m n → order' ≡ places_of n.1 → Ready n order' room worker
ready_shuffled m n order order' room worker r s is = record {
  passes = ap is_pass s.view ∙ r.passes;
  number = ap (λ (x : View). (pass_view_of x).worker) s.view ∙ r.number;
  ordered = is;
  once = s.once ∙ r.once;
  agrees = λ p. s.has p ∙ (r.agrees p ∙ ap (λ (x : View). keeps (pass_view_of x) p) (sym s.view));
  below = λ p h. r.below p (sym (s.has p) ∙ h);
}

-- the slot in front changes
pub ready_put : (m n : Seated) (order : List ℕ) (room worker p : ℕ) (x y : Slot) → Ready m order room worker → m.1 ≡ (p, x) ∷ rest m.1 → n ≡ (m.0, (p, y) ∷ rest m.1) → Ready n order room worker
ready_put m n order room worker p x y r is ends = subst (λ (z : Seated). Ready z order room worker) (sym ends)
    (swapped m.0 m.1 (rest m.1) is r)
  where
    swapped : (v : View) (c l : List (ℕ × Slot)) → c ≡ (p, x) ∷ l → Ready (v, c) order room worker → Ready (v, (p, y) ∷ l) order room worker
    swapped v c l e g = let same = subst (λ (z : List (ℕ × Slot)). Ready (v, z) order room worker) e g in
        record { passes = same.passes; number = same.number; ordered = same.ordered; once = same.once; agrees = same.agrees; below = same.below }

-- what each slot has after the one in front changed
pub puts : (old mid new : Seated) (p : ℕ) (y z : Slot) → Shuffled old mid → mid.1 ≡ (p, y) ∷ rest mid.1 → new.1 ≡ (p, z) ∷ rest mid.1 → (q : ℕ) → slot_at new q ≡ cond (eqb p q) (some z) (slot_at old q)
puts old mid new p y z s is ends q =
    let before : slot_at old q ≡ cond (eqb p q) (some y) (item (rest mid.1) q) = sym (s.slots q) ∙ ap (λ (l : List (ℕ × Slot)). item l q) is in
    let after : slot_at new q ≡ cond (eqb p q) (some z) (item (rest mid.1) q) = ap (λ (l : List (ℕ × Slot)). item l q) ends in
    after ∙ (pick (eqb p q) ∙ sym (ap (λ (o : Option Slot). cond (eqb p q) (some z) o) before))
  where
    pick : (b : Bool) → cond b (some z) (item (rest mid.1) q) ≡ cond b (some z) (cond b (some y) (item (rest mid.1) q))
    pick true = refl
    pick false = refl

no_item : {A : Type 0} (l : List (ℕ × A)) (p : ℕ) → has_item l p ≡ false → item l p ≡ none
no_item [] p h = refl
no_item (x ∷ xs) p h = tested x.0 p (λ b. cond b true (has_item xs p) ≡ false → cond b (some x.1) (item xs p) ≡ none) (λ _ t. off (sym t)) (λ _ t. no_item xs p t) h

pub drops : (old mid new : Seated) (p : ℕ) (y : Slot) → Shuffled old mid → single old.1 ≡ true → mid.1 ≡ (p, y) ∷ rest mid.1 → new.1 ≡ rest mid.1 → (q : ℕ) → slot_at new q ≡ cond (eqb p q) none (slot_at old q)
drops old mid new p y s one is ends q =
    let before : slot_at old q ≡ cond (eqb p q) (some y) (item (rest mid.1) q) = sym (s.slots q) ∙ ap (λ (l : List (ℕ × Slot)). item l q) is in
    let after : slot_at new q ≡ item (rest mid.1) q = ap (λ (l : List (ℕ × Slot)). item l q) ends in
    let gone = (single_parts (p, y) (rest mid.1) (ap single (sym is) ∙ (s.once ∙ one))).0 in
    after ∙ (tested p q (λ b. item (rest mid.1) q ≡ cond b none (cond b (some y) (item (rest mid.1) q))) (λ e. ap (λ (k : ℕ). item (rest mid.1) k) (sym e) ∙ no_item (rest mid.1) p gone) (λ _. refl) ∙ sym (ap (λ (o : Option Slot). cond (eqb p q) none o) before))

-- a slot that the seat has
pub slot_there : (m : Seated) (p : ℕ) (x : Slot) → slot_at m p ≡ some x → has_item m.1 p ≡ true
slot_there m p x h = there m.1 h
  where
    there : (l : List (ℕ × Slot)) → item l p ≡ some x → has_item l p ≡ true
    there [] e = absurd (some-ne-none x (sym e))
    there (y ∷ ys) e = tested y.0 p (λ b. cond b (some y.1) (item ys p) ≡ some x → cond b true (has_item ys p) ≡ true) (λ _ _. refl) (λ _ t. there ys t) e

-- a place is brought to the front, and its slot changes
pub ready_swapped : (old mid new : Seated) (order order' : List ℕ) (room worker p : ℕ) (x y : Slot) → Ready old order room worker → Shuffled old mid → order' ≡ places_of mid.1 → mid.1 ≡ (p, x) ∷ rest mid.1
    → new ≡ (mid.0, (p, y) ∷ rest mid.1) → Ready new order' room worker
ready_swapped old mid new order order' room worker p x y r s ord is ends = ready_put mid new order' room worker p x y (ready_shuffled old mid order order' room worker r s ord) is ends

-- a place is brought to the front, and goes
pub ready_gone : (old mid new : Seated) (order order' : List ℕ) (room worker p : ℕ) (y : Slot) (w : PassView) → Ready old order room worker → Shuffled old mid → order' ≡ places_of mid.1 → mid.1 ≡ (p, y) ∷ rest mid.1
    → new ≡ (Pass w, rest mid.1) → w.worker ≡ (knows mid).worker → keeps w p ≡ false → ((q : ℕ) → q ≢ p → keeps w q ≡ keeps (knows mid) q) → Ready new (drop 1 order') room worker
ready_gone old mid new order order' room worker p y w r s ord is ends number now others = ready_less mid new order' (drop 1 order') room worker p y w is ends (ready_shuffled old mid order order' room worker r s ord) (order_rest order' mid p y ord is) number now others

-- what a pass has after each release
pub without_keeps : (v : PassView) (p : ℕ) → 0 < p → (keeps (without_item v p) p ≡ false) × ((q : ℕ) → q ≢ p → keeps (without_item v p) q ≡ keeps v q)
without_keeps v p pos = (
  tested p 0 (λ b. cond b v.has_journal (has_item (without p v.items) p) ≡ false) (λ e. absurd (omega arith)) (λ _. has_without_here p v.items),
  λ q ne. ap (λ (h : Bool). cond (eqb q 0) v.has_journal h) (has_without_else p q v.items ne),
)

pub is_a_main : (x : View) → is_main x ≡ true → x ≡ Main (main_view_of x)
is_a_main (Main c) h = refl
is_a_main (Pass v) h = off h
is_a_main Spent h = off h

-- a pass that has no place has no slot
pub no_slots : (m : Seated) (order : List ℕ) (room worker : ℕ) → Ready m order room worker → ((p : ℕ) → keeps (knows m) p ≡ false) → m.1 ≡ []
no_slots m order room worker r empty = nothing m.1 (λ p. r.agrees p ∙ empty p)
  where
    nothing : (l : List (ℕ × Slot)) → ((p : ℕ) → has_item l p ≡ false) → l ≡ []
    nothing [] h = refl
    nothing (x ∷ xs) h = absurd (tested x.0 x.0 (λ b. cond b true (has_item xs x.0) ≡ false → ⊥) (λ _ t. off (sym t)) (λ ne _. ne refl) (h x.0))

pub wins_le : (ts : List Try) → wins ts ≤ length ts
wins_le [] = omega arith
wins_le (t ∷ ts) = let i = wins_le ts in one t.won i
  where
    one : (b : Bool) → wins ts ≤ length ts → cond b 1 0 + wins ts ≤ suc (length ts)
    one true i = omega arith
    one false i = omega arith

pub length-marks : (ts : List Try) → length (marks_of ts) ≡ length ts
length-marks [] = refl
length-marks (t ∷ ts) = let i = length-marks ts in omega (arith, length-append (marks_of ts) (mark_of t ∷ []))

-- what a pass holds after a first claim
pub opened_keeps : (v : PassView) (p w : ℕ) (x : VersionedStar) (k : ComplexView) → 0 < p → w ≡ p → (keeps (opened_by v w x k) p ≡ true) × ((q : ℕ) → q ≢ p → keeps (opened_by v w x k) q ≡ keeps v q)
opened_keeps v p w x k pos same = subst (λ (j : ℕ). (keeps (opened_by v j x k) p ≡ true) × ((q : ℕ) → q ≢ p → keeps (opened_by v j x k) q ≡ keeps v q)) (sym same) (
  tested p 0 (λ b. cond b v.has_journal (has_item ((p, x) ∷ v.items) p) ≡ true) (λ e. absurd (omega arith)) (λ _. has_cons_here p x v.items),
  λ q ne. ap (λ (h : Bool). cond (eqb q 0) v.has_journal h) (has_cons_else p q x v.items ne),
)

-- what a pass holds after a release
pub less_keeps : (v : PassView) (p w : ℕ) → 0 < p → w ≡ p → (keeps (without_item v w) p ≡ false) × ((q : ℕ) → q ≢ p → keeps (without_item v w) q ≡ keeps v q)
less_keeps v p w pos same = subst (λ (j : ℕ). (keeps (without_item v j) p ≡ false) × ((q : ℕ) → q ≢ p → keeps (without_item v j) q ≡ keeps v q)) (sym same) (without_keeps v p pos)

-- a pass that has no star and no journal holds nothing
pub holds_nothing : (v : PassView) → v.items ≡ [] → v.has_journal ≡ false → Empty v
holds_nothing v items journal p = tested p 0 (λ b. cond b v.has_journal (has_item v.items p) ≡ false) (λ _. journal) (λ _. ap (λ (l : List (ℕ × VersionedStar)). has_item l p) items)
