-- Places that are given back with their stars.
use Rattle.std.proofs.Common.{◌≡◌, ◌≢◌, ℕ, ◌+◌, ◌<◌, Bool, true, false, cond, nat_eq, ◌||◌, List, [], ◌∷◌, ◌++◌, length, length-append, take, get_or, sym, ◌∙◌, ap, refl, subst, arith}
use Rattle.std.specs.List.{AllByRecursion}
use Rattle.std.specs.List.Sorted.{IsStrictlySortedBy}
use Rattle.std.specs.Ordering.{nat_cmp}
use Rattle.std.specs.declared.cmp.Ordering.TheVariants.{Less}
use Rattle.std.proofs.lemmas.Bool.{ne_eqb}
use Rattle.std.proofs.lemmas.Cmp.{nat_cmp_total}
use mathlib.Core.Option.{some, none, some-injective}
use mathlib.Core.Logic.{dite}
use native.Mathlib.Decide.{ℕ_discrete}
use Rattle.complex_core.specs.Labels.{IsRising, has}
use Rattle.complex_core.proofs.Members.{has_snoc}
use Rattle.complex_core.proofs.Sets.{above_cons, above_head, above_tail, above_lower, sorted_none}
use Rattle.flip_rules.specs.declared.flip.Flip.{Flip}
use Rattle.star_laws.specs.Stars.{flips_touch}
use Rattle.stars.specs.StarViews.{VertexStar, KeptStar, vertices, shown}
use Rattle.stars.proofs.Adding.{not_before}
use Rattle.board_rule.specs.Homes.{VersionedStar}
use Rattle.board_rule.specs.Items.{item, has_item, without}
use Rattle.board_rule.specs.Plays.{Sees}
use Rattle.board_rule.specs.Views.{home, keeps, without_item, Empty}
use Rattle.board_rule.specs.declared.data.Slot.TheVariants.{Home}
use Rattle.board_rule.specs.declared.view.PassView.{PassView}
use Rattle.board_rule.proofs.Items.{tested, off, some_of, has_some, item_without, has_without_here, has_without_else}
use Rattle.vertex_claims.specs.Passes.{IsSame, know, slot, Puts}
use Rattle.vertex_claims.specs.declared.pass.Pass.{Pass}
use Rattle.held_stars.specs.Holding.{HasVersions, Settles, IsKnown, waits}
use Rattle.held_stars.proofs.LentStars.{vertices_snoc, shown_snoc, each_front, each_star_there, same_passes}

-- what a pass keeps while it gives places back
pub record Keeps (v w : PassView) : Type 0 where
  pub tries : w.tries ≡ v.tries
  pub mine : w.mine ≡ v.mine
  pub worker : w.worker ≡ v.worker
  pub start : w.start ≡ v.start
  pub places : w.places ≡ v.places
  pub free : w.has_journal ≡ v.has_journal

-- the places that are still held have their stars among these
pub record GivingUp (a b : Pass) (flips : List Flip) (stars : List VertexStar) : Type 0 where
  pub same : IsSame a b
  pub kept : Keeps (know a) (know b)
  pub settles : Settles b flips stars

pub none_given : (a : Pass) (flips : List Flip) (stars : List VertexStar) → Settles a flips stars → GivingUp a a flips stars
none_given a flips stars settles = record {
  same = record { table = refl; worker = refl; places = refl; limit = refl };
  kept = record { tries = refl; mine = refl; worker = refl; start = refl; places = refl; free = refl };
  settles = settles;
}

-- what is known of the last star
pub last_known : (b : Pass) (flips : List Flip) (near front : List KeptStar) (s : KeptStar) (p : ℕ) → Settles b flips (shown near) → near ≡ front ++ s ∷ [] → p ≡ s.star.vertex → (x : VersionedStar) × (item (know b).items p ≡ some x) × (s.star ≡ x.star)
last_known b flips near front s p g is at =
    let all : shown near ≡ shown front ++ s.star ∷ [] = ap shown is ∙ shown_snoc front s in
    let x : IsKnown (know b).items s.star = (each_front (IsKnown (know b).items) (shown front) s.star (subst (AllByRecursion (IsKnown (know b).items)) all g.known)).1 in
    (x.0, ap (item (know b).items) at ∙ x.1, x.2)

-- a rising list ends above all before
not_again : (xs : List ℕ) (p : ℕ) → IsRising (xs ++ p ∷ []) → has xs p ≡ false
not_again xs p r =
    let e : take (length xs) (xs ++ p ∷ []) ≡ xs = take-append xs (p ∷ []) in
    let at : get_or (xs ++ p ∷ []) (length xs) 0 ≡ p = last_label xs p in
    let long = length-append xs (p ∷ []) in
    let n : has (take (length xs) (xs ++ p ∷ [])) (get_or (xs ++ p ∷ []) (length xs) 0) ≡ false = not_before (xs ++ p ∷ []) (length xs) (above_tail nat_cmp 0 (xs ++ p ∷ []) r) (omega (arith, long)) in
    (λ i. has ((sym e) i) ((sym at) i)) ∙ n
  where
    last_label : (xs : List ℕ) (p : ℕ) → get_or (xs ++ p ∷ []) (length xs) 0 ≡ p
    last_label [] p = refl
    last_label (x ∷ xs) p = last_label xs p

    take-append : (xs ys : List ℕ) → take (length xs) (xs ++ ys) ≡ xs
    take-append [] ys = refl
    take-append (x ∷ xs) ys = ap (λ (l : List ℕ). x ∷ l) (take-append xs ys)

rising_front : (xs : List ℕ) (low p : ℕ) → IsStrictlySortedBy nat_cmp (low ∷ xs ++ p ∷ []) → IsStrictlySortedBy nat_cmp (low ∷ xs)
rising_front [] low p r = above_cons nat_cmp low [] tt (sorted_none nat_cmp)
rising_front (x ∷ xs) low p r =
    let rest : IsStrictlySortedBy nat_cmp (x ∷ xs) = rising_front xs x p (above_tail nat_cmp low (x ∷ xs ++ p ∷ []) r) in
    let below : R low x = (above_head nat_cmp low (x ∷ xs ++ p ∷ []) r).0 in
    above_cons nat_cmp low (x ∷ xs) (below, above_lower nat_cmp_total low x xs below (above_head nat_cmp x xs rest)) rest
  where
    R : ℕ → ℕ → Type 0
    R m n = nat_cmp m n ≡ Less

-- the last place was given back with its star
pub given_one : (a b c d : Pass) (flips : List Flip) (near front : List KeptStar) (s : KeptStar) (p : ℕ) → GivingUp a b flips (shown near) → near ≡ front ++ s ∷ [] → p ≡ s.star.vertex → IsSame b c → know c ≡ know b → ((q : ℕ) → q ≢ p → slot c q ≡ slot b q)
    → IsSame c d → know d ≡ without_item (know c) p → Puts c d p none → GivingUp a d flips (shown front)
given_one a b c d flips near front s p g is at same_bc known_bc slots same_cd known puts =
    let settles = g.settles in
    let was = (know b).items in
    let items : (know d).items ≡ without p was = ap (λ (h : PassView). h.items) known ∙ ap (λ (h : PassView). without p h.items) known_bc in
    let all : shown near ≡ shown front ++ s.star ∷ [] = ap shown is ∙ shown_snoc front s in
    let vs : vertices (shown near) ≡ vertices (shown front) ++ p ∷ [] = ap vertices all ∙ (vertices_snoc (shown front) s.star ∙ ap (λ (n : ℕ). vertices (shown front) ++ n ∷ []) (sym at)) in
    let rising : IsRising (vertices (shown front) ++ p ∷ []) = subst IsRising vs settles.held.rising in
    let fresh : has (vertices (shown front)) p ≡ false = not_again (vertices (shown front)) p rising in
    let other : (q : ℕ) → has_item (know d).items q ≡ true → q ≢ p = λ q h e. off (sym (has_without_here p was) ∙ (ap (λ (n : ℕ). has_item (without p was) n) (sym e) ∙ (ap (λ (l : List (ℕ × VersionedStar)). has_item l q) (sym items) ∙ h))) in
    let still : (q : ℕ) (x : VersionedStar) → q ≢ p → item was q ≡ some x → item (know d).items q ≡ some x = λ q x ne h.
    let y = some_of (without p was) q (has_without_else p q was ne ∙ has_some was q x h) in
    let same : y.0 ≡ x = some-injective y.0 x (sym (item_without p q y.0 was y.1) ∙ h) in
    ap (λ (l : List (ℕ × VersionedStar)). item l q) items ∙ (y.1 ∙ ap some same) in
    record {
      same = same_passes a c d (same_passes a b c g.same same_bc) same_cd;
      kept = record {
        tries = ap (λ (h : PassView). h.tries) known ∙ (ap (λ (h : PassView). h.tries) known_bc ∙ g.kept.tries);
        mine = ap (λ (h : PassView). h.mine) known ∙ (ap (λ (h : PassView). h.mine) known_bc ∙ g.kept.mine);
        worker = ap (λ (h : PassView). h.worker) known ∙ (ap (λ (h : PassView). h.worker) known_bc ∙ g.kept.worker);
        start = ap (λ (h : PassView). h.start) known ∙ (ap (λ (h : PassView). h.start) known_bc ∙ g.kept.start);
        places = ap (λ (h : PassView). h.places) known ∙ (ap (λ (h : PassView). h.places) known_bc ∙ g.kept.places);
        free = ap (λ (h : PassView). h.has_journal) known ∙ (ap (λ (h : PassView). h.has_journal) known_bc ∙ g.kept.free);
      };
      settles = record {
        held = record {
          rising = rising_front (vertices (shown front)) 0 p rising;
          each = λ q. dite (ℕ_discrete q p)
              (λ e. ap (has (vertices (shown front))) e ∙ (fresh ∙ (sym (has_without_here p was) ∙ (ap (has_item (without p was)) (sym e) ∙ ap (λ (l : List (ℕ × VersionedStar)). has_item l q) (sym items)))))
              (λ ne. less_last (has (vertices (shown front)) q) (nat_eq p q) (ne_eqb p q (λ e. ne (sym e))) ∙ (sym (has_snoc (vertices (shown front)) p q) ∙ (ap (λ (l : List ℕ). has l q) (sym vs)
              ∙ (settles.held.each q ∙ (sym (has_without_else p q was ne) ∙ ap (λ (l : List (ℕ × VersionedStar)). has_item l q) (sym items))))));
        };
        known = each_star_there (shown front) (each_front (IsKnown was) (shown front) s.star (subst (AllByRecursion (IsKnown was)) all settles.known)).0
            (λ t there x. (x.0, still t.vertex x.0 (λ e. off (sym fresh ∙ (ap (has (vertices (shown front))) (sym e) ∙ there))) x.1, x.2));
        slots = λ q x got.
            let ne = other q (has_some (know d).items q x got) in
            let old = item_without p q x was (ap (λ (l : List (ℕ × VersionedStar)). item l q) (sym items) ∙ got) in
            let o = settles.slots q x old in
            (o.0, o.1, puts q ∙ (tested p q (λ t. cond t none (slot c q) ≡ slot c q) (λ e. absurd (ne (sym e))) (λ _. refl) ∙ (slots q ne ∙ o.2)), o.3);
      };
    }
  where
    less_last : (a b : Bool) → b ≡ false → a ≡ (a || b)
    less_last true b h = refl
    less_last false b h = sym h

-- when no star is left no place is held
pub all_given : (b : Pass) (flips : List Flip) (near : List KeptStar) → Settles b flips (shown near) → near ≡ [] → (know b).has_journal ≡ false → Empty (know b)
all_given b flips near g none_left free q = tested q 0 (λ t. cond t (know b).has_journal (has_item (know b).items q) ≡ false) (λ _. free) (λ _. sym (g.held.each q) ∙ ap (λ (l : List KeptStar). has (vertices (shown l)) q) none_left)

-- ---- a star that goes home

-- its version, with one entry more where the flips have the place
pub version_fits : (pass : Pass) (flips : List Flip) (p : ℕ) (out : VersionedStar) (x : VersionedStar) → HasVersions pass flips → item (know pass).items p ≡ some x → slot pass p ≡ some (Home out) → x.version ≡ out.version + cond (flips_touch p flips) 1 0
version_fits pass flips p out x slots here at =
    let s = slots p x here in
    let same : out ≡ home s.0 s.1 = home_is out (home s.0 s.1) (sym at ∙ s.2) in
    s.3 ∙ ap (λ (y : VersionedStar). y.version + cond (flips_touch p flips) 1 0) (sym same)
  where
    home_is : (a b : VersionedStar) → some (Home a) ≡ some (Home b) → a ≡ b
    home_is a b e = let h : Home a ≡ Home b = some-injective (Home a) (Home b) e in cc

pub versioned_slot : (pass : Pass) (flips : List Flip) (p : ℕ) (x : VersionedStar) → HasVersions pass flips → item (know pass).items p ≡ some x → (y : VersionedStar) × (slot pass p ≡ some (Home y))
versioned_slot pass flips p x slots here = let s = slots p x here in (home s.0 s.1, s.2)

-- ---- claims of place 0

pub waits_claiming : (v : PassView) (os : List ℕ) → (waits v os).claiming ≡ v.claiming
waits_claiming v [] = refl
waits_claiming v (o ∷ os) = waits_claiming v os

pub waits_journal : (v : PassView) (os : List ℕ) → (waits v os).has_journal ≡ v.has_journal
waits_journal v [] = refl
waits_journal v (o ∷ os) = waits_journal v os

pub waits_worker : (v : PassView) (os : List ℕ) → (waits v os).worker ≡ v.worker
waits_worker v [] = refl
waits_worker v (o ∷ os) = waits_worker v os

-- ---- whether a place is held

pub held_of : (v : PassView) (p : ℕ) (b : Bool) → v.has_journal ≡ false → b ≡ keeps v p → b ≡ true → has_item v.items p ≡ true
held_of v p b free is h = tested p 0 (λ t. cond t v.has_journal (has_item v.items p) ≡ true → has_item v.items p ≡ true) (λ _ t. off (sym free ∙ t)) (λ _ t. t) (sym is ∙ h)

pub not_held : (v : PassView) (p : ℕ) (b : Bool) → Sees v → b ≡ keeps v p → b ≡ false → has_item v.items p ≡ false
not_held v p b sees is h = tested p 0 (λ t. cond t v.has_journal (has_item v.items p) ≡ false → has_item v.items p ≡ false) (λ e _. by e (has_item v.items p) refl) (λ _ t. t) (sym is ∙ h)
  where
    by : p ≡ 0 → (t : Bool) → has_item v.items p ≡ t → has_item v.items p ≡ false
    by e true g = let x = some_of v.items p g in let low = (sees.stars p x.0 x.1).0 in absurd (omega (arith, low, e))
    by e false g = g
