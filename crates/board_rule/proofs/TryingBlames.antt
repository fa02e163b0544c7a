-- Whom refused claims name, after each change.
use Rattle.std.proofs.Common.{◌≡◌, ◌≢◌, ℕ, ◌<◌, Bool, true, false, ◌&&◌, ◌||◌, List, [], ◌∷◌, length, sym, refl, ap, ◌∙◌, subst, inl, inr, arith}
use mathlib.Core.Logic.{dite}
use mathlib.Core.Option.{some, some-injective}
use native.Mathlib.Decide.{ℕ_discrete}
use Rattle.std.specs.Prelude.{slice_index, slice_set}
use Rattle.std.specs.List.{AllByRecursion}
use lib.ListN.{get_elem?}
use Rattle.atomic_table.proofs.Lists.{set_here, set_else}
use Rattle.board_rule.specs.Items.{has_item}
use Rattle.board_rule.specs.Tries.{Try, won_try, lost_try, refused_at, noted_at, at_last, last_note, has_won}
use Rattle.board_rule.specs.Views.{keeps}
use Rattle.board_rule.specs.Rule.{Owned, IsOther, Marked, Holds, HasWon, Blames}
use Rattle.board_rule.specs.Homes.{VersionedStar}
use Rattle.board_rule.specs.declared.view.PassView.{PassView}
use Rattle.board_rule.specs.declared.view.MainView.{MainView}
use Rattle.board_rule.specs.declared.view.View.{View}
use Rattle.board_rule.specs.declared.view.View.TheVariants.{Main, Pass, Spent}
use Rattle.board_rule.proofs.Items.{off, has_more}
use Rattle.board_rule.proofs.Seats.{within, one_pass}
use Rattle.board_rule.proofs.Owning.{keeps_star}

-- ---- seats

-- a seat of a pass is none of main
pub not_main : (views : List View) (c : MainView) (i j : ℕ) (v : PassView) → get_elem? views i ≡ some (Main c) → get_elem? views j ≡ some (Pass v) → j ≢ i
not_main views c i j v a b e = let bad : Main c ≡ Pass v = some-injective (Main c) (Pass v) (sym a ∙ (ap (λ (k : ℕ). get_elem? views k) (sym e) ∙ b)) in cc

-- nor of one that is spent
pub not_spent : (views : List View) (i j : ℕ) (v : PassView) → get_elem? views i ≡ some Spent → get_elem? views j ≡ some (Pass v) → i ≢ j
not_spent views i j v a b e = let bad : Spent ≡ Pass v = some-injective Spent (Pass v) (sym a ∙ (ap (λ (k : ℕ). get_elem? views k) e ∙ b)) in cc

-- ---- a place that was won

or_later : (a b : Bool) → b ≡ true → a || b ≡ true
or_later true b h = refl
or_later false b h = h

or_first : (a b : Bool) → a ≡ true → a || b ≡ true
or_first a b h = ap (λ (x : Bool). x || b) h

both : (a b : Bool) → a ≡ true → b ≡ true → a && b ≡ true
both a b h g = ap (λ (x : Bool). x && b) h ∙ g

grown_head : (a b more : Bool) → (a ≡ true → b ≡ true) → a || more ≡ true → b || more ≡ true
grown_head true b more f h = or_first b more (f refl)
grown_head false b more f h = or_later b more h

second_grows : (w a b : Bool) → (a ≡ true → b ≡ true) → w && a ≡ true → w && b ≡ true
second_grows true a b f h = f h
second_grows false a b f h = h

pub won_later : (t : Try) (ts : List Try) (p : ℕ) → has_won ts p ≡ true → has_won (t ∷ ts) p ≡ true
won_later t ts p h = or_later (t.won && has_item t.note p) (has_won ts p) h

pub won_counted : (a b : ℕ) (ts : List Try) (p : ℕ) → has_won ts p ≡ true → has_won (at_last (refused_at a b) ts) p ≡ true
won_counted a b [] p h = h
won_counted a b (t ∷ ts) p h = h

pub won_noted : (q : ℕ) (x : VersionedStar) (ts : List Try) (p : ℕ) → has_won ts p ≡ true → has_won (at_last (noted_at q x) ts) p ≡ true
won_noted q x [] p h = h
won_noted q x (t ∷ ts) p h = grown_head (t.won && has_item t.note p) (t.won && has_item ((q, x) ∷ t.note) p) (has_won ts p)
    (second_grows t.won (has_item t.note p) (has_item ((q, x) ∷ t.note) p) (has_more q p x t.note)) h

-- the latest note has the place
pub won_last : (ts : List Try) (p : ℕ) → AllByRecursion Marked ts → has_item (last_note ts) p ≡ true → has_won ts p ≡ true
won_last [] p m h = off h
won_last (t ∷ ts) p m h = by t.won refl
  where
    by : (b : Bool) → t.won ≡ b → has_won (t ∷ ts) p ≡ true
    by true won = or_first (t.won && has_item t.note p) (has_won ts p) (both t.won (has_item t.note p) won h)
    by false lost = off (sym (ap (λ (l : List (ℕ × VersionedStar)). has_item l p) (m.0.lost lost)) ∙ h)

-- ---- who has won a place

-- the pass that has a place has won it
pub won_holder : (views : List View) (c : MainView) (o p : ℕ) (v : PassView) → get_elem? views o ≡ some (Pass v) → Holds v → AllByRecursion Marked v.tries → 0 < p → keeps v p ≡ true → HasWon views c o p
won_holder views c o p v at h marks pos has = inl (v, at, won_last v.tries p marks (h.among p (sym (keeps_star v p pos) ∙ has)))

-- a word that isn't 0 names another pass where this one hasn't the place
pub other_owner : (workers places : ℕ) (words : List ℕ) (views : List View) (c : MainView) (id : ℕ) (v : PassView) (p o : ℕ) → Owned workers places words views c → get_elem? views id ≡ some (Pass v) → keeps v p ≡ false
    → slice_index words p ≡ o → o ≢ 0 → IsOther (length views) id o
other_owner workers places words views c id v p o owned me free word nz =
    let pos : 0 < o = omega arith in
    let t = owned.owners p o word pos in
    (pos, within views o (Pass t.0) t.1, λ e. off (sym free ∙ (ap (λ (u : PassView). keeps u p) (sym (one_pass views o id t.0 v e t.1 me)) ∙ t.2)))

-- one pass changes its view
pub won_step : (views : List View) (c : MainView) (id : ℕ) (v u : PassView) (o p : ℕ) → get_elem? views id ≡ some (Pass v) → ((q : ℕ) → has_won v.tries q ≡ true → has_won u.tries q ≡ true) → HasWon views c o p → HasWon (slice_set views id (Pass u)) c o p
won_step views c id v u o p me grows (inl t) = dite (ℕ_discrete o id)
    (λ e. inl (
      u,
      subst (λ (k : ℕ). get_elem? (slice_set views id (Pass u)) k ≡ some (Pass u)) (sym e) (set_here views id (Pass u) (within views id (Pass v) me)),
      grows p (subst (λ (h : PassView). has_won h.tries p ≡ true) (one_pass views o id t.0 v e t.1 me) t.2),
    ))
    (λ ne. inl (t.0, set_else views id o (Pass u) ne ∙ t.1, t.2))
won_step views c id v u o p me grows (inr t) = inr t

-- ---- blame

pub blames_as : (views more : List View) (c d : MainView) (t : Try) → ((o p : ℕ) → HasWon views c o p → HasWon more d o p) → Blames views c t → Blames more d t
blames_as views more c d t f b = record { lost = λ h. f t.found t.place (b.lost h); last = λ h. f t.owner t.last (b.last h) }

pub blames_won : (views : List View) (c : MainView) (p n : ℕ) (x : VersionedStar) → Blames views c (won_try p x n)
blames_won views c p n x = record { lost = λ h. off (sym h); last = λ h. absurd (omega arith) }

pub blames_lost : (views : List View) (c : MainView) (p o n : ℕ) → HasWon views c o p → Blames views c (lost_try p o n)
blames_lost views c p o n has = record { lost = λ _. has; last = λ h. absurd (omega arith) }

pub blames_noted : (views : List View) (c : MainView) (p : ℕ) (x : VersionedStar) (t : Try) → Blames views c t → Blames views c (noted_at p x t)
blames_noted views c p x t b = record { lost = b.lost; last = b.last }

pub blames_counted : (views : List View) (c : MainView) (p o : ℕ) (t : Try) → (0 < p → HasWon views c o p) → Blames views c t → Blames views c (refused_at p o t)
blames_counted views c p o t has b = record { lost = b.lost; last = has }
