-- Part 4 of the rule, after each change: what a pass knows of its places.
use Rattle.std.proofs.Common.{◌≡◌, ℕ, ◌+◌, ◌<◌, ◌≤◌, Bool, true, false, cond, List, [], ◌∷◌, ◌++◌, length, Some, IsSome, sym, refl, ap, ◌∙◌, subst, ⊎_elim, arith}
use mathlib.Core.Option.{some, some-ne-none}
use Rattle.complex_core.specs.Complexes.{ComplexView, IsComplex}
use Rattle.flip_rules.specs.Flips.{replay}
use Rattle.flip_rules.specs.Entries.{JournalEntry}
use Rattle.flip_rules.specs.Journals.{flat, entry_touches, touches}
use Rattle.flip_rules.specs.declared.flip.Flip.{Flip}
use Rattle.flip_rules.proofs.Journals.{touches-append, touches-cons}
use Rattle.flip_rules.proofs.Replays.{replay_dim}
use Rattle.star_laws.specs.Stars.{star, AlikeOn, flips_touch, star_after_all, LabelsPass}
use Rattle.star_laws.proofs.ReplayStars.{replay_alike, others_replay, star_replayed}
use Rattle.core_laws.specs.Cores.{after}
use Rattle.core_laws.proofs.Replays.{replay_end, other_end}
use Rattle.stars.specs.StarViews.{VertexStar, UsesUpTo}
use Rattle.board_rule.specs.Items.{item, has_item}
use Rattle.board_rule.specs.Views.{home, star_in, home_at, flipped_home, newcomer, opened_by, with_item, with_journal, without_item, without_journal, committed}
use Rattle.board_rule.specs.Rule.{Written, Knows}
use Rattle.board_rule.specs.Plays.{Sees}
use Rattle.board_rule.specs.declared.setup.Setup.{Setup}
use Rattle.board_rule.specs.Homes.{VersionedStar}
use Rattle.board_rule.specs.declared.view.PassView.{PassView}
use Rattle.board_rule.proofs.Items.{off, has_some, item_cons, some_of, item_without, item_flipped}

-- ---- versions

touches_le : (journal : List JournalEntry) (p : ℕ) → touches journal p ≤ length journal
touches_le [] p = omega arith
touches_le (e ∷ es) p = let n = touches_le es p in let t = touches-cons e es p in one (entry_touches p e) n t
  where
    one : (b : Bool) → touches es p ≤ length es → touches (e ∷ es) p ≡ cond b 1 0 + touches es p → touches (e ∷ es) p ≤ length (e ∷ es)
    one true n t = omega (arith, n, t)
    one false n t = omega (arith, n, t)

pub touches_push : (journal : List JournalEntry) (e : JournalEntry) (p : ℕ) → touches (journal ++ e ∷ []) p ≡ touches journal p + cond (flips_touch p e.flips) 1 0
touches_push journal e p = let a = touches-append journal (e ∷ []) p in let t = touches-cons e [] p in omega (arith, a, t)

-- ---- the home of a place after an entry

home_is : (v d n : ℕ) (r s : List (List ℕ)) (c m : ℕ) → d ≡ n → r ≡ s → c ≡ m → home (record { vertex = v; dim = d; rows = r }) c ≡ home (record { vertex = v; dim = n; rows = s }) m
home_is v d n r s c m e f g = λ i. home (record { vertex = v; dim = e i; rows = f i }) (g i)

pub home_after : (journal : List JournalEntry) (e : JournalEntry) (now end : ComplexView) (p : ℕ) → replay now e.flips ≡ Some end → home_at end (journal ++ e ∷ []) p ≡ flipped_home e.flips p (home_at now journal p)
home_after journal e now end p legal = home_is p end.dim now.dim (star end.facets p) (star_after_all (star now.facets p) e.flips p) (touches (journal ++ e ∷ []) p) (touches journal p + cond (flips_touch p e.flips) 1 0)
    (replay_dim now end e.flips legal) (star_replayed now end e.flips p legal) (touches_push journal e p)

-- a place that no flip touches
pub home_unmoved : (setup : Setup) (words : List ℕ) (seats : ℕ) (journal : List JournalEntry) (e : JournalEntry) (now end : ComplexView) (p : ℕ) → Written setup words seats journal now → replay now e.flips ≡ Some end → flips_touch p e.flips ≡ false → home_at end (journal ++ e ∷ []) p ≡ home_at now journal p
home_unmoved setup words seats journal e now end p w legal away = home_is p end.dim now.dim (star end.facets p) (star now.facets p) (touches (journal ++ e ∷ []) p) (touches journal p)
    (replay_dim now end e.flips legal) (others_replay now end e.flips p w.complex.rising legal away) (let t = touches_push journal e p in let z = ap {B = ℕ} (λ (b : Bool). cond b 1 0) away in omega (arith, t, z))

-- ---- what a pass knows is so

pub same_dim : (setup : Setup) (words : List ℕ) (seats : ℕ) (journal : List JournalEntry) (now : ComplexView) → Written setup words seats journal now → now.dim ≡ setup.start.value.dim
same_dim setup words seats journal now w = replay_dim setup.start.value now (flat journal) w.replays

-- so where it has the complex now in mind, its stars are those of one complex
pub sees_now : (setup : Setup) (words : List ℕ) (seats : ℕ) (journal : List JournalEntry) (now : ComplexView) (v : PassView) → Written setup words seats journal now → Knows setup journal now v → now ≡ v.seen → Sees v
sees_now setup words seats journal now v w k is = let P : ComplexView → Type 0 = λ s. IsComplex s in record {
  complex = subst P is w.complex;
  dim = ap (λ (s : ComplexView). s.dim) (sym is) ∙ (same_dim setup words seats journal now w ∙ ap (λ (s : ComplexView). s.dim) (sym k.start));
  within = subst (λ (x : ComplexView × ℕ). UsesUpTo x.0 x.1) (λ i. (is i, (sym k.places) i)) w.within;
  stars = λ p x at. let t = k.items p x at in (t.0, ap (λ (h : VersionedStar). h.star) t.1 ∙ ap (λ (s : ComplexView). star_in s p) is);
  versions = λ p x at. let t = (k.items p x at).1 in let v = ap (λ (h : VersionedStar). h.version) t in let most = touches_le journal p in let short = w.short in omega (arith, v, most, short);
}

-- the flips that a pass may commit are legal now, as they are on the complex that it has in mind
pub legal_now : (setup : Setup) (words : List ℕ) (seats : ℕ) (journal : List JournalEntry) (now : ComplexView) (v : PassView) (flips : List Flip) → Written setup words seats journal now → Knows setup journal now v → Sees v
    → LabelsPass (has_item v.items) flips → IsSome (replay v.seen flips) → replay now flips ≡ Some (after now flips)
legal_now setup words seats journal now v flips w k s held legal = replay_end now flips (other_end (has_item v.items) (replay v.seen flips) (replay now flips) (replay_alike (has_item v.items) v.seen now flips alike held) legal)
  where
    alike : AlikeOn (has_item v.items) v.seen now
    alike = record {
      dim = s.dim ∙ (ap (λ (x : ComplexView). x.dim) k.start ∙ sym (same_dim setup words seats journal now w));
      stars = λ p h. let x = some_of v.items p h in ap (λ (y : VertexStar). y.rows) (sym (s.stars p x.0 x.1).1 ∙ ap (λ (y : VersionedStar). y.star) (k.items p x.0 x.1).1);
    }

-- ---- after each step of the pass

pub knows_new : (setup : Setup) (journal : List JournalEntry) (now : ComplexView) (start : ComplexView) (places worker : ℕ) → start ≡ setup.start.value → places ≡ setup.places → Knows setup journal now (newcomer start places worker)
knows_new setup journal now start places worker s p = record { start = s; places = p; items = λ q x at. absurd (some-ne-none x (sym at)); taken = λ no. off no }

pub knows_same : (setup : Setup) (journal : List JournalEntry) (now : ComplexView) (v w : PassView) → w.start ≡ v.start → w.places ≡ v.places → w.items ≡ v.items → w.has_journal ≡ v.has_journal → w.journal ≡ v.journal → Knows setup journal now v → Knows setup journal now w
knows_same setup journal now v w s p i h j k = record {
  start = s ∙ k.start;
  places = p ∙ k.places;
  items = λ q y at. k.items q y (ap (λ (l : List (ℕ × VersionedStar)). item l q) (sym i) ∙ at);
  taken = λ y. j ∙ k.taken (sym h ∙ y);
}

more_items : (journal : List JournalEntry) (now : ComplexView) (p : ℕ) (items : List (ℕ × VersionedStar)) → 0 < p → ((q : ℕ) (y : VersionedStar) → item items q ≡ some y → (0 < q) × (y ≡ home_at now journal q))
    → (q : ℕ) (y : VersionedStar) → item ((p, home_at now journal p) ∷ items) q ≡ some y → (0 < q) × (y ≡ home_at now journal q)
more_items journal now p items pos all q y at = ⊎_elim (λ (t : (p ≡ q) × (home_at now journal p ≡ y)). (subst (λ (k : ℕ). 0 < k) t.0 pos, sym t.1 ∙ ap (home_at now journal) t.0)) (λ t. all q y t) (item_cons p q (home_at now journal p) y items at)

pub knows_opened : (setup : Setup) (journal : List JournalEntry) (now : ComplexView) (v : PassView) (p : ℕ) (seen : ComplexView) → 0 < p → Knows setup journal now v → Knows setup journal now (opened_by v p (home_at now journal p) seen)
knows_opened setup journal now v p seen pos k = record { start = k.start; places = k.places; items = more_items journal now p v.items pos k.items; taken = k.taken }

pub knows_more : (setup : Setup) (journal : List JournalEntry) (now : ComplexView) (v : PassView) (p : ℕ) (seen : ComplexView) → 0 < p → Knows setup journal now v → Knows setup journal now (with_item v p (home_at now journal p) seen)
knows_more setup journal now v p seen pos k = record { start = k.start; places = k.places; items = more_items journal now p v.items pos k.items; taken = k.taken }

pub knows_journal : (setup : Setup) (journal : List JournalEntry) (now : ComplexView) (v : PassView) → Knows setup journal now v → Knows setup journal now (with_journal v journal)
knows_journal setup journal now v k = record { start = k.start; places = k.places; items = k.items; taken = λ _. refl }

pub knows_less : (setup : Setup) (journal : List JournalEntry) (now : ComplexView) (v : PassView) (p : ℕ) → Knows setup journal now v → Knows setup journal now (without_item v p)
knows_less setup journal now v p k = record { start = k.start; places = k.places; items = λ q y at. k.items q y (item_without p q y v.items at); taken = k.taken }

pub knows_left : (setup : Setup) (journal : List JournalEntry) (now : ComplexView) (v : PassView) → Knows setup journal now v → Knows setup journal now (without_journal v)
knows_left setup journal now v k = record { start = k.start; places = k.places; items = k.items; taken = λ no. off no }

-- the pass that committed
pub knows_commit : (setup : Setup) (journal : List JournalEntry) (now end : ComplexView) (v : PassView) (e : JournalEntry) (seen : ComplexView) → replay now e.flips ≡ Some end → Knows setup journal now v → Knows setup (journal ++ e ∷ []) end (committed v e seen)
knows_commit setup journal now end v e seen legal k = record {
  start = k.start;
  places = k.places;
  items = λ q y is. let old = item_flipped e.flips v.items q y is in let was = k.items q old.0 old.1 in (was.0, old.2 ∙ (ap (flipped_home e.flips q) was.1 ∙ sym (home_after journal e now end q legal)));
  taken = λ no. off no;
}

-- a pass that holds no place of the flips, and not the journal
pub knows_beside : (setup : Setup) (words : List ℕ) (seats : ℕ) (journal : List JournalEntry) (e : JournalEntry) (now end : ComplexView) (v : PassView) → Written setup words seats journal now → replay now e.flips ≡ Some end
    → ((q : ℕ) → 0 < q → has_item v.items q ≡ true → flips_touch q e.flips ≡ false) → v.has_journal ≡ false → Knows setup journal now v → Knows setup (journal ++ e ∷ []) end v
knows_beside setup words seats journal e now end v w legal away none-of k = record {
  start = k.start;
  places = k.places;
  items = λ q y is. let was = k.items q y is in (was.0, was.1 ∙ sym (home_unmoved setup words seats journal e now end q w legal (away q was.0 (has_some v.items q y is))));
  taken = λ y. off (sym none-of ∙ y);
}
