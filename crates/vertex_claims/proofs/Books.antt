-- The journal in a pass's slot.
use Rattle.std.proofs.Common.{◌≡◌, ◌≢◌, ℕ, ◌≤◌, eqb, true, false, cond, List, ◌∷◌, sym, refl, ap, ◌∙◌, arith}
use mathlib.Core.Option.{Option, some, none, some-injective}
use Rattle.atomic_table.specs.Table.{rest}
use Rattle.board_rule.proofs.Items.{tested, off, has_flipped}
use Rattle.complex_core.specs.Complexes.{ComplexView}
use Rattle.flip_rules.specs.Entries.{JournalEntry}
use Rattle.board_rule.specs.Books.{Book}
use Rattle.board_rule.specs.Items.{item, has_item}
use Rattle.board_rule.specs.Views.{keeps, pass_view_of, without_journal, committed}
use Rattle.board_rule.specs.Plays.{Seated}
use Rattle.vertex_claims.specs.Held.{Shuffled, slot_at, knows, HasBook, HasRoom, is_journal, entries_in, room_in}
use Rattle.board_rule.specs.declared.data.Slot.{Slot}
use Rattle.board_rule.specs.declared.data.Slot.TheVariants.{Journal, Home, Out}
use Rattle.board_rule.specs.declared.view.PassView.{PassView}
use Rattle.board_rule.specs.declared.view.View.{View}

pub book_after : (m n : Seated) → slot_at n 0 ≡ slot_at m 0 → (knows n).has_journal ≡ (knows m).has_journal → (knows n).journal ≡ (knows m).journal → HasBook m → HasBook n
book_after m n s h l k has = let t = k (sym h ∙ has) in (ap is_journal s ∙ t.0, ap entries_in s ∙ (t.1 ∙ sym l))

pub no_book : (n : Seated) → (knows n).has_journal ≡ false → HasBook n
no_book n free has = off (sym free ∙ has)

pub with_rest : (l more : List (ℕ × Slot)) (x : ℕ × Slot) → l ≡ x ∷ more → l ≡ x ∷ rest l
with_rest l more x e = e ∙ ap (λ (z : List (ℕ × Slot)). x ∷ z) (sym (ap rest e))

pub front_slot : (m : Seated) (p : ℕ) (x : Slot) (more : List (ℕ × Slot)) → m.1 ≡ (p, x) ∷ more → slot_at m p ≡ some x
front_slot m p x more e = ap (λ (l : List (ℕ × Slot)). item l p) e ∙ tested p p (λ b. cond b (some x) (item more p) ≡ some x) (λ _. refl) (λ ne. absurd (ne refl))

pub entries_of_front : (old mid : Seated) (b : Book) → Shuffled old mid → mid.1 ≡ (0, Journal b) ∷ rest mid.1 → HasBook old → (knows old).has_journal ≡ true → b.entries ≡ (knows old).journal
entries_of_front old mid b s e k has = ap entries_in (sym (front_slot mid 0 (Journal b) (rest mid.1) e) ∙ s.slots 0) ∙ (k has).1

journal_there : (o : Option Slot) → is_journal o ≡ true → (b : Book) × (o ≡ some (Journal b))
journal_there none h = off h
journal_there (some (Journal b)) h = (b, refl)
journal_there (some (Home x)) h = off h
journal_there (some Out) h = off h

-- the slot in front has the journal
pub journal_front : (old mid : Seated) (x : Slot) → Shuffled old mid → mid.1 ≡ (0, x) ∷ rest mid.1 → HasBook old → (knows old).has_journal ≡ true → (b : Book) × (x ≡ Journal b)
journal_front old mid x s e k has =
    let j = journal_there (slot_at old 0) (k has).0 in
    (j.0, some-injective x (Journal j.0) (sym (front_slot mid 0 x (rest mid.1) e) ∙ (s.slots 0 ∙ j.1)))

pub without_journal_keeps : (v : PassView) → (keeps (without_journal v) 0 ≡ false) × ((q : ℕ) → q ≢ 0 → keeps (without_journal v) q ≡ keeps v q)
without_journal_keeps v = (refl, λ q ne. tested q 0 (λ b. cond b false (has_item v.items q) ≡ cond b v.has_journal (has_item v.items q)) (λ e. absurd (ne e)) (λ _. refl))

pub committed_keeps : (v : PassView) (e : JournalEntry) (k : ComplexView) → (keeps (committed v e k) 0 ≡ false) × ((q : ℕ) → q ≢ 0 → keeps (committed v e k) q ≡ keeps v q)
committed_keeps v e k = (refl, λ q ne. tested q 0 (λ b. cond b false (has_item (committed v e k).items q) ≡ cond b v.has_journal (has_item v.items q)) (λ z. absurd (ne z)) (λ _. has_flipped e.flips v.items q))

-- the journal is put back, with the same entries
pub book_again : (old mid new : Seated) (b b' : Book) → Shuffled old mid → mid.1 ≡ (0, Journal b) ∷ rest mid.1 → new ≡ (mid.0, (0, Journal b') ∷ rest mid.1) → b'.entries ≡ b.entries → HasBook old → HasBook new
book_again old mid new b b' s e ends same k has =
    let has_old : (knows old).has_journal ≡ true = sym (ap (λ (v : View). (pass_view_of v).has_journal) s.view) ∙ (sym (ap (λ (m : Seated). (knows m).has_journal) ends) ∙ has) in
    let at = front_slot new 0 (Journal b') (rest mid.1) (ap (λ (m : Seated). m.1) ends) in
    let l = entries_of_front old mid b s e k has_old in
    (ap is_journal at, ap entries_in at ∙ (same ∙ (l ∙ (sym (ap (λ (v : View). (pass_view_of v).journal) s.view) ∙ sym (ap (λ (m : Seated). (knows m).journal) ends)))))

-- a slot that has no journal changes
pub book_put : (old new : Seated) (p : ℕ) (x y : Slot) → slot_at old p ≡ some x → is_journal (some x) ≡ false → ((q : ℕ) → slot_at new q ≡ cond (eqb p q) (some y) (slot_at old q)) → new.0 ≡ old.0 → HasBook old → HasBook new
book_put old new p x y at none_of puts view k has =
    let has_old : (knows old).has_journal ≡ true = sym (ap (λ (v : View). (pass_view_of v).has_journal) view) ∙ has in
    let t = k has_old in
    tested p 0 (λ b. slot_at new 0 ≡ cond b (some y) (slot_at old 0) → (is_journal (slot_at new 0) ≡ true) × (entries_in (slot_at new 0) ≡ (knows new).journal))
    (λ e _. off (sym none_of ∙ (ap is_journal (sym (ap (λ (q : ℕ). slot_at old q) (sym e) ∙ at)) ∙ t.0)))
    (λ _ s. (ap is_journal s ∙ t.0, ap entries_in s ∙ (t.1 ∙ sym (ap (λ (v : View). (pass_view_of v).journal) view))))
    (puts 0)

-- what room there is known to be, where a slot that has no journal changes
pub room_put : (old new : Seated) (p spare : ℕ) (x y : Slot) → slot_at old p ≡ some x → room_in (some x) ≡ 0 → ((q : ℕ) → slot_at new q ≡ cond (eqb p q) (some y) (slot_at old q)) → HasRoom old spare → HasRoom new spare
room_put old new p spare x y at none_of puts k =
    tested p 0 (λ b. slot_at new 0 ≡ cond b (some y) (slot_at old 0) → spare ≤ room_in (slot_at new 0))
    (λ e _. let z = ap room_in (ap (λ (q : ℕ). slot_at old q) (sym e) ∙ at) in omega (arith, k, z, none_of))
    (λ _ s. let z = ap room_in s in omega (arith, k, z))
    (puts 0)

pub room_same : (old new : Seated) (spare : ℕ) → slot_at new 0 ≡ slot_at old 0 → HasRoom old spare → HasRoom new spare
room_same old new spare same k = let z = ap room_in same in omega (arith, k, z)

pub room_of : (m : Seated) (b : Book) (spare : ℕ) → slot_at m 0 ≡ some (Journal b) → spare ≤ b.room → HasRoom m spare
room_of m b spare at h = let z = ap room_in at in omega (arith, h, z)
