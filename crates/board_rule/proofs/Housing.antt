-- Part 3 of the rule, after each change: what lies at home.
use Rattle.std.proofs.Common.{◌≡◌, ◌≢◌, ℕ, ◌+◌, ◌<◌, ◌≤◌, List, [], map, length, get_or, set, sym, ap, ◌∙◌, subst, arith, get_or-set_other, get_or-set_same}
use mathlib.Core.Logic.{dite}
use mathlib.Core.Option.{Option, none, some}
use native.Mathlib.Decide.{ℕ_discrete}
use lib.ListN.{get_elem?}
use Rattle.atomic_table.proofs.Lists.{set_here, set_else, at_map}
use Rattle.complex_core.specs.Complexes.{ComplexView}
use Rattle.flip_rules.specs.Entries.{JournalEntry}
use Rattle.board_rule.specs.Books.{Book}
use Rattle.board_rule.specs.Views.{home_at}
use Rattle.board_rule.specs.Rule.{Housed}
use Rattle.board_rule.specs.Ends.{Opens}
use Rattle.board_rule.specs.declared.setup.Setup.{Setup}
use Rattle.board_rule.specs.declared.data.Slot.{Slot}
use Rattle.board_rule.specs.declared.data.Slot.TheVariants.{Journal, Home}

-- a place of which the word becomes a pass's number
pub housed_away : (places : ℕ) (words : List ℕ) (homes : List (Option Slot)) (journal : List JournalEntry) (now : ComplexView) (p n : ℕ) → length words ≡ places + 1 → p ≤ places → 0 < n
    → Housed places words homes journal now → Housed places (set words p n) (set homes p none) journal now
housed_away places words homes journal now p n long near some_one h =
    let at_p : get_or (set words p n) p 0 ≡ n = get_or-set_same words p n 0 (omega arith) in
    let apart : (q : ℕ) → get_or (set words p n) q 0 ≡ 0 → q ≢ p = λ q z e. let b : n ≡ 0 = sym at_p ∙ (ap (λ (x : ℕ). get_or (set words p n) x 0) (sym e) ∙ z) in omega arith in
    let word : (q : ℕ) → q ≢ p → get_or words q 0 ≡ get_or (set words p n) q 0 = λ q ne. sym (get_or-set_other words p q n 0 ne) in
    record {
      stars = λ q pos in' z. let ne = apart q z in set_else homes p q none ne ∙ h.stars q pos in' (word q ne ∙ z);
      book = λ z. let ne = apart 0 z in let j = h.book (word 0 ne ∙ z) in (j.0, set_else homes p 0 none ne ∙ j.1);
    }

-- a place from 1 comes home
pub housed_back : (places : ℕ) (words : List ℕ) (homes : List (Option Slot)) (journal : List JournalEntry) (now : ComplexView) (p : ℕ) → length homes ≡ places + 1 → p ≤ places → 0 < p
    → Housed places words homes journal now → Housed places (set words p 0) (set homes p (some (Home (home_at now journal p)))) journal now
housed_back places words homes journal now p wide near pos h =
    let x : Option Slot = some (Home (home_at now journal p)) in
    let word : (q : ℕ) → q ≢ p → get_or words q 0 ≡ get_or (set words p 0) q 0 = λ q ne. sym (get_or-set_other words p q 0 0 ne) in
    record {
      stars = λ q pos' in' z. dite (ℕ_discrete q p)
          (λ e. subst (λ (k : ℕ). get_elem? (set homes p x) k ≡ some (some (Home (home_at now journal k)))) (sym e) (set_here homes p x (omega arith)))
          (λ ne. set_else homes p q x ne ∙ h.stars q pos' in' (word q ne ∙ z));
      book = λ z. let ne : 0 ≢ p = omega arith in let j = h.book (word 0 ne ∙ z) in (j.0, set_else homes p 0 x ne ∙ j.1);
    }

-- the journal comes home, and no free place is touched by what was added
pub housed_book : (places : ℕ) (words : List ℕ) (homes : List (Option Slot)) (before after : List JournalEntry) (now end : ComplexView) (b : Book) → 0 < length homes → b.entries ≡ after
    → ((q : ℕ) → 0 < q → get_or words q 0 ≡ 0 → home_at end after q ≡ home_at now before q)
    → Housed places words homes before now → Housed places (set words 0 0) (set homes 0 (some (Journal b))) after end
housed_book places words homes before after now end b wide is same h =
    let x : Option Slot = some (Journal b) in
    record {
      stars = λ q pos in' z. let ne : q ≢ 0 = omega arith in let free : get_or words q 0 ≡ 0 = sym (get_or-set_other words 0 q 0 0 ne) ∙ z in
          set_else homes 0 q x ne ∙ (h.stars q pos in' free ∙ ap (λ y. some (some (Home y))) (sym (same q pos free)));
      book = λ z. (b.room, set_here homes 0 x wide ∙ ap (λ (l : List JournalEntry). some (some (Journal record { entries = l; room = b.room }))) is);
    }

-- all is at home
pub housed_first : (setup : Setup) (words : List ℕ) (slots : List Slot) → Opens setup words slots → Housed setup.places words (map some slots) [] setup.start.value
housed_first setup words slots o = record {
  stars = λ p pos near z. at_map (λ (x : Slot). some x) slots p (Home (home_at setup.start.value [] p)) (o.stars p pos near);
  book = λ z. (o.room, at_map (λ (x : Slot). some x) slots 0 (Journal record { entries = []; room = o.room }) o.journal);
}
