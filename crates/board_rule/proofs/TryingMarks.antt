-- Marks, and what is held beside them, after each change.
use Rattle.std.proofs.Common.{◌≡◌, ◌≢◌, ℕ, ◌≤◌, eqb, Bool, true, false, cond, List, [], ◌∷◌, length, sym, refl, ap, ◌∙◌, subst, arith}
use mathlib.Core.Option.{Option, some}
use Rattle.std.specs.List.{AllByRecursion}
use Rattle.complex_core.specs.Complexes.{ComplexView}
use Rattle.flip_rules.specs.Entries.{JournalEntry}
use Rattle.flip_rules.specs.Journals.{touches}
use Rattle.board_rule.specs.Items.{item, has_item}
use Rattle.board_rule.specs.Tries.{Try, won_try, lost_try, refused_at, noted_at, at_last, last_note, last_won, last_count, wins}
use Rattle.board_rule.specs.Views.{home_at, Empty, newcomer, opened_by, lost_by, with_item, counted, with_journal, without_item, without_journal, committed}
use Rattle.board_rule.specs.Rule.{Knows, IsOther, Names, Marked, Claims, Holds}
use Rattle.board_rule.specs.declared.setup.Setup.{Setup}
use Rattle.board_rule.specs.Homes.{VersionedStar}
use Rattle.board_rule.specs.declared.view.PassView.{PassView}
use Rattle.board_rule.proofs.Items.{tested, off, item_front, item_past, has_some, some_of, none_of, has_less, has_flipped}
use Rattle.board_rule.proofs.Owning.{keeps_star}

-- ---- lists of tries

-- what holds of each holds of each after the latest changes
pub latest : (P : Try → Type 0) (f : Try → Try) (ts : List Try) → ((t : Try) → P t → P (f t)) → AllByRecursion P ts → AllByRecursion P (at_last f ts)
latest P f [] g h = tt
latest P f (t ∷ ts) g h = (g t h.0, h.1)

-- a won try stands in front
pub headed : (ts : List Try) → last_won ts ≡ true → (t : Try) × (us : List Try) × (ts ≡ t ∷ us)
headed [] h = off h
headed (t ∷ us) h = (t, us, refl)

same_note : (p q : ℕ) (ts : List Try) → last_note (at_last (refused_at p q) ts) ≡ last_note ts
same_note p q [] = refl
same_note p q (t ∷ ts) = refl

same_won : (p q : ℕ) (ts : List Try) → last_won (at_last (refused_at p q) ts) ≡ last_won ts
same_won p q [] = refl
same_won p q (t ∷ ts) = refl

same_count : (p q : ℕ) (ts : List Try) → last_count (at_last (refused_at p q) ts) ≡ last_count ts
same_count p q [] = refl
same_count p q (t ∷ ts) = refl

pub same_wins : (p q : ℕ) (ts : List Try) → wins (at_last (refused_at p q) ts) ≡ wins ts
same_wins p q [] = refl
same_wins p q (t ∷ ts) = refl

pub noted_wins : (p : ℕ) (x : VersionedStar) (ts : List Try) → wins (at_last (noted_at p x) ts) ≡ wins ts
noted_wins p x [] = refl
noted_wins p x (t ∷ ts) = refl

-- ---- versions and owners

pub names_longer : (seats more w : ℕ) (journal longer : List JournalEntry) (t : Try) → seats ≤ more → ((p : ℕ) → touches journal p ≤ touches longer p) → Names seats w journal t → Names more w longer t
names_longer seats more w journal longer t le grows n = record {
  version = λ h. let a = n.version h in let b = grows t.place in omega arith;
  lost = λ h. let i = n.lost h in let high = i.1 in (i.0, omega arith, i.2);
  owner = λ h. let i = n.owner h in let high = i.1 in (i.0, omega arith, i.2);
}

pub names_won : (seats w : ℕ) (journal : List JournalEntry) (now : ComplexView) (p n : ℕ) (x : VersionedStar) → x ≡ home_at now journal p → Names seats w journal (won_try p x n)
names_won seats w journal now p n x is = record { version = λ _. let v : x.version ≡ touches journal p = ap (λ (h : VersionedStar). h.version) is in omega arith; lost = λ h. off (sym h); owner = λ h. absurd (omega arith) }

pub names_lost : (seats w : ℕ) (journal : List JournalEntry) (p o n : ℕ) → IsOther seats w o → Names seats w journal (lost_try p o n)
names_lost seats w journal p o n other = record { version = λ h. off h; lost = λ _. other; owner = λ h. absurd (omega arith) }

pub names_noted : (seats w : ℕ) (journal : List JournalEntry) (p : ℕ) (x : VersionedStar) (t : Try) → Names seats w journal t → Names seats w journal (noted_at p x t)
names_noted seats w journal p x t n = record { version = n.version; lost = n.lost; owner = n.owner }

pub names_counted : (seats w : ℕ) (journal : List JournalEntry) (p o : ℕ) (t : Try) → IsOther seats w o → Names seats w journal t → Names seats w journal (refused_at p o t)
names_counted seats w journal p o t other n = record { version = n.version; lost = n.lost; owner = λ _. other }

-- ---- notes and marks

pub marked_won : (p n : ℕ) (x : VersionedStar) → Marked (won_try p x n)
marked_won p n x = record { won = λ _. (x, item_front p x [], refl); lost = λ h. off (sym h) }

pub marked_lost : (p o n : ℕ) → Marked (lost_try p o n)
marked_lost p o n = record { won = λ h. off h; lost = λ _. refl }

pub marked_noted : (p : ℕ) (x : VersionedStar) (t : Try) → t.won ≡ true → t.place ≢ p → Marked t → Marked (noted_at p x t)
marked_noted p x t won other m = let w = m.won won in record { won = λ _. (w.0, item_past p t.place x t.note other ∙ w.1, w.2); lost = λ h. off (sym h ∙ won) }

pub marked_counted : (p o : ℕ) (t : Try) → Marked t → Marked (refused_at p o t)
marked_counted p o t m = record { won = m.won; lost = m.lost }

-- ---- what a pass holds

pub no_items : (setup : Setup) (journal : List JournalEntry) (now : ComplexView) (v : PassView) → Knows setup journal now v → Empty v → (q : ℕ) → has_item v.items q ≡ false
no_items setup journal now v k empty q = by (has_item v.items q) refl
  where
    by : (b : Bool) → has_item v.items q ≡ b → has_item v.items q ≡ false
    by false h = h
    by true h = let x = some_of v.items q h in let pos = (k.items q x.0 x.1).0 in off (sym (empty q) ∙ (keeps_star v q pos ∙ h))

-- the mark of a claiming pass
pub claiming_mark : (v : PassView) (t : Try) (ts : List Try) → Claims v → v.tries ≡ t ∷ ts → t.won ≡ true
claiming_mark v t ts c is = sym (ap last_won is) ∙ c.won

-- a claiming pass holds the place of its mark
pub claiming_place : (v : PassView) (t : Try) (ts : List Try) → Claims v → v.tries ≡ t ∷ ts → AllByRecursion Marked v.tries → has_item v.items t.place ≡ true
claiming_place v t ts c is marks =
    let m = subst (AllByRecursion Marked) is marks in
    let x = m.0.won (claiming_mark v t ts c is) in
    has_some v.items t.place x.0 (c.items t.place ∙ (ap (λ (l : List Try). item (last_note l) t.place) is ∙ x.1))

pub holds_opened : (v : PassView) (p : ℕ) (x : VersionedStar) (k : ComplexView) → ((q : ℕ) → has_item v.items q ≡ false) → length v.mine ≤ wins v.tries → Holds (opened_by v p x k)
holds_opened v p x k empty few = record {
  among = λ q h. ap (λ (b : Bool). cond (eqb p q) true b) (sym (empty q)) ∙ h;
  claims = λ _. record { won = refl; items = λ q. ap (λ (o : Option VersionedStar). cond (eqb p q) (some x) o) (none_of v.items q (empty q)); count = refl; fewer = omega arith };
}

pub holds_lost : (v : PassView) (p o : ℕ) → ((q : ℕ) → has_item v.items q ≡ false) → AllByRecursion Marked v.tries → Holds v → Holds (lost_by v p o)
holds_lost v p o empty marks h = record {
  among = λ q has. off (sym (empty q) ∙ has);
  claims = λ y. let c = h.claims y in let t = headed v.tries c.won in off (sym (empty t.0.place) ∙ claiming_place v t.0 t.1 c t.2 marks);
}

-- a claiming pass wins one place more
pub holds_more : (v : PassView) (p : ℕ) (x : VersionedStar) (k : ComplexView) (t : Try) (ts : List Try) → v.tries ≡ t ∷ ts → v.claiming ≡ true → Holds v → Holds (with_item v p x k)
holds_more v p x k t ts is y h =
    let c = h.claims y in
    let more : at_last (noted_at p x) v.tries ≡ noted_at p x t ∷ ts = ap (at_last (noted_at p x)) is in
    let fewer = c.fewer in
    let same = noted_wins p x v.tries in
    record {
      among = λ q has. ap (λ (l : List Try). has_item (last_note l) q) more
          ∙ tested p q (λ b. cond b true (has_item v.items q) ≡ true → cond b true (has_item t.note q) ≡ true) (λ _ _. refl) (λ _ g. sym (ap (λ (l : List Try). has_item (last_note l) q) is) ∙ h.among q g) has;
      claims = λ _. record {
        won = ap last_won more ∙ claiming_mark v t ts c is;
        items = λ q. ap (λ (o : Option VersionedStar). cond (eqb p q) (some x) o) (c.items q ∙ ap (λ (l : List Try). item (last_note l) q) is) ∙ sym (ap (λ (l : List Try). item (last_note l) q) more);
        count = c.count ∙ (ap last_count is ∙ sym (ap last_count more));
        fewer = omega arith;
      };
    }

pub holds_counted : (v : PassView) (p o : ℕ) → Holds v → Holds (counted v p o)
holds_counted v p o h = record {
  among = λ q has. ap (λ (l : List (ℕ × VersionedStar)). has_item l q) (same_note p o v.tries) ∙ h.among q has;
  claims = λ y. let c = h.claims y in let fewer = c.fewer in let same = same_wins p o v.tries in
      record { won = same_won p o v.tries ∙ c.won; items = λ q. c.items q ∙ sym (ap (λ (l : List (ℕ × VersionedStar)). item l q) (same_note p o v.tries)); count = c.count ∙ sym (same_count p o v.tries); fewer = omega arith };
}

as_claimed : (v u : PassView) → u.items ≡ v.items → u.tries ≡ v.tries → u.mine ≡ v.mine → Claims v → Claims u
as_claimed v u items tries done c =
    let fewer = c.fewer in
    let a = ap (λ (l : List JournalEntry). length l) done in
    let b = ap wins tries in
    record {
      won = ap last_won tries ∙ c.won;
      items = λ q. ap (λ (l : List (ℕ × VersionedStar)). item l q) items ∙ (c.items q ∙ ap (λ (l : List Try). item (last_note l) q) (sym tries));
      count = ap length done ∙ (c.count ∙ sym (ap last_count tries));
      fewer = omega arith;
    }

pub holds_journal : (v : PassView) (journal : List JournalEntry) → Holds v → Holds (with_journal v journal)
holds_journal v journal h = record { among = h.among; claims = λ y. as_claimed v (with_journal v journal) refl refl refl (h.claims y) }

pub holds_left : (v : PassView) → Holds v → Holds (without_journal v)
holds_left v h = record { among = h.among; claims = λ y. as_claimed v (without_journal v) refl refl refl (h.claims y) }

pub holds_less : (v : PassView) (p : ℕ) → Holds v → Holds (without_item v p)
holds_less v p h = record { among = λ q has. h.among q (has_less p q v.items has); claims = λ y. off y }

pub holds_commit : (v : PassView) (e : JournalEntry) (k : ComplexView) → Holds v → Holds (committed v e k)
holds_commit v e k h = record { among = λ q has. h.among q (sym (has_flipped e.flips v.items q) ∙ has); claims = λ y. off y }

pub holds_new : (start : ComplexView) (places worker : ℕ) → Holds (newcomer start places worker)
holds_new start places worker = record { among = λ q has. off has; claims = λ y. off y }
