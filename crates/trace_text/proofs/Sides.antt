-- What a flip that was read tells of its sides, and that only words are passed over.
use Rattle.std.proofs.Common.{◌≡◌, ◌≢◌, ◌≤◌, ◌<◌, ℕ, true, false, List, [], ◌∷◌, length, Ok, refl, sym, ap, subst, arith, if◌then◌else◌}
use Rattle.std.specs.Prelude.{◌==◌}
use Rattle.std.specs.List.{AllByRecursion}
use Rattle.std.specs.Ordering.{nat_cmp}
use Rattle.std.specs.Str.Parse.{digits_value}
use Rattle.complex_core.specs.Labels.{IsFace, has, with}
use Rattle.complex_core.proofs.Faces.{face_put, none_is_face, with_new}
use Rattle.complex_core.proofs.Sets.{each_put}
use Rattle.facet_text.specs.Lines.{Item, line_end, word}
use Rattle.flip_rules.specs.declared.flip.Flip.{Flip}
use Rattle.core_laws.specs.declared.event.Event.{Event}
use Rattle.line_text.specs.declared.label.Labels.{Labels}
use Rattle.line_text.specs.Flips.{Reading, first_from, flip_at, is_bar, label_then, second_from, side_then}
use Rattle.line_text.specs.Labels.{allows}
use Rattle.line_text.specs.Numbers.{is_number}
use Rattle.trace_text.specs.Grammar.{events_past}
use Rattle.trace_text.proofs.Parts.{err_not_ok, ok_is, test_not, test_ok}
use Rattle.line_text.proofs.FlipLaws.{positive}

-- from these items on the next line is the same as from those
abbrev pub Passes : List Item → List Item → Type 0
Passes is js = (places : List (ℕ × ℕ)) (es : List Event) → events_past places es is ≡ events_past places es js

pub past_word : (text : List ℕ) (at : ℕ) (is js : List Item) → Passes is js → Passes (word text at ∷ is) js
unfolding events_past
past_word text at is js h places es = h places es

pub past_none : (is js : List Item) → is ≡ js → Passes is js
past_none is js h places es = ap (events_past places es) h

-- up to seven labels
pub record Fits (labels : Labels) (side : List ℕ) : Type 0 where
  pub face : IsFace side
  pub few : length side ≤ 7
  pub known : AllByRecursion (λ x. allows labels x ≡ true) side

no_labels : (labels : Labels) → Fits labels []
no_labels labels = record { face = none_is_face; few = omega arith; known = tt }

one_more : (labels : Labels) (side : List ℕ) (n : ℕ) → Fits labels side → allows labels n ≡ true → has side n ≡ false → length side ≢ 7 → Fits labels (with side n)
one_more labels side n f a new other =
    let long = with_new side n new in
    let few : length (with side n) ≤ 7 = omega (arith, long, f.few, other) in
    record {
      face = face_put n side f.face (positive labels n a) (omega (arith, few));
      few = few;
      known = each_put nat_cmp (λ x. allows labels x ≡ true) n side a f.known;
    }

differs : (n : ℕ) → (n == 7) ≡ false → n ≢ 7
differs n h = grind arith

some : (n : ℕ) → (n == 0) ≡ false → 0 < n
some n h = grind arith

-- a word among the labels of a side was one more
label_ok : (labels : Labels) (text : List ℕ) (at : ℕ) (side : List ℕ) (next : Reading) (x : Flip × List Item) → label_then labels text at side next ≡ Ok x → Fits labels side
    → Fits labels (with side (digits_value 10 text)) × (next ≡ Ok x)
label_ok labels text at side next x h f =
    let g = test_ok (is_number text) _ _ _ h in
    let k = test_not (length side == 7) _ _ _ g.1 in
    let l = test_ok (allows labels (digits_value 10 text)) _ _ _ k.1 in
    let m = test_not (has side (digits_value 10 text)) _ _ _ l.1 in
    (one_more labels side (digits_value 10 text) f l.0 m.0 (differs (length side) k.0), m.1)

-- a side of a flip
abbrev pub IsGood : Labels → List ℕ → Type 0
IsGood labels side = Fits labels side × (0 < length side)

side_ok : (at : ℕ) (side : List ℕ) (next : Reading) (x : Flip × List Item) → side_then at side next ≡ Ok x → (0 < length side) × (next ≡ Ok x)
side_ok at side next x h =
    let g = test_not (length side == 0) _ _ _ h in
    (some (length side) g.0, g.1)

second_ok : (labels : Labels) (first side : List ℕ) (is : List Item) (f : Flip) (js : List Item) → second_from labels first side is ≡ Ok (f, js) → Fits labels side
    → (f.a ≡ first) × IsGood labels f.b × Passes is js
unfolding second_from
second_ok labels first side [] f js h g = absurd (err_not_ok _ _ h)
second_ok labels first side (line_end at ∷ is) f js h g =
    let k = side_ok at side _ (f, js) h in
    let e = ok_is (record { a = first; b = side }, line_end at ∷ is) (f, js) (Ok (record { a = first; b = side }, line_end at ∷ is)) refl k.1 in
    (sym (ap (λ (x : Flip × List Item). x.0.a) e), subst (λ (x : Flip × List Item). IsGood labels x.0.b) e (g, k.0), past_none (line_end at ∷ is) js (ap (λ (x : Flip × List Item). x.1) e))
second_ok labels first side (word text at ∷ is) f js h g =
    let k = label_ok labels text at side _ (f, js) h g in
    let r = second_ok labels first (with side (digits_value 10 text)) is f js k.1 k.0 in
    (r.0, r.1, past_word text at is js r.2)

first_ok : (labels : Labels) (side : List ℕ) (is : List Item) (f : Flip) (js : List Item) → first_from labels side is ≡ Ok (f, js) → Fits labels side
    → IsGood labels f.a × IsGood labels f.b × Passes is js
unfolding first_from
first_ok labels side [] f js h g = absurd (err_not_ok _ _ h)
first_ok labels side (line_end at ∷ is) f js h g = absurd (err_not_ok _ _ h)
first_ok labels side (word text at ∷ is) f js h g =
    elim (is_bar text) as (λ b. (if b then side_then at side (second_from labels side [] is) else label_then labels text at side (first_from labels (with side (digits_value 10 text)) is)) ≡ Ok (f, js) → IsGood labels f.a × IsGood labels f.b × Passes (word text at ∷ is) js) [
      | true ↦ λ h.
          let k = side_ok at side _ (f, js) h in
          let r = second_ok labels side [] is f js k.1 (no_labels labels) in
          (subst (IsGood labels) (sym r.0) (g, k.0), r.1, past_word text at is js r.2)
      | false ↦ λ h.
          let k = label_ok labels text at side _ (f, js) h g in
          let r = first_ok labels (with side (digits_value 10 text)) is f js k.1 k.0 in
          (r.0, r.1, past_word text at is js r.2)
    ] h

pub flip_ok : (labels : Labels) (is : List Item) (f : Flip) (js : List Item) → flip_at labels is ≡ Ok (f, js) → IsGood labels f.a × IsGood labels f.b × Passes is js
flip_ok labels is f js h = first_ok labels [] is f js h (no_labels labels)
