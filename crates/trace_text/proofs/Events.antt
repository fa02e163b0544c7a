-- Reading one event after the other.
use Rattle.std.proofs.Common.{◌≡◌, ◌≤◌, ℕ, true, List, [], ◌∷◌, ◌++◌, Ok, Err, codes, refl, ap, subst, ◌∙◌, arith}
use Rattle.std.specs.Str.{bytes_eq}
use Rattle.std.specs.Str.Parse.{digits_value}
use Rattle.facet_text.specs.Lines.{Item, line_end, word}
use Rattle.facet_text.specs.Tokens.{between}
use Rattle.core_laws.specs.declared.event.Event.{Event}
use Rattle.core_laws.specs.declared.event.Event.TheVariants as event
use Rattle.core_laws.specs.Steps.{worker_of}
use Rattle.line_text.specs.Flips.{flip_at}
use Rattle.line_text.specs.Numbers.{end_at, is_number, line_start}
use Rattle.trace_text.specs.declared.fault.TraceFault.{TraceFault}
use Rattle.trace_text.specs.declared.fault.TraceFault.TheVariants as fault
use Rattle.trace_text.specs.Grammar.{Part, Reading, after, count_from, ended, event_on, events_from, events_past, in_line, is_place, labels_of, of_flip, of_place, of_worker, place_from}
use Rattle.trace_text.specs.Outcomes.{Fails}
use Rattle.trace_text.proofs.Parts.{after_ok, either, err_not_ok, line_ok, ok_is, test_ok}
use Rattle.trace_text.proofs.Sides.{IsGood, Passes, flip_ok, past_none, past_word}

pub fails : {X : Type 0} (e : TraceFault) (read : Reading X) → read ≡ Err e → Fails e read
fails fault.Memory read h = tt
fails (fault.Complex f) read h = h
fails (fault.Syntax p) read h = h
fails (fault.Label p) read h = h
fails (fault.Number p) read h = h

-- only line ends are passed over before the next line that has a word
from_start : (places : List (ℕ × ℕ)) (es : List Event) (is : List Item) → events_from places es is ≡ events_from places es (line_start is)
unfolding line_start events_from
from_start places es [] = refl
from_start places es (word text at ∷ is) = refl
from_start places es (line_end at ∷ []) = refl
from_start places es (line_end at ∷ i ∷ is) = from_start places es (i ∷ is)

at_word : (places : List (ℕ × ℕ)) (es : List Event) (text : List ℕ) (at : ℕ) (is : List Item) → events_from places es (word text at ∷ is) ≡ after (event_on places text at is) (λ e. events_past places (es ++ e.0 ∷ []) is)
unfolding events_from
at_word places es text at is = refl

pub no_line : (places : List (ℕ × ℕ)) (es : List Event) (is : List Item) (p : ℕ) → line_start is ≡ line_end p ∷ [] → events_from places es is ≡ Ok es
unfolding events_from
no_line places es is p h = from_start places es is ∙ ap (events_from places es) h

pub bad_line : (places : List (ℕ × ℕ)) (es : List Event) (is rest : List Item) (text : List ℕ) (at : ℕ) (e : TraceFault) → line_start is ≡ word text at ∷ rest → event_on places text at rest ≡ Err e → events_from places es is ≡ Err e
bad_line places es is rest text at e h bad =
    from_start places es is ∙ ap (events_from places es) h ∙ at_word places es text at rest ∙ ap (λ (r : Reading (Event × List Item)). after r (λ e. events_past places (es ++ e.0 ∷ []) rest)) bad

-- ---- what a line tells that was read

in_range : (most n : ℕ) → between 1 most n ≡ true → (1 ≤ n) × (n ≤ most)
in_range most n h = grind arith

pub count_ok : (most n : ℕ) (is js : List Item) → count_from most is ≡ Ok (n, js) → (1 ≤ n) × (n ≤ most) × Passes is js
unfolding count_from
count_ok most n [] js h = absurd (err_not_ok _ _ h)
count_ok most n (line_end at ∷ is) js h = absurd (err_not_ok _ _ h)
count_ok most n (word text at ∷ is) js h =
    let g = test_ok (is_number text) _ _ _ h in
    let k = test_ok (between 1 most (digits_value 10 text)) _ _ _ g.1 in
    let e = ok_is (digits_value 10 text, is) (n, js) (Ok (digits_value 10 text, is)) refl k.1 in
    let r = in_range most (digits_value 10 text) k.0 in
    let v : digits_value 10 text ≡ n = ap (λ (x : ℕ × List Item). x.0) e in
    (subst (λ (m : ℕ). 1 ≤ m) v r.0, subst (λ (m : ℕ). m ≤ most) v r.1, past_word text at is js (past_none is js (ap (λ (x : ℕ × List Item). x.1) e)))

place_ok : (m : List (ℕ × ℕ)) (n : ℕ) (is js : List Item) → place_from m is ≡ Ok (n, js) → (is_place m n ≡ true) × Passes is js
unfolding place_from
place_ok m n [] js h = absurd (err_not_ok _ _ h)
place_ok m n (line_end at ∷ is) js h = absurd (err_not_ok _ _ h)
place_ok m n (word text at ∷ is) js h =
    let g = test_ok (is_number text) _ _ _ h in
    let k = test_ok (is_place m (digits_value 10 text)) _ _ _ g.1 in
    let e = ok_is (digits_value 10 text, is) (n, js) (Ok (digits_value 10 text, is)) refl k.1 in
    (subst (λ (x : ℕ). is_place m x ≡ true) (ap (λ (x : ℕ × List Item). x.0) e) k.0, past_word text at is js (past_none is js (ap (λ (x : ℕ × List Item). x.1) e)))

-- the line ends, and the next one begins there
abbrev pub Ends : List Item → List Item → Type 0
Ends is js = (m : List (ℕ × ℕ)) (es : List Event) → events_past m es is ≡ events_from m es js

end_ok : (is js : List Item) → end_at is ≡ Ok js → Ends is js
unfolding end_at events_past events_from
end_ok [] js h = absurd (err_not_ok _ _ h)
end_ok (word text at ∷ is) js h = absurd (err_not_ok _ _ h)
end_ok (line_end at ∷ is) js h = λ m es. ap (events_from m es) (ok_is (line_end at ∷ is) js (Ok (line_end at ∷ is)) refl h)

pub ended_ok : {X : Type 0} (part : Part X) (x : X) (js : List Item) → ended part ≡ Ok (x, js) → (ys : List Item) × (part ≡ Ok (x, ys)) × (end_at ys ≡ Ok js)
unfolding ended
ended_ok part x js h =
    let r = after_ok part _ _ h in
    let s = after_ok (in_line (end_at r.0.1)) _ _ r.2 in
    let e = ok_is (r.0.0, s.0) (x, js) (Ok (r.0.0, s.0)) refl s.2 in
    (r.0.1, r.1 ∙ ap (λ z. Ok (z, r.0.1)) (ap (λ z. z.0) e), line_ok (end_at r.0.1) s.0 s.1 ∙ ap (λ z. Ok z) (ap (λ z. z.1) e))

-- the places and labels of an event are among those that have places
abbrev pub IsPlaced : List (ℕ × ℕ) → Event → Type 0
IsPlaced m (event.Claim w p) = is_place m p ≡ true
IsPlaced m (event.Flip w f) = IsGood (labels_of m) f.a × IsGood (labels_of m) f.b
IsPlaced m (event.Rollback w) = Unit {0}
IsPlaced m (event.Commit w) = Unit {0}
IsPlaced m (event.Release w p) = is_place m p ≡ true

pub record IsRead (m : List (ℕ × ℕ)) (e : Event) : Type 0 where
  pub low : 1 ≤ worker_of e
  pub high : worker_of e ≤ 16
  pub placed : IsPlaced m e

abbrev pub LineRead : List (ℕ × ℕ) → Event → List Item → List Item → Type 0
LineRead m e is js = IsRead m e × Ends is js

worker_ok : (m : List (ℕ × ℕ)) (make : ℕ → Event) → ((w : ℕ) → 1 ≤ w → w ≤ 16 → IsRead m (make w)) → (is : List Item) (e : Event) (js : List Item) → of_worker make is ≡ Ok (e, js) → LineRead m e is js
unfolding of_worker
worker_ok m make f is e js h =
    let r = ended_ok _ e js h in
    let w = after_ok (count_from 16 is) _ _ r.1 in
    let k = ok_is (make w.0.0, w.0.1) (e, r.0) (Ok (make w.0.0, w.0.1)) refl w.2 in
    let c = count_ok 16 w.0.0 is w.0.1 w.1 in
    let d = end_ok r.0 js r.2 in
    let s : w.0.1 ≡ r.0 = ap (λ (z : Event × List Item). z.1) k in
    (subst (IsRead m) (ap (λ (z : Event × List Item). z.0) k) (f w.0.0 c.0 c.1), λ n es. c.2 n es ∙ ap (events_past n es) s ∙ d n es)

places_ok : (m : List (ℕ × ℕ)) (make : ℕ → ℕ → Event) → ((w p : ℕ) → 1 ≤ w → w ≤ 16 → is_place m p ≡ true → IsRead m (make w p)) → (is : List Item) (e : Event) (js : List Item) → of_place make m is ≡ Ok (e, js) → LineRead m e is js
unfolding of_place
places_ok m make f is e js h =
    let r = ended_ok _ e js h in
    let w = after_ok (count_from 16 is) _ _ r.1 in
    let p = after_ok (place_from m w.0.1) _ _ w.2 in
    let k = ok_is (make w.0.0 p.0.0, p.0.1) (e, r.0) (Ok (make w.0.0 p.0.0, p.0.1)) refl p.2 in
    let c = count_ok 16 w.0.0 is w.0.1 w.1 in
    let q = place_ok m p.0.0 w.0.1 p.0.1 p.1 in
    let d = end_ok r.0 js r.2 in
    let s : p.0.1 ≡ r.0 = ap (λ (z : Event × List Item). z.1) k in
    (subst (IsRead m) (ap (λ (z : Event × List Item). z.0) k) (f w.0.0 p.0.0 c.0 c.1 q.0), λ n es. c.2 n es ∙ q.1 n es ∙ ap (events_past n es) s ∙ d n es)

move_ok : (m : List (ℕ × ℕ)) (is : List Item) (e : Event) (js : List Item) → of_flip m is ≡ Ok (e, js) → LineRead m e is js
unfolding of_flip
move_ok m is e js h =
    let r = ended_ok _ e js h in
    let w = after_ok (count_from 16 is) _ _ r.1 in
    let p = after_ok (in_line (flip_at (labels_of m) w.0.1)) _ _ w.2 in
    let k = ok_is (event.Flip w.0.0 p.0.0, p.0.1) (e, r.0) (Ok (event.Flip w.0.0 p.0.0, p.0.1)) refl p.2 in
    let c = count_ok 16 w.0.0 is w.0.1 w.1 in
    let q = flip_ok (labels_of m) w.0.1 p.0.0 p.0.1 (line_ok _ _ p.1) in
    let d = end_ok r.0 js r.2 in
    let s : p.0.1 ≡ r.0 = ap (λ (z : Event × List Item). z.1) k in
    (subst (IsRead m) (ap (λ (z : Event × List Item). z.0) k) (record { low = c.0; high = c.1; placed = (q.0, q.1) }), λ n es. c.2 n es ∙ q.2 n es ∙ ap (events_past n es) s ∙ d n es)

pub line_ok_event : (m : List (ℕ × ℕ)) (text : List ℕ) (at : ℕ) (is : List Item) (e : Event) (js : List Item) → event_on m text at is ≡ Ok (e, js) → LineRead m e is js
unfolding event_on
line_ok_event m text at is e js h =
    let Q : Type 0 = LineRead m e is js in
    either Q (bytes_eq text (codes "claim")) _ _ _ (λ k. places_ok m event.Claim (λ w p l u a. record { low = l; high = u; placed = a }) is e js k)
    (λ h. either Q (bytes_eq text (codes "flip")) _ _ _ (λ k. move_ok m is e js k)
    (λ h. either Q (bytes_eq text (codes "rollback")) _ _ _ (λ k. worker_ok m event.Rollback (λ w l u. record { low = l; high = u; placed = tt }) is e js k)
    (λ h. either Q (bytes_eq text (codes "commit")) _ _ _ (λ k. worker_ok m event.Commit (λ w l u. record { low = l; high = u; placed = tt }) is e js k)
    (λ h. either Q (bytes_eq text (codes "release")) _ _ _ (λ k. places_ok m event.Release (λ w p l u a. record { low = l; high = u; placed = a }) is e js k)
    (λ h. absurd (err_not_ok _ _ h)) h) h) h) h) h

pub one_line : (m : List (ℕ × ℕ)) (es : List Event) (is rest js : List Item) (text : List ℕ) (at : ℕ) (e : Event) → line_start is ≡ word text at ∷ rest → event_on m text at rest ≡ Ok (e, js) → events_from m es is ≡ events_from m (es ++ e ∷ []) js
one_line m es is rest js text at e h good =
    from_start m es is ∙ ap (events_from m es) h ∙ at_word m es text at rest ∙ ap (λ (r : Reading (Event × List Item)). after r (λ e. events_past m (es ++ e.0 ∷ []) rest)) good
    ∙ (line_ok_event m text at rest e js good).1 m (es ++ e ∷ [])
