-- A trace that was read keeps its limits.
use Rattle.std.proofs.Common.{◌≡◌, ◌≤◌, ◌+◌, ◌-◌, ◌||◌, ℕ, zero, suc, true, List, [], ◌∷◌, ◌++◌, length, get_or, Ok, refl, sym, ap, subst, ◌∙◌, arith, inl, inr}
use Rattle.std.specs.Prelude.{◌==◌}
use Rattle.std.specs.List.{AllByRecursion, flat_map}
use Rattle.std.specs.Ordering.{nat_cmp}
use Rattle.std.specs.Str.{bytes_eq}
use Rattle.std.proofs.lemmas.Bool.{cases_Bool}
use Rattle.complex_core.specs.Maps.{greatest, takes, turned, used}
use Rattle.complex_core.specs.Complexes.{ComplexView}
use Rattle.complex_core.proofs.Laws.{nat_eq_is}
use Rattle.complex_core.proofs.Pairs.{takes-rising, takes-turned}
use Rattle.complex_core.proofs.Sets.{each_rising}
use Rattle.complex_core.proofs.Sorting.{each_append}
use Rattle.facet_text.specs.Lines.{Item, line_end, word}
use Rattle.facet_text.specs.Writing.{KeepsLimits}
use Rattle.core_laws.specs.declared.event.Event.{Event}
use Rattle.core_laws.specs.declared.event.Event.TheVariants as event
use Rattle.line_text.specs.Labels.{allows}
use Rattle.trace_text.specs.Grammar.{count_from, event_on, events_from, events_past, is_place, labels_of, places_in, stated}
use Rattle.trace_text.specs.Outcomes.{KeepsTraceLimits}
use Rattle.trace_text.specs.Traces.{IsNamed, IsNamedSide, IsPlaceName, IsTraceEvent, Trace, is_name, names}
use Rattle.trace_text.proofs.Events.{IsPlaced, IsRead, count_ok, ended_ok, line_ok_event}
use Rattle.trace_text.proofs.Parts.{after_ok, either, err_not_ok, ok_is}
use Rattle.trace_text.proofs.Sides.{IsGood}

-- ---- the numbers that are stated

pub stated_ok : (name : List ℕ) (most n : ℕ) (is js : List Item) → stated name most is ≡ Ok (n, js) → (1 ≤ n) × (n ≤ most)
unfolding stated
stated_ok name most n [] js h = absurd (err_not_ok _ _ h)
stated_ok name most n (line_end at ∷ is) js h = absurd (err_not_ok _ _ h)
stated_ok name most n (word text at ∷ is) js h =
    either ((1 ≤ n) × (n ≤ most)) (bytes_eq text name) _ _ _
    (λ k. let r = ended_ok (count_from most is) n js k in let c = count_ok most n is r.0 r.1 in (c.0, c.1))
    (λ k. absurd (err_not_ok _ _ k)) h

-- ---- the spare labels are numbers of 16 bits

each_flat : (P : ℕ → Type 0) (fs : List (List ℕ)) → AllByRecursion (AllByRecursion P) fs → AllByRecursion P (flat_map (λ f. f) fs)
each_flat P [] h = tt
each_flat P (f ∷ fs) h = each_append P f (flat_map (λ f. f) fs) h.0 (each_flat P fs h.1)

each_at : (most i : ℕ) (xs : List ℕ) → AllByRecursion (λ n. n ≤ most) xs → get_or xs i 0 ≤ most
each_at most i [] h = omega arith
each_at most zero (x ∷ xs) h = h.0
each_at most (suc i) (x ∷ xs) h = each_at most i xs h.1

greatest_small : (k : ComplexView) → KeepsLimits k → greatest (used k.facets) ≤ 60000
greatest_small k h = each_at 60000 (length (used k.facets) - 1) (used k.facets) (each_rising nat_cmp (λ x. x ≤ 60000) (flat_map (λ f. f) k.facets) (each_flat (λ x. x ≤ 60000) k.facets h.small))

pub room_fits : (k : ComplexView) (name : List ℕ) (room : ℕ) (is js : List Item) → KeepsLimits k → stated name 1024 is ≡ Ok (room, js) → greatest (used k.facets) + room ≤ 65535
room_fits k name room is js h r = omega (arith, greatest_small k h, (stated_ok name 1024 room is js r).1)

-- ---- events in the labels of the trace

taken : (m : List (ℕ × ℕ)) (n : ℕ) → allows (labels_of m) n ≡ true → takes m n ≡ true
unfolding allows
taken m n h = grind arith

named : (t : Trace) (n : ℕ) → allows (labels_of (places_in t.start t.room)) n ≡ true → is_name t n ≡ true
named t n h = sym (takes-rising (turned (names t)) n ∙ takes-turned (names t) n) ∙ taken (places_in t.start t.room) n h

named_all : (t : Trace) (xs : List ℕ) → AllByRecursion (λ x. allows (labels_of (places_in t.start t.room)) x ≡ true) xs → AllByRecursion (λ x. is_name t x ≡ true) xs
named_all t [] h = tt
named_all t (x ∷ xs) h = (named t x h.0, named_all t xs h.1)

named_side : (t : Trace) (side : List ℕ) → IsGood (labels_of (places_in t.start t.room)) side → IsNamedSide t side
named_side t side h = record { face = h.0.face; some = h.1; few = h.0.few; known = named_all t side h.0.known }

named_place : (t : Trace) (p : ℕ) → is_place (places_in t.start t.room) p ≡ true → IsPlaceName t p
unfolding is_place
named_place t p h = elim (cases_Bool (p == 0)) [
  | inl z ↦ inl (nat_eq_is p 0 z)
  | inr n ↦ inr (named t p (sym (ap (λ b. b || allows (labels_of (places_in t.start t.room)) p) n) ∙ h))
]

named_event : (t : Trace) (e : Event) → IsPlaced (places_in t.start t.room) e → IsNamed t e
named_event t (event.Claim w p) h = named_place t p h
named_event t (event.Flip w f) h = (named_side t f.a h.0, named_side t f.b h.1)
named_event t (event.Rollback w) h = tt
named_event t (event.Commit w) h = tt
named_event t (event.Release w p) h = named_place t p h

mutual
  unfolding events_from events_past

  each_read : (m : List (ℕ × ℕ)) (es : List Event) (is : List Item) (all : List Event) → AllByRecursion (IsRead m) es → events_from m es is ≡ Ok all → AllByRecursion (IsRead m) all
  each_read m es [] all a h = subst (AllByRecursion (IsRead m)) (ok_is es all (Ok es) refl h) a
  each_read m es (line_end at ∷ is) all a h = each_read m es is all a h
  each_read m es (word text at ∷ is) all a h =
      let r = after_ok (event_on m text at is) _ _ h in
      each_past m (es ++ r.0.0 ∷ []) is all (each_append (IsRead m) es (r.0.0 ∷ []) a ((line_ok_event m text at is r.0.0 r.0.1 r.1).0, tt)) r.2

  each_past : (m : List (ℕ × ℕ)) (es : List Event) (is : List Item) (all : List Event) → AllByRecursion (IsRead m) es → events_past m es is ≡ Ok all → AllByRecursion (IsRead m) all
  each_past m es [] all a h = subst (AllByRecursion (IsRead m)) (ok_is es all (Ok es) refl h) a
  each_past m es (line_end at ∷ is) all a h = each_read m es is all a h
  each_past m es (word text at ∷ is) all a h = each_past m es is all a h

named_events : (t : Trace) (es : List Event) → AllByRecursion (IsRead (places_in t.start t.room)) es → AllByRecursion (IsTraceEvent t) es
named_events t [] h = tt
named_events t (e ∷ es) h = (record { low = h.0.low; high = h.0.high; named = named_event t e h.0.placed }, named_events t es h.1)

-- ---- the whole

pub keeps : (t : Trace) (first second : List ℕ) (places : List (ℕ × ℕ)) (a b c d e : List Item) → KeepsLimits t.start → stated first 16 a ≡ Ok (t.workers, b) → stated second 1024 c ≡ Ok (t.room, d)
    → places ≡ places_in t.start t.room → events_from places [] e ≡ Ok t.events → KeepsTraceLimits t
keeps t first second places a b c d e k w r p h =
    let workers = stated_ok first 16 t.workers a b w in
    let room = stated_ok second 1024 t.room c d r in
    record {
      start = k;
      spares = room_fits t.start second t.room c d k r;
      a_worker = workers.0;
      workers = workers.1;
      a_spare = room.0;
      room = room.1;
      events = named_events t t.events (each_read (places_in t.start t.room) [] e t.events tt (ap (λ m. events_from m [] e) (sym p) ∙ h));
    }
