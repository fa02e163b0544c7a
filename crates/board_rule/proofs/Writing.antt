-- Part 1 of the rule, after each change: the journal is one legal history.
use Rattle.std.proofs.Common.{◌≡◌, ℕ, ◌-◌, ◌<◌, ◌≤◌, ◌^◌, Bool, true, false, cond, nat_eq, ◌||◌, ◌&&◌, List, [], ◌∷◌, ◌++◌, map, length, get_or, replicate, Some, inl, inr, sym, refl, ap, ◌∙◌, subst, arith, eq-eqb}
use Rattle.std.specs.List.{AllByRecursion, flat_map}
use Rattle.std.specs.Ordering.{nat_cmp}
use Rattle.std.proofs.Math.ListN.{get_or-eq_default}
use Rattle.std.proofs.lemmas.Bool.{cases_lt}
use Rattle.std.proofs.lemmas.List.{append-nil, length-replicate, get_or-replicate}
use Rattle.std.proofs.lemmas.List.Elements.{filter-append}
use Rattle.complex_core.specs.Labels.{has, holds}
use Rattle.complex_core.specs.Maps.{used}
use Rattle.complex_core.specs.Complexes.{ComplexView, IsComplex, is_held}
use Rattle.complex_core.proofs.Faces.{equal_cmp}
use Rattle.complex_core.proofs.Laws.{nat_eq_is}
use Rattle.complex_core.proofs.Runs.{held_alike}
use Rattle.complex_core.proofs.Sets.{any-rising}
use Rattle.complex_core.proofs.Sorting.{each_append}
use Rattle.flip_rules.specs.Flips.{OfFaces, replay}
use Rattle.flip_rules.specs.Entries.{JournalEntry}
use Rattle.flip_rules.specs.Journals.{flat, mine}
use Rattle.flip_rules.specs.declared.flip.Flip.{Flip}
use Rattle.flip_rules.proofs.Replays.{replay-append, complex_replayed}
use Rattle.star_laws.specs.Stars.{flips_touch}
use Rattle.star_laws.proofs.ReplayStars.{others_replay}
use Rattle.core_laws.specs.Cores.{complex_of, pending_of, of_worker}
use Rattle.core_laws.specs.Serials.{Serial, numbers_from}
use Rattle.core_laws.proofs.Replays.{some_replay, flat_push}
use Rattle.stars.specs.StarViews.{UsesUpTo}
use Rattle.board_rule.specs.Rule.{core_of, IsEntry, Written}
use Rattle.board_rule.specs.Ends.{Opens}
use Rattle.board_rule.specs.declared.setup.Setup.{Setup}
use Rattle.board_rule.specs.declared.data.Slot.{Slot}
use Rattle.board_rule.proofs.Items.{off}
use Rattle.complex_core.proofs.Members.{each_member}
use Rattle.stars.proofs.Mapping.{has_append}
use Rattle.core_laws.proofs.Rows.{numbers_push}

-- ---- the core of a board

-- nothing is pending
pub nothing_pending : (workers n : ℕ) → get_or {A = List Flip} (replicate workers []) n [] ≡ []
nothing_pending workers n = elim (cases_lt n workers) [
  | inl l ↦ get_or-replicate workers n [] [] l
  | inr l ↦ get_or-eq_default (replicate workers []) [] (omega (arith, length-replicate {A = List Flip} workers [], l))
]

abbrev pub Numbered : List JournalEntry → Type 0
Numbered journal = (worker : ℕ) → map (λ (e : JournalEntry). e.seq) (of_worker journal worker) ≡ numbers_from 0 (of_worker journal worker)

-- so it is serial where the journal replays and is numbered, whoever owns the places
pub serial_of : (setup : Setup) (words : List ℕ) (journal : List JournalEntry) (now : ComplexView) → replay setup.start.value (flat journal) ≡ Some now → Numbered journal → Serial (core_of setup words journal)
serial_of setup words journal now replays numbered = record {
  replays = some_replay setup.start.value now (flat journal) replays;
  pending = λ worker w. let k : ComplexView = complex_of (core_of setup words journal) in some_replay k k (pending_of (core_of setup words journal) worker) (ap (replay k) (nothing_pending setup.workers (worker - 1)));
  owned = λ worker place w t. off (ap (flips_touch place) (sym (nothing_pending setup.workers (worker - 1))) ∙ t);
  numbered = numbered;
}

-- ---- a step that writes no entry

wider_entries : (round places seats seats' : ℕ) (journal : List JournalEntry) → seats ≤ seats' → AllByRecursion (IsEntry round places seats) journal → AllByRecursion (IsEntry round places seats') journal
wider_entries round places seats seats' [] more h = tt
wider_entries round places seats seats' (e ∷ es) more h = let one = h.0 in let high = one.high in (record { round_is = one.round_is; low = one.low; high = omega arith; some = one.some; few = one.few; labels = one.labels; faces = one.faces }, wider_entries round places seats seats' es more h.1)

pub written_as : (setup : Setup) (words words' : List ℕ) (seats seats' : ℕ) (journal : List JournalEntry) (now : ComplexView) → seats ≤ seats' → Written setup words seats journal now → Written setup words' seats' journal now
written_as setup words words' seats seats' journal now more w = record {
  serial = serial_of setup words' journal now w.replays w.serial.numbered;
  replays = w.replays;
  complex = w.complex;
  within = w.within;
  entries = wider_entries setup.round setup.places seats seats' journal more w.entries;
  short = w.short;
}

-- ---- no entry yet

pub written_first : (setup : Setup) (words : List ℕ) (slots : List Slot) (seats : ℕ) → Opens setup words slots → Written setup words seats [] setup.start.value
written_first setup words slots seats o = record {
  serial = serial_of setup words [] setup.start.value refl (λ worker. refl);
  replays = refl;
  complex = o.complex;
  within = o.within;
  entries = tt;
  short = omega arith;
}

-- ---- which labels are used

has_each : (P : ℕ → Type 0) (xs : List ℕ) (x : ℕ) → AllByRecursion P xs → has xs x ≡ true → P x
has_each P [] x a t = off t
has_each P (y ∷ ys) x a t = elim (nat_eq y x) as (λ b. nat_eq y x ≡ b → (b || has ys x) ≡ true → P x) [
  | true ↦ λ e _. subst P (nat_eq_is y x e) a.0
  | false ↦ λ _ u. has_each P ys x a.1 u
] refl t

-- a label is used where some facet holds it
has_used : (fs : List (List ℕ)) (x : ℕ) → has (used fs) x ≡ is_held fs (x ∷ [])
has_used fs x = any-rising nat_cmp equal_cmp (λ y. nat_eq y x) _ ∙ flat fs
  where
    and_true : (b : Bool) → b ≡ (b && true)
    and_true true = refl
    and_true false = refl

    flat : (gs : List (List ℕ)) → has (flat_map (λ f. f) gs) x ≡ is_held gs (x ∷ [])
    flat [] = refl
    flat (g ∷ gs) = has_append g (flat_map (λ f. f) gs) x ∙ (ap (λ b. b || has (flat_map (λ f. f) gs) x) (and_true (has g x)) ∙ ap (λ b. holds g (x ∷ []) || b) (flat gs))

-- flips whose labels are at most n lead to a complex that uses no others
pub uses_after : (k m : ComplexView) (flips : List Flip) (n : ℕ) → IsComplex k → replay k flips ≡ Some m → ((p : ℕ) → flips_touch p flips ≡ true → p ≤ n) → UsesUpTo k n → UsesUpTo m n
uses_after k m flips n c e touched w = each_member (λ x. x ≤ n) (used m.facets) (λ x t. by x t (flips_touch x flips) refl)
  where
    by : (x : ℕ) → has (used m.facets) x ≡ true → (b : Bool) → flips_touch x flips ≡ b → x ≤ n
    by x t true is = touched x is
    by x t false is = has_each (λ y. y ≤ n) (used k.facets) x w
        (has_used k.facets x ∙ (held_alike k.facets m.facets (x ∷ []) (sym (others_replay k m flips x c.rising e is)) ∙ (sym (has_used m.facets x) ∙ t)))

-- ---- a commit

-- the worker's entries with one more
pub numbered_push : (journal : List JournalEntry) (e : JournalEntry) → e.seq ≡ length (of_worker journal e.worker) → Numbered journal → Numbered (journal ++ e ∷ [])
numbered_push journal e seq all other =
    let P : List JournalEntry → Type 0 = λ es. map (λ (d : JournalEntry). d.seq) es ≡ numbers_from 0 es in
    subst P (sym (filter-append (λ (d : JournalEntry). nat_eq d.worker other) journal (e ∷ [])))
    (elim (nat_eq e.worker other) as (λ b. nat_eq e.worker other ≡ b → P (of_worker journal other ++ cond b (e ∷ []) [])) [
      | true ↦ λ y. numbers_push 0 (of_worker journal other) e (let n : e.seq ≡ length (of_worker journal other) = seq ∙ ap (λ w. length (of_worker journal w)) (nat_eq_is e.worker other y) in omega (arith, n)) (all other)
      | false ↦ λ _. subst P (sym (append-nil (of_worker journal other))) (all other)
    ] refl)

-- all entries are of the board's round
pub mine_of_worker : (round places seats : ℕ) (journal : List JournalEntry) (w : ℕ) → AllByRecursion (IsEntry round places seats) journal → mine journal round w ≡ of_worker journal w
mine_of_worker round places seats [] w h = refl
mine_of_worker round places seats (e ∷ es) w h =
    let rest : mine es round w ≡ of_worker es w = mine_of_worker round places seats es w h.1 in
    ap (λ (b : Bool). cond (b && nat_eq e.worker w) (e ∷ mine es round w) (mine es round w)) (eq-eqb e.round round h.0.round_is)
    ∙ ap (λ (l : List JournalEntry). cond (nat_eq e.worker w) (e ∷ l) l) rest

-- an entry is written of which the flips are legal now and stand on places
pub written_more : (setup : Setup) (words words' : List ℕ) (seats : ℕ) (journal : List JournalEntry) (e : JournalEntry) (now end : ComplexView) → Written setup words seats journal now → IsEntry setup.round setup.places seats e → e.seq ≡ length (of_worker journal e.worker)
    → AllByRecursion OfFaces e.flips → replay now e.flips ≡ Some end → ((p : ℕ) → flips_touch p e.flips ≡ true → p ≤ setup.places) → length (journal ++ e ∷ []) < 2 ^ 64
    → Written setup words' seats (journal ++ e ∷ []) end
written_more setup words words' seats journal e now end w entry seq faces legal places short =
    let replays : replay setup.start.value (flat (journal ++ e ∷ [])) ≡ Some end = ap (replay setup.start.value) (flat_push journal e) ∙ (replay-append setup.start.value now (flat journal) e.flips w.replays ∙ legal) in
    record {
      serial = serial_of setup words' (journal ++ e ∷ []) end replays (numbered_push journal e seq w.serial.numbered);
      replays = replays;
      complex = complex_replayed now end e.flips w.complex faces legal;
      within = uses_after now end e.flips setup.places w.complex legal places w.within;
      entries = each_append (IsEntry setup.round setup.places seats) journal (e ∷ []) w.entries (entry, tt);
      short = short;
    }
