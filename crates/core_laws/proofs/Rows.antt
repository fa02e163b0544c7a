-- Each row of the table of events keeps a core serial.
use Rattle.std.proofs.Common.{◌≡◌, ◌≢◌, ℕ, ◌+◌, ◌-◌, ◌<◌, ◌≤◌, Bool, true, false, cond, nat_eq, nat_le, ◌||◌, ◌⊎◌, inl, inr, List, [], ◌∷◌, ◌++◌, map, length, Ok, Some, IsSome, sym, ◌∙◌, ap, refl, subst, arith, eq-eqb}
use Rattle.std.proofs.lemmas.Bool.{true≢false}
use Rattle.std.proofs.lemmas.Bool.Decides.{nat_tests}
use Rattle.std.proofs.lemmas.List.{append-nil, length-set, get_or-set_same, get_or-set_other}
use Rattle.std.proofs.lemmas.List.Elements.{filter-append}
use Rattle.complex_core.specs.Labels.{has, IsFace}
use Rattle.complex_core.specs.Complexes.{ComplexView}
use Rattle.complex_core.proofs.Laws.{nat_eq_is}
use Rattle.flip_rules.specs.Flips.{broken_rule, replay}
use Rattle.flip_rules.specs.Entries.{JournalEntry}
use Rattle.flip_rules.specs.Journals.{flip_touches, flat}
use Rattle.flip_rules.specs.declared.flip.Flip.{Flip}
use Rattle.star_laws.specs.Stars.{Rises, AlikeOn, flips_touch}
use Rattle.star_laws.proofs.ReplayStars.{replay_alike, others_replay}
use Rattle.core_laws.specs.Cores.{Core, IsWorker, places_of, owner_of, pending_of, with_owner, with_pending, complex_of, seen_by, of_worker}
use Rattle.core_laws.specs.Steps.{EachLabel, is_place, is_owned, next_entry, committed}
use Rattle.core_laws.specs.Serials.{Serial, OwnsLabel, numbers_from}
use Rattle.core_laws.proofs.Replays.{replay_end, some_replay, after_is, flat_push, touch-append, rises_replay, other_end}
use Rattle.flip_rules.proofs.Replays.{replay-append, replay_then, replay_dim}
use Rattle.complex_core.proofs.Members.{label_low}

-- ---- places and workers

-- a number is this one, or another
pub same_or_not : (n m : ℕ) → (n ≡ m) ⊎ (n ≢ m)
same_or_not n m = elim (nat_eq n m) as (λ b. nat_eq n m ≡ b → (n ≡ m) ⊎ (n ≢ m)) [
  | true ↦ λ e. inl (nat_eq_is n m e)
  | false ↦ λ e. inr (λ g. true≢false (sym (eq-eqb n m g) ∙ e))
] refl

-- the workers stay the same
pub same_worker : (c : Core) (worker other : ℕ) (flips : List Flip) → IsWorker (with_pending c worker flips) other → IsWorker c other
same_worker c worker other flips w = record { low = w.low; high = omega (arith, w.high, length-set c.pending (worker - 1) flips) }

pending_there : (c : Core) (worker : ℕ) (flips : List Flip) → IsWorker c worker → pending_of (with_pending c worker flips) worker ≡ flips
pending_there c worker flips w = get_or-set_same c.pending (worker - 1) flips [] (omega (arith, w.low, w.high))

pending_other : (c : Core) (worker other : ℕ) (flips : List Flip) → IsWorker c worker → IsWorker c other → (other ≢ worker) → pending_of (with_pending c worker flips) other ≡ pending_of c other
pending_other c worker other flips w v n = get_or-set_other c.pending (worker - 1) (other - 1) flips [] (λ e. n (omega (arith, w.low, v.low, e)))

owner_other : (c : Core) (place other worker : ℕ) → (other ≢ place) → owner_of (with_owner c place worker) other ≡ owner_of c other
owner_other c place other worker n = get_or-set_other c.owners place other worker 0 n

-- ---- owners

-- a place may change hands where each label of each pending flip keeps its owner
other_owner : (c : Core) (place owner : ℕ) → Serial c → ((worker : ℕ) → IsWorker c worker → flips_touch place (pending_of c worker) ≡ true → OwnsLabel c worker place → ⊥) → Serial (with_owner c place owner)
other_owner c place owner s free = record {
  replays = s.replays;
  pending = λ worker w. s.pending worker (record { low = w.low; high = w.high });
  owned = λ worker p w t. owns worker p (record { low = w.low; high = w.high }) t;
  numbered = s.numbered;
}
  where
    owns : (worker p : ℕ) → IsWorker c worker → flips_touch p (pending_of c worker) ≡ true → OwnsLabel (with_owner c place owner) worker p
    owns worker p w t =
        let o : OwnsLabel c worker p = s.owned worker p w t in
        let P : ℕ → Type 0 = λ q. flips_touch q (pending_of c worker) ≡ true in
        let Q : ℕ → Type 0 = λ q. OwnsLabel c worker q in
        record {
          low = o.low;
          high = omega (arith, o.high, length-set c.owners place owner);
          owner = owner_other c place p owner (λ e. free worker w (subst P e t) (subst Q e o)) ∙ o.owner;
        }

pub claim_keeps : (c : Core) (worker place : ℕ) → Serial c → owner_of c place ≡ 0 → Serial (with_owner c place worker)
claim_keeps c worker place s free = other_owner c place worker s (λ other w t o. omega (arith, w.low, o.owner, free))

pub release_keeps : (c : Core) (worker place : ℕ) → Serial c → owner_of c place ≡ worker → (place ≢ 0 → pending_of c worker ≡ []) → Serial (with_owner c place 0)
release_keeps c worker place s owner none = other_owner c place 0 s (λ other w t o.
    let f : other ≡ worker = sym o.owner ∙ owner in
    let n : pending_of c worker ≡ [] = none (λ z. absurd (omega (arith, o.low, z))) in
    true≢false (sym t ∙ ap (λ v. flips_touch place (pending_of c v)) f ∙ ap (flips_touch place) n))

-- ---- pending flips

-- a worker's pending flips may be others, if they replay and their labels are its own
other_pending : (c : Core) (worker : ℕ) (flips : List Flip) → Serial c → IsWorker c worker → IsSome (replay (complex_of c) flips) → ((place : ℕ) → flips_touch place flips ≡ true → OwnsLabel c worker place) → Serial (with_pending c worker flips)
other_pending c worker flips s v end own = record {
  replays = s.replays;
  pending = λ other w. ends other (same_worker c worker other flips w);
  owned = λ other place w. owns other place (same_worker c worker other flips w);
  numbered = s.numbered;
}
  where
    ends : (other : ℕ) → IsWorker c other → IsSome (replay (complex_of c) (pending_of (with_pending c worker flips) other))
    ends other w =
        let P : List Flip → Type 0 = λ fs. IsSome (replay (complex_of c) fs) in
        elim (same_or_not other worker) [
          | inl e ↦ subst P (sym (ap (pending_of (with_pending c worker flips)) e ∙ pending_there c worker flips v)) end
          | inr n ↦ subst P (sym (pending_other c worker other flips v w n)) (s.pending other w)
        ]

    owns : (other place : ℕ) → IsWorker c other → flips_touch place (pending_of (with_pending c worker flips) other) ≡ true → OwnsLabel (with_pending c worker flips) other place
    owns other place w t = elim (same_or_not other worker) [
      | inl e ↦
          let o : OwnsLabel c worker place = own place (sym (ap (flips_touch place) (ap (pending_of (with_pending c worker flips)) e ∙ pending_there c worker flips v)) ∙ t) in
          record { low = o.low; high = o.high; owner = o.owner ∙ sym e }
      | inr n ↦
          let o : OwnsLabel c other place = s.owned other place w (sym (ap (flips_touch place) (pending_other c worker other flips v w n)) ∙ t) in
          record { low = o.low; high = o.high; owner = o.owner }
    ]

pub rollback_keeps : (c : Core) (worker : ℕ) → Serial c → IsWorker c worker → Serial (with_pending c worker [])
rollback_keeps c worker s v = other_pending c worker [] s v refl (λ place t. absurd (true≢false (sym t)))

label_of_flip : (f : Flip) (p : ℕ) → IsFace f.a → IsFace f.b → flip_touches p f ≡ true → 0 < p
label_of_flip f p fa fb t =
    elim (has f.a p) as (λ b. has f.a p ≡ b → (b || has f.b p) ≡ true → 0 < p) [
      | true ↦ λ e _. label_low f.a p fa e
      | false ↦ λ _ g. label_low f.b p fb g
    ] refl t

pub flip_keeps : (c : Core) (worker : ℕ) (f : Flip) → Serial c → IsWorker c worker → IsFace f.a → IsFace f.b → EachLabel (is_place c) f → EachLabel (is_owned c worker) f → broken_rule (seen_by c worker) f.a f.b ≡ Ok tt → Serial (with_pending c worker (pending_of c worker ++ f ∷ []))
flip_keeps c worker f s v fa fb places owned legal = other_pending c worker (pending_of c worker ++ f ∷ []) s v
    (some_replay (complex_of c) _ (pending_of c worker ++ f ∷ []) (replay_then (complex_of c) (seen_by c worker) (pending_of c worker) f (replay_end (complex_of c) (pending_of c worker) (s.pending worker v)) legal))
    (λ place t.
    elim (flips_touch place (pending_of c worker)) as (λ b. flips_touch place (pending_of c worker) ≡ b → (b || flips_touch place (f ∷ [])) ≡ true → OwnsLabel c worker place) [
      | true ↦ λ e _. s.owned worker place v e
      | false ↦ λ _ g. let touched : flip_touches place f ≡ true = or_false (flip_touches place f) g in record { low = label_of_flip f place fa fb touched; high = place_le place (places_of c) (places place touched); owner = nat_eq_is (owner_of c place) worker (owned place touched) }
    ] refl (sym (touch-append place (pending_of c worker) (f ∷ [])) ∙ t))
  where
    or_false : (b : Bool) → (b || false) ≡ true → b ≡ true
    or_false true h = refl
    or_false false h = h

    place_le : (n m : ℕ) → nat_le n m ≡ true → n ≤ m
    place_le n m h = grind (arith, nat_tests)

-- ---- a commit

-- the entries are numbered from some number
pub numbers_push : (n : ℕ) (es : List JournalEntry) (e : JournalEntry) → e.seq ≡ n + length es → map (λ (d : JournalEntry). d.seq) es ≡ numbers_from n es → map (λ (d : JournalEntry). d.seq) (es ++ e ∷ []) ≡ numbers_from n (es ++ e ∷ [])
numbers_push n [] e seq h = let g : e.seq ≡ n = omega (arith, seq) in λ i. g i ∷ []
numbers_push n (d ∷ ds) e seq h = head_tail d.seq n _ _ (heads d.seq n _ _ h) (numbers_push (n + 1) ds e (omega (arith, seq)) (tails d.seq n _ _ h))
  where
    heads : (x y : ℕ) (xs ys : List ℕ) → x ∷ xs ≡ y ∷ ys → x ≡ y
    heads x y xs ys e = cc

    tails : (x y : ℕ) (xs ys : List ℕ) → x ∷ xs ≡ y ∷ ys → xs ≡ ys
    tails x y xs ys e = cc

    head_tail : (x y : ℕ) (xs ys : List ℕ) → x ≡ y → xs ≡ ys → x ∷ xs ≡ y ∷ ys
    head_tail x y xs ys e f = cc

module _ (c : Core) (round worker : ℕ) (rises : Rises c.start) (s : Serial c) (v : IsWorker c worker) where
  was : ComplexView
  was = complex_of c

  -- the complex after the commit is what the worker saw
  commit_replays : replay c.start (flat (committed c round worker).journal) ≡ Some (seen_by c worker)
  commit_replays =
      ap (replay c.start) (flat_push c.journal (next_entry c round worker))
      ∙ replay-append c.start (complex_of c) (flat c.journal) (pending_of c worker) (replay_end c.start (flat c.journal) s.replays)
      ∙ replay_end (complex_of c) (pending_of c worker) (s.pending worker v)

  pub commit_complex : complex_of (committed c round worker) ≡ seen_by c worker
  commit_complex = after_is c.start (seen_by c worker) (flat (committed c round worker).journal) commit_replays

  -- on what another worker owns it is as before
  commit_alike : (other : ℕ) → (other ≢ worker) → AlikeOn (is_owned c other) (complex_of c) (seen_by c worker)
  commit_alike other apart =
      let end : replay (complex_of c) (pending_of c worker) ≡ Some (seen_by c worker) = replay_end (complex_of c) (pending_of c worker) (s.pending worker v) in
      record {
        dim = sym (replay_dim (complex_of c) (seen_by c worker) (pending_of c worker) end);
        stars = λ p t. sym (others_replay (complex_of c) (seen_by c worker) (pending_of c worker) p
            (rises_replay c.start (complex_of c) (flat c.journal) rises (replay_end c.start (flat c.journal) s.replays)) end
            (elim (flips_touch p (pending_of c worker)) as (λ b. flips_touch p (pending_of c worker) ≡ b → b ≡ false) [
              | true ↦ λ e. let o : OwnsLabel c worker p = s.owned worker p v e in absurd (apart (sym (nat_eq_is (owner_of c p) other t) ∙ o.owner))
              | false ↦ λ _. refl
            ] refl));
      }

  commit_pending : (other : ℕ) → IsWorker c other → IsSome (replay (seen_by c worker) (pending_of (with_pending c worker []) other))
  commit_pending other w =
      let P : List Flip → Type 0 = λ fs. IsSome (replay (seen_by c worker) fs) in
      elim (same_or_not other worker) [
        | inl e ↦ subst P (sym (ap (pending_of (with_pending c worker [])) e ∙ pending_there c worker [] v)) refl
        | inr n ↦ subst P (sym (pending_other c worker other [] v w n))
            (other_end (is_owned c other) (replay (complex_of c) (pending_of c other)) (replay (seen_by c worker) (pending_of c other))
            (replay_alike (is_owned c other) (complex_of c) (seen_by c worker) (pending_of c other) (commit_alike other n)
            (λ p t. let o : OwnsLabel c other p = s.owned other p w t in eq-eqb (owner_of c p) other o.owner))
            (s.pending other w))
      ]

  commit_numbered : (other : ℕ) → map (λ (e : JournalEntry). e.seq) (of_worker (committed c round worker).journal other) ≡ numbers_from 0 (of_worker (committed c round worker).journal other)
  commit_numbered other =
      let P : List JournalEntry → Type 0 = λ es. map (λ (e : JournalEntry). e.seq) es ≡ numbers_from 0 es in
      subst P (sym (filter-append (λ (e : JournalEntry). nat_eq e.worker other) c.journal (next_entry c round worker ∷ [])))
      (elim (nat_eq worker other) as (λ b. nat_eq worker other ≡ b → P (of_worker c.journal other ++ cond b (next_entry c round worker ∷ []) [])) [
        | true ↦ λ e. numbers_push 0 (of_worker c.journal other) (next_entry c round worker) (let f : worker ≡ other = nat_eq_is worker other e in ap (λ w. length (of_worker c.journal w)) f ∙ add_zero (length (of_worker c.journal other))) (s.numbered other)
        | false ↦ λ _. subst P (sym (append-nil (of_worker c.journal other))) (s.numbered other)
      ] refl)
    where
      add_zero : (n : ℕ) → n ≡ 0 + n
      add_zero n = omega arith

  pub commit_keeps : Serial (committed c round worker)
  commit_keeps = record {
    replays = some_replay c.start (seen_by c worker) (flat (committed c round worker).journal) commit_replays;
    pending = λ other w.
        let P : ComplexView → Type 0 = λ k. IsSome (replay k (pending_of (with_pending c worker []) other)) in
        subst P (sym commit_complex) (commit_pending other (same_worker c worker other [] (record { low = w.low; high = w.high })));
    owned = λ other place w. commit_owned other place (same_worker c worker other [] (record { low = w.low; high = w.high }));
    numbered = commit_numbered;
  }
    where
      commit_owned : (other place : ℕ) → IsWorker c other → flips_touch place (pending_of (with_pending c worker []) other) ≡ true → OwnsLabel (committed c round worker) other place
      commit_owned other place w t = elim (same_or_not other worker) [
        | inl e ↦ absurd (true≢false (sym t ∙ ap (flips_touch place) (ap (pending_of (with_pending c worker [])) e ∙ pending_there c worker [] v)))
        | inr n ↦
            let o : OwnsLabel c other place = s.owned other place w (sym (ap (flips_touch place) (pending_other c worker other [] v w n)) ∙ t) in
            record { low = o.low; high = omega (arith, o.high, length-set c.owners 0 0); owner = owner_other c 0 place 0 (λ e. absurd (omega (arith, o.low, e))) ∙ o.owner }
      ]
