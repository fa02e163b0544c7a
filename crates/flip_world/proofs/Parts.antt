-- The parts of a world after a step.
use Rattle.std.proofs.Common.{◌≡◌, ℕ, ◌+◌, ◌-◌, ◌^◌, ◌<◌, ◌≤◌, Bool, true, false, cond, filter, nat_eq, List, [], ◌∷◌, ◌++◌, length, get_or, set, Ok, sym, ◌∙◌, ap, refl, subst, arith, length-append, eq-eqb}
use Rattle.std.proofs.lemmas.Bool.{true≢false}
use Rattle.std.proofs.lemmas.List.{get_or_default, append-nil, length-set, get_or-set_same, get_or-set_other}
use Rattle.std.proofs.lemmas.List.Elements.{filter-append}
use Rattle.complex_core.specs.Labels.{IsFace}
use Rattle.complex_core.specs.Complexes.{ComplexView}
use Rattle.complex_core.proofs.Laws.{nat_eq_is}
use Rattle.flip_rules.specs.Flips.{broken_rule}
use Rattle.flip_rules.specs.Entries.{JournalEntry}
use Rattle.flip_rules.specs.declared.flip.Flip.{Flip}
use Rattle.core_laws.specs.Cores.{Core, IsWorker, after, workers_of, pending_of, with_owner, with_pending, seen_by, of_worker}
use Rattle.core_laws.specs.Steps.{FlipHeld, next_entry, committed}
use Rattle.core_laws.specs.Serials.{Serial}
use Rattle.flip_world.specs.Worlds.{IsWorld}
use Rattle.core_laws.proofs.Rows.{flip_keeps, commit_keeps, commit_complex, same_worker}

-- the owner of one place changes
other_owner : (c : Core) (k : ComplexView) (written : List ℕ) (place owner : ℕ) → IsWorld c k written → Serial (with_owner c place owner) → IsWorld (with_owner c place owner) k written
other_owner c k written place owner w s = record {
  start = w.start;
  complex_is = w.complex_is;
  some = omega (arith, w.some, length-set c.owners place owner);
  each_worker = w.each_worker;
  counted = λ worker v. w.counted worker (record { low = v.low; high = v.high });
  serial = s;
}

-- the pending flips of one worker change
other_pending : (c : Core) (k : ComplexView) (written : List ℕ) (worker : ℕ) (flips : List Flip) → IsWorld c k written → Serial (with_pending c worker flips) → IsWorld (with_pending c worker flips) k written
other_pending c k written worker flips w s = record {
  start = w.start;
  complex_is = w.complex_is;
  some = w.some;
  each_worker = w.each_worker ∙ sym (length-set c.pending (worker - 1) flips);
  counted = λ other v. w.counted other (same_worker c worker other flips v);
  serial = s;
}

abbrev Of : ComplexView → List ℕ → Core → Type 0
Of k written c = IsWorld c k written

-- what lets a worker make a flip
pub record MayFlip (c : Core) (worker : ℕ) (f : Flip) : Type 0 where
  pub worker_is : IsWorker c worker
  pub held : FlipHeld c worker f
  pub legal : broken_rule (seen_by c worker) f.a f.b ≡ Ok tt
  pub first : IsFace f.a
  pub second : IsFace f.b

pub flip_parts : (c d : Core) (k : ComplexView) (written : List ℕ) (worker : ℕ) (f : Flip) (flips : List Flip) → c ≡ d → IsWorld c k written → MayFlip d worker f → flips ≡ pending_of d worker ++ f ∷ [] → IsWorld (with_pending c worker flips) k written
flip_parts c d k written worker f flips same w m e =
    let P : Core → Type 0 = λ x. MayFlip x worker f in
    let may : MayFlip c worker f = subst P (sym same) m in
    let g : flips ≡ pending_of c worker ++ f ∷ [] = e ∙ ap (λ (x : Core). pending_of x worker ++ f ∷ []) (sym same) in
    let Q : List Flip → Type 0 = λ fs. IsWorld (with_pending c worker fs) k written in
    subst Q (sym g) (other_pending c k written worker (pending_of c worker ++ f ∷ []) w (flip_keeps c worker f w.serial may.worker_is may.first may.second may.held.fits.places may.held.owned may.legal))

-- ---- a commit

short_filter : {X : Type 0} (p : X → Bool) (xs : List X) → length (filter p xs) ≤ length xs
short_filter p [] = omega arith
short_filter p (x ∷ xs) = elim (p x) as (λ b. length (cond b (x ∷ filter p xs) (filter p xs)) ≤ length (x ∷ xs)) [ true ↦ omega (arith, short_filter p xs) | false ↦ omega (arith, short_filter p xs) ]

pub few_entries : (entries : List JournalEntry) (worker : ℕ) → length (of_worker entries worker) ≤ length entries
few_entries entries worker = short_filter (λ e. nat_eq e.worker worker) entries

-- the entries are counted with one more
counted_push : (c : Core) (written : List ℕ) (worker : ℕ) → IsWorker c worker → length written ≡ workers_of c → ((other : ℕ) → IsWorker c other → get_or written (other - 1) 0 ≡ length (of_worker c.journal other)) → (other : ℕ) → IsWorker c other → get_or (set written (worker - 1) (length (of_worker c.journal worker) + 1)) (other - 1) 0 ≡ length (of_worker (c.journal ++ next_entry c 0 worker ∷ []) other)
counted_push c written worker w n counted other v =
    elim (nat_eq worker other) as (λ b. nat_eq worker other ≡ b → get_or (set written (worker - 1) (length (of_worker c.journal worker) + 1)) (other - 1) 0 ≡ length (of_worker c.journal other ++ cond b (next_entry c 0 worker ∷ []) [])) [
      | true ↦ λ e.
          let f : worker ≡ other = nat_eq_is worker other e in
          ap (λ x. get_or (set written (worker - 1) (length (of_worker c.journal worker) + 1)) (x - 1) 0) (sym f)
          ∙ get_or-set_same written (worker - 1) (length (of_worker c.journal worker) + 1) 0 (omega (arith, w.low, w.high, n))
          ∙ ap (λ x. length (of_worker c.journal x) + 1) f
          ∙ sym (length-append (of_worker c.journal other) (next_entry c 0 worker ∷ []))
      | false ↦ λ e.
          get_or-set_other written (worker - 1) (other - 1) (length (of_worker c.journal worker) + 1) 0 (λ g. differs worker other e (omega (arith, w.low, v.low, g)))
          ∙ counted other v
          ∙ ap length (sym (append-nil (of_worker c.journal other)))
    ] refl
    ∙ ap length (sym (filter-append (λ (e : JournalEntry). nat_eq e.worker other) c.journal (next_entry c 0 worker ∷ [])))
  where
    differs : (n m : ℕ) → nat_eq n m ≡ false → n ≡ m → ⊥
    differs n m e f = true≢false (sym (eq-eqb n m f) ∙ e)

pub commit_world : (c : Core) (k m : ComplexView) (written : List ℕ) (worker : ℕ) → IsWorld c k written → IsWorker c worker → m ≡ seen_by c worker → IsWorld (committed c 0 worker) m (set written (worker - 1) (length (of_worker c.journal worker) + 1))
commit_world c k m written worker w v e = record {
  start = w.start;
  complex_is = e ∙ sym (commit_complex c 0 worker w.start.rising w.serial v);
  some = omega (arith, w.some, length-set c.owners 0 0);
  each_worker = length-set written (worker - 1) (length (of_worker c.journal worker) + 1) ∙ w.each_worker ∙ sym (length-set c.pending (worker - 1) []);
  counted = λ other u. counted_push c written worker v w.each_worker w.counted other (same_worker c worker other [] (record { low = u.low; high = u.high }));
  serial = commit_keeps c 0 worker w.start.rising w.serial v;
}

-- ---- the parts as the code has them

-- an element that an index gave
indexed : {X : Type 0} (xs : List X) (i : ℕ) (x d : X) → i < length xs → x ≡ get_or xs i x → x ≡ get_or xs i d
indexed xs i x d l e = e ∙ get_or_default xs i x d l

back_worker : (c d : Core) (worker : ℕ) → c ≡ d → IsWorker d worker → IsWorker c worker
back_worker c d worker e w = let P : Core → Type 0 = λ x. IsWorker x worker in subst P (sym e) w

-- the flips that an index gave are the worker's
pub flips_at : (c d : Core) (worker : ℕ) (flips : List Flip) → c ≡ d → IsWorker d worker → flips ≡ get_or c.pending (worker - 1) flips → flips ≡ pending_of d worker
flips_at c d worker flips e w g =
    let v : IsWorker c worker = back_worker c d worker e w in
    indexed c.pending (worker - 1) flips [] (omega (arith, v.low, v.high)) g ∙ ap (λ (x : Core). pending_of x worker) e

pub seq_at : (c d : Core) (k : ComplexView) (written : List ℕ) (worker seq : ℕ) → c ≡ d → IsWorld c k written → IsWorker d worker → seq ≡ get_or written (worker - 1) seq → seq ≡ length (of_worker c.journal worker)
seq_at c d k written worker seq e w u g =
    let v : IsWorker c worker = back_worker c d worker e u in
    indexed written (worker - 1) seq 0 (omega (arith, v.low, v.high, w.each_worker)) g ∙ w.counted worker v

pub seq_fits : (c d : Core) (k : ComplexView) (written : List ℕ) (worker seq : ℕ) → c ≡ d → IsWorld c k written → IsWorker d worker → seq ≡ get_or written (worker - 1) seq → length d.journal < 2 ^ 32 - 1 → seq + 1 < 2 ^ 32
seq_fits c d k written worker seq e w u g few =
    let n : seq ≡ length (of_worker c.journal worker) = seq_at c d k written worker seq e w u g in
    let m : length c.journal ≡ length d.journal = ap (λ (x : Core). length x.journal) e in
    omega (arith, n, m, few, few_entries c.journal worker)

pub commit_parts : (c d : Core) (k m : ComplexView) (written : List ℕ) (worker seq : ℕ) (flips read made cleared : List Flip) (entry : JournalEntry) (journal : List JournalEntry) → c ≡ d → IsWorld c k written → IsWorker d worker → seq ≡ get_or written (worker - 1) seq → flips ≡ read → read ≡ get_or c.pending (worker - 1) read → made ≡ get_or c.pending (worker - 1) made → m ≡ after k made → cleared ≡ [] → entry ≡ record { round = 0; worker = worker; seq = seq; flips = flips } → journal ≡ c.journal ++ entry ∷ [] → IsWorld (record { start = c.start; owners = set c.owners 0 0; pending = set c.pending (worker - 1) cleared; journal = journal }) m (set written (worker - 1) (seq + 1))
commit_parts c d k m written worker seq flips read made cleared entry journal same w u e1 e0 e2 e3 e4 e5 e6 e7 =
    let v : IsWorker c worker = back_worker c d worker same u in
    let inside : worker - 1 < length c.pending = omega (arith, v.low, v.high) in
    let s : seq ≡ length (of_worker c.journal worker) = seq_at c d k written worker seq same w u e1 in
    let f : flips ≡ pending_of c worker = e0 ∙ indexed c.pending (worker - 1) read [] inside e2 in
    let g : made ≡ pending_of c worker = indexed c.pending (worker - 1) made [] inside e3 in
    let h : m ≡ seen_by c worker = e4 ∙ (λ i. after (w.complex_is i) (g i)) in
    let j : journal ≡ c.journal ++ next_entry c 0 worker ∷ [] = e7 ∙ ap (λ x. c.journal ++ x ∷ []) (e6 ∙ (λ i. record { round = 0; worker = worker; seq = s i; flips = f i })) in
    let P : List Flip → Type 0 = λ fs. IsWorld (record { start = c.start; owners = set c.owners 0 0; pending = set c.pending (worker - 1) fs; journal = journal }) m (set written (worker - 1) (seq + 1)) in
    let Q : List JournalEntry → Type 0 = λ es. IsWorld (record { start = c.start; owners = set c.owners 0 0; pending = set c.pending (worker - 1) []; journal = es }) m (set written (worker - 1) (seq + 1)) in
    let R : ℕ → Type 0 = λ n. IsWorld (committed c 0 worker) m (set written (worker - 1) (n + 1)) in
    subst P (sym e5) (subst Q (sym j) (subst R (sym s) (commit_world c k m written worker w v h)))
