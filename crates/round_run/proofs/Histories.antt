-- The flips of a history, leg by leg: those of a descent, and those of the round behind it.
use Rattle.std.proofs.Common.{◌≡◌, ℕ, ◌+◌, ◌<◌, ◌≤◌, Bool, true, zero, suc, List, [], ◌∷◌, ◌++◌, length, get_or, drop, map, sym, ◌∙◌, ap, refl, append_assoc, arith}
use Rattle.std.specs.List.{list_all}
use Rattle.std.specs.Cmp.{first_so, second_so}
use Rattle.std.proofs.lemmas.List.{append-nil, drop-drop, drop_more, drop_all, get_or-map, length-map, map-append}
use Rattle.std.proofs.lemmas.List.Folds.{list_all-append}
use Rattle.flip_rules.specs.Entries.{JournalEntry}
use Rattle.flip_rules.specs.Journals.{flat}
use Rattle.flip_rules.specs.declared.flip.Flip.{Flip}
use Rattle.flip_rules.proofs.Journals.{flat-append}
use Rattle.flip_names.specs.Names.{named_flip, named_flips, takes_flip, takes_flips}
use Rattle.round_rules.specs.Rounds.{RoundView}
use Rattle.round_run.specs.Reports.{descent_entries, history_from}

-- ---- lists whose members pass a test

pub passes_first : {A : Type 0} (p : A → Bool) (xs ys : List A) → list_all p (xs ++ ys) ≡ true → list_all p xs ≡ true
passes_first p xs ys h = first_so (list_all p xs) (list_all p ys) (sym (list_all-append p xs ys) ∙ h)

pub passes_second : {A : Type 0} (p : A → Bool) (xs ys : List A) → list_all p (xs ++ ys) ≡ true → list_all p ys ≡ true
passes_second p xs ys h = second_so (list_all p xs) (list_all p ys) (sym (list_all-append p xs ys) ∙ h)

-- the flips of one entry
pub entry_passes : (p : Flip → Bool) (es : List JournalEntry) (i : ℕ) (e : JournalEntry) → list_all p (flat es) ≡ true → i < length es → e ≡ get_or es i e → list_all p e.flips ≡ true
entry_passes p [] i e h l r = absurd (omega (arith, l))
entry_passes p (x ∷ xs) zero e h l r = ap (λ y. list_all p y.flips) r ∙ passes_first p x.flips (flat xs) h
entry_passes p (x ∷ xs) (suc i) e h l r = entry_passes p xs i e (passes_second p x.flips (flat xs) h) (omega arith) r

-- ---- legs

pub flat_descent : (n k : ℕ) (d : List Flip) → flat (descent_entries n k d) ≡ d
flat_descent n k [] = refl
flat_descent n k (f ∷ fs) = ap (λ gs. f ∷ gs) (flat_descent n (k + 1) fs)

-- the entries of the next round, where there is one
abbrev pub next_entries : List RoundView → List JournalEntry
next_entries [] = []
next_entries (r ∷ rs) = r.entries

-- the flips of what is left of a history from this leg on
abbrev pub left : List (List Flip) → List RoundView → ℕ → List Flip
left ds rs i = flat (history_from i (drop i ds) (drop i rs))

flat_leg : (n : ℕ) (d : List Flip) (ds : List (List Flip)) (rs : List RoundView) → flat (history_from n (d ∷ ds) rs) ≡ d ++ (flat (next_entries rs) ++ flat (history_from (n + 1) ds (drop 1 rs)))
flat_leg n d ds [] =
    flat-append (descent_entries n 0 d) (history_from (n + 1) ds []) ∙ ap (λ fs. fs ++ flat (history_from (n + 1) ds [])) (flat_descent n 0 d)
flat_leg n d ds (r ∷ rs) =
    flat-append (descent_entries n 0 d) (r.entries ++ history_from (n + 1) ds rs) ∙ (λ i. flat_descent n 0 d i ++ flat-append r.entries (history_from (n + 1) ds rs) i)

pub left_step : (ds : List (List Flip)) (rs : List RoundView) (i : ℕ) (d : List Flip) → i < length ds → d ≡ get_or ds i d → left ds rs i ≡ d ++ (flat (next_entries (drop i rs)) ++ left ds rs (i + 1))
left_step ds rs i d l e =
    ap (λ xs. flat (history_from i xs (drop i rs))) (drop_more ds i d l)
    ∙ flat_leg i (get_or ds i d) (drop (i + 1) ds) (drop i rs)
    ∙ (λ j. sym e j ++ (flat (next_entries (drop i rs)) ++ flat (history_from (i + 1) (drop (i + 1) ds) (drop-drop 1 i rs j))))

-- ---- named leg by leg

-- all flips are those that were named already, and those of the legs that are left, all labels of which have names
pub record Left (m : List (ℕ × ℕ)) (ds : List (List Flip)) (rs : List RoundView) (i : ℕ) (all : List Flip) : Type 0 where
  pub taken : takes_flips m (left ds rs i) ≡ true
  pub told : named_flips m (left ds rs 0) ≡ all ++ named_flips m (left ds rs i)

-- a descent is the one at its place
pub descent_here : {V : Type 0} (h : V → List Flip) (vs shown : List V) (ds : List (List Flip)) (i : ℕ) (v : V) (d : List Flip) → map h vs ≡ ds → shown ≡ vs → i < length shown → v ≡ get_or shown i v → d ≡ h v → (i < length ds) × (d ≡ get_or ds i d)
descent_here h vs shown ds i v d m s l e f =
    let short : i < length ds = omega (arith, l, ap length s, ap length m, length-map vs h) in
    let l2 : i < length vs = omega (arith, l, ap length s) in
    (short, f ∙ ap h (e ∙ ap (λ ws. get_or ws i v) s) ∙ sym (get_or-map h vs i v d l2) ∙ ap (λ xs. get_or xs i d) m)

-- the labels of the next leg have names
pub descent_taken : (m : List (ℕ × ℕ)) (ds : List (List Flip)) (rs : List RoundView) (i : ℕ) (all d : List Flip) → Left m ds rs i all → (i < length ds) × (d ≡ get_or ds i d) → takes_flips m d ≡ true
descent_taken m ds rs i all d h e =
    passes_first (takes_flip m) d (flat (next_entries (drop i rs)) ++ left ds rs (i + 1)) (ap (takes_flips m) (sym (left_step ds rs i d e.0 e.1)) ∙ h.taken)

pub round_taken : (m : List (ℕ × ℕ)) (ds : List (List Flip)) (rs : List RoundView) (i : ℕ) (all d : List Flip) (es : List JournalEntry) → Left m ds rs i all → (i < length ds) × (d ≡ get_or ds i d) → es ≡ next_entries (drop i rs) → takes_flips m (flat es) ≡ true
round_taken m ds rs i all d es h e r =
    ap (λ xs. takes_flips m (flat xs)) r
    ∙ passes_first (takes_flip m) (flat (next_entries (drop i rs))) (left ds rs (i + 1)) (
    passes_second (takes_flip m) d (flat (next_entries (drop i rs)) ++ left ds rs (i + 1)) (ap (takes_flips m) (sym (left_step ds rs i d e.0 e.1)) ∙ h.taken)
    )

-- one leg more
pub left_more : (m : List (ℕ × ℕ)) (ds : List (List Flip)) (rs : List RoundView) (i : ℕ) (all d then_all : List Flip) (es : List JournalEntry) → Left m ds rs i all → (i < length ds) × (d ≡ get_or ds i d) → es ≡ next_entries (drop i rs) → then_all ≡ all ++ named_flips m d ++ named_flips m (flat es) → Left m ds rs (i + 1) then_all
left_more m ds rs i all d then_all es h e r t =
    let rest : List Flip = left ds rs (i + 1) in
    let here : List Flip = flat (next_entries (drop i rs)) in
    record {
      taken = passes_second (takes_flip m) here rest (passes_second (takes_flip m) d (here ++ rest) (ap (takes_flips m) (sym (left_step ds rs i d e.0 e.1)) ∙ h.taken));
      told =
          h.told
          ∙ ap (λ fs. all ++ named_flips m fs) (left_step ds rs i d e.0 e.1)
          ∙ ap (λ fs. all ++ fs) (map-append (named_flip m) d (here ++ rest) ∙ ap (λ fs. named_flips m d ++ fs) (map-append (named_flip m) here rest))
          ∙ sym (append_assoc all (named_flips m d) (named_flips m here ++ named_flips m rest))
          ∙ sym (append_assoc (all ++ named_flips m d) (named_flips m here) (named_flips m rest))
          ∙ (λ j. (all ++ named_flips m d ++ named_flips m (flat (sym r j))) ++ named_flips m rest)
          ∙ ap (λ fs. fs ++ named_flips m rest) (sym t);
    }

-- the round behind the descent at this place, where there is one
pub with_round : (rs shown : List RoundView) (i : ℕ) (r : RoundView) (es : List JournalEntry) → shown ≡ rs → i < length shown → r ≡ get_or shown i r → es ≡ r.entries → es ≡ next_entries (drop i rs)
with_round rs shown i r es s l e f =
    f ∙ ap (λ (x : RoundView). x.entries) e ∙ sym (ap next_entries (drop_more shown i r l)) ∙ ap (λ xs. next_entries (drop i xs)) s

pub without_round : (rs shown : List RoundView) (i : ℕ) → shown ≡ rs → length shown ≤ i → [] ≡ next_entries (drop i rs)
without_round rs shown i s l = sym (ap next_entries (drop_all i shown l)) ∙ ap (λ xs. next_entries (drop i xs)) s

-- the flips that were pushed
pub pushed : (m n : List (ℕ × ℕ)) (all mid end d : List Flip) (es : List JournalEntry) → n ≡ m → mid ≡ all ++ named_flips n d → end ≡ mid ++ named_flips n (flat es) → end ≡ all ++ named_flips m d ++ named_flips m (flat es)
pushed m n all mid end d es e f g = g ∙ ap (λ fs. fs ++ named_flips n (flat es)) f ∙ ap (λ k. all ++ named_flips k d ++ named_flips k (flat es)) e

pub pushed_none : (m n : List (ℕ × ℕ)) (all mid d : List Flip) → n ≡ m → mid ≡ all ++ named_flips n d → mid ≡ all ++ named_flips m d ++ named_flips m (flat [])
pushed_none m n all mid d e f = f ∙ ap (λ k. all ++ named_flips k d) e ∙ sym (append-nil (all ++ named_flips m d))
