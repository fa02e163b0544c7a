-- What is so of the words at each answer, in both directions.
use Rattle.std.proofs.Common.{◌≡◌, ◌≢◌, ◌∙◌, ◌<◌, ◌≤◌, ◌==◌, ◌||◌, ◌⊎◌, ◌↔◌, ap, cond, refl, sym, subst, inl, inr, ℕ, Bool, true, false, not, List, [], ◌∷◌, codes}
use Rattle.std.specs.Prelude.{Option, Some, None, Result, Ok, Err, find, if◌then◌else◌, nat_lt}
use Rattle.std.specs.Str.{bytes_eq}
use Rattle.std.proofs.lemmas.Bool.{eqb-true, le-ltb, lt-ltb, ltb-false, ltb-true, true≢false}
use Rattle.std.proofs.lemmas.Slice.Eq.{bytes_eq-Decides}
use Rattle.clap.specs.Words.{Row, Text}
use Rattle.anneal_plan.specs.Numbers.{Numbers, all_tries}
use Rattle.make_complex.specs.declared.kind.Kind.{Kind}
use Rattle.make_complex.specs.declared.kind.Kind.TheVariants.{Simplex, Cross, Torus, Plane}
use Rattle.make_complex.specs.Kinds.{is_surface, kind_name, kind_named, kinds}
use Rattle.job_words.specs.declared.job.Job.{Job}
use Rattle.job_words.specs.declared.job.JobName.{JobName}
use Rattle.job_words.specs.declared.job.JobName.TheVariants.{Info, Replay, Trace, Sphere, Equiv, Iso, Manifold, Make, Drill}
use Rattle.job_words.specs.declared.job.UsageFault.{UsageFault}
use Rattle.job_words.specs.declared.job.UsageFault.TheVariants.{Words, Name, Product, KindDim, Memory}
use Rattle.job_words.specs.Command.{is_taken, number_in, rows, text_in}
use Rattle.job_words.specs.Names.{job_name, job_named, jobs}
use Rattle.job_words.specs.Jobs.{Asks, Gives, HasOtherDim, IsJob, IsUnfit, NamesBoth, can_have, job_at, job_of, job_with, plan_of, planned}

-- what is found passes the test
found_passes : {X : Type 0} (p : X → Bool) (xs : List X) (x : X) → find p xs ≡ Some x → p x ≡ true
found_passes p [] x is = cc
found_passes p (y ∷ ys) x is = go (p y) refl is (found_passes p ys x)
  where
    go : (t : Bool) → p y ≡ t → cond t (Some y) (find p ys) ≡ Some x → (find p ys ≡ Some x → p x ≡ true) → p x ≡ true
    go true e same later = let one : y ≡ x = cc in subst (λ z. p z ≡ true) one e
    go false e rest later = later rest

job_back : (job : JobName) → job_named (job_name job) ≡ Some job
job_back Info = refl
job_back Replay = refl
job_back Trace = refl
job_back Sphere = refl
job_back Equiv = refl
job_back Iso = refl
job_back Manifold = refl
job_back Make = refl
job_back Drill = refl

kind_back : (kind : Kind) → kind_named (kind_name kind) ≡ Some kind
kind_back Simplex = refl
kind_back Cross = refl
kind_back Torus = refl
kind_back Plane = refl

none_some : {X : Type 0} (o : Option X) (x : X) → o ≡ None → o ≡ Some x → ⊥
none_some o x e f = cc

job_is : (text : Text) (job : JobName) → job_named text ≡ Some job → text ≡ job_name job
job_is text job e = (bytes_eq-Decides text (job_name job)).0 (found_passes (λ j. bytes_eq text (job_name j)) jobs job e)

kind_is : (text : Text) (kind : Kind) → kind_named text ≡ Some kind → text ≡ kind_name kind
kind_is text kind e = (bytes_eq-Decides text (kind_name kind)).0 (found_passes (λ k. bytes_eq text (kind_name k)) kinds kind e)

no_job : (text : Text) → job_named text ≡ None → (job : JobName) → text ≢ job_name job
no_job text e job is = none_some (job_named text) job e (ap job_named is ∙ job_back job)

no_kind : (text : Text) → kind_named text ≡ None → (kind : Kind) → text ≢ kind_name kind
no_kind text e kind is = none_some (kind_named text) kind e (ap kind_named is ∙ kind_back kind)

-- no name is found where all differ
job_none : (text : Text) → ((job : JobName) → text ≢ job_name job) → job_named text ≡ None
job_none text all = go (job_named text) refl
  where
    go : (o : Option JobName) → job_named text ≡ o → job_named text ≡ None
    go None e = e
    go (Some job) e = absurd (all job (job_is text job e))

kind_none : (text : Text) → ((kind : Kind) → text ≢ kind_name kind) → kind_named text ≡ None
kind_none text all = go (kind_named text) refl
  where
    go : (o : Option Kind) → kind_named text ≡ o → kind_named text ≡ None
    go None e = e
    go (Some kind) e = absurd (all kind (kind_is text kind e))

abbrev with_parts : JobName → Kind → Numbers → ℕ → ℕ → Result Job UsageFault
with_parts name kind plan dim draws = Ok (record { name = name; plan = plan; kind = kind; dim = dim; draws = draws })

-- what is so of the rows at each answer
abbrev Told : List Row → Result Job UsageFault → Type 0
Told found (Ok job) = IsJob found job
Told found (Err fault) = IsUnfit found fault

dim_of : (kind : Kind) (dim : ℕ) → can_have kind dim ≡ true → is_surface kind ≡ true → dim ≡ 2
dim_of kind dim can surface = eqb-true dim 2 (sym (ap (λ s. not s || dim == 2) surface) ∙ can)

other_dim : (kind : Kind) (dim : ℕ) → can_have kind dim ≡ false → (is_surface kind ≡ true) × (dim ≢ 2)
other_dim kind dim can = go (is_surface kind) refl can
  where
    go : (s : Bool) → is_surface kind ≡ s → (not s || dim == 2) ≡ false → (is_surface kind ≡ true) × (dim ≢ 2)
    go true e cannot = (e, λ two. true≢false (sym (ap (λ n. n == 2) two) ∙ cannot))
    go false e cannot = absurd (true≢false cannot)

can_if : (kind : Kind) (dim : ℕ) → (is_surface kind ≡ true → dim ≡ 2) → can_have kind dim ≡ true
can_if kind dim two = go (is_surface kind) refl
  where
    go : (s : Bool) → is_surface kind ≡ s → can_have kind dim ≡ true
    go true e = ap (λ s. not s || dim == 2) e ∙ ap (λ n. n == 2) (two e)
    go false e = ap (λ s. not s || dim == 2) e

cannot : (kind : Kind) (dim : ℕ) → is_surface kind ≡ true → dim ≢ 2 → can_have kind dim ≡ false
cannot kind dim surface other = ap (λ s. not s || dim == 2) surface ∙ go (dim == 2) refl
  where
    go : (t : Bool) → (dim == 2) ≡ t → (dim == 2) ≡ false
    go true e = absurd (other (eqb-true dim 2 e))
    go false e = e

pub other_dim_found : (found : List Row) (job : JobName) (kind : Kind) (dim : ℕ) → text_in found (codes "job") ≡ job_name job → text_in found (codes "kind") ≡ kind_name kind
    → all_tries (plan_of found) ≤ 250000 → dim ≡ number_in found (codes "dim") → can_have kind dim ≡ false → HasOtherDim found
other_dim_found found job kind dim j k few d can =
    let odd = other_dim kind dim can in
    record { names = record { job = job; job_is = j; kind = kind; kind_is = k }; product = few; surface = odd.0; dim = λ two. odd.1 (d ∙ two) }

told : (found : List Row) → Told found (job_of found)
unfolding job_of
told found = by_job (job_named (text_in found (codes "job"))) refl
  where
    with_both : (job : JobName) (kind : Kind) → text_in found (codes "job") ≡ job_name job → text_in found (codes "kind") ≡ kind_name kind → NamesBoth found
    with_both job kind j k = record { job = job; job_is = j; kind = kind; kind_is = k }

    by_dim : (job : JobName) (kind : Kind) → text_in found (codes "job") ≡ job_name job → text_in found (codes "kind") ≡ kind_name kind
        → all_tries (plan_of found) ≤ 250000 → (can : Bool) → can_have kind (number_in found (codes "dim")) ≡ can
        → Told found (if not can then Err KindDim
        else with_parts job kind (plan_of found) (number_in found (codes "dim")) (number_in found (codes "draws")))
    by_dim job kind j k few true e =
        record { name = j; kind = k; plan = refl; dim = refl; draws = refl; product = few; surface = dim_of kind _ e }
    by_dim job kind j k few false e =
        let odd = other_dim kind _ e in
        record { names = with_both job kind j k; product = few; surface = odd.0; dim = odd.1 }

    by_product : (job : JobName) (kind : Kind) → text_in found (codes "job") ≡ job_name job → text_in found (codes "kind") ≡ kind_name kind
        → (many : Bool) → nat_lt 250000 (all_tries (plan_of found)) ≡ many
        → Told found (job_with (Some job) (Some kind) (if many then Err Product else Ok (plan_of found)) (number_in found (codes "dim")) (number_in found (codes "draws")))
    by_product job kind j k true e = record { names = with_both job kind j k; product = ltb-true _ _ e }
    by_product job kind j k false e = by_dim job kind j k (ltb-false _ _ e) (can_have kind (number_in found (codes "dim"))) refl

    by_kind : (job : JobName) → text_in found (codes "job") ≡ job_name job → (o : Option Kind) → kind_named (text_in found (codes "kind")) ≡ o
        → Told found (job_with (Some job) o (planned (plan_of found)) (number_in found (codes "dim")) (number_in found (codes "draws")))
    by_kind job j None e = inr (no_kind _ e)
    by_kind job j (Some kind) e = by_product job kind j (kind_is _ kind e) (nat_lt 250000 (all_tries (plan_of found))) refl

    by_job : (o : Option JobName) → job_named (text_in found (codes "job")) ≡ o
        → Told found (job_with o (kind_named (text_in found (codes "kind"))) (planned (plan_of found)) (number_in found (codes "dim")) (number_in found (codes "draws")))
    by_job None e = inl (no_job _ e)
    by_job (Some job) e = by_kind job (job_is _ job e) (kind_named (text_in found (codes "kind"))) refl

-- the parts of the rows give the job
parts : (found : List Row) (jo : Option JobName) (ko : Option Kind) (plan : Result Numbers UsageFault) → job_named (text_in found (codes "job")) ≡ jo → kind_named (text_in found (codes "kind")) ≡ ko
    → planned (plan_of found) ≡ plan → job_of found ≡ job_with jo ko plan (number_in found (codes "dim")) (number_in found (codes "draws"))
unfolding job_of
parts found jo ko plan j k p =
    let dim = number_in found (codes "dim") in
    let draws = number_in found (codes "draws") in
    ap (λ o. job_with o (kind_named (text_in found (codes "kind"))) (planned (plan_of found)) dim draws) j
    ∙ ap (λ o. job_with jo o (planned (plan_of found)) dim draws) k
    ∙ ap (λ o. job_with jo ko o dim draws) p

few_planned : (n : Numbers) → all_tries n ≤ 250000 → planned n ≡ Ok n
few_planned n few = ap (λ t. if t then Err Product else Ok n) (le-ltb _ _ few)

many_planned : (n : Numbers) → 250000 < all_tries n → planned n ≡ Err Product
many_planned n many = ap (λ t. if t then Err Product else Ok n) (lt-ltb _ _ many)

no_kind_with : (jo : Option JobName) (plan : Result Numbers UsageFault) (dim draws : ℕ) → job_with jo None plan dim draws ≡ Err Name
no_kind_with None plan dim draws = refl
no_kind_with (Some job) plan dim draws = refl

-- a job that has these parts
same_job : (job : Job) (plan : Numbers) (dim draws : ℕ) → job.plan ≡ plan → job.dim ≡ dim → job.draws ≡ draws
    → with_parts job.name job.kind plan dim draws ≡ Ok job
same_job job plan dim draws p d w =
    ap (λ x. with_parts job.name job.kind x dim draws) (sym p)
    ∙ ap (λ x. with_parts job.name job.kind job.plan x draws) (sym d)
    ∙ ap (λ x. with_parts job.name job.kind job.plan job.dim x) (sym w)

-- and what is so of the rows gives the answer
given : (found : List Row) (answer : Result Job UsageFault) → Told found answer → job_of found ≡ answer
given found (Ok job) t =
    let dim = number_in found (codes "dim") in
    let draws = number_in found (codes "draws") in
    let few : all_tries (plan_of found) ≤ 250000 = subst (λ n. all_tries n ≤ 250000) t.plan t.product in
    let can : can_have job.kind dim ≡ true = can_if job.kind dim (λ s. sym t.dim ∙ t.surface s) in
    parts found (Some job.name) (Some job.kind) (Ok (plan_of found)) (ap job_named t.name ∙ job_back job.name) (ap kind_named t.kind ∙ kind_back job.kind) (few_planned _ few)
    ∙ ap (λ c. if not c then Err KindDim else with_parts job.name job.kind (plan_of found) dim draws) can
    ∙ same_job job (plan_of found) dim draws t.plan t.dim t.draws
given found (Err Name) (inl none) = parts found None _ _ (job_none _ none) refl refl
given found (Err Name) (inr none) = parts found _ None _ refl (kind_none _ none) refl ∙ no_kind_with _ _ _ _
given found (Err Product) t =
    let job = t.names.job in
    let kind = t.names.kind in
    parts found (Some job) (Some kind) (Err Product) (ap job_named t.names.job_is ∙ job_back job) (ap kind_named t.names.kind_is ∙ kind_back kind) (many_planned _ t.product)
given found (Err KindDim) t =
    let job = t.names.job in
    let kind = t.names.kind in
    let dim = number_in found (codes "dim") in
    let draws = number_in found (codes "draws") in
    parts found (Some job) (Some kind) (Ok (plan_of found)) (ap job_named t.names.job_is ∙ job_back job) (ap kind_named t.names.kind_is ∙ kind_back kind) (few_planned _ t.product)
    ∙ ap (λ c. if not c then Err KindDim else with_parts job kind (plan_of found) dim draws) (cannot kind dim t.surface t.dim)
given found (Err Words) t = absurd t
given found (Err Memory) t = absurd t

taken_asks : (words : List Text) (answer : Result Job UsageFault) → is_taken words ≡ true → Told (rows words) answer → Asks words answer
taken_asks words (Ok job) taken t = (taken, t)
taken_asks words (Err Words) taken t = absurd t
taken_asks words (Err Name) taken t = (taken, t)
taken_asks words (Err Product) taken t = (taken, t)
taken_asks words (Err KindDim) taken t = (taken, t)
taken_asks words (Err Memory) taken t = absurd t

asked : (words : List Text) → Asks words (job_at words)
unfolding job_at
asked words = go (is_taken words) refl
  where
    go : (t : Bool) → is_taken words ≡ t → Asks words (if t then job_of (rows words) else Err Words)
    go true e = taken_asks words (job_of (rows words)) e (told (rows words))
    go false e = e

taken_gives : (words : List Text) (answer : Result Job UsageFault) → is_taken words ≡ true → Told (rows words) answer → job_at words ≡ answer
unfolding job_at
taken_gives words answer taken t = ap (λ b. if b then job_of (rows words) else Err Words) taken ∙ given (rows words) answer t

gives : (words : List Text) (answer : Result Job UsageFault) → Asks words answer → job_at words ≡ answer
unfolding job_at
gives words (Ok job) a = taken_gives words (Ok job) a.0 a.1
gives words (Err Words) a = ap (λ b. if b then job_of (rows words) else Err Words) a
gives words (Err Name) a = taken_gives words (Err Name) a.0 a.1
gives words (Err Product) a = taken_gives words (Err Product) a.0 a.1
gives words (Err KindDim) a = taken_gives words (Err KindDim) a.0 a.1
gives words (Err Memory) a = absurd a.1

pub asked_exactly : (words : List Text) (answer : Result Job UsageFault) → (job_at words ≡ answer) ↔ Asks words answer
asked_exactly words answer = (λ e. subst (Asks words) e (asked words), gives words answer)

pub decided : (answer first second : Result Job UsageFault) → Gives first answer → Gives second answer → (first ≡ Err Memory) ⊎ (second ≡ Err Memory) ⊎ (first ≡ second)
decided answer first second (inl memory) g = inl memory
decided answer first second (inr e) (inl memory) = inr (inl memory)
decided answer first second (inr e) (inr f) = inr (inr (e ∙ sym f))
