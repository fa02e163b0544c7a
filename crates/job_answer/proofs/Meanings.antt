-- What follows of any lawful job.
use Rattle.std.proofs.Common.{◌≡◌, ℕ, ◌≤◌, List, length, inl, inr, Result, Ok, Err, sym, ◌∙◌, ap, refl, subst, arith}
use Rattle.std.specs.Prelude.{IfOk}
use Rattle.job_answer.specs.Faults.{Refuses, fault_line}
use Rattle.job_answer.specs.Statuses.{HasVerdict}
use Rattle.job_answer.specs.Meanings.{Meaning, IsDone, Judges, Answers, IsInput, Same, Lawful, Reported, reported_as}
use Rattle.job_answer.specs.declared.fault.Fault.{Fault}
use Rattle.job_answer.specs.declared.fault.Fault.TheVariants.{TooLong}
use Rattle.job_answer.specs.declared.status.Status.{Status}
use Rattle.job_answer.specs.declared.status.Status.TheVariants.{Yes, No, Undecided, BadInput}

-- what follows from a fact of a result
pub if_ok_so : {A E : Type 0} (r : Result A E) (P Q : A → Type 0) → ((a : A) → P a → Q a) → IfOk r P → IfOk r Q
if_ok_so (Ok a) P Q f h = f a h
if_ok_so (Err e) P Q f h = tt

-- ---- what bytes tell is one thing

same_ok : {X : Type 0} (r q : Result X Fault) (x y : X) → r ≡ Ok x → q ≡ Ok y → r ≡ q → x ≡ y
same_ok r q x y a b e = cc

same_err : {X : Type 0} (r q : Result X Fault) (e f : Fault) → r ≡ Err e → q ≡ Err f → r ≡ q → e ≡ f
same_err r q e f a b h = cc

err_no_ok : {X : Type 0} (r q : Result X Fault) (e : Fault) (x : X) → r ≡ Err e → q ≡ Ok x → r ≡ q → ⊥
err_no_ok r q e x a b h = cc

one_input : {F : Type 0} (m : Meaning F) (bytes : List ℕ) (x y : m.Input) → Lawful m → m.reads bytes (Ok x) → m.reads bytes (Ok y) → x ≡ y
one_input m bytes x y l e g = same_ok (Ok x) (Ok y) x y refl refl (l.reads bytes (Ok x) (Ok y) e g)

one_fault : {F : Type 0} (m : Meaning F) (bytes : List ℕ) (e f : Fault) → Lawful m → m.reads bytes (Err e) → m.reads bytes (Err f) → e ≡ f
one_fault m bytes e f l p q = same_err (Err e) (Err f) e f refl refl (l.reads bytes (Err e) (Err f) p q)

no_fault : {F : Type 0} (m : Meaning F) (bytes : List ℕ) (e : Fault) (x : m.Input) → Lawful m → m.reads bytes (Err e) → m.reads bytes (Ok x) → ⊥
no_fault m bytes e x l p q = err_no_ok (Err e) (Ok x) e x refl refl (l.reads bytes (Err e) (Ok x) p q)

-- a reading that is a function
pub by_read : {X : Type 0} (read : List ℕ → Result X Fault) (bytes : List ℕ) (r q : Result X Fault) → read bytes ≡ r → read bytes ≡ q → r ≡ q
by_read read bytes r q e g = sym e ∙ g

-- ---- one answer

same_refusal : {F : Type 0} (e f : Fault) (s t : Status) (xs ys : List ℕ) (p q n : F) → e ≡ f → Refuses e s xs → Refuses f t ys → p ≡ n → q ≡ n → Same s t xs ys p q
same_refusal e f s t xs ys p q n g a b i k = record { statuses = a.is_bad ∙ sym b.is_bad; texts = a.says ∙ ap fault_line g ∙ sym b.says; reports = i ∙ sym k }

same_done : {F : Type 0} (m : Meaning F) (bytes : List ℕ) (s t : Status) (xs ys : List ℕ) (p q : F) → Lawful m → m.is_fixed → IsDone m bytes s xs p → IsDone m bytes t ys q → Same s t xs ys p q
same_done {F} m bytes s t xs ys p q l z a b =
    let P : m.Input → Type 0 = λ x. m.answers x t ys q in
    l.one z a.told s t xs ys p q a.answer (subst P (one_input m bytes b.told a.told l b.input a.input) b.answer)

same_judgement : {F : Type 0} (m : Meaning F) (bytes : List ℕ) (s t : Status) (xs ys : List ℕ) (p q : F) → Lawful m → m.is_fixed → Judges m bytes s xs p → Judges m bytes t ys q → Same s t xs ys p q
same_judgement m bytes s t xs ys p q l z (inl a) (inl b) = same_refusal a.first b.first s t xs ys p q m.nothing (one_fault m bytes a.first b.first l a.has b.has) a.refused b.refused a.reports b.reports
same_judgement m bytes s t xs ys p q l z (inl a) (inr b) = absurd (no_fault m bytes a.first b.told l a.has b.input)
same_judgement m bytes s t xs ys p q l z (inr a) (inl b) = absurd (no_fault m bytes b.first a.told l b.has a.input)
same_judgement m bytes s t xs ys p q l z (inr a) (inr b) = same_done m bytes s t xs ys p q l z a b

pub same_answer : {F : Type 0} (m : Meaning F) (bytes : List ℕ) (s t : Status) (xs ys : List ℕ) (p q : F) → Lawful m → m.is_fixed → Answers m bytes s xs p → Answers m bytes t ys q → Same s t xs ys p q
same_answer m bytes s t xs ys p q l z (inl a) (inl b) = same_refusal TooLong TooLong s t xs ys p q m.nothing refl a.refused b.refused a.reports b.reports
same_answer m bytes s t xs ys p q l z (inl a) (inr b) = absurd (omega (arith, a.long, b.short))
same_answer m bytes s t xs ys p q l z (inr a) (inl b) = absurd (omega (arith, b.long, a.short))
same_answer m bytes s t xs ys p q l z (inr a) (inr b) = same_judgement m bytes s t xs ys p q l z a.judged b.judged

-- ---- verdicts

pub not_bad : (s : Status) → HasVerdict s → s ≡ BadInput → ⊥
not_bad s (inl (inl y)) e = let z : Yes ≡ BadInput = sym y ∙ e in cc
not_bad s (inl (inr n)) e = let z : No ≡ BadInput = sym n ∙ e in cc
not_bad s (inr u) e = let z : Undecided ≡ BadInput = sym u ∙ e in cc

-- an input within the limit
pub record IsDoneShort {F : Type 0} (m : Meaning F) (bytes : List ℕ) (s : Status) (xs : List ℕ) (p : F) : Type 0 where
  pub short : length bytes ≤ m.limit
  pub done : IsDone m bytes s xs p

-- a verdict is the answer to an input
pub verdict_done : {F : Type 0} (m : Meaning F) (bytes : List ℕ) (s : Status) (xs : List ℕ) (p : F) → HasVerdict s → Answers m bytes s xs p → IsDoneShort m bytes s xs p
verdict_done m bytes s xs p v (inl a) = absurd (not_bad s v a.refused.is_bad)
verdict_done {F} m bytes s xs p v (inr a) = record { short = a.short; done = judged a.judged }
  where
    judged : Judges m bytes s xs p → IsDone m bytes s xs p
    judged (inl b) = absurd (not_bad s v b.refused.is_bad)
    judged (inr b) = b

-- and an input gets one
pub input_done : {F : Type 0} (m : Meaning F) (bytes : List ℕ) (s : Status) (xs : List ℕ) (p : F) → Lawful m → length bytes ≤ m.limit → (x : m.Input) → m.reads bytes (Ok x) → Answers m bytes s xs p → m.answers x s xs p
input_done m bytes s xs p l h x e (inl a) = absurd (omega (arith, a.long, h))
input_done {F} m bytes s xs p l h x e (inr a) = judged a.judged
  where
    judged : Judges m bytes s xs p → m.answers x s xs p
    judged (inl b) = absurd (no_fault m bytes b.first x l b.has e)
    judged (inr b) = let P : m.Input → Type 0 = λ y. m.answers y s xs p in subst P (one_input m bytes b.told x l b.input e) b.answer

-- of the job
pub input_ends : {F : Type 0} (m : Meaning F) (bytes : List ℕ) (s : Status) (xs : List ℕ) (p : F) → Lawful m → IsInput m bytes → Answers m bytes s xs p → m.may_end s
input_ends m bytes s xs p l h a = l.ends h.told s xs p (input_done m bytes s xs p l h.short h.told h.input a)

pub verdict_headline : {F : Type 0} (m : Meaning F) (bytes : List ℕ) (s : Status) (xs : List ℕ) (p : F) → Lawful m → HasVerdict s → Answers m bytes s xs p → m.headline bytes s xs p
verdict_headline m bytes s xs p l v a = let d : IsDoneShort m bytes s xs p = verdict_done m bytes s xs p v a in l.headline bytes s xs p d.short d.done

-- ---- a job under the reports of all jobs

pub judges_as : {F G : Type 0} (into : F → G) (m : Meaning F) (bytes : List ℕ) (s : Status) (xs : List ℕ) (p : F) → Judges m bytes s xs p → Judges (reported_as into m) bytes s xs (into p)
judges_as into m bytes s xs p (inl a) = inl (record { first = a.first; has = a.has; refused = a.refused; reports = ap into a.reports })
judges_as into m bytes s xs p (inr a) = inr (record { told = a.told; input = a.input; answer = record { report = p; reports = refl; holds = a.answer } })

pub lawful_as : {F G : Type 0} (into : F → G) (m : Meaning F) → Lawful m → Lawful (reported_as into m)
lawful_as {F} {G} into m l = record {
  reads = l.reads;
  verdict = l.verdict;
  ends = λ x s xs p h. l.ends x s xs h.report h.holds;
  fits = λ x s xs p h. record { report = h.report; reports = h.reports; holds = l.fits x s xs h.report h.holds };
  headline = λ bytes s xs p h d. record { report = d.answer.report; reports = d.answer.reports; holds = l.headline bytes s xs d.answer.report h (record { told = d.told; input = d.input; answer = d.answer.holds }) };
  one = λ z x s t xs ys p q a b. same z x s t xs ys p q a b;
}
  where
    same : m.is_fixed → (x : m.Input) (s t : Status) (xs ys : List ℕ) (p q : G) → Reported into (m.answers x s xs) p → Reported into (m.answers x t ys) q → Same s t xs ys p q
    same z x s t xs ys p q a b =
        let e : Same s t xs ys a.report b.report = l.one z x s t xs ys a.report b.report a.holds b.holds in
        record { statuses = e.statuses; texts = e.texts; reports = a.reports ∙ ap into e.reports ∙ sym b.reports }

-- an answer under the reports of all jobs is one of the job
pub answers_of : {F G : Type 0} (into : F → G) (m : Meaning F) (bytes : List ℕ) (s : Status) (xs : List ℕ) (p : G) → Answers (reported_as into m) bytes s xs p → Reported into (Answers m bytes s xs) p
answers_of into m bytes s xs p (inl a) = record { report = m.nothing; reports = a.reports; holds = inl (record { long = a.long; refused = a.refused; reports = refl }) }
answers_of {F} {G} into m bytes s xs p (inr a) = judged a.judged
  where
    judged : Judges (reported_as into m) bytes s xs p → Reported into (Answers m bytes s xs) p
    judged (inl b) = record { report = m.nothing; reports = b.reports; holds = inr (record { short = a.short; judged = inl (record { first = b.first; has = b.has; refused = b.refused; reports = refl }) }) }
    judged (inr b) = record { report = b.answer.report; reports = b.answer.reports; holds = inr (record { short = a.short; judged = inr (record { told = b.told; input = b.input; answer = b.answer.holds }) }) }
