-- What a certificate comes to is one thing, and a Yes to it is exactly that it shows what it states.
use Rattle.std.proofs.Common.{◌≡◌, ℕ, List, inl, inr, sym, ◌∙◌, ap, refl, arith}
use Rattle.complex_core.specs.Complexes.{ComplexView}
use Rattle.facet_text.specs.Writing.{KeepsLimits}
use Rattle.cert_text.specs.Statements.{Statement, Sphere, Equal, Manifold}
use Rattle.cert_replay.specs.Answers.{Certifies, HasLinks, IsValid}
use Rattle.cert_replay.specs.declared.judge.Replayed.{Replayed}
use Rattle.cert_replay.specs.declared.judge.Replayed.TheVariants.{Valid, Bad, WrongEnd}
use Rattle.cert_replay.proofs.OneAnswer.{answer_one, valid_from, valid_where}
use Rattle.job_replay.specs.Texts.{replayed_text}
use Rattle.job_answer.specs.Statuses.{IsDecided}
use Rattle.job_replay.specs.Answers.{IsVerdict, status_of}
use Rattle.job_answer.specs.declared.status.Status.{Status}
use Rattle.job_answer.specs.declared.status.Status.TheVariants.{Yes}

-- a complex that was read has links
pub links_are : (k : ComplexView) (c : Statement) → KeepsLimits k → HasLinks k c
links_are k (Sphere flips) h = tt
links_are k (Equal target flips pairs) h = tt
links_are k (Manifold lists) h = omega (arith, h.dim)

pub same_verdict : (k : ComplexView) (c : Statement) (s t : Status) (xs ys : List ℕ) → IsVerdict k c s xs → IsVerdict k c t ys → (s ≡ t) × (xs ≡ ys)
same_verdict k c s t xs ys a b =
    let e : a.comes_to ≡ b.comes_to = answer_one k c a.comes_to b.comes_to a.replayed b.replayed in
    (a.status_is ∙ ap status_of e ∙ sym b.status_is, a.says ∙ ap (replayed_text c) e ∙ sym b.says)

-- ---- a Yes

yes_valid : (r : Replayed) → status_of r ≡ Yes → IsValid r
yes_valid (Valid flips count) e = tt
yes_valid (Bad number reason) e = cc
yes_valid WrongEnd e = cc

valid_yes : (r : Replayed) → IsValid r → status_of r ≡ Yes
valid_yes (Valid flips count) v = refl
valid_yes (Bad number reason) v = absurd v
valid_yes WrongEnd v = absurd v

pub yes_shows : (k : ComplexView) (c : Statement) (s : Status) (xs : List ℕ) → IsVerdict k c s xs → s ≡ Yes → Certifies k c
yes_shows k c s xs a e = valid_from k c a.comes_to a.replayed (yes_valid a.comes_to (sym a.status_is ∙ e))

pub shown_yes : (k : ComplexView) (c : Statement) (s : Status) (xs : List ℕ) → IsVerdict k c s xs → Certifies k c → s ≡ Yes
shown_yes k c s xs a h = a.status_is ∙ valid_yes a.comes_to (valid_where k c a.comes_to a.replayed h)

decided_of : (r : Replayed) (s : Status) → s ≡ status_of r → IsDecided s
decided_of (Valid flips count) s e = inl e
decided_of (Bad number reason) s e = inr e
decided_of WrongEnd s e = inr e

pub verdict_decided : (k : ComplexView) (c : Statement) (s : Status) (xs : List ℕ) → IsVerdict k c s xs → IsDecided s
verdict_decided k c s xs a = decided_of a.comes_to s a.status_is
