-- The texts that `replay` answers. Each line ends with a line feed.
use Rattle.std.specs.Prelude.{ℕ, List, [], ◌∷◌, ◌++◌, codes}
use Rattle.std.specs.Fmt.{decimal}
use Rattle.cert_text.specs.Statements.{Statement, Sphere, Equal, Manifold}
use Rattle.cert_replay.specs.declared.judge.Replayed.{Replayed}
use Rattle.cert_replay.specs.declared.judge.Replayed.TheVariants.{Valid, Bad, WrongEnd}
use Rattle.flip_rules.specs.declared.flip.Illegal.{Illegal}
use Rattle.job_answer.specs.Lines.{reason_name}

-- how many flips there are, and how many facets the end has
abbrev pub yes_text : ℕ → ℕ → List ℕ
yes_text flips facets = codes "yes" ++ 10 ∷ codes "flips " ++ decimal flips ++ 10 ∷ codes "facets " ++ decimal facets ++ 10 ∷ []

-- the first illegal flip, and the rule that it breaks
abbrev pub illegal_text : ℕ → Illegal → List ℕ
illegal_text number reason = codes "no" ++ 10 ∷ codes "flip " ++ decimal number ++ 32 ∷ reason_name reason ++ 10 ∷ []

abbrev pub wrong_end_text : List ℕ
wrong_end_text = codes "no" ++ 10 ∷ codes "wrong end" ++ 10 ∷ []

-- how many vertices have a list, and how many flips the lists have together
abbrev pub manifold_text : ℕ → ℕ → List ℕ
manifold_text vertices flips = codes "yes" ++ 10 ∷ codes "vertices " ++ decimal vertices ++ 10 ∷ codes "flips " ++ decimal flips ++ 10 ∷ []

-- what a certificate that shows its statement is answered
abbrev pub shown_text : Statement → ℕ → ℕ → List ℕ
shown_text (Sphere list) flips facets = yes_text flips facets
shown_text (Equal target list pairs) flips facets = yes_text flips facets
shown_text (Manifold lists) flips vertices = manifold_text vertices flips

-- what a certificate is answered
abbrev pub replayed_text : Statement → Replayed → List ℕ
replayed_text c (Valid flips count) = shown_text c flips count
replayed_text c (Bad number reason) = illegal_text number reason
replayed_text c WrongEnd = wrong_end_text
