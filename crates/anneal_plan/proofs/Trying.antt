-- One index after another.
use Rattle.std.proofs.Common.{◌≡◌, ℕ, suc, ◌+◌, ◌-◌, ◌<◌, ◌≤◌, Option, Some, None, List, sym, ◌∙◌, ap, arith}
use Rattle.std.specs.Option.{option_or}
use Rattle.flip_rules.specs.declared.flip.Flip.{Flip}
use Rattle.anneal_plan.specs.Proposals.{chosen, first_chosen, falling}

module _ (flips : ℕ → List Flip) (word first count tried : ℕ) where
  abbrev choice : ℕ → Option Flip
  choice k = first_chosen flips word (falling (first - k) (count - k))

  next_index : tried < count → choice tried ≡ option_or (chosen (flips (first - tried)) word) (choice (tried + 1))
  next_index l =
      ap (λ n. first_chosen flips word (falling (first - tried) n)) (let e : count - tried ≡ suc (count - (tried + 1)) = omega arith in e)
      ∙ ap (λ h. option_or (chosen (flips (first - tried)) word) (first_chosen flips word (falling h (count - (tried + 1))))) (let e : first - tried - 1 ≡ first - (tried + 1) = omega arith in e)

  pub index_decides : (all : Option Flip) (f : Flip) → tried < count → all ≡ choice tried → Some f ≡ chosen (flips (first - tried)) word → Some f ≡ all
  index_decides all f l e is = sym (e ∙ next_index l ∙ ap (λ o. option_or o (choice (tried + 1))) (sym is))

  pub index_passed : (all r : Option Flip) → tried < count → all ≡ choice tried → r ≡ chosen (flips (first - tried)) word → r ≡ None → all ≡ choice (tried + 1)
  index_passed all r l e is none = e ∙ next_index l ∙ ap (λ o. option_or o (choice (tried + 1))) (sym is ∙ none)

  pub no_index : (all : Option Flip) → count ≤ tried → all ≡ choice tried → None ≡ all
  no_index all l e = sym (e ∙ ap (λ n. first_chosen flips word (falling (first - tried) n)) (let z : count - tried ≡ 0 = omega arith in z))
