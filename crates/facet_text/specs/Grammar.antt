-- The text of a complex, by cases on its tokens: what they spell, or the first fault from left to right.
use Rattle.std.specs.Prelude.{◌≡◌, ◌+◌, ◌-◌, ◌≤◌, ◌==◌, ◌&&◌, ℕ, Bool, true, not, List, [], ◌∷◌, ◌++◌, length, Result, Ok, Err, nat_le, nat_lt, if◌then◌else◌}
use Rattle.std.specs.List.{AllByRecursion, flat_map}
use Rattle.std.specs.Ordering.{nat_cmp}
use Rattle.std.specs.Str.Parse.{digits_value}
use Rattle.complex_core.specs.Labels.{face_cmp, has, with}
use Rattle.complex_core.specs.Rising.{rising}
use Rattle.complex_core.specs.Complexes.{ComplexView}
use Rattle.complex_core.specs.ComplexFaults.{first_size}
use Rattle.facet_text.specs.declared.fault.TextFault.{TextFault}
use Rattle.facet_text.specs.declared.fault.TextFault.TheVariants.{Syntax, Twice, Size, NotPure, TooManyFacets, TooManyLabels}
use Rattle.facet_text.specs.declared.fault.TextFault.TheVariants as fault
use Rattle.facet_text.specs.declared.token.TokenKind.TheVariants.{Name, Label, Open, Close, Comma, Assign, Semicolon}
use Rattle.facet_text.specs.Tokens.{Spot, tokens}

-- facets in the order of the text, each with its labels rising
abbrev pub Facets : Type 0
Facets = List (List ℕ)

-- a complex and the offset after it, or the first fault
abbrev pub Reading : Type 0
Reading = Result (ComplexView × ℕ) TextFault

-- the complex of these facets, each kept once
abbrev pub complex_of : Facets → ComplexView
complex_of fs = record { dim = first_size fs - 1; facets = rising face_cmp fs }

-- the labels of a complex, each once
abbrev pub labels_of : ComplexView → List ℕ
labels_of k = rising nat_cmp (flat_map (λ f. f) k.facets)

abbrev pub is_label : ℕ → Bool
is_label n = nat_le 1 n && nat_le n 60000

-- the facet has as many labels as the first one
abbrev pub is_pure : Facets → List ℕ → Bool
is_pure [] labels = true
is_pure (first ∷ fs) labels = length first == length labels

-- Below, `end` is the length of the input. A facet began with its `[` at `start`, and has these labels so far.

-- what a label leads to: the first of its faults, or what `next` says
abbrev pub label_then : ℕ → ℕ → ℕ → List ℕ → Reading → Reading
label_then start at n labels next =
    if not (is_label n) then Err (fault.Label at)
    else if has labels n then Err (Twice at)
    else if nat_lt 7 (length (with labels n)) then Err (Size start)
    else next

-- what a facet's `]` leads to
abbrev pub facet_then : ℕ → List ℕ → Facets → Reading → Reading
facet_then start labels fs next =
    if length labels == 1 then Err (Size start)
    else if not (is_pure fs labels) then Err (NotPure start)
    else next

-- what the limits on a whole complex lead to
abbrev pub limits_then : ComplexView → Reading → Reading
limits_then k next =
    if nat_lt 20000 (length k.facets) then Err TooManyFacets
    else if nat_lt 4096 (length (labels_of k)) then Err TooManyLabels
    else next

-- a `;` that follows the list belongs to the complex
abbrev pub list_end : ℕ → List Spot → ℕ
list_end offset ((Semicolon, text, at) ∷ ts) = at + length text
list_end offset ts = offset

-- after the list's `]`, at an offset
unfoldable pub after_list : ℕ → Facets → List Spot → Reading
after_list offset fs ts = limits_then (complex_of fs) (Ok (complex_of fs, list_end offset ts))

unfoldable mutual
  -- a facet is wanted
  pub facet_from : ℕ → Facets → List Spot → Reading
  facet_from end fs [] = Err (Syntax end)
  facet_from end fs ((Open, _, at) ∷ ts) = label_from end at [] fs ts
  facet_from end fs ((_, _, at) ∷ ts) = Err (Syntax at)

  -- a label is wanted
  pub label_from : ℕ → ℕ → List ℕ → Facets → List Spot → Reading
  label_from end start labels fs [] = Err (Syntax end)
  label_from end start labels fs ((Label, text, at) ∷ ts) =
      label_then start at (digits_value 10 text) labels
      (after_label end start (with labels (digits_value 10 text)) fs ts)
  label_from end start labels fs ((_, _, at) ∷ ts) = Err (Syntax at)

  -- after a label a comma or the facet's `]` is wanted
  pub after_label : ℕ → ℕ → List ℕ → Facets → List Spot → Reading
  after_label end start labels fs [] = Err (Syntax end)
  after_label end start labels fs ((Comma, _, at) ∷ ts) = label_from end start labels fs ts
  after_label end start labels fs ((Close, _, at) ∷ ts) =
      facet_then start labels fs (after_facet end (fs ++ labels ∷ []) ts)
  after_label end start labels fs ((_, _, at) ∷ ts) = Err (Syntax at)

  -- after a facet a comma or the list's `]` is wanted
  pub after_facet : ℕ → Facets → List Spot → Reading
  after_facet end fs [] = Err (Syntax end)
  after_facet end fs ((Comma, _, at) ∷ ts) = facet_from end fs ts
  after_facet end fs ((Close, text, at) ∷ ts) = after_list (at + length text) fs ts
  after_facet end fs ((_, _, at) ∷ ts) = Err (Syntax at)

-- the list's `[` is wanted
unfoldable pub list_from : ℕ → List Spot → Reading
list_from end [] = Err (Syntax end)
list_from end ((Open, _, at) ∷ ts) = facet_from end [] ts
list_from end ((_, _, at) ∷ ts) = Err (Syntax at)

unfoldable pub assign_from : ℕ → List Spot → Reading
assign_from end [] = Err (Syntax end)
assign_from end ((Assign, _, at) ∷ ts) = list_from end ts
assign_from end ((_, _, at) ∷ ts) = Err (Syntax at)

-- a name with its assignment may stand first
unfoldable pub complex_from : ℕ → List Spot → Reading
complex_from end ((Name, _, at) ∷ ts) = assign_from end ts
complex_from end ts = list_from end ts

-- The complex that the input spells from an offset on, and the offset after it, or the first fault.
abbrev pub complex_at : List ℕ → ℕ → Reading
complex_at bytes from = complex_from (length bytes) (tokens bytes from)

-- What a function returned is this reading, unless memory ran out.
abbrev pub Fails : TextFault → Reading → Type 0
Fails fault.Memory read = Unit {0}
Fails e read = read ≡ Err e

abbrev pub Gives : Reading → Reading → Type 0
Gives (Ok x) read = read ≡ Ok x
Gives (Err e) read = Fails e read

-- The same for a part of a reading: what it goes on to after what was answered.
abbrev pub GoesOn : {X : Type 0} → Result X TextFault → Reading → (X → Reading) → Type 0
GoesOn (Ok x) before after = before ≡ after x
GoesOn (Err e) before after = Fails e before

-- facets of one size from 2 to 7
abbrev pub ArePure : Facets → Type 0
ArePure fs = AllByRecursion (λ f. (length f ≡ first_size fs) × (2 ≤ length f) × (length f ≤ 7)) fs
