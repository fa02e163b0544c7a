-- The lines of certificates.
use Rattle.std.specs.Prelude.{◌≡◌, ◌&&◌, ℕ, Bool, true, false, List, [], ◌∷◌, Option, Some, None, Result, Ok, Err, codes, nat_le, if◌then◌else◌}
use Rattle.std.specs.Ordering.{is_eq, nat_cmp}
use Rattle.std.specs.Str.{bytes_eq}
use Rattle.complex_core.specs.Maps.{reaches, takes}
use Rattle.facet_text.specs.Lines.{Item, line_end, word}
use Rattle.flip_rules.specs.declared.flip.Flip.{Flip}
use Rattle.line_text.specs.Numbers.{begins_with_digit, end_at, line_start, number_at}
use Rattle.line_text.specs.Flips.{flip_at}
use Rattle.line_text.specs.declared.label.Labels.TheVariants.{UpTo}
use Rattle.cert_text.specs.declared.fault.CertFault.{CertFault}
use Rattle.cert_text.specs.declared.fault.CertFault.TheVariants as fault
use Rattle.cert_text.specs.Readings.{Reading, ◌>>=◌, of_line}

-- This word is wanted on this line. (No list of items is empty.)
unfoldable pub word_at : List ℕ → List Item → Result (List Item) CertFault
word_at name [] = Err (fault.Syntax 0)
word_at name (line_end at ∷ is) = Err (fault.Syntax at)
word_at name (word text at ∷ is) = if bytes_eq text name then Ok is else Err (fault.Syntax at)

-- the line's end is wanted
abbrev pub ended : List Item → Result (List Item) CertFault
ended is = of_line (end_at is)

-- a stated number
abbrev pub count_of : Option ℕ × ℕ × List Item → Reading ℕ
count_of (Some n, at, is) = Ok (n, is)
count_of (None, at, is) = Err (fault.Syntax at)

unfoldable pub count_at : List Item → Reading ℕ
count_at is = of_line (number_at is) >>= count_of

-- a line of a word and a number
unfoldable pub stated : List ℕ → List Item → Reading ℕ
stated name is =
    word_at name (line_start is) >>= λ js.
    count_at js >>= λ n.
    ended n.1 >>= λ ks.
    Ok (n.0, ks)

abbrev pub is_label : ℕ → Bool
is_label n = nat_le 1 n && nat_le n 65000

-- the value of a number that is a label
abbrev pub label_of : Option ℕ → Option ℕ
label_of (Some n) = if is_label n then Some n else None
label_of None = None

-- a label that doesn't stand before
abbrev pub label_then : (ℕ → Bool) → Option ℕ → ℕ → List Item → Reading ℕ
label_then before (Some n) at is = if before n then Err (fault.Label at) else Ok (n, is)
label_then before None at is = Err (fault.Label at)

unfoldable pub label_at : (ℕ → Bool) → List Item → Reading ℕ
label_at before is = of_line (number_at is) >>= λ n. label_then before (label_of n.0) n.1 n.2

-- The next line of those that were counted, whose first word tells its kind.
unfoldable pub counted : {X : Type 0} → (List ℕ → Bool) → (List Item → Reading X) → List Item → Reading X
counted begins read [] = Err (fault.Count 0)
counted begins read (line_end at ∷ is) = Err (fault.Count at)
counted begins read (word text at ∷ is) = if begins text then read (word text at ∷ is) else Err (fault.Count at)

-- no further line of that kind may follow
unfoldable pub none_more : (List ℕ → Bool) → List Item → Result (Unit {0}) CertFault
none_more begins (word text at ∷ is) = if begins text then Err (fault.Count at) else Ok tt
none_more begins is = Ok tt

-- only blanks may follow
unfoldable pub nothing_left : List Item → Result (Unit {0}) CertFault
nothing_left (word text at ∷ is) = Err (fault.Syntax at)
nothing_left is = Ok tt

-- the line of a flip
unfoldable pub flip_line : List Flip → List Item → Reading Flip
flip_line before is = counted begins_with_digit (λ js. of_line (flip_at (UpTo 65000) js)) (line_start is)

-- the line of a pair that has no number of a pair before it in the same position
unfoldable pub pair_at : List (ℕ × ℕ) → List Item → Reading (ℕ × ℕ)
pair_at pairs is =
    label_at (takes pairs) is >>= λ first.
    label_at (reaches pairs) first.1 >>= λ second.
    ended second.1 >>= λ js.
    Ok ((first.0, second.0), js)

unfoldable pub pair_line : List (ℕ × ℕ) → List Item → Reading (ℕ × ℕ)
pair_line pairs is = counted begins_with_digit (pair_at pairs) (line_start is)

abbrev pub is_vertex : List ℕ → Bool
is_vertex text = bytes_eq text (codes "vertex")

-- the line of a vertex
unfoldable pub vertex_at : List Item → Reading ℕ
vertex_at is =
    word_at (codes "vertex") is >>= λ js.
    label_at (λ n. false) js >>= λ vertex.
    ended vertex.1 >>= λ ks.
    Ok (vertex.0, ks)

-- one more label was seen
abbrev pub IsSeen : (ℕ → Bool) → ℕ → (ℕ → Bool) → Type 0
IsSeen old n new = (x : ℕ) → new x ≡ (if is_eq (nat_cmp n x) then true else old x)
