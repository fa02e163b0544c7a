-- Bytes that are taken from the front of a list, one piece after another.
use Rattle.std.proofs.Common.{◌≡◌, ℕ, ◌+◌, ◌-◌, ◌<◌, ◌≤◌, List, [], ◌++◌, take, drop, length, sym, subst, ◌∙◌, ap, append_assoc, Some, None, Option, Result, Ok, Err, IfErr, arith}
use Rattle.std.proofs.lemmas.List.{take-append-drop, take-append-le, drop-drop, length-drop, length-append, length-take-le, nil_from_length}
use Rattle.std.proofs.Math.Seq.{take-add, take-length}
use Rattle.std.proofs.KnownBytes.{Consumes-trans}
use Rattle.std.specs.Io.KnownBytes.{Appends, Consumes}
use Rattle.std.specs.Prelude.{IsErrAnd}
use Rattle.flip_io.specs.Outcomes.{TakesCount, TakesAtMost, ReadAllTakes}
use Rattle.flip_io.specs.declared.whole.ReadAllFault.{ReadAllFault}
use Rattle.flip_io.specs.declared.whole.ReadAllFault.TheVariants.{Memory}
use Rattle.flip_io.specs.Supplies.{Fills}

-- the front of a buffer that was filled
front_is : (left old buf : List ℕ) (n : ℕ) → n ≤ length left → buf ≡ take n left ++ drop n old → take n buf ≡ take n left
front_is left old buf n within front = let e : length (take n left) ≡ n = length-take-le n left within in
    ap (take n) front ∙ take-append-le n (take n left) (drop n old) (omega (arith, e)) ∙ ap (λ m. take m (take n left)) (sym e) ∙ take-length (take n left)

-- an empty list has no bytes at any place
rest_of_none : (left : List ℕ) (n : ℕ) → length left ≡ 0 → drop n left ≡ []
rest_of_none left n none = nil_from_length (drop n left) (omega (arith, length-drop n left))

-- a slice from a place on, as a call is passed it
pub tail_is : (bs : List ℕ) (done : ℕ) → take (length bs - done) (drop done bs) ≡ drop done bs
tail_is bs done = ap (λ n. take n (drop done bs)) (sym (length-drop done bs)) ∙ take-length (drop done bs)

-- after the first n bytes come the others, and where no byte was taken though there was leave and room, none is left
taken_on : (left rest old buf : List ℕ) (n most : ℕ) → Fills most left old buf n → rest ≡ drop n left → 0 < most → length old ≡ length buf → (left ≡ take n buf ++ rest) × (n ≡ 0 → 0 < length buf → rest ≡ [])
taken_on left rest old buf n most h other some same = (
  sym (take-append-drop n left) ∙ ap (λ ys. ys ++ drop n left) (sym (front_is left old buf n (omega (arith, h.count)) h.front)) ∙ ap (λ ys. take n buf ++ ys) (sym other),
  λ z room. other ∙ rest_of_none left n (omega (arith, h.count, z, room, some, same)),
)

-- the same of the bytes from a place on, as a call is passed them
pub reads_on : (xs passed left old buf : List ℕ) (at n most : ℕ) → passed ≡ xs → drop at xs ≡ left → Fills most (take (length passed - at) (drop at passed)) old buf n → 0 < most → length old ≡ length buf → (left ≡ take n buf ++ drop (at + n) xs) × (n ≡ 0 → 0 < length buf → drop (at + n) xs ≡ [])
reads_on xs passed left old buf at n most is from h some same =
    let e : take (length passed - at) (drop at passed) ≡ left = tail_is passed at ∙ ap (drop at) is ∙ from in
    taken_on left (drop (at + n) xs) old buf n most (subst (λ ys. Fills most ys old buf n) e h) (sym (drop-drop n at xs) ∙ ap (drop n) from) some same

-- n more bytes are taken
more : (a b c : Option (List ℕ)) (xs buf : List ℕ) (n : ℕ) → Consumes a b xs → n ≤ length buf → Consumes b c (take n buf) → TakesCount a c (length xs + n)
more a b c xs buf n before within after = (xs ++ take n buf, length-append xs (take n buf) ∙ ap (λ m. length xs + m) (length-take-le n buf within), Consumes-trans a b c xs (take n buf) before after)

-- n more bytes are taken, and they are so many in all
pub takes_more : (a b c : Option (List ℕ)) (xs buf : List ℕ) (n all : ℕ) → Consumes a b xs → n ≤ length buf → Consumes b c (take n buf) → length xs + n ≡ all → TakesCount a c all
takes_more a b c xs buf n all before within after sum = subst (TakesCount a c) sum (more a b c xs buf n before within after)

-- want of memory came before the limit was passed
pub takes_in_limit : {T : Type 0} (r : Result T ReadAllFault) (limit : ℕ) (a b c : Option (List ℕ)) (xs buf : List ℕ) (n : ℕ) → IsErrAnd r (λ e. e ≡ Memory) → Consumes a b xs → n ≤ length buf → Consumes b c (take n buf) → length xs + n ≤ limit → IfErr r (ReadAllTakes limit a c)
takes_in_limit (Ok v) limit a b c xs buf n is before within after sum = tt
takes_in_limit (Err e) limit a b c xs buf n is before within after sum =
    let m = more a b c xs buf n before within after in
    let known : TakesAtMost a c limit = (m.0, omega (arith, m.1, sum), m.2) in
    subst (ReadAllTakes limit a c) (sym is) known

-- the next n bytes are written too
pub appends_on : (a b c : Option (List ℕ)) (bs : List ℕ) (done n : ℕ) → Appends a b (take done bs) → Appends b c (take n (drop done bs)) → Appends a c (take (done + n) bs)
appends_on None b c bs done n h k = tt
appends_on (Some us) None c bs done n h k = absurd h
appends_on (Some us) (Some vs) None bs done n h k = absurd k
appends_on (Some us) (Some vs) (Some ws) bs done n h k = k ∙ ap (λ zs. zs ++ take n (drop done bs)) h ∙ append_assoc us (take done bs) (take n (drop done bs)) ∙ ap (λ zs. us ++ zs) (sym (take-add done n bs))
