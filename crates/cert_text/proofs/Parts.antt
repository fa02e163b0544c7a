-- One part after another.
use Rattle.std.proofs.Common.{◌≡◌, ◌≤◌, ◌<◌, ◌+◌, ◌-◌, ◌∙◌, ◌++◌, ◌∷◌, [], ℕ, suc, List, Result, Ok, Err, refl, sym, arith}
use Rattle.std.proofs.Common.{false}
use Rattle.std.specs.Str.{bytes_eq}
use Rattle.facet_text.specs.Lines.{Item, word}
use Rattle.cert_text.specs.Lines.{word_at}
use Rattle.line_text.specs.declared.fault.LineFault.{LineFault}
use Rattle.line_text.specs.declared.fault.LineFault.TheVariants as line
use Rattle.cert_text.specs.declared.fault.CertFault.{CertFault}
use Rattle.cert_text.specs.declared.fault.CertFault.TheVariants as fault
use Rattle.cert_text.specs.Readings.{Fails, Reading, cert_fault, of_line, so_many, ◌>>=◌}

-- the first part fails
pub fails_first : {A B : Type 0} (e : CertFault) (read : Result A CertFault) (f : A → Result B CertFault) → Fails e read → Fails e (read >>= f)
unfolding ◌>>=◌
fails_first fault.Memory read f h = tt
fails_first (fault.Syntax p) read f h = rw h refl
fails_first (fault.Label p) read f h = rw h refl
fails_first (fault.Count p) read f h = rw h refl
fails_first (fault.Target t) read f h = rw h refl

-- the first part is read, and what follows fails
pub fails_after : {A B : Type 0} (e : CertFault) (read : Result A CertFault) (x : A) (f : A → Result B CertFault) → read ≡ Ok x → Fails e (f x) → Fails e (read >>= f)
unfolding ◌>>=◌
fails_after e read x f h g = rw h g

-- the first part is read, and then what follows
pub first_read : {A B : Type 0} (read : Result A CertFault) (x : A) (f : A → Result B CertFault) → read ≡ Ok x → (read >>= f) ≡ f x
unfolding ◌>>=◌
first_read read x f h = rw h refl

-- a line that is read, and the fault of a line
pub line_read : {A : Type 0} (read : Result A LineFault) (x : A) → read ≡ Ok x → of_line read ≡ Ok x
unfolding of_line
line_read read x h = rw h refl

pub line_fails : {A : Type 0} (read : Result A LineFault) (e : LineFault) (f : CertFault) → read ≡ Err e → f ≡ cert_fault e → Fails f (of_line read)
unfolding of_line
line_fails read (line.Syntax p) f h same = rw (same, h) refl
line_fails read (line.Label p) f h same = rw (same, h) refl

-- ---- so many, one after another

pub one_more : {X : Type 0} (one : List X → List Item → Reading X) (count i : ℕ) (xs : List X) (is : List Item) (x : X) (js : List Item) (total : Reading (List X)) → i < count → one xs is ≡ Ok (x, js)
    → so_many one (count - i) xs is ≡ total → so_many one (count - (i + 1)) (xs ++ x ∷ []) js ≡ total
unfolding so_many ◌>>=◌
one_more one count i xs is x js total lt h so_far =
    let k : count - i ≡ suc (count - (i + 1)) = omega arith in
    let step : so_many one (count - i) xs is ≡ so_many one (count - (i + 1)) (xs ++ x ∷ []) js = rw (k, h) refl in
    sym step ∙ so_far

pub stops : {X : Type 0} (e : CertFault) (one : List X → List Item → Reading X) (count i : ℕ) (xs : List X) (is : List Item) (total : Reading (List X)) → i < count → Fails e (one xs is)
    → so_many one (count - i) xs is ≡ total → Fails e total
unfolding so_many
stops e one count i xs is total lt h so_far =
    let k : count - i ≡ suc (count - (i + 1)) = omega arith in
    rw (← so_far, k) (fails_first e (one xs is) _ h)

pub all_read : {X : Type 0} (one : List X → List Item → Reading X) (count i : ℕ) (xs : List X) (is : List Item) (total : Reading (List X)) → count ≤ i → so_many one (count - i) xs is ≡ total → total ≡ Ok (xs, is)
unfolding so_many
all_read one count i xs is total le so_far =
    let k : count - i ≡ 0 = omega arith in
    let one_way : so_many one (count - i) xs is ≡ Ok (xs, is) = rw k refl in
    sym so_far ∙ one_way

-- ---- words

pub other_word : {B : Type 0} (name text : List ℕ) (at : ℕ) (is js : List Item) (f : List Item → Result B CertFault) → is ≡ word text at ∷ js → bytes_eq text name ≡ false
    → (word_at name is >>= f) ≡ Err (fault.Syntax at)
unfolding ◌>>=◌ word_at
other_word name text at is js f h other = rw (h, other) refl
