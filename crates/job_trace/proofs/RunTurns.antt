-- A run of events with one more turn.
use Rattle.std.proofs.Common.{◌≡◌, ℕ, ◌+◌, ◌-◌, ◌<◌, ◌==◌, Bool, true, false, ◌&&◌, List, [], ◌∷◌, ◌++◌, map, length, take, get_or, Ok, Err, sym, ◌∙◌, ap, refl, subst, arith, append_assoc, codes}
use Rattle.std.specs.List.{list_all, flat_map}
use Rattle.std.specs.Fmt.{decimal}
use Rattle.std.proofs.lemmas.Bool.Decides.{nat_tests}
use Rattle.std.proofs.lemmas.List.{take_more, length-take, length-map}
use Rattle.flip_rules.specs.declared.flip.Flip.{Flip}
use Rattle.core_laws.specs.declared.event.Event.{Event}
use Rattle.core_laws.specs.declared.event.Told.{Told}
use Rattle.core_laws.specs.declared.event.Refused.{Refused}
use Rattle.core_laws.specs.declared.event.StepFault.{StepFault}
use Rattle.core_laws.specs.declared.event.StepFault.TheVariants as fault
use Rattle.core_laws.specs.Cores.{Core, pending_of}
use Rattle.core_laws.specs.Steps.{Step, StepRefused}
use Rattle.core_laws.specs.Runs.{IsEvent, Turn, IsRun}
use Rattle.flip_rules.specs.Entries.{JournalEntry}
use Rattle.job_answer.specs.Lines.{flip_line}
use Rattle.trace_text.specs.Traces.{Trace, names}
use Rattle.flip_names.specs.Names.{named_flip}
use Rattle.job_trace.specs.TraceTexts.{answer_line, answer_lines, pending_line, pending_lines, entry_lines}
use Rattle.job_trace.specs.Traced.{placed, opened_for, end_of, is_told, is_nothing}
use Rattle.job_trace.specs.TraceRuns.{entry_line, IsTurn, HasRun}
use Rattle.complex_core.proofs.Members.{taken_more}
use Rattle.line_text.proofs.Joined.{flat_push}

-- ---- lists with one more member

map_more : {X Y : Type 0} (f : X → Y) (xs : List X) (x : X) → map f (xs ++ x ∷ []) ≡ map f xs ++ f x ∷ []
map_more f [] x = refl
map_more f (y ∷ ys) x = ap (λ zs. f y ∷ zs) (map_more f ys x)

pub all_more : {X : Type 0} (p : X → Bool) (xs : List X) (x : X) → list_all p (xs ++ x ∷ []) ≡ (list_all p xs && p x)
all_more p [] x = one (p x)
  where
    one : (b : Bool) → (b && true) ≡ b
    one true = refl
    one false = refl
all_more p (y ∷ ys) x = ap (λ b. p y && b) (all_more p ys x) ∙ grouped (p y) (list_all p ys) (p x)
  where
    grouped : (a b c : Bool) → (a && (b && c)) ≡ ((a && b) && c)
    grouped true b c = refl
    grouped false b c = refl

append_none : (bs : List ℕ) → bs ++ [] ≡ bs
append_none [] = refl
append_none (b ∷ bs) = ap (λ cs. b ∷ cs) (append_none bs)

-- ---- turns

run_more : (c : Core) (ts : List Turn) (t : Turn) → IsRun c ts → IsEvent t.event → Step (end_of c ts) t.event t.answer t.next → IsRun c (ts ++ t ∷ [])
run_more c [] t r e s = (e, s, tt)
run_more c (u ∷ us) t r e s = (r.0, r.1, run_more u.next us t r.2 e s)

end_more : (c : Core) (ts : List Turn) (t : Turn) → end_of c (ts ++ t ∷ []) ≡ t.next
end_more c [] t = refl
end_more c (u ∷ us) t = end_more u.next us t

lines_more : (names : List (ℕ × ℕ)) (number : ℕ) (ts : List Turn) (t : Turn) → answer_lines names number (ts ++ t ∷ []) ≡ answer_lines names number ts ++ answer_line names (number + length ts) t.answer
lines_more names number [] t = append_none (answer_line names number t.answer) ∙ (let e : number ≡ number + 0 = omega arith in ap (λ n. answer_line names n t.answer) e)
lines_more names number (u ∷ us) t =
    let e : number + 1 + length us ≡ number + length (u ∷ us) = omega arith in
    ap (λ bs. answer_line names number u.answer ++ bs) (lines_more names (number + 1) us t ∙ ap (λ n. answer_lines names (number + 1) us ++ answer_line names n t.answer) e)
    ∙ sym (append_assoc (answer_line names number u.answer) (answer_lines names (number + 1) us) (answer_line names (number + length (u ∷ us)) t.answer))

-- one more event was run
pub one_more : (t : Trace) (events : List Event) (place : ℕ) (e made : Event) (before now all : Bool) (text new : List ℕ) (c next : Core) → HasRun t (take place events) before text c → place < length events → e ≡ get_or events place e → made ≡ placed (names t) e → IsEvent made → IsTurn (names t) (place + 1) c made next now text new → all ≡ (before && now) → HasRun t (take (place + 1) events) all new next
one_more t events place e made before now all text new c next h l e_is made_is is_event turn all_is = record {
  turns = h.turns ++ last ∷ [];
  events_are =
      map_more (λ (u : Turn). u.event) h.turns last
      ∙ (λ i. h.events_are i ++ made_is i ∷ [])
      ∙ sym (map_more (placed (names t)) (take place events) e)
      ∙ ap (map (placed (names t))) (sym (taken_more events place e l e_is));
  run = run_more (opened_for t) h.turns last h.run is_event (let P : Core → Type 0 = λ d. Step d made turn.answer next in subst P h.last_is turn.step);
  last_is = sym (end_more (opened_for t) h.turns last);
  accepted_is = all_is ∙ (λ i. h.accepted_is i && turn.accepted_is i) ∙ sym (all_more (λ (u : Turn). is_told u.answer) h.turns last);
  says =
      turn.says
      ∙ (λ i. h.says i ++ answer_line (names t) (number i) turn.answer)
      ∙ sym (lines_more (names t) 1 h.turns last);
}
  where
    last : Turn
    last = record { event = made; answer = turn.answer; next = next }

    number : place + 1 ≡ 1 + length h.turns
    number = omega (arith, sym (length-map h.turns (λ (u : Turn). u.event)) ∙ ap length h.events_are ∙ length-map (take place events) (placed (names t)), length-take place events, l)

pub one_more_named : (t : Trace) (ns : List (ℕ × ℕ)) (shown : List Event) (place : ℕ) (e made : Event) (before now all : Bool) (text new : List ℕ) (c next : Core) → ns ≡ names t → shown ≡ t.events → HasRun t (take place t.events) before text c → place < length shown → e ≡ get_or shown place e → made ≡ placed ns e → IsEvent made → IsTurn ns (place + 1) c made next now text new → all ≡ (before && now) → HasRun t (take (place + 1) t.events) all new next
one_more_named t ns shown place e made before now all text new c next en es h l e_is made_is is_event turn all_is =
    let P : List (ℕ × ℕ) → Type 0 = λ ms. IsTurn ms (place + 1) c made next now text new in
    one_more t t.events place e made before now all text new c next h (omega (arith, l, ap (λ (events : List Event). length events) es)) (e_is ∙ ap (λ (events : List Event). get_or events place e) es) (made_is ∙ ap (λ ms. placed ms e) en) is_event (subst P en turn) all_is

-- ---- workers with pending flips

pub pending_more : (worker : ℕ) (all : List (List Flip)) (fs : List Flip) → pending_lines worker (all ++ fs ∷ []) ≡ pending_lines worker all ++ pending_line (worker + length all) fs
pending_more worker [] fs = append_none (pending_line worker fs) ∙ (let e : worker ≡ worker + 0 = omega arith in ap (λ n. pending_line n fs) e)
pending_more worker (gs ∷ rest) fs =
    let e : worker + 1 + length rest ≡ worker + length (gs ∷ rest) = omega arith in
    ap (λ bs. pending_line worker gs ++ bs) (pending_more (worker + 1) rest fs ∙ ap (λ n. pending_lines (worker + 1) rest ++ pending_line n fs) e)
    ∙ sym (append_assoc (pending_line worker gs) (pending_lines (worker + 1) rest) (pending_line (worker + length (gs ∷ rest)) fs))

-- ---- one turn

pub turn_told : (names : List (ℕ × ℕ)) (number : ℕ) (c next : Core) (e : Event) (told : Told) (text : List ℕ) → Step c e (Ok told) next → IsTurn names number c e next true text text
turn_told names number c next e told text s = record { answer = Ok told; step = s; accepted_is = refl; says = sym (append_none text) }

pub turn_refused : (names : List (ℕ × ℕ)) (number : ℕ) (c next : Core) (e : Event) (f : StepFault) (reason : Refused) (text new : List ℕ) → f ≡ fault.Refused reason → StepRefused c e f → next ≡ c → new ≡ text ++ answer_line names number (Err reason) → IsTurn names number c e next false text new
turn_refused names number c next e f reason text new is r same says = record { answer = Err reason; step = ((let P : StepFault → Type 0 = λ g. StepRefused c e g in subst P is r), same); accepted_is = refl; says = says }

-- ---- both of two tests

pub both_then : (before now all : Bool) → before ≡ true → all ≡ now → all ≡ (before && now)
both_then before now all b e = e ∙ ap (λ x. x && now) (sym b)

pub both_else : (before now all : Bool) → before ≡ false → all ≡ before → all ≡ (before && now)
both_else before now all b e = e ∙ b ∙ ap (λ x. x && now) (sym b)

-- ---- one more worker

seat_taken : (c : Core) (seat workers : ℕ) → length c.pending ≡ workers → seat < workers → take (seat + 1) c.pending ≡ take seat c.pending ++ pending_of c (seat + 1) ∷ []
seat_taken c seat workers e l =
    let at : seat ≡ (seat + 1) - 1 = omega arith in
    take_more c.pending seat [] (omega (arith, e, l)) ∙ ap (λ n. take seat c.pending ++ get_or c.pending n [] ∷ []) at

pub pending_next : (c : Core) (seat workers : ℕ) (fs : List Flip) (old text new : List ℕ) → length c.pending ≡ workers → seat < workers → fs ≡ pending_of c (seat + 1) → text ≡ old ++ pending_lines 1 (take seat c.pending) → new ≡ text ++ pending_line (seat + 1) fs → new ≡ old ++ pending_lines 1 (take (seat + 1) c.pending)
pending_next c seat workers fs old text new e l flips so_far says =
    let number : seat + 1 ≡ 1 + length (take seat c.pending) = omega (arith, length-take seat c.pending, e, l) in
    says
    ∙ (λ i. so_far i ++ pending_line (number i) (flips i))
    ∙ append_assoc old (pending_lines 1 (take seat c.pending)) (pending_line (1 + length (take seat c.pending)) (pending_of c (seat + 1)))
    ∙ ap (λ bs. old ++ bs) (sym (ap (pending_lines 1) (seat_taken c seat workers e l) ∙ pending_more 1 (take seat c.pending) (pending_of c (seat + 1))))

nothing_is : (fs : List Flip) → (length fs == 0) ≡ is_nothing fs
nothing_is [] = refl
nothing_is (f ∷ fs) = grind (arith, nat_tests)

pub nothing_next : (c : Core) (seat workers : ℕ) (fs : List Flip) (before all : Bool) → length c.pending ≡ workers → seat < workers → fs ≡ pending_of c (seat + 1) → before ≡ list_all is_nothing (take seat c.pending) → all ≡ (before && (length fs == 0)) → all ≡ list_all is_nothing (take (seat + 1) c.pending)
nothing_next c seat workers fs before all e l flips so_far both =
    both
    ∙ (λ i. so_far i && (nothing_is fs ∙ ap is_nothing flips) i)
    ∙ sym (ap (list_all is_nothing) (seat_taken c seat workers e l) ∙ all_more is_nothing (take seat c.pending) (pending_of c (seat + 1)))

-- ---- one more piece of a text

pub pieces_more : {X : Type 0} (f : X → List ℕ) (xs : List X) (i : ℕ) (x : X) (old text new : List ℕ) → i < length xs → x ≡ get_or xs i x → text ≡ old ++ flat_map f (take i xs) → new ≡ text ++ f x → new ≡ old ++ flat_map f (take (i + 1) xs)
pieces_more f xs i x old text new l e so_far says =
    says ∙ ap (λ bs. bs ++ f x) so_far ∙ append_assoc old (flat_map f (take i xs)) (f x) ∙ ap (λ bs. old ++ bs) (sym (ap (flat_map f) (taken_more xs i x l e) ∙ flat_push f (take i xs) x))

line_and_rest : (a b c d e f rest : List ℕ) → (a ++ (b ++ (c ++ (d ++ (e ++ (f ++ 10 ∷ [])))))) ++ rest ≡ a ++ (b ++ (c ++ (d ++ (e ++ (f ++ 10 ∷ rest)))))
line_and_rest a b c d e f rest =
    append_assoc a (b ++ (c ++ (d ++ (e ++ (f ++ 10 ∷ []))))) rest
    ∙ ap (λ x. a ++ x) (append_assoc b (c ++ (d ++ (e ++ (f ++ 10 ∷ [])))) rest
    ∙ ap (λ x. b ++ x) (append_assoc c (d ++ (e ++ (f ++ 10 ∷ []))) rest
    ∙ ap (λ x. c ++ x) (append_assoc d (e ++ (f ++ 10 ∷ [])) rest
    ∙ ap (λ x. d ++ x) (append_assoc e (f ++ 10 ∷ []) rest
    ∙ ap (λ x. e ++ x) (append_assoc f (10 ∷ []) rest)))))

pub entry_written : (names : List (ℕ × ℕ)) (e : JournalEntry) (worker seq count : ℕ) (flips : List Flip) (old line new : List ℕ) → worker ≡ e.worker → seq ≡ e.seq → flips ≡ e.flips → count ≡ length flips → line ≡ old ++ entry_line worker seq count → new ≡ line ++ flat_map (λ f. flip_line (named_flip names f)) flips → new ≡ old ++ entry_lines names e
entry_written names e worker seq count flips old line new ew es ef ec first others =
    others
    ∙ (λ i. (first ∙ (λ j. old ++ entry_line (ew j) (es j) ((ec ∙ ap (λ (fs : List Flip). length fs) ef) j))) i ++ flat_map (λ f. flip_line (named_flip names f)) (ef i))
    ∙ append_assoc old (entry_line e.worker e.seq (length e.flips)) (flat_map (λ f. flip_line (named_flip names f)) e.flips)
    ∙ ap (λ bs. old ++ bs) (line_and_rest (codes "entry worker ") (decimal e.worker) (codes " seq ") (decimal e.seq) (codes " flips ") (decimal (length e.flips)) (flat_map (λ f. flip_line (named_flip names f)) e.flips))
