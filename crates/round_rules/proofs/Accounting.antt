-- All tries of a worker.
use Rattle.std.proofs.Common.{◌≡◌, ◌≢◌, inl, inr, ℕ, ◌+◌, ◌<◌, Bool, true, false, cond, eqb, ◌&&◌, List, [], ◌∷◌, ◌++◌, map, length, length-append, append-nil, sym, refl, ap, ◌∙◌, subst, arith, append_assoc}
use mathlib.Core.Option.{some, some-ne-none}
use Rattle.std.specs.List.{AllByRecursion}
use lib.ListN.{get_elem?}
use Rattle.std.proofs.lemmas.List.{length-map}
use Rattle.flip_rules.specs.Entries.{JournalEntry}
use Rattle.flip_rules.specs.Journals.{mine}
use Rattle.flip_rules.specs.declared.flip.Flip.{Flip}
use Rattle.star_laws.specs.Stars.{Rises}
use Rattle.board_rule.specs.Rule.{Names}
use Rattle.board_rule.specs.Tries.{Try, last_with}
use Rattle.board_rule.proofs.Items.{tested}
use Rattle.vertex_claims.specs.Marks.{mark_of, marks_of}
use Rattle.round_rules.specs.Own.{OwnRow, OwnTry}
use Rattle.round_rules.specs.Accounts.{OwnRun, OwnAll}
use Rattle.round_rules.specs.Outcomes.{Outcome, Outcomes, entries_in, numbers_in}
use Rattle.round_rules.specs.Rounds.{CountUp}
use Rattle.round_rules.specs.Tasks.{Scene, Task, turns_of}
use Rattle.round_rules.specs.declared.tried.Tried.{Tried}
use Rattle.round_rules.specs.declared.tried.Tried.TheVariants.{Committed, Busy, Nothing, Blocked, Declined, Quit, NoMemory}
use Rattle.round_rules.proofs.Lists.{CountFrom, count_none, count_one, count_more}
use Rattle.round_rules.proofs.Judging.{Fitting, NotedIn}
use Rattle.round_rules.proofs.OneTry.{outcome_of}
use Rattle.round_rules.proofs.Growing.{commits, commits_more, numbers_more, outcomes_more, outcomes_quit}
use Rattle.vertex_claims.proofs.Seats.{length-marks}

-- ---- what one try adds

-- the numbers of some entries, in order
abbrev pub seqs : List JournalEntry → List ℕ
seqs es = map (λ e. e.seq) es

-- the entries that a try adds: as many as its answer says, with the number that it says, which is the number of those before
record Adds (was now : List JournalEntry) (a : Tried) : Type 0 where
  more : List JournalEntry
  longer : now ≡ was ++ more
  count : entries_in a ≡ length more
  numbers : numbers_in (a ∷ []) ≡ seqs more
  next : CountFrom (length was) (numbers_in (a ∷ []))

none_added : (was now : List JournalEntry) (a : Tried) → now ≡ was → entries_in a ≡ 0 → numbers_in (a ∷ []) ≡ [] → Adds was now a
none_added was now a same none numbers = record { more = []; longer = same ∙ sym (append-nil was); count = none; numbers = numbers; next = let P : List ℕ → Type 0 = λ l. CountFrom (length was) l in subst P (sym numbers) (count_none (length was)) }

adds_row : (task : Task) (round w : ℕ) (t : Try) (was now : List JournalEntry) (flips : List Flip) (a : Tried) → OwnRow task round w t was now flips a → Adds was now a
adds_row task round w t was now flips (Committed n) o = record { more = record { round = round; worker = w; seq = n; flips = flips } ∷ []; longer = o.0.entered.entry; count = refl; numbers = refl; next = count_one (length was) n o.0.entered.number }
adds_row task round w t was now flips (Busy q p) o = none_added was now (Busy q p) o.2 refl refl
adds_row task round w t was now flips Nothing o = none_added was now Nothing o.2 refl refl
adds_row task round w t was now flips (Blocked f) o = none_added was now (Blocked f) o.2 refl refl
adds_row task round w t was now flips (Declined c) o = none_added was now (Declined c) o.2 refl refl
adds_row task round w t was now flips Quit o = none_added was now Quit o.2 refl refl
adds_row task round w t was now flips NoMemory o = none_added was now NoMemory o.2 refl refl

adds : (task : Task) (round w : ℕ) (t : Try) (was now : List JournalEntry) (a : Tried) (b : Bool) → t.won ≡ b → OwnTry task round w t was now a → Adds was now a
adds task round w t was now a true is o = let r = o.won is in adds_row task round w t was now (turns_of task r.home.star) a r.row
adds task round w t was now a false is o = let l = o.lost is in subst (Adds was now) (sym l.0) (none_added was now (Busy t.place t.found) l.2 refl refl)

-- ---- the last won try of a number

head_with : (n : ℕ) (t : Try) (ts : List Try) → t.won ≡ true → t.count ≡ n → last_with n (t ∷ ts) ≡ some t
head_with n t ts won is = ap (λ (b : Bool). cond (b && eqb t.count n) (some t) (last_with n ts)) won ∙ tested t.count n (λ b. cond b (some t) (last_with n ts) ≡ some t) (λ _. refl) (λ other. absurd (other is))

off_won : {A : Type 0} (b : Bool) (x y : A) → cond (b && false) x y ≡ y
off_won true x y = refl
off_won false x y = refl

below_with : (n : ℕ) (t : Try) (ts : List Try) → t.count ≢ n → last_with n (t ∷ ts) ≡ last_with n ts
below_with n t ts other = tested t.count n (λ b. cond (t.won && b) (some t) (last_with n ts) ≡ last_with n ts) (λ is. absurd (other is)) (λ _. off_won t.won (some t) (last_with n ts))

-- ---- all tries

-- what the first tries of a worker show
pub record Part (s : Scene) (entries : List JournalEntry) (w : ℕ) (tasks : ℕ → Task) (ts : List Try) (answers : List Tried) (own : List JournalEntry) : Type 0 where
  pub outcomes : Outcomes s entries w tasks 0 0 (marks_of ts) answers
  pub count : commits answers ≡ length own
  pub numbers : numbers_in answers ≡ seqs own
  pub up : CountUp (numbers_in answers)
  pub long : length (marks_of ts) ≡ length answers

seqs_append : (xs ys : List JournalEntry) → seqs (xs ++ ys) ≡ seqs xs ++ seqs ys
seqs_append [] ys = refl
seqs_append (x ∷ xs) ys = ap (λ (l : List ℕ). x.seq ∷ l) (seqs_append xs ys)

-- what all tries so far show, with the next one, which adds these entries; more entries may follow
part_more : (s : Scene) (entries : List JournalEntry) (w : ℕ) (tasks : ℕ → Task) (t : Try) (ts : List Try) (answers : List Tried) (a : Tried) (was now : List JournalEntry) → Adds was now a → t.count ≡ length was → Part s entries w tasks ts answers was
    → Outcome s entries w (tasks (length ts)) t.count (mark_of t) a → Part s entries w tasks (t ∷ ts) (answers ++ a ∷ []) now
part_more s entries w tasks t ts answers a was now d count p one = record {
  outcomes = outcomes_more s entries w tasks 0 0 (marks_of ts) answers (mark_of t) a p.long p.outcomes (subst (λ (x : ℕ × ℕ). Outcome s entries w (tasks x.0) x.1 (mark_of t) a) (λ i. (number i, earlier i)) one);
  count = (let m = commits_more answers a in let c = p.count in let e = d.count in omega (arith, m, c, e, longer));
  numbers = numbers_more answers a ∙ (λ i. p.numbers i ++ d.numbers i) ∙ sym (seqs_append was d.more) ∙ ap seqs (sym d.longer);
  up = λ k x at. let r = count_more 0 (numbers_in answers) (numbers_in (a ∷ [])) (λ j y there. let e = p.up j y there in omega (arith, e)) (λ j y there. let e = d.next j y there in omega (arith, e, many)) k x (ap (λ (l : List ℕ). get_elem? l k) (sym (numbers_more answers a)) ∙ at) in omega (arith, r);
  long = (let m = length-marks (t ∷ ts) in let n = length-marks ts in let l = p.long in let e = length-append answers (a ∷ []) in omega (arith, m, n, l, e));
}
  where
    number : length ts ≡ 0 + length (marks_of ts)
    number = let m = length-marks ts in omega (arith, m)

    earlier : t.count ≡ 0 + commits answers
    earlier = let m = p.count in omega (arith, m, count)

    longer : length now ≡ length was + length d.more
    longer = ap length d.longer ∙ length-append was d.more

    many : length (numbers_in answers) ≡ length was
    many = ap length p.numbers ∙ length-map was (λ (e : JournalEntry). e.seq)

-- what is known of a worker when the journal stands
pub record Settled (s : Scene) (entries : List JournalEntry) (w seats : ℕ) (tasks : ℕ → Task) (tries : List Try) : Type 0 where
  pub rises : Rises s.start
  pub dim : (n : ℕ) → (tasks n).dim ≡ s.start.dim
  pub seats_are : seats ≡ s.plan.workers + 1
  pub noted : NotedIn s entries w tries
  pub names : AllByRecursion (Names seats w entries) tries

-- the first tries of a worker, whose entries are followed by more of its own in the journal
parts : (s : Scene) (entries : List JournalEntry) (w seats : ℕ) (tasks : ℕ → Task) (tries : List Try) → Settled s entries w seats tasks tries → (ts : List Try) (answers : List Tried) (own rest : List JournalEntry)
    → AllByRecursion (λ t. t.won ≡ true → Fitting s entries w t) ts → AllByRecursion (Names seats w entries) ts → mine entries s.round w ≡ own ++ rest → ((n : ℕ) → n < length own → last_with n tries ≡ last_with n ts) → OwnRun tasks s.round w ts answers own → Part s entries w tasks ts answers own
parts s entries w seats tasks tries known [] answers own rest fits names whole last run =
    subst (λ (x : List Tried × List JournalEntry). Part s entries w tasks [] x.0 x.1) (λ i. (sym run.0 i, sym run.1 i)) record { outcomes = tt; count = refl; numbers = refl; up = λ k x at. absurd (some-ne-none x (sym at)); long = refl }
parts s entries w seats tasks tries known (t ∷ ts) answers own rest fits names whole last run =
    let o = run.one in
    let count = o.count in
    let d = adds (tasks (length ts)) s.round w t run.was own run.last t.won refl o in
    let longer = ap {B = ℕ} length d.longer ∙ length-append run.was d.more in
    let p = parts s entries w seats tasks tries known ts run.earlier run.was (d.more ++ rest) fits.1 names.1
    (whole ∙ (ap (λ (l : List JournalEntry). l ++ rest) d.longer ∙ append_assoc run.was d.more rest))
    (λ n less. last n (omega (arith, less, longer)) ∙ below_with n t ts (λ is. absurd (omega (arith, less, is, count)))) run.before in
    let one = outcome_of s entries w seats (tasks (length ts)) tries t run.was own rest run.last known.rises (known.dim (length ts)) known.seats_are known.noted names.0 fits.0 whole (λ won less. last (length run.was) less ∙ head_with (length run.was) t ts won count) o in
    subst (λ (l : List Tried). Part s entries w tasks (t ∷ ts) l own) (sym run.all) (part_more s entries w tasks t ts run.earlier run.last run.was own d count p one)

-- what all tries of a worker show
pub record Judged (s : Scene) (entries : List JournalEntry) (w : ℕ) (tasks : ℕ → Task) (tries : List Try) (answers : List Tried) : Type 0 where
  pub outcomes : Outcomes s entries w tasks 0 0 (marks_of tries) answers
  pub numbers : seqs (mine entries s.round w) ≡ numbers_in answers
  pub up : CountUp (numbers_in answers)

pub judged : (s : Scene) (entries : List JournalEntry) (w seats : ℕ) (tasks : ℕ → Task) (tries : List Try) (answers : List Tried) (own : List JournalEntry) → Settled s entries w seats tasks tries → own ≡ mine entries s.round w → OwnAll tasks s.round w tries answers own → Judged s entries w tasks tries answers
judged s entries w seats tasks tries answers own known is (inl run) =
    let p = parts s entries w seats tasks tries known tries answers own [] known.noted.fits known.names (sym is ∙ sym (append-nil own)) (λ n less. refl) run in
    record { outcomes = p.outcomes; numbers = ap seqs (sym is) ∙ sym p.numbers; up = p.up }
judged s entries w seats tasks tries answers own known is (inr stop) =
    let p = parts s entries w seats tasks tries known tries stop.earlier own [] known.noted.fits known.names (sym is ∙ sym (append-nil own)) (λ n less. refl) stop.before in
    let same : numbers_in (stop.earlier ++ Quit ∷ []) ≡ numbers_in stop.earlier = numbers_more stop.earlier Quit ∙ append-nil (numbers_in stop.earlier) in
    subst (λ (l : List Tried). Judged s entries w tasks tries l) (sym stop.all) record {
      outcomes = outcomes_quit s entries w tasks 0 0 (marks_of tries) stop.earlier p.long p.outcomes;
      numbers = ap seqs (sym is) ∙ sym p.numbers ∙ sym same;
      up = let P : List ℕ → Type 0 = λ l. CountUp l in subst P (sym same) p.up;
    }
