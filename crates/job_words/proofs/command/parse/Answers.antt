use Rattle.std.proofs.Common.{◌≡◌, ◌∙◌, ap, refl, sym, true, false, List, [], ◌∷◌, length, inl, inr, arith, ◌==◌}
use Rattle.clap.specs.Words.{App, Text, Kinds, HasKind, IsAmong, fault_of, matches_of, is_simple, is_simple_and_free, kind_of}
use Rattle.clap.specs.declared.error.Error.{Error}
use Rattle.clap.specs.declared.error.kind.ErrorKind.{ErrorKind}
use Rattle.clap.specs.declared.error.kind.ErrorKind.TheVariants as error
use Rattle.job_words.specs.Command.{is_taken, rows, the_app}
use Rattle.job_words.proofs.Reading.{are_read, free_app, simple_app}
use Rattle.job_words.proofs.command.parse.Goals as goal

taken_from : (a : App) (ws : List Text) → a ≡ the_app → fault_of a ws ≡ [] → is_taken ws ≡ true
unfolding is_taken
taken_from a ws e none = ap (λ (x : App). length (fault_of x ws) == 0) (sym e) ∙ ap (λ (k : Kinds). length k == 0) none

rows_from : (a : App) (ws : List Text) → a ≡ the_app → matches_of a ws ≡ rows ws
unfolding rows
rows_from a ws e = ap (λ (x : App). matches_of x ws) e

some_fault : (k : ErrorKind) (kinds : Kinds) → IsAmong k kinds → (length kinds == 0) ≡ false
some_fault k [] h = absurd h
some_fault k (x ∷ xs) h = grind arith

refused_from : (a : App) (ws : List Text) (k : ErrorKind) → a ≡ the_app → IsAmong k (fault_of a ws) → is_taken ws ≡ false
unfolding is_taken
refused_from a ws k e among = ap (λ (x : App). length (fault_of x ws) == 0) (sym e) ∙ some_fault k (fault_of a ws) among

refusal : (a : App) (ws : List Text) (e : Error) (k : ErrorKind) → a ≡ the_app → k ≡ kind_of e → (k ≡ error.OutOfMemory → ⊥) → HasKind (fault_of a ws) e → is_taken ws ≡ false
refusal a ws e k app is other (inl memory) = absurd (other (is ∙ memory))
refusal a ws e k app is other (inr among) = refused_from a ws (kind_of e) app among

pub returns-in-Ok-clause-taken : goal.returns-in-Ok-clause-taken
returns-in-Ok-clause-taken c = taken_from _ _ c.in_ok-command.ensures (c.in-Ok.ensures.kinds (ap is_simple_and_free c.in_ok-command.ensures ∙ free_app))

pub returns-in-Ok-clause-rows : goal.returns-in-Ok-clause-rows
returns-in-Ok-clause-rows c = (c.in-Ok.ensures.matches (ap is_simple c.in_ok-command.ensures ∙ simple_app)).0 ∙ rows_from _ _ c.in_ok-command.ensures

pub returns-in-Ok-clause-read : goal.returns-in-Ok-clause-read
returns-in-Ok-clause-read c = are_read _ _ c.in_ok-command.ensures c.in-Ok.ensures.parsed

pub returns-clause-err : goal.returns-clause-err
returns-clause-err c =
    inr (refl, refusal _ _ c.in-Err.error c.kind.result c.in_ok-command.ensures c.kind.ensures c.in_default.not-OutOfMemory (c.in-Err.ensures.kinds (ap is_simple_and_free c.in_ok-command.ensures ∙ free_app)))
