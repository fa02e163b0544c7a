use Rattle.std.proofs.Common.{◌≡◌, ◌+◌, ◌∙◌, ℕ, Bool, true, false, cond, refl, sym, ap}
use mir.Val.{bool_byte}
use mathlib.Core.Option.{some}
use Rattle.board_rule.specs.Homes.{VersionedStar}
use Rattle.board_rule.specs.declared.data.Slot.TheVariants.{Home}
use Rattle.held_stars.proofs.Claims.{put_here}
use Rattle.held_stars.proofs.GivenUp.{version_fits}
use Rattle.held_stars.proofs.ending.send_home.Goals as goal

byte_is : (b : Bool) → bool_byte b ≡ cond b 1 0
byte_is true = refl
byte_is false = refl

pub returns-clause-slot : goal.returns-clause-slot
returns-clause-slot c = λ x here same.
    let fits = version_fits c.args.pass.now c.args.flips.now c.args.place c.take_star.result x c.requires.slots here c.take_star.ensures.star in
    let counted : c.into_parts-empty.result.1 + c.from.result ≡ x.version =
    ap (λ (n : ℕ). n + c.from.result) c.into_parts-empty.ensures.version ∙ (ap (λ (n : ℕ). c.take_star.result.version + n) (c.from.ensures ∙ (byte_is c.touched.result ∙ ap (λ (b : Bool). cond {A = ℕ} b 1 0) c.touched.ensures)) ∙ sym fits) in
    put_here c.take_star.new.self c.put_star.new.self c.args.place (some (Home c.new.result)) c.put_star.ensures.slots ∙ ap (λ (y : VersionedStar). some (Home y)) (c.new.ensures ∙ (λ i. record { star = same i; version = counted i }))
