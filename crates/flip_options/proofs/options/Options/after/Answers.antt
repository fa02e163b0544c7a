use Rattle.std.proofs.Common.{◌≡◌, Some, sym, ◌∙◌, ap}
use Rattle.flip_options.specs.OptionViews.{found_flips, has_sizes}
use Rattle.flip_options.proofs.Making.{step_fits, after_made}
use Rattle.flip_options.proofs.options.Options.after.Goals as goal

pub unreachable-requires-in_default-union : goal.unreachable-requires-in_default-union
unreachable-requires-in_default-union c = c.in_default-union.ensures (step_fits c.requires.0 _ _ _ c.requires.1)

pub returns-clause-ok : goal.returns-clause-ok
returns-clause-ok c =
    let e : c.self.inside.candidates ≡ Some c.in-Some.candidates = sym c.take.ensures.value ∙ c.in-Some.is in
    after_made c.args.stars.now c.args.flip.now c.args.self.now c.in-Some.candidates c.refresh_parts.new.candidates c.refresh_side.new.candidates c.refresh_side-2.new.candidates c.in-Some-union.all (sym c.self.view_is ∙ ap found_flips e) (ap has_sizes (sym e) ∙ c.self.invariant) c.in-Some-union.ensures.1 c.in_ok-refresh_parts.ensures c.in_ok-refresh_side.ensures c.in_ok-refresh_side-2.ensures c.len-ordered.ensures.ordered
