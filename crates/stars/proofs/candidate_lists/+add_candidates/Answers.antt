use Rattle.std.proofs.Common.{rules, ◌≡◌, ◌∷◌, ◌≤◌, ◌+◌, ◌-◌, length, arith}
use Rattle.std.proofs.lemmas.Result.{on_ok_weaker}
use Rattle.complex_core.specs.Labels.{with}
use Rattle.stars.specs.CandidateLists.{belongs}
use Rattle.stars.proofs.Deciding.{can_add, with_first, without_first, one_longer, adds_both}
use Rattle.stars.proofs.candidate_lists.+add_candidates.Goals as goal

pub unwrap-more-requires : goal.unwrap-more-requires
unwrap-more-requires t c = can_add c.args.face.now c.args.labels.now c.in-Some.rest.now c.in-Some.label.now c.args.others c.with.result c.requires.face c.in-Some.ensures.cases.0 c.requires.few c.if-others-eq0.false c.with.ensures

pub add_candidates-requires : goal.add_candidates-requires
add_candidates-requires t c =
    let e : c.args.labels.now ≡ c.in-Some.label.now ∷ c.in-Some.rest.now = c.in-Some.ensures.cases.0 in
    let is : c.unwrap-more.result ≡ with c.args.face.now c.in-Some.label.now = (search rules) in
    let few : length c.unwrap-more.result + (c.args.others - 1) ≤ 8 = omega (arith, one_longer c.args.face.now c.args.labels.now c.in-Some.rest.now c.unwrap-more.result c.in-Some.label.now c.requires.face e is, c.requires.few, c.if-others-eq0.false) in
    ((search rules), (c.requires.low, (c.requires.high, (with_first c.args.face.now c.args.labels.now c.in-Some.rest.now c.unwrap-more.result c.in-Some.label.now c.requires.face e is, few))))

pub add_candidates-requires-2 : goal.add_candidates-requires-2
add_candidates-requires-2 t c =
    ((search rules), (c.requires.low, (c.requires.high, (without_first c.args.face.now c.args.labels.now c.in-Some.rest.now c.in-Some.label.now c.requires.face c.in-Some.ensures.cases.0, c.requires.few))))

pub returns : goal.returns
returns t c =
    let is : c.unwrap-more.result ≡ with c.args.face.now c.in-Some.label.now = (search rules) in
    on_ok_weaker c.add_candidates-2.result (adds_both (belongs c.args.star.now.star c.args.index) c.args.face.now c.args.labels.now c.in-Some.rest.now c.unwrap-more.result c.in-Some.label.now c.args.others c.args.all.now.items c.add_candidates.new.all.items c.add_candidates-2.new.all.items c.requires.face c.in-Some.ensures.cases.0 is c.if-others-eq0.false c.in_ok-add_candidates.ensures)
    c.add_candidates-2.ensures
