use Rattle.flip_options.proofs.Partners.{some_label, other_count, none_over, other_size, refused}
use Rattle.flip_options.proofs.partner.partner.Goals as goal

pub returns-then-not-are_over : goal.returns-then-not-are_over
returns-then-not-are_over c = other_count _ _ _ _ _ _ c.dim-dim.ensures (some_label _ _ c.is_empty.ensures c.if-is_empty.false) c.len-2.ensures.len c.near-near_a.ensures.over c.are_over.ensures c.if-not-are_over.true

pub returns-in_default : goal.returns-in_default
returns-in_default c = none_over _ _ _ _ c.dim-dim.ensures (some_label _ _ c.is_empty.ensures c.if-is_empty.false) c.near-near_a.ensures.over c.in_default.ensures.labels

pub returns-then-len-dim-2 : goal.returns-then-len-dim-2
returns-then-len-dim-2 c = other_size _ _ _ _ _ _ c.dim-dim.ensures (some_label _ _ c.is_empty.ensures c.if-is_empty.false) c.near-near_a.ensures.over c.in-Some.ensures.labels c.len-3.ensures.len c.if-len-dim-2.true

pub returns-in-Err : goal.returns-in-Err
returns-in-Err c = let h = c.in-Err.is in refused _ _ _ _ _ _ _ _ _ c.dim.ensures (some_label _ _ c.is_empty.ensures c.if-is_empty.false) c.near-near_a.ensures.over c.near-near_b.ensures.over c.in-Some.ensures.labels c.less-other.ensures c.check_near.ensures.broken_rule c.in-Err.is
