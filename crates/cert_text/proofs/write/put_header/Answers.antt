use Rattle.std.proofs.Common.{◌++◌, ◌∷◌, [], ◌∙◌, codes, append_assoc}
use Rattle.cert_text.proofs.write.put_header.Goals as goal

pub returns-clause-ok : goal.returns-clause-ok
returns-clause-ok c =
    let out = c.args.out.now.items in
    rw (c.in_ok-push.ensures.items, c.in_ok-extend_from_slice-2.ensures.items, c.in_ok-extend_from_slice.ensures.items)
    (append_assoc (out ++ codes "bistellar 1 ") c.args.kind.now (10 ∷ []) ∙ append_assoc out (codes "bistellar 1 ") (c.args.kind.now ++ 10 ∷ []))
