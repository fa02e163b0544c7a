use Rattle.std.proofs.Common.{rules}
use Rattle.cert_text.specs.Statements.{statement}
use Rattle.cert_replay.proofs.OneAnswer.{valid_iff}
use Rattle.cert_replay.proofs.judge.replay.Goals as goal

pub returns-in-Sphere-clause-valid : goal.returns-in-Sphere-clause-valid
returns-in-Sphere-clause-valid c = valid_iff c.args.complex.now (statement c.args.certificate.now) c.replay_sphere.result (search rules)

pub returns-in-Equal-clause-valid : goal.returns-in-Equal-clause-valid
returns-in-Equal-clause-valid c = valid_iff c.args.complex.now (statement c.args.certificate.now) c.replay_equal.result (search rules)

pub returns-in-Manifold-clause-valid : goal.returns-in-Manifold-clause-valid
returns-in-Manifold-clause-valid c = valid_iff c.args.complex.now (statement c.args.certificate.now) c.replay_manifold.result (search rules)
