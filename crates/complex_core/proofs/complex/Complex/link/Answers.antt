use Rattle.std.proofs.Common.{◌≡◌, ◌<◌, length, rules}
use Rattle.complex_core.proofs.LinkFaces.{link_pure, link_made, no_face, some_face}
use Rattle.complex_core.proofs.complex.Complex.link.Goals as goal

pub returns-then-is_empty : goal.returns-then-is_empty
returns-then-is_empty c =
    let none : length c.in_ok-around.around.items ≡ 0 = search rules in
    no_face c.args.self.now.facets c.in_ok-around.around.items c.args.face.now c.requires.some c.in_ok-around.ensures none

pub sorted-requires-clause-pure : goal.sorted-requires-clause-pure
sorted-requires-clause-pure c = link_pure c.args.self.now c.args.face.now c.dim.result c.len.result c.in_ok-around.around.items c.deref.result.now c.in_ok-facets.facets.items c.dim.ensures.complex c.len.ensures.face c.requires.proper c.dim.ensures.dim c.len.ensures.len c.in_ok-around.ensures c.deref.ensures.value c.in_ok-facets.ensures

pub returns : goal.returns
returns c =
    let some : 0 < length c.in_ok-around.around.items = search rules in (
      some_face c.args.self.now.facets c.in_ok-around.around.items c.args.face.now c.requires.some c.in_ok-around.ensures some,
      link_made c.args.self.now c.args.face.now c.dim.result c.len.result c.in_ok-around.around.items c.deref.result.now c.in_ok-facets.facets.items c.sorted.result c.dim.ensures.dim c.len.ensures.len c.in_ok-around.ensures c.deref.ensures.value c.in_ok-facets.ensures c.sorted.ensures,
    )
