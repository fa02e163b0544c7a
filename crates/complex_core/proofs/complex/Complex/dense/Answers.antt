use Rattle.std.proofs.Common.{◌≡◌, ◌++◌, List, ℕ, ◌∙◌, ap, sym, subst}
use Rattle.complex_core.specs.Labels.{IsRising}
use Rattle.complex_core.specs.Maps.{used, greatest, next_after, numbered, names_of}
use Rattle.complex_core.proofs.Renaming.{named, spare_added, none_refused, some_renamed, dense_taken, dense_back}
use Rattle.complex_core.proofs.complex.Complex.dense.Goals as goal

pub numbering-requires : goal.numbering-requires
numbering-requires c =
    let k = c.args.self.now in
    let P : List ℕ → Type 0 = λ xs. IsRising xs in
    let e : c.deref-2.result.now ≡ used k.facets ++ next_after (greatest (used k.facets)) c.args.room = spare_added k.facets c.in_ok-labels.labels.items c.deref.result.now c.add_spare.new.labels.items c.deref-2.result.now c.greatest_of-greatest.result c.args.room c.in_ok-labels.ensures c.deref.ensures.value c.greatest_of-greatest.ensures c.in_ok-add_spare.ensures c.deref-2.ensures.value in
    subst P (sym e) (named k c.args.room c.facets.ensures.complex).labels

pub unreachable-requires : goal.unreachable-requires
unreachable-requires c =
    let k = c.args.self.now in
    let e : c.deref-2.result.now ≡ used k.facets ++ next_after (greatest (used k.facets)) c.args.room = spare_added k.facets c.in_ok-labels.labels.items c.deref.result.now c.add_spare.new.labels.items c.deref-2.result.now c.greatest_of-greatest.result c.args.room c.in_ok-labels.ensures c.deref.ensures.value c.greatest_of-greatest.ensures c.in_ok-add_spare.ensures c.deref-2.ensures.value in
    none_refused k c.args.room c.in_ok-names.names c.in_ok-places.places c.in_ok-dense.field-0 c.facets.ensures.complex (c.in_ok-names.ensures ∙ ap (numbered 1) e) c.in_ok-places.ensures c.in_ok-dense.ensures c.in-None.is

pub returns-clause-dense : goal.returns-clause-dense
returns-clause-dense c =
    let k = c.args.self.now in
    let e : c.deref-2.result.now ≡ used k.facets ++ next_after (greatest (used k.facets)) c.args.room = spare_added k.facets c.in_ok-labels.labels.items c.deref.result.now c.add_spare.new.labels.items c.deref-2.result.now c.greatest_of-greatest.result c.args.room c.in_ok-labels.ensures c.deref.ensures.value c.greatest_of-greatest.ensures c.in_ok-add_spare.ensures c.deref-2.ensures.value in
    some_renamed k c.args.room c.in_ok-names.names c.in_ok-places.places c.in_ok-dense.field-0 c.in-Some.dense c.facets.ensures.complex (c.in_ok-names.ensures ∙ ap (numbered 1) e) c.in_ok-places.ensures c.in_ok-dense.ensures c.in-Some.is

pub returns-clause-taken : goal.returns-clause-taken
returns-clause-taken c =
    let k = c.args.self.now in
    let e : c.deref-2.result.now ≡ used k.facets ++ next_after (greatest (used k.facets)) c.args.room = spare_added k.facets c.in_ok-labels.labels.items c.deref.result.now c.add_spare.new.labels.items c.deref-2.result.now c.greatest_of-greatest.result c.args.room c.in_ok-labels.ensures c.deref.ensures.value c.greatest_of-greatest.ensures c.in_ok-add_spare.ensures c.deref-2.ensures.value in
    let names : c.in_ok-names.names ≡ names_of k.facets c.args.room = c.in_ok-names.ensures ∙ ap (numbered 1) e in
    dense_taken k c.args.room c.in_ok-names.names c.in-Some.dense c.facets.ensures.complex names (some_renamed k c.args.room c.in_ok-names.names c.in_ok-places.places c.in_ok-dense.field-0 c.in-Some.dense c.facets.ensures.complex names c.in_ok-places.ensures c.in_ok-dense.ensures c.in-Some.is)

pub returns-clause-back : goal.returns-clause-back
returns-clause-back c =
    let k = c.args.self.now in
    let e : c.deref-2.result.now ≡ used k.facets ++ next_after (greatest (used k.facets)) c.args.room = spare_added k.facets c.in_ok-labels.labels.items c.deref.result.now c.add_spare.new.labels.items c.deref-2.result.now c.greatest_of-greatest.result c.args.room c.in_ok-labels.ensures c.deref.ensures.value c.greatest_of-greatest.ensures c.in_ok-add_spare.ensures c.deref-2.ensures.value in
    let names : c.in_ok-names.names ≡ names_of k.facets c.args.room = c.in_ok-names.ensures ∙ ap (numbered 1) e in
    dense_back k c.args.room c.in_ok-names.names c.in-Some.dense c.facets.ensures.complex names (some_renamed k c.args.room c.in_ok-names.names c.in_ok-places.places c.in_ok-dense.field-0 c.in-Some.dense c.facets.ensures.complex names c.in_ok-places.ensures c.in_ok-dense.ensures c.in-Some.is)
