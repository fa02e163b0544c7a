-- What a certificate shows of a complex, and what it is answered.
use Rattle.std.specs.Prelude.{◌≡◌, true, ℕ, ◌+◌, ◌≤◌, ◌⊎◌, List, [], ◌∷◌, ◌++◌, length, map, Some}
use Rattle.std.specs.List.{AllByRecursion, flat_map}
use Rattle.complex_core.specs.Complexes.{ComplexView}
use Rattle.complex_core.specs.Links.{link}
use Rattle.complex_core.specs.Maps.{used, takes_all, renamed}
use Rattle.flip_rules.specs.Flips.{replay}
use Rattle.flip_rules.specs.Boundaries.{IsBoundary}
use Rattle.flip_rules.specs.Certificates.{SphereCert, IsFirstIllegal}
use Rattle.flip_rules.specs.declared.flip.Flip.{Flip}
use Rattle.flip_rules.specs.declared.flip.Illegal.{Illegal}
use Rattle.cert_text.specs.Statements.{OfVertex, Statement, Sphere, Equal, Manifold}
use Rattle.cert_replay.specs.declared.judge.Replayed.{Replayed}
use Rattle.cert_replay.specs.declared.judge.Replayed.TheVariants.{Valid, Bad, WrongEnd}

-- ---- what certificates show

-- the map has a pair for each used label, and takes the complex to the target
pub record IsTakenTo (pairs : List (ℕ × ℕ)) (target k : ComplexView) : Type 0 where
  pub taken : takes_all pairs k.facets ≡ true
  pub image : renamed k pairs ≡ target

-- the flips are legal in order, and end in a complex that the map takes to the target
pub record EqualCert (k : ComplexView) (flips : List Flip) (pairs : List (ℕ × ℕ)) (target : ComplexView) : Type 0 where
  pub end : ComplexView
  pub replays : replay k flips ≡ Some end
  pub reaches : IsTakenTo pairs target end

-- the link of a vertex
abbrev pub link_at : ComplexView → ℕ → ComplexView
link_at k v = link k (v ∷ [])

-- the flips of a vertex show that its link is a sphere
abbrev pub ShowsLink : ComplexView → OfVertex → Type 0
ShowsLink k v = SphereCert (link_at k v.0) v.1

-- the lists are those of exactly the used labels, rising
abbrev pub NamesVertices : ComplexView → List OfVertex → Type 0
NamesVertices k lists = map (λ v. v.0) lists ≡ used k.facets

-- and each shows that the link of its vertex is a sphere
pub record ManifoldCert (k : ComplexView) (lists : List OfVertex) : Type 0 where
  pub vertices : NamesVertices k lists
  pub links : AllByRecursion (ShowsLink k) lists

-- the certificate shows what it states
abbrev pub Certifies : ComplexView → Statement → Type 0
Certifies k (Sphere flips) = SphereCert k flips
Certifies k (Equal target flips pairs) = EqualCert k flips pairs target
Certifies k (Manifold lists) = ManifoldCert k lists

-- a certificate of a manifold needs links: the dimension is at least 1
abbrev pub HasLinks : ComplexView → Statement → Type 0
HasLinks k (Sphere flips) = Unit {0}
HasLinks k (Equal target flips pairs) = Unit {0}
HasLinks k (Manifold lists) = 1 ≤ k.dim

-- ---- what a list of flips is answered, where its end is stated to be of some kind

-- the flips are legal in order and end as stated; these are the numbers of flips and of facets of the end
pub record EndsAsStated (Stated : ComplexView → Type 0) (k : ComplexView) (flips : List Flip) (many facets : ℕ) : Type 0 where
  pub end : ComplexView
  pub replays : replay k flips ≡ Some end
  pub stated : Stated end
  pub counted : many ≡ length flips
  pub left : facets ≡ length end.facets

-- the flips are legal in order and end in another complex
pub record EndsElsewhere (Stated : ComplexView → Type 0) (k : ComplexView) (flips : List Flip) : Type 0 where
  pub end : ComplexView
  pub replays : replay k flips ≡ Some end
  pub other : Stated end → ⊥

abbrev pub IsListAnswer : (ComplexView → Type 0) → ComplexView → List Flip → Replayed → Type 0
IsListAnswer Stated k flips (Valid many facets) = EndsAsStated Stated k flips many facets
IsListAnswer Stated k flips (Bad number reason) = IsFirstIllegal k flips number reason
IsListAnswer Stated k flips WrongEnd = EndsElsewhere Stated k flips

-- ---- what the lists of a manifold are answered

-- how many flips the lists have together
abbrev pub all_flips : List OfVertex → ℕ
all_flips lists = length (flat_map (λ v. v.1) lists)

-- all lists show what they state; these are the numbers of flips and of lists
pub record LinksShown (k : ComplexView) (lists : List OfVertex) (many count : ℕ) : Type 0 where
  pub certificate : ManifoldCert k lists
  pub counted : many ≡ all_flips lists
  pub listed : count ≡ length lists

-- the lists are those of the vertices, and those before this one show what they state
pub record IsFirstOpen (k : ComplexView) (lists before : List OfVertex) (list : OfVertex) : Type 0 where
  pub vertices : NamesVertices k lists
  pub after : List OfVertex
  pub are : lists ≡ before ++ list ∷ after
  pub shown : AllByRecursion (ShowsLink k) before

-- the first list that fails has an illegal flip, which has this number over all lists
pub record LinkBreaks (k : ComplexView) (lists : List OfVertex) (number : ℕ) (reason : Illegal) : Type 0 where
  pub before : List OfVertex
  pub list : OfVertex
  pub fails : IsFirstOpen k lists before list
  pub position : ℕ
  pub breaks : IsFirstIllegal (link_at k list.0) list.1 position reason
  pub counted : number ≡ all_flips before + position

-- the first list that fails is legal, and doesn't end in the boundary of a simplex
pub record LinkEndsElsewhere (k : ComplexView) (lists : List OfVertex) : Type 0 where
  pub before : List OfVertex
  pub list : OfVertex
  pub fails : IsFirstOpen k lists before list
  pub ends : EndsElsewhere IsBoundary (link_at k list.0) list.1

abbrev pub IsListsAnswer : ComplexView → List OfVertex → Replayed → Type 0
IsListsAnswer k lists (Valid many count) = LinksShown k lists many count
IsListsAnswer k lists (Bad number reason) = LinkBreaks k lists number reason
IsListsAnswer k lists WrongEnd = (NamesVertices k lists → ⊥) ⊎ LinkEndsElsewhere k lists

-- ---- what a certificate is answered

abbrev pub IsAnswer : ComplexView → Statement → Replayed → Type 0
IsAnswer k (Sphere flips) r = IsListAnswer IsBoundary k flips r
IsAnswer k (Equal target flips pairs) r = IsListAnswer (IsTakenTo pairs target) k flips r
IsAnswer k (Manifold lists) r = IsListsAnswer k lists r

abbrev pub IsValid : Replayed → Type 0
IsValid (Valid many facets) = Unit {0}
IsValid (Bad number reason) = ⊥
IsValid WrongEnd = ⊥

-- the answer is one
abbrev pub AnswerIsOne : Type 0
AnswerIsOne = (k : ComplexView) (c : Statement) (r s : Replayed) → IsAnswer k c r → IsAnswer k c s → r ≡ s
