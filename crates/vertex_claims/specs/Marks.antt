-- The marks of tries.
use Rattle.std.specs.Prelude.{cond, List, [], ◌∷◌, ◌++◌}
use Rattle.board_rule.specs.Tries.{Try}
use Rattle.vertex_claims.specs.declared.mark.Found.TheVariants.{Won, Lost}
use Rattle.vertex_claims.specs.declared.mark.Mark.{Mark}

-- a try less its note
abbrev pub mark_of : Try → Mark
mark_of t = record { place = t.place; found = cond t.won (Won t.found) (Lost t.found); vertices = t.vertices; journal = t.journal; last = t.last; owner = t.owner }

-- the marks in order, of tries of which the latest comes first
abbrev pub marks_of : List Try → List Mark
marks_of [] = []
marks_of (t ∷ ts) = marks_of ts ++ mark_of t ∷ []
