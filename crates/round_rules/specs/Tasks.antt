-- What a try is told, and the flips that it proposes.
use Rattle.std.specs.Prelude.{ℕ, ◌-◌, ◌*◌, ◌%◌, ℤ, pos, ◌+ℤ◌, ◌-ℤ◌, List, [], ◌∷◌, length, slice_index}
use Rattle.complex_core.specs.Complexes.{ComplexView}
use Rattle.complex_core.specs.Maps.{used}
use Rattle.flip_rules.specs.declared.flip.Flip.{Flip}
use Rattle.stars.specs.StarViews.{VertexStar}
use Rattle.anneal_plan.specs.Numbers.{Numbers}
use Rattle.anneal_plan.specs.Limits.{phase_at}
use Rattle.anneal_plan.specs.Places.{free_of}
use Rattle.anneal_plan.specs.Turns.{turns}
use Rattle.anneal_plan.specs.Words.{draw_at, stream_of, stream_number}
use Rattle.anneal_plan.specs.declared.plan.Phase.{Phase}

-- the dimension, the phase and the words of a try, the places that were used and that were free when the round started, and how many flips a try may have
pub record Task : Type 0 where
  pub dim : ℕ
  pub phase : Phase
  pub words : List ℕ
  pub live : List ℕ
  pub free : List ℕ
  pub depth : ℕ

-- the place at which the try begins: word 0 chooses it
abbrev pub place_of : Task → ℕ
place_of task = slice_index task.live (slice_index task.words 0 % length task.live)

-- the flips that it proposes at this star
abbrev pub turns_of : Task → VertexStar → List Flip
turns_of task s = turns s task.phase task.words task.free task.depth

-- by how much a flip changes the number of facets: by d - 2 i, where its index i is one less than the size of B
abbrev pub change : ℕ → Flip → ℤ
change d f = pos d -ℤ pos (2 * (length f.b - 1))

-- and flips one after another
abbrev pub changes : ℕ → List Flip → ℤ
changes d [] = pos 0
changes d (f ∷ fs) = change d f +ℤ changes d fs

-- ---- rounds

-- a round: the complex that it starts with, its greatest place, its number, and the numbers of the plan
pub record Scene : Type 0 where
  pub start : ComplexView
  pub places : ℕ
  pub round : ℕ
  pub plan : Numbers

-- what try t of a worker is told, counted from 0: its words are number t of the draws of the worker's stream
abbrev pub task_at : Scene → ℕ → ℕ → Task
task_at s worker t = record {
  dim = s.start.dim;
  phase = phase_at s.plan t;
  words = draw_at (stream_of s.plan.seed (stream_number s.round worker)) t;
  live = used s.start.facets;
  free = free_of s.start.facets s.places;
  depth = s.plan.depth;
}
