-- What a source or a sink in memory holds, and what one call makes of it.
use Rattle.std.specs.Prelude.{◌≡◌, ℕ, ◌-◌, ◌<◌, min, ◌⊎◌, List, ◌++◌, length, take, drop, Contains}
use Rattle.flip_io.specs.Causes.{one_more}

-- a source: the bytes that are left, the most that a call gives, the numbers of the calls that fail, how many calls and faults there were
pub record Supply : Type 0 where
  pub bytes : List ℕ
  pub piece : ℕ
  pub fails : List ℕ
  pub calls : ℕ
  pub faults : ℕ

-- the source's next call is one that fails
abbrev pub FailsNext : Supply → Type 0
FailsNext s = Contains s.fails (one_more s.calls)

-- the source after a call that failed
abbrev pub after_fault : Supply → Supply
after_fault s = record s { calls = one_more s.calls; faults = one_more s.faults }

-- the source after a call that gave n bytes
abbrev pub after_read : Supply → ℕ → Supply
after_read s n = record s { bytes = drop n s.bytes; calls = one_more s.calls }

-- n bytes were given, as many as leave, supply and buffer allow: they stand at the front of the buffer, the rest of it is as it was
pub record Fills (most : ℕ) (left old new : List ℕ) (n : ℕ) : Type 0 where
  pub count : n ≡ min most (min (length left) (length old))
  pub front : new ≡ take n left ++ drop n old

-- a sink: the bytes that were written, the room that is left, the most that a call takes, the numbers of the calls that fail, how many calls and faults there were
pub record Store : Type 0 where
  pub bytes : List ℕ
  pub room : ℕ
  pub piece : ℕ
  pub fails : List ℕ
  pub calls : ℕ
  pub faults : ℕ

-- the sink can take none of the bytes, and there are some
abbrev pub IsStuck : Store → List ℕ → Type 0
IsStuck s bytes = (0 < length bytes) × (min s.piece s.room ≡ 0)

-- the sink's next call on the bytes is one that fails: it is listed, or the sink is stuck
abbrev pub Refuses : Store → List ℕ → Type 0
Refuses s bytes = Contains s.fails (one_more s.calls) ⊎ IsStuck s bytes

-- the sink after a call that failed
abbrev pub after_refusal : Store → Store
after_refusal s = record s { calls = one_more s.calls; faults = one_more s.faults }

-- n is the least of the most that a call takes, of the room and of the bytes
abbrev pub TakesBy : Store → List ℕ → ℕ → Type 0
TakesBy s bytes n = n ≡ min (min s.piece s.room) (length bytes)

-- the sink after a call that took the first n bytes
abbrev pub after_write : Store → List ℕ → ℕ → Store
after_write s bytes n = record s { bytes = s.bytes ++ take n bytes; room = s.room - n; calls = one_more s.calls }
