-- What holds of the parts of a world, beside the core that they are.
use Rattle.std.specs.Prelude.{◌≡◌, ℕ, ◌-◌, ◌<◌, List, length, get_or}
use Rattle.complex_core.specs.Complexes.{ComplexView, IsComplex}
use Rattle.core_laws.specs.Cores.{Core, IsWorker, workers_of, complex_of, of_worker}
use Rattle.core_laws.specs.Serials.{Serial}

-- the start is a complex, the complex kept is that of the core, there is a place, each worker's entries are counted,
-- and the core is serial
pub record IsWorld (core : Core) (complex : ComplexView) (written : List ℕ) : Type 0 where
  pub start : IsComplex core.start
  pub complex_is : complex ≡ complex_of core
  pub some : 0 < length core.owners
  pub each_worker : length written ≡ workers_of core
  pub counted : (worker : ℕ) → IsWorker core worker → get_or written (worker - 1) 0 ≡ length (of_worker core.journal worker)
  pub serial : Serial core
