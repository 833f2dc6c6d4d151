-- What reading a buffer full promises. Of a reader that says which bytes it has left, these are known; of a file they are not.
use Rattle.std.specs.Prelude.{ℕ, ◌<◌, List, Option, Result, length, take, IfOk}
use Rattle.std.specs.Io.KnownBytes.{Consumes, IsAtEnd}
use Rattle.streams.specs.Counts.{IsPrefixLen}

-- so many bytes came: they stand at the buffer's start and are gone from what was left, and where there is room behind them, nothing is left
pub record Came (old new : Option (List ℕ)) (n : ℕ) (buffer : List ℕ) : Type 0 where
  pub within : IsPrefixLen n buffer
  pub front : Consumes old new (take n buffer)
  pub end : n < length buffer → IsAtEnd new

abbrev pub ReadFull : {E : Type 0} → Option (List ℕ) → Option (List ℕ) → Result ℕ E → List ℕ → Type 0
ReadFull old new r buffer = IfOk r (λ n. Came old new n buffer)
