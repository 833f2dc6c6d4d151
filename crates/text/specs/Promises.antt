-- What a call promises that gives one value, as its result or in a lent part: it is this one, a definition of what came in.
use Rattle.std.specs.Prelude.{◌≡◌}

abbrev pub Gives : {A : Type 0} → A → A → Type 0
Gives value r = r ≡ value

-- the same, with bounds of the value beside it, which spare callers a proof
abbrev pub GivesWithin : {A : Type 0} → A → (A → Type 0) → A → Type 0
GivesWithin value Bounds r = (r ≡ value) × Bounds r
