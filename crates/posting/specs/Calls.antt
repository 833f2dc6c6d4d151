-- What the public calls promise that add totals up.
-- Assumes nothing.
use Rattle.std.specs.Prelude.{ℕ, ◌+◌, ◌^◌, Bool, cond, ◌&&◌, ltb, Option, Some, None}
use Rattle.posting.specs.declared.Totals.{Totals}
use Rattle.posting.specs.File.{plus_totals}

-- a sum of 64 bits
abbrev pub fits : ℕ → Bool
fits n = ltb n (2 ^ 64)

-- none exactly where one of the four sums does not fit
unfoldable pub sum_of_totals : Totals → Totals → Option Totals
sum_of_totals s t =
    cond (fits (s.live + t.live) && fits (s.cancelled + t.cancelled) && fits (s.cash.0 + t.cash.0) && fits (s.price.0 + t.price.0))
    (Some (plus_totals s t)) None
