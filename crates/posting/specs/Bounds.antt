-- Totals that are far from the end of 64 bits, as those of at most 999 records are. No promise of a public call speaks of it.
-- Assumes nothing.
use Rattle.std.specs.Prelude.{◌<◌}
use Rattle.posting.specs.declared.Totals.{Totals}

pub record Small (t : Totals) : Type 0 where
  pub live : t.live < 1000
  pub cancelled : t.cancelled < 1000
  pub cash : t.cash.0 < 100000000000000
  pub price : t.price.0 < 100000000000000
