-- `posting::checked_among`.
use Rattle.std.proofs.Common.{ℕ}
use native.Mathlib.Omega.{arith}
use lib.ListN.{length-replicate}
use Rattle.index.proofs.Slots.{indexed_none}
use Rattle.posting.proofs.checked_among.Goals as goal

pub whole_as_slice-checked : goal.whole_as_slice-checked
whole_as_slice-checked g c = omega (arith, c.requires.2)

pub checked-requires : goal.checked-requires
checked-requires g c = (c.requires.0, record { room = omega (arith, c.requires.1, length-replicate {A = ℕ} g.row.N 0); none = indexed_none _ 0 g.row.N })
