-- `psc::find`.
use Rattle.std.proofs.Common.{◌≡◌, ◌-◌, ◌≤◌, ◌||◌, length}
use Rattle.psc.specs.Search.{found_in, found}
use Rattle.psc.proofs.find.Given as goal

abbrev pub invariant-loop-look : goal.invariant-loop-look
invariant-loop-look l = (l.high ≤ length l.table) × ((l.hit || found_in (14 - l._look) l.table l.low l.high l.n) ≡ found l.table l.n)
