-- `run_judged::printing::adler`: both sums stay below 65521.
use Rattle.std.proofs.Common.{◌<◌}
use Rattle.run_judged.proofs.printing.adler.Given as goal

abbrev pub invariant-loop-x : goal.invariant-loop-x
invariant-loop-x l = (l.a < 65521) × (l.b < 65521)
