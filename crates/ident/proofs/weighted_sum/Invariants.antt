-- `ident::weighted_sum`.
use Prim.Native.Nat.{◌+◌, ◌*◌, ◌≤◌}
use mathlib.Core.Path.{◌≡◌}
use lib.ListN.{length}
use Rattle.std.specs.Iterator.Adapters.{zip_first, zip_second}
use Rattle.std.specs.Slice.Iter.{iter_rest}
use Rattle.ident.specs.Identifier.{weights_for, weighted}
use Rattle.ident.proofs.weighted_sum.Given as goal

abbrev pub invariant-loop-weight : goal.invariant-loop-weight
invariant-loop-weight l =
    let weights = iter_rest (zip_first l.weight-iterator) in
    let digits = iter_rest (zip_second l.weight-iterator) in
    (l.sum + 53040 * length digits ≤ 53040 * 9) × (l.sum + weighted weights digits ≡ weighted (weights_for (length l.digits)) l.digits)
