-- `closing::sets::all_marked`.
use native.Mathlib.Omega.{arith}
use mathlib.Core.Path.{◌≡◌, ap, ◌∙◌}
use mathlib.Core.Bool.{not}
use Prim.Native.Nat.{◌+◌, ◌-◌}
use Rattle.closing.proofs.SetWays.{marks_from}
use Rattle.closing.proofs.sets.all_marked.Goals as goal

pub returns : goal.returns
returns c =
    let most : c.args.n + 1 - 1 ≡ c.args.n = omega arith in
    ap not c.contains.ensures.value ∙ rw most (marks_from c.args.seen.now c.args.n (omega (arith, c.told-seen)))
