-- `fields::amounts::hellers_in`.
use native.Mathlib.Omega.{arith}
use Rattle.fields.proofs.AmountWays.{nine_digits, crowns_fit, hellers_fit, hellers_are}
use Rattle.fields.proofs.amounts.hellers_in.Goals as goal

pub overflow_add-a : goal.overflow_add-a
overflow_add-a c = omega (arith, nine_digits c.args.f.now c.args.crowns c.requires)

pub overflow_add-e : goal.overflow_add-e
overflow_add-e c = omega (arith, nine_digits c.args.f.now c.args.crowns c.requires)

pub slice_bounds-number-end : goal.slice_bounds-number-end
slice_bounds-number-end c = omega (arith, nine_digits c.args.f.now c.args.crowns c.requires)

pub overflow_mul-result : goal.overflow_mul-result
overflow_mul-result c = search crowns_fit

pub slice_bounds-number-end-2 : goal.slice_bounds-number-end-2
slice_bounds-number-end-2 c =
    omega (arith, nine_digits c.args.f.now c.args.crowns c.requires)

pub overflow_add-result : goal.overflow_add-result
overflow_add-result c = search hellers_fit

pub returns : goal.returns
returns c = search hellers_are
