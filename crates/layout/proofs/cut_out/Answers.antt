-- `layout::cut_out`.
use Rattle.std.proofs.Common.{arith}
use Rattle.layout.proofs.Ways.{ends_within, cut_is}
use Rattle.layout.proofs.cut_out.Goals as goal

pub overflow_add-end : goal.overflow_add-end
overflow_add-end c = omega (arith, ends_within c.args.rec.now c.args.n c.requires)

pub slice_bounds-result-end : goal.slice_bounds-result-end
slice_bounds-result-end c = omega (arith, ends_within c.args.rec.now c.args.n c.requires)

pub returns : goal.returns
returns c = cut_is c.args.rec.now c.args.n c.requires
