-- `batch::places::write_line`.
use Rattle.std.proofs.Common.{sym, ◌∙◌, arith}
use lib.Seq.{take_all, length-take-le}
use Rattle.batch.proofs.ActionWays.{line_written}
use Rattle.batch.proofs.places.write_line.Goals as goal

pub slice_bounds-copy-end-2 : goal.slice_bounds-copy-end-2
slice_bounds-copy-end-2 c = sym (length-take-le 399 c.args.place.now (omega (arith, c.requires.0)))

pub slice_bounds-copy-end-3 : goal.slice_bounds-copy-end-3
slice_bounds-copy-end-3 c = sym (length-take-le 399 c.args.rec.now (omega (arith, c.requires.1)))

pub copy-requires : goal.copy-requires
copy-requires c = length-take-le 399 c.args.place.now (omega (arith, c.requires.0)) ∙ sym (length-take-le 399 c.args.rec.now (omega (arith, c.requires.1)))

pub returns : goal.returns
returns c = line_written _ _ _ _ c.requires.0 c.requires.1 (c.copy.ensures ∙ take_all 399 c.args.rec.now (omega (arith, c.requires.1))) c.copy-2.ensures
