-- `batch::test::test_with`.
use Rattle.batch.proofs.StateWays.{totals_eq, totals_ne}
use Rattle.batch.proofs.TestedWays.{test_short, test_fresh, test_stuck, test_held, test_marked, held_fits, held_inside, held_few, test_lines, test_rest, test_behind, test_totals, test_told}
use Rattle.batch.proofs.test.test_with.Goals as goal

pub returns-then-journal-c : goal.returns-then-journal-c
returns-then-journal-c c = test_short _ _ c.args.c _ _ c.requires _ c.if-journal-c.true

pub through-requires : goal.through-requires
through-requires c = test_fresh _ _ c.args.c _ _ c.requires c.if-journal-c.false

pub returns-in_err-reached : goal.returns-in_err-reached
returns-in_err-reached c = rw c.from_residual.ensures (test_stuck _ _ c.args.c _ _ c.requires _ _ _ c.through.ensures c.in_err-reached.was)

pub returns-then-reached-c : goal.returns-then-reached-c
returns-then-reached-c c = test_held _ _ c.args.c _ _ c.requires _ _ _ c.through.ensures _ c.in_ok-reached.was c.if-reached-c.true

pub lines_same-requires : goal.lines_same-requires
lines_same-requires c = test_marked _ _ c.args.c _ _ c.requires _ _ _ c.through.ensures _ c.in_ok-reached.was c.if-reached-c.false

pub returns-then-not-lines_same : goal.returns-then-not-lines_same
returns-then-not-lines_same c = test_lines _ _ c.args.c _ _ c.requires _ _ _ c.through.ensures _ c.in_ok-reached.was c.if-reached-c.false _ c.lines_same.ensures c.if-not-lines_same.true

pub overflow_mul-c : goal.overflow_mul-c
overflow_mul-c c = held_fits _ _ c.args.c _ _ c.requires _ _ _ c.through.ensures _ c.in_ok-reached.was c.if-reached-c.false

pub slice_bounds-zero-count : goal.slice_bounds-zero-count
slice_bounds-zero-count c = held_inside _ _ c.args.c _ _ c.requires _ _ _ c.through.ensures _ c.in_ok-reached.was c.if-reached-c.false

pub slice_bounds-zero-start : goal.slice_bounds-zero-start
slice_bounds-zero-start c = held_inside _ _ c.args.c _ _ c.requires _ _ _ c.through.ensures _ c.in_ok-reached.was c.if-reached-c.false

pub returns-then-not-zero : goal.returns-then-not-zero
returns-then-not-zero c = test_rest _ _ c.args.c _ _ c.requires _ _ _ c.through.ensures _ c.in_ok-reached.was c.if-reached-c.false _ c.lines_same.ensures c.if-not-lines_same.false _ c.zero.ensures c.if-not-zero.true

pub returns-then-not-zero-2 : goal.returns-then-not-zero-2
returns-then-not-zero-2 c = test_behind _ _ c.args.c _ _ c.requires _ _ _ c.through.ensures _ c.in_ok-reached.was c.if-reached-c.false _ c.lines_same.ensures c.if-not-lines_same.false _ c.zero.ensures c.if-not-zero.false _ c.zero-2.ensures c.if-not-zero-2.true

pub invariant_of-records : goal.invariant_of-records
invariant_of-records c = let p = held_few _ _ c.args.c _ _ c.requires _ _ _ c.through.ensures _ c.in_ok-reached.was c.if-reached-c.false in record { few = p.0; inside = p.1 }

pub returns-then-ne : goal.returns-then-ne
returns-then-ne c = test_totals _ _ c.args.c _ _ c.requires _ _ _ c.through.ensures _ c.in_ok-reached.was c.if-reached-c.false _ c.lines_same.ensures c.if-not-lines_same.false _ c.zero.ensures c.if-not-zero.false _ c.zero-2.ensures c.if-not-zero-2.false c.if-journal-c.false _ c.totals.ensures (totals_ne _ _ c.if-ne.ensures)

pub returns : goal.returns
returns c = test_told _ _ c.args.c _ _ c.requires _ _ _ c.through.ensures _ c.in_ok-reached.was c.if-reached-c.false _ c.lines_same.ensures c.if-not-lines_same.false _ c.zero.ensures c.if-not-zero.false _ c.zero-2.ensures c.if-not-zero-2.false c.if-journal-c.false _ c.totals.ensures (totals_eq _ _ c.if-ne.ensures)
