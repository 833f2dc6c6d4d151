-- `batch::undoing::take_back`.
use mathlib.Core.Path.{ap}
use Rattle.batch.specs.Entries.{number_of_kind}
use Rattle.batch.proofs.StepWays.{kind_told}
use Rattle.batch.proofs.BackWays.{back_within, back_kind, body_fits, record_fits, id_fits, back_id, addition_part, addition_asks, addition_done, cancellation_asks, cancellation_done, before_asks, amendment_asks, amendment_done}
use Rattle.batch.proofs.undoing.take_back.Goals as goal

pub kind_at-requires : goal.kind_at-requires
kind_at-requires c = back_within _ _ _ _ c.requires

pub unwrap-kind-requires : goal.unwrap-kind-requires
unwrap-kind-requires c = back_kind _ _ _ _ c.requires _ c.kind_at.ensures

pub overflow_add-start : goal.overflow_add-start
overflow_add-start c = body_fits _ _ _ _ c.requires

pub overflow_add-start-in-Addition : goal.overflow_add-start-in-Addition
overflow_add-start-in-Addition c = record_fits _ _ _ _ c.requires

pub slice_bounds-addition_off-end : goal.slice_bounds-addition_off-end
slice_bounds-addition_off-end c = let part = addition_part _ _ _ _ c.requires _ (kind_told _ _ c.kind_at.ensures _ c.unwrap-kind.ensures) (ap number_of_kind c.in-Addition.is) in search part

pub addition_off-requires : goal.addition_off-requires
addition_off-requires c = addition_asks _ _ _ _ c.requires _ (kind_told _ _ c.kind_at.ensures _ c.unwrap-kind.ensures) (ap number_of_kind c.in-Addition.is)

pub overflow_add-start-in-Cancellation : goal.overflow_add-start-in-Cancellation
overflow_add-start-in-Cancellation c = id_fits _ _ _ _ c.requires

pub slice_bounds-cancellation_off-end : goal.slice_bounds-cancellation_off-end
slice_bounds-cancellation_off-end c = let part = back_id _ _ _ _ c.requires in search part

pub cancellation_off-requires : goal.cancellation_off-requires
cancellation_off-requires c = cancellation_asks _ _ _ _ c.requires _ (kind_told _ _ c.kind_at.ensures _ c.unwrap-kind.ensures) (ap number_of_kind c.in-Cancellation.is)

pub overflow_add-start-in-Amendment : goal.overflow_add-start-in-Amendment
overflow_add-start-in-Amendment c = id_fits _ _ _ _ c.requires

pub slice_bounds-record_before-end : goal.slice_bounds-record_before-end
slice_bounds-record_before-end c = let part = back_id _ _ _ _ c.requires in search part

pub record_before-before-requires : goal.record_before-before-requires
record_before-before-requires c = before_asks _ _ _ _ c.requires _ (kind_told _ _ c.kind_at.ensures _ c.unwrap-kind.ensures) (ap number_of_kind c.in-Amendment.is)

pub amendment_off-requires : goal.amendment_off-requires
amendment_off-requires c = amendment_asks _ _ _ _ c.requires _ (kind_told _ _ c.kind_at.ensures _ c.unwrap-kind.ensures) (ap number_of_kind c.in-Amendment.is) _ c.record_before-before.ensures

pub returns-in-Addition : goal.returns-in-Addition
returns-in-Addition c = addition_done _ _ _ _ c.requires _ (kind_told _ _ c.kind_at.ensures _ c.unwrap-kind.ensures) (ap number_of_kind c.in-Addition.is) _ _ c.addition_off.ensures

pub returns-in-Cancellation : goal.returns-in-Cancellation
returns-in-Cancellation c = cancellation_done _ _ _ _ c.requires _ (kind_told _ _ c.kind_at.ensures _ c.unwrap-kind.ensures) (ap number_of_kind c.in-Cancellation.is) _ _ c.cancellation_off.ensures

pub returns-in-Amendment : goal.returns-in-Amendment
returns-in-Amendment c = amendment_done _ _ _ _ c.requires _ (kind_told _ _ c.kind_at.ensures _ c.unwrap-kind.ensures) (ap number_of_kind c.in-Amendment.is) _ c.record_before-before.ensures _ _ c.amendment_off.ensures
