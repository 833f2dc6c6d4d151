-- `batch::counted`.
use mathlib.Core.Path.{refl, ap}
use Rattle.batch.specs.Entries.{number_of_kind}
use Rattle.batch.proofs.JournalWays.{amends_some, cancels_some}
use Rattle.batch.proofs.CountWays.{counted_add, counted_amend, counted_cancel}
use Rattle.batch.proofs.counted.Goals as goal

pub unwrap-k-requires : goal.unwrap-k-requires
unwrap-k-requires c = amends_some _ _ _ _ c.requires.acceptable _ _ c.place_with.ensures (ap number_of_kind c.in-Amendment.is) c.field.ensures

pub unwrap-k-requires-in-Cancellation : goal.unwrap-k-requires-in-Cancellation
unwrap-k-requires-in-Cancellation c = cancels_some _ _ _ _ c.requires.acceptable _ _ c.place_with-in-Cancellation.ensures (ap number_of_kind c.in-Cancellation.is) refl

pub returns-in-Addition : goal.returns-in-Addition
returns-in-Addition c = counted_add _ _ _ _ _ c.of.result (ap number_of_kind c.in-Addition.is) c.of.ensures c.one_live_more.ensures

pub returns-in-Amendment : goal.returns-in-Amendment
returns-in-Amendment c =
    counted_amend _ _ _ _ _ _ _ c.place_with.ensures _ c.unwrap-k.ensures c.of-in-Amendment.result _ c.at.ensures c.of-in-Amendment.ensures c.of-in-Amendment-2.result (ap number_of_kind c.in-Amendment.is) c.field.ensures c.of-in-Amendment-2.ensures c.amounts_replaced.ensures

pub returns-in-Cancellation : goal.returns-in-Cancellation
returns-in-Cancellation c =
    counted_cancel _ _ _ _ _ _ _ c.place_with-in-Cancellation.ensures _ c.unwrap-k-in-Cancellation.ensures c.of-in-Cancellation.result _ c.at-in-Cancellation.ensures c.of-in-Cancellation.ensures (ap number_of_kind c.in-Cancellation.is) refl c.one_cancelled.ensures
