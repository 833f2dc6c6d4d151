-- `batch::places::act`.
use mathlib.Core.Path.{refl, ap}
use Rattle.batch.specs.Entries.{number_of_kind}
use Rattle.batch.proofs.JournalWays.{adds_within, amends_some, cancels_some, acted_add, acted_amend, acted_cancel}
use Rattle.batch.proofs.places.act.Goals as goal

pub put_line-requires : goal.put_line-requires
put_line-requires c = adds_within _ _ _ _ c.requires (ap number_of_kind c.in-Addition.is)

pub unwrap-k-requires : goal.unwrap-k-requires
unwrap-k-requires c = amends_some _ _ _ _ c.requires _ _ c.place_with.ensures (ap number_of_kind c.in-Amendment.is) c.field.ensures

pub unwrap-k-requires-in-Cancellation : goal.unwrap-k-requires-in-Cancellation
unwrap-k-requires-in-Cancellation c = cancels_some _ _ _ _ c.requires _ _ c.place_with-in-Cancellation.ensures (ap number_of_kind c.in-Cancellation.is) refl

pub returns-in-Addition : goal.returns-in-Addition
returns-in-Addition c = acted_add _ _ _ _ _ (ap number_of_kind c.in-Addition.is) c.put_line.ensures

pub returns-in-Amendment : goal.returns-in-Amendment
returns-in-Amendment c = acted_amend _ _ _ _ _ _ _ c.place_with.ensures _ c.unwrap-k.ensures (ap number_of_kind c.in-Amendment.is) c.field.ensures c.put_line-in-Amendment.ensures

pub returns-in-Cancellation : goal.returns-in-Cancellation
returns-in-Cancellation c = acted_cancel _ _ _ _ _ _ _ c.place_with-in-Cancellation.ensures _ c.unwrap-k-in-Cancellation.ensures c.requires.fits (ap number_of_kind c.in-Cancellation.is) refl c.put.ensures
