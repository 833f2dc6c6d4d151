-- `batch::undoing::record_before`.
use Rattle.batch.proofs.UndoWays.{look_starts, look_kind, look_entry, look_on, look_ends}
use Rattle.batch.proofs.undoing.record_before.Goals as goal

pub loop-at-init : goal.loop-at-init
loop-at-init c = look_starts _ _ _ c.requires

pub unwrap-kind-requires : goal.unwrap-kind-requires
unwrap-kind-requires c = look_kind _ _ _ _ _ c.loop-at.invariant c.loop-at-test.true _ c.kind_at.ensures

pub looked_at-found-requires : goal.looked_at-found-requires
looked_at-found-requires c = look_entry _ _ _ _ _ c.loop-at.invariant c.loop-at-test.true

pub loop-at-preserved : goal.loop-at-preserved
loop-at-preserved c = look_on _ _ _ _ _ c.loop-at.invariant c.loop-at-test.true _ c.kind_at.ensures _ c.unwrap-kind.ensures _ c.body_length.ensures _ c.looked_at-found.ensures

pub returns : goal.returns
returns c = look_ends _ _ _ _ _ c.loop-at.invariant c.loop-at-test.false
