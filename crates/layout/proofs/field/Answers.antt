-- `layout::field`.
use Rattle.layout.proofs.Ways.{the_field, no_field, no_record}
use Rattle.layout.proofs.field.Goals as goal
use Rattle.layout.proofs.field.Goals.{else-rec-eq399-via-then-rec-eq399+else-is_field, else-rec-eq399-via-else-rec-eq399}

pub returns-then-is_field : goal.returns-then-is_field
returns-then-is_field c = search the_field

pub returns-else-rec-eq399 : goal.returns-else-rec-eq399
returns-else-rec-eq399 c =
    elim c.else-rec-eq399.branch [
      | else-rec-eq399-via-then-rec-eq399+else-is_field w ↦ search no_field
      | else-rec-eq399-via-else-rec-eq399 w ↦ search no_record
    ]
