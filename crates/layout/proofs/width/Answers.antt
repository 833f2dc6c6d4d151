-- `layout::width`.
use Rattle.layout.proofs.Ways.{no_width}
use Rattle.layout.proofs.width.Goals as goal

pub returns-else-is_field : goal.returns-else-is_field
returns-else-is_field c = search no_width
