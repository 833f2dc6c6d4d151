-- `fields::services::with_code`.
use native.Mathlib.Omega.{arith}
use Rattle.fields.proofs.ServiceWays.{code_below, with_code_fits, shifted}
use Rattle.fields.specs.Services.{with_code}
use Rattle.fields.proofs.services.with_code.Goals as goal

pub overflow_add-result : goal.overflow_add-result
overflow_add-result c =
    let a = c.args in
    rw (shifted a.code (code_below a.code c.requires.0)) (record { fits = with_code_fits a.s a.code (omega arith) c.requires.0 c.requires.1 })

pub returns : goal.returns
unfolding with_code
returns c =
    let a = c.args in
    rw (shifted a.code (code_below a.code c.requires.0))
