-- `text::decimal_places`.
use Rattle.std.proofs.Common.{arith, sym, ◌*◌, ◌≤◌, ◌<◌}
use Rattle.text.proofs.Numbers.{ten, ten_is}
use Rattle.text.proofs.Decimals.{decimal_places_of, decimal_places_one}
use Rattle.text.proofs.decimal_places.Goals as goal

pub returns-in-Some : goal.returns-in-Some
returns-in-Some c =
    let least : ten c.in-Some.power ≤ c.args.n = rw (ten_is c.in-Some.power) at c.in-Some.ensures.power_le in
    let most : c.args.n < 10 * ten c.in-Some.power = rw (ten_is c.in-Some.power) at c.in-Some.ensures.next_power_gt in
    let few = c.in-Some.ensures.bound in
    (omega (arith, decimal_places_of 19 c.in-Some.power c.args.n (omega arith) least most), (omega arith, omega arith))

pub returns-in-None : goal.returns-in-None
returns-in-None c =
    let zero = c.in-None.ensures.none in
    (sym (decimal_places_one 19 c.args.n (omega arith)), (omega arith, omega arith))
