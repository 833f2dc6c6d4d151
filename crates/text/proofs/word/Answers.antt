-- `text::word`.
use Rattle.std.proofs.Common.{arith, ap, ◌≡◌, ◌∙◌, length}
use lib.Seq.{take_all, length-take-le}
use Rattle.text.specs.Words.{low_first}
use Rattle.text.proofs.Words.{word_is}
use Rattle.text.proofs.word.Goals as goal

pub returns-in-Some : goal.returns-in-Some
returns-in-Some c =
    let long : length c.in-Some.eight.now ≡ 8 = ap length c.in-Some.ensures.cases.same ∙ length-take-le 8 c.args.s.now c.in-Some.ensures.cases.enough in
    (c.from_le_bytes.ensures ∙ word_is c.in-Some.eight.now ∙ ap low_first (take_all 8 c.in-Some.eight.now (omega (arith, long)) ∙ c.in-Some.ensures.cases.same), c.from_le_bytes.type_inv)
