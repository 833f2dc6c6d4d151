-- `text::every`.
use native.Mathlib.Omega.{arith}
use mathlib.Core.Path.{refl, ap, ◌∙◌}
use Prim.Native.Nat.{◌-◌, ◌/◌}
use lib.ListN.{length, drop, length-drop}
use lib.Seq.{take_all}
use Rattle.text.specs.Words.{word_of}
use Rattle.text.proofs.Words.{some_lack, last_tells}
use Rattle.text.proofs.every.Goals as goal

pub returns-then-not-eights_have : goal.returns-then-not-eights_have
returns-then-not-eights_have g c =
    some_lack g.C.ByteClass.test g.C.ByteClass.word_test g.met.C.ByteClass.words (length c.args.s.now / 8) c.args.s.now (omega arith) (λ j. omega (arith, c.type_inv.s j))
    c.eights_have.result _ c.as_chunks.ensures.front c.eights_have.ensures c.if-not-eights_have.true

pub returns : goal.returns
returns g c =
    last_tells g.C.ByteClass.test g.C.ByteClass.word_test g.met.C.ByteClass.words (length c.args.s.now / 8) c.args.s.now (omega arith) (λ j. omega (arith, c.type_inv.s j))
    c.eights_have.result _ c.as_chunks.ensures.front c.eights_have.ensures c.if-not-eights_have.false refl (omega arith) c.word.result c.has_all.result (c.word.ensures.0 ∙ ap word_of (take_all _ (drop (length c.args.s.now - 8) c.args.s.now) (rw length-drop (omega arith)))) c.has_all.ensures
