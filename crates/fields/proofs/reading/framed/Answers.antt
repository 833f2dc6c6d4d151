-- `fields::reading::framed`.
use Rattle.std.proofs.Common.{refl, sym, ◌∙◌}
use Rattle.std.specs.Fn.{FnOnceReturnsAt}
use Rattle.fields.proofs.Frames.{framed_wide, framed_blank, framed_some, framed_none}
use Rattle.fields.proofs.reading.framed.Goals as goal

pub returns-then-f-width : goal.returns-then-f-width
returns-then-f-width g c = search framed_wide

pub returns-then-blank : goal.returns-then-blank
returns-then-blank g c = framed_blank _ _ _ (sym c.blank.ensures ∙ c.if-blank.true) c.if-f-width.false

pub returns-in-Some : goal.returns-in-Some
returns-in-Some g c =
    let a = c.args in
    framed_some a.width a.f.now (FnOnceReturnsAt g.F.FnOnce a.value a.f.now) (sym c.blank.ensures ∙ c.if-blank.false) c.if-f-width.false c.value.result c.in-Some.value c.in-Some.is (a.f, c.value.ensures, refl)

pub returns-in-None : goal.returns-in-None
returns-in-None g c =
    let a = c.args in
    framed_none a.width a.f.now (FnOnceReturnsAt g.F.FnOnce a.value a.f.now) (sym c.blank.ensures ∙ c.if-blank.false) c.if-f-width.false c.value.result c.in-None.is (a.f, c.value.ensures, refl)
