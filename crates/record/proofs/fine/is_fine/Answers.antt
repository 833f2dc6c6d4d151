-- `record::fine::is_fine`.
use Rattle.std.proofs.Common.{rules, ap, ◌∙◌}
use Rattle.psc.specs.Search.{found}
use Rattle.fields.specs.Numbers.{read_symbol}
use Rattle.record.proofs.FineLaws.{all_is_fine}
use Rattle.record.proofs.fine.is_fine.Goals as goal
use Rattle.record.proofs.fine.is_fine.Goals.{then-texts_fine, else-texts_fine, then-form_fine, else-form_fine, then-not-is_malformed, else-not-is_malformed}

pub returns-then-place_fine : goal.returns-then-place_fine
returns-then-place_fine c = λ z.
    let read = c.read_symbol-symbol.ensures ∙ ap read_symbol c.field.ensures in
    elim c.if-not-is_malformed.branch [
      | else-not-is_malformed w ↦ absurd (search (rules, w.value-is, c.if-place_fine.true))
      | then-not-is_malformed w ↦ elim c.if-form_fine.branch [
        | else-form_fine v ↦ absurd (search (rules, v.value-is, w.if-not-is_malformed.true))
        | then-form_fine v ↦ elim c.if-texts_fine.branch [
          | else-texts_fine u ↦ absurd (search (rules, u.value-is, v.if-form_fine.true))
          | then-texts_fine u ↦
              all_is_fine (found c.args.psc.now) c.args.fresh c.args.rec.now _ _ _ _ c.read_contact-contact.ensures c.requires c.read_piece-piece.ensures read
              (c.texts_fine.ensures u.if-texts_fine.true)
              (u.form_fine.ensures (search rules))
              (search rules)
              (search rules)
              (c.services_fine.ensures z)
        ]
      ]
    ]
