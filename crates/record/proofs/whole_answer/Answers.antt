-- `record::whole_answer`: the identifier, the form of the fields and what they say, in this turn; or all of it at once.
use Rattle.std.proofs.Common.{ℕ, ◌≡◌, Bool, List, [], ◌∷◌, refl, ◌∙◌, arith}
use Rattle.text.specs.Answers.{or_else}
use Rattle.psc.specs.Table.{Known}
use Rattle.psc.specs.Search.{found}
use Rattle.record.specs.declared.readings.Readings.{Readings}
use Rattle.record.specs.Table.{verdict}
use Rattle.record.specs.Readings.{readings_of}
use Rattle.record.specs.Rules.{terms, malformed, malformed_rule, identifier_rule, content_of, content_rules, table}
use Rattle.record.proofs.Tables.{refused, passed, rule_then}
use Rattle.record.proofs.FineLaws.{fine_accepted}
use Rattle.record.proofs.whole_answer.Goals as goal

in_turn : (known : Known) (to_be_posted : Bool) (rec : List ℕ) (r : Readings) → r ≡ readings_of rec
    → or_else (verdict (identifier_rule rec ∷ [])) (or_else (verdict (malformed_rule (malformed to_be_posted r.when r.address r.street r.contact r.goods r.marks r.piece r.tail) ∷ [])) (verdict (content_of known rec r.address r.contact r.goods r.marks r.piece)))
    ≡ verdict (table (terms to_be_posted known) rec)
unfolding table
in_turn known to_be_posted rec r e =
    let q = readings_of rec in
    let form = malformed_rule (malformed to_be_posted q.when q.address q.street q.contact q.goods q.marks q.piece q.tail) in
    rw (e, rule_then form (content_rules known rec) (λ e. omega arith)) (rule_then (identifier_rule rec) (form ∷ content_rules known rec) (λ e. omega arith))

pub returns-in_err-identifier : goal.returns-in_err-identifier
returns-in_err-identifier c =
    refused _ _ _ _ c.from_residual.ensures.1 (rw c.in_err-identifier.was at c.requires.0)
    ∙ in_turn (found c.args.psc.now) c.args.fresh c.args.rec.now _ refl

pub returns-then-is_fine : goal.returns-then-is_fine
returns-then-is_fine c =
    fine_accepted (found c.args.psc.now) c.args.fresh c.args.rec.now (rw c.in_ok-identifier.was at c.requires.0) (c.is_fine.ensures c.if-is_fine.true)

pub returns-in_err-form_answer : goal.returns-in_err-form_answer
returns-in_err-form_answer c =
    passed _ _ _ (rw c.in_ok-identifier.was at c.requires.0) (refused _ _ _ _ c.from_residual-in_err-form_answer.ensures.1 c.in_err-form_answer.ensures)
    ∙ in_turn (found c.args.psc.now) c.args.fresh c.args.rec.now _ c.read_all-read.ensures

pub returns : goal.returns
returns c =
    passed _ _ _ (rw c.in_ok-identifier.was at c.requires.0) (passed _ _ _ c.in_ok-form_answer.ensures c.content_answer.ensures)
    ∙ in_turn (found c.args.psc.now) c.args.fresh c.args.rec.now _ c.read_all-read.ensures
