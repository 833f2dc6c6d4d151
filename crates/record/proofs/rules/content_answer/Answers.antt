-- `record::rules::content_answer`: address, postcode, weight and services, in this turn.
use Rattle.std.proofs.Common.{ℕ, ◌≡◌, List, [], ◌∷◌, ◌++◌, refl, ap, ap₂, ◌∙◌, arith}
use Rattle.text.specs.Answers.{answered, or_else}
use Rattle.psc.specs.Table.{Known}
use Rattle.psc.specs.Search.{found}
use Rattle.record.specs.declared.readings.Readings.{Readings}
use Rattle.record.specs.declared.rules.Asked.{Asked}
use Rattle.record.specs.declared.rules.Given.{Given}
use Rattle.record.specs.declared.rules.Travel.{Travel}
use Rattle.record.specs.Table.{verdict}
use Rattle.record.specs.Rules.{asked_of, asked_in, given_of, travel_of, address_rule, postcode_rules, weight_rules, service_rules, content_of}
use Rattle.record.proofs.Tables.{refused, passed, joined, rule_then, table_then}
use Rattle.record.proofs.rules.content_answer.Goals as goal

in_turn : (known : Known) (rec : List ℕ) (r : Readings) (s : Asked) (f : Given) (p : Travel) → s ≡ asked_in r.goods → f ≡ given_of r.contact r.goods r.marks → p ≡ travel_of rec r.piece
    → or_else (verdict (address_rule r.address ∷ [])) (or_else (verdict (postcode_rules known r.address.postcode s.service41)) (or_else (verdict (weight_rules r.goods.weight s.service41)) (verdict (service_rules s f p))))
    ≡ verdict (content_of known rec r.address r.contact r.goods r.marks r.piece)
in_turn known rec r s f p es ef ep =
    let postcode = postcode_rules known r.address.postcode (asked_in r.goods).service41 in
    let weight = weight_rules r.goods.weight (asked_in r.goods).service41 in
    let services = service_rules (asked_in r.goods) (given_of r.contact r.goods r.marks) (travel_of rec r.piece) in
    rw (es, ef, ep, table_then weight services (λ e. omega arith, (λ e. omega arith, tt)), table_then postcode (weight ++ services) (λ e. omega arith, (λ e. omega arith, tt)))
    (rule_then (address_rule r.address) (postcode ++ (weight ++ services)) (λ e. omega arith))

pub returns-in_err-address_answer : goal.returns-in_err-address_answer
returns-in_err-address_answer c =
    refused _ _ _ _ c.from_residual.ensures.1 c.in_err-address_answer.ensures
    ∙ in_turn (found c.args.psc.now) c.args.rec.now c.args.read _ _ _ (c.asked_of-asked.ensures ∙ ap asked_of c.services.ensures) refl refl

pub returns-in_err-postcode_answer : goal.returns-in_err-postcode_answer
returns-in_err-postcode_answer c =
    passed _ _ _ c.in_ok-address_answer.ensures (refused _ _ _ _ c.from_residual-in_err-postcode_answer.ensures.1 c.in_err-postcode_answer.ensures)
    ∙ in_turn (found c.args.psc.now) c.args.rec.now c.args.read _ _ _ (c.asked_of-asked.ensures ∙ ap asked_of c.services.ensures) refl refl

pub returns : goal.returns
returns c =
    let weight-then-services = ap answered c.and.ensures ∙ joined _ _ ∙ ap₂ or_else c.weight_answer-weight.ensures c.service_answer-services.ensures in
    passed _ _ _ c.in_ok-address_answer.ensures (passed _ _ _ c.in_ok-postcode_answer.ensures weight-then-services)
    ∙ in_turn (found c.args.psc.now) c.args.rec.now c.args.read _ _ _ (c.asked_of-asked.ensures ∙ ap asked_of c.services.ensures) c.given_of.ensures c.travel_of.ensures
