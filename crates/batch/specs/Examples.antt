-- The rules at work: calls behind an opening, each with its answer, and what stands in the end; one list under the one claim `shown`, computed over the definitions.
-- Assumes nothing.
use Rattle.std.specs.Prelude.{ℕ, ◌≡◌, refl, List, [], ◌∷◌, map}
use Rattle.std.proofs.Math.Option.{some, Option-elim}
use Rattle.text.specs.declared.Answer.{Answer}
use Rattle.text.specs.Answers.{answer, accepted}
use Rattle.text.specs.Lists.{same_bytes}
use Rattle.text.specs.Numbers.{number_after, digits, decimal_places_up_to}
use Rattle.text.specs.Texts.{bytes}
use Rattle.psc.specs.Table.{holds}
use Rattle.ident.specs.Identifier.{shape_of, weighted, ends_right, right_id}
use Rattle.ident.specs.Calls.{parts_of}
use Rattle.ident.specs.Consignor.{consignor_in, another_in}
use Rattle.layout.specs.Layout.{field_of}
use Rattle.fields.specs.Frame.{framed}
use Rattle.fields.specs.Dates.{days_in, read_date, read_time}
use Rattle.fields.specs.Texts.{filled, contains, is_host, is_mail}
use Rattle.fields.specs.Amounts.{is_money}
use Rattle.fields.specs.Codes.{numbers_from, codes, number_for}
use Rattle.fields.specs.Services.{words, has_code, with_code, added, read_by, how_many, several_sizes}
use Rattle.fields.specs.Examples.{in_field}
use Rattle.text.specs.Answers.{or_else}
use Rattle.record.specs.Rules.{asked_of, given_of, travel_of, table, record_answer}
use Rattle.record.specs.Examples.{listed, sent_to, laid_out, record_of, parcel}
use Rattle.posting.specs.File.{totals}
use Rattle.posting.specs.Sums.{kept}
use Rattle.record.specs.Readings.{cancelled_rec}
use Rattle.batch.specs.Actions.{Action, Addition, Amendment, Cancellation, entries_of, first_entry, entries_in, actions_in}
use Rattle.batch.specs.Records.{records_of, some as any_record}
use Rattle.batch.specs.Rules.{posted, action_rule, entry_rule}
use Rattle.batch.specs.Batch.{counts_of, Call, Add, Amend, Cancel, Undo, state, made, rules}
use Rattle.batch.specs.History.{standing_by_rules, answers_by_rules}

-- ---- parcels that the table accepts
unfoldable pub first : List ℕ
first = parcel "BO5412345671F" "Jan Novak" ""

unfoldable pub renamed : List ℕ
renamed = parcel "BO5412345671F" "Jana Novakova" ""

unfoldable pub second : List ℕ
second = parcel "BO5400000015F" "Jan Novak" ""

unfoldable pub third : List ℕ
third = parcel "BO5400000024F" "Jan Novak" ""

-- of another consignor: his number is 1
unfoldable pub fourth : List ℕ
fourth = parcel "BO0100010005F" "Jan Novak" ""

-- ---- calls on a file buffer of two places and a journal of 1,600 bytes, each with its answer
unfoldable pub claims : List (Call × Answer)
claims =
    (Undo, answer 234 0)
    ∷ (Add first, accepted)
    ∷ (Add first, answer 2 1)
    ∷ (Add (cancelled_rec second), answer 210 19)
    ∷ (Add (sent_to "12345" ""), answer 24 5)
    ∷ (Add fourth, answer 241 1)
    ∷ (Undo, accepted)
    ∷ (Add fourth, accepted)
    ∷ (Cancel (bytes "BO0100010005F"), accepted)
    ∷ (Add first, answer 241 1)
    ∷ (Undo, accepted)
    ∷ (Undo, accepted)
    ∷ (Add first, accepted)
    ∷ (Add second, accepted)
    ∷ (Add fourth, answer 241 1)
    ∷ (Add third, answer 230 0)
    ∷ (Amend third, answer 232 0)
    ∷ (Cancel (bytes "BO5400000024F"), answer 232 0)
    ∷ (Amend renamed, accepted)
    ∷ (Cancel (bytes "BO5412345671F"), accepted)
    ∷ (Cancel (bytes "BO5412345671F"), answer 233 0)
    ∷ (Amend first, answer 233 0)
    ∷ (Add first, answer 2 1)
    ∷ (Undo, accepted)
    ∷ (Amend first, answer 231 0)
    ∷ (Amend [], answer 236 0)
    ∷ (Cancel (bytes "BO5412345672F"), answer 1 1)
    ∷ (Cancel (bytes "BO5400000015F"), accepted)
    ∷ []

abbrev pub claimed_calls : List Call
claimed_calls = map (λ (c : Call × Answer). c.0) claims

abbrev pub claimed_answers : List Answer
claimed_answers = map (λ (c : Call × Answer). c.1) claims

-- what stands in the end: the amendment of the first, and of the cancellations the second
unfoldable pub left : List Action
left = Addition first ∷ Addition second ∷ Amendment renamed ∷ Cancellation (bytes "BO5400000015F") ∷ []

pub record Shown : Type 0 where
  pub answers : answers_by_rules (posted (holds listed)) 802 1600 claimed_calls ≡ claimed_answers
  pub stands : standing_by_rules (posted (holds listed)) 802 1600 claimed_calls ≡ state left
  pub records : records_of left ≡ renamed ∷ cancelled_rec second ∷ []
  -- one live, one cancelled, the amounts of the live one; two records, and three entries of 403 bytes and one of 17
  pub counts : (made 802 1600 (state left)).counts ≡ counts_of (totals 1 1 1000 2000) 2 1226
  -- its entries are read back
  pub read : actions_in (entries_of left) ≡ some left

pub shown : Shown
unfolding holds bytes in_field laid_out record_of parcel sent_to first renamed second third fourth claims left consignor_in another_in number_after same_bytes shape_of weighted ends_right right_id parts_of field_of framed days_in read_date read_time filled contains is_host is_mail is_money digits decimal_places_up_to numbers_from codes number_for words has_code with_code added read_by how_many several_sizes asked_of given_of travel_of table record_answer kept or_else any_record action_rule entry_rule made rules first_entry entries_in Option-elim
shown = record { answers = refl; stands = refl; records = refl; counts = refl; read = refl }
