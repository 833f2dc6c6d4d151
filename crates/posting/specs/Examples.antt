-- A file of three records that is accepted, with its totals, and one whose last record names another consignor, computed over the definitions: so the file
-- check does not refuse everything.
-- Assumes nothing.
use Rattle.std.specs.Prelude.{ℕ, ◌≡◌, refl, List, [], ◌∷◌}
use Rattle.text.specs.Answers.{or_else}
use Rattle.text.specs.Lists.{same_bytes}
use Rattle.text.specs.Numbers.{number_after, digits, decimal_places_up_to}
use Rattle.text.specs.Texts.{bytes}
use Rattle.psc.specs.Table.{rises_from, right_table, holds}
use Rattle.ident.specs.Identifier.{shape_of, weighted, ends_right, right_id}
use Rattle.ident.specs.Calls.{parts_of}
use Rattle.ident.specs.Consignor.{consignor_in, another_in}
use Rattle.layout.specs.Layout.{field_of}
use Rattle.fields.specs.Frame.{framed}
use Rattle.fields.specs.Dates.{days_in, read_date, read_time}
use Rattle.fields.specs.Texts.{filled, contains, is_host, is_mail}
use Rattle.fields.specs.Amounts.{is_money}
use Rattle.fields.specs.Codes.{numbers_from, codes, number_for}
use Rattle.fields.specs.Services.{words, has_code, with_code, added, read_by, how_many, several_sizes}
use Rattle.fields.specs.Examples.{in_field}
use Rattle.record.specs.Rules.{asked_of, given_of, travel_of, table, record_answer}
use Rattle.record.specs.Examples.{listed, laid_out, record_of, parcel, sent_to, domestic, cash_on_delivery, cancelled_parcel}
use Rattle.posting.specs.File.{up_to, repeats, line_answer, totals, brought, totals_over, refused, passed, break_from, file_answer, file_check}
use Rattle.posting.specs.Records.{lines_of}

-- the parcels have ten crowns on delivery and twenty as the price specified; the cancelled one is only counted. Both are of consignor 3601 of type C, and
-- between them stands one of CZ
unfoldable pub one_consignor : List ℕ
one_consignor = lines_of (cash_on_delivery ∷ sent_to "11000" "" ∷ cancelled_parcel ∷ [])

-- behind the cancelled parcel, and one of CZ, one of consignor 54 of type F
unfoldable pub two_consignors : List ℕ
two_consignors = lines_of (cancelled_parcel ∷ sent_to "11000" "" ∷ domestic ∷ [])

pub record Shown : Type 0 where
  pub passes : file_check listed one_consignor ≡ passed (totals 2 1 1000 2000)
  pub strays : file_check listed two_consignors ≡ refused 241 3 1

pub shown : Shown
unfolding rises_from right_table holds bytes number_after same_bytes shape_of weighted ends_right right_id parts_of field_of framed days_in read_date read_time filled contains is_host is_mail is_money digits decimal_places_up_to numbers_from codes number_for words has_code with_code added read_by how_many several_sizes asked_of given_of travel_of table record_answer in_field laid_out record_of parcel cash_on_delivery cancelled_parcel or_else repeats line_answer brought totals_over break_from file_answer file_check sent_to domestic consignor_in another_in up_to one_consignor two_consignors
shown = record { passes = refl; strays = refl }
