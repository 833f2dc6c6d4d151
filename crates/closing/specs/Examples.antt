-- A file with a whole set of three, which is accepted with its totals, and files whose set is not whole, computed over the definitions: so the closing
-- check does not refuse everything, nor accept it.
-- Assumes nothing.
use Rattle.std.specs.Prelude.{ℕ, ◌≡◌, refl, Bool, true, ◌&&◌, List, [], ◌∷◌, ◌++◌, eqb}
use Prim.Native.String.{String}
use Rattle.text.specs.Answers.{or_else}
use Rattle.text.specs.Lists.{same_bytes}
use Rattle.text.specs.Numbers.{number_after, digits, decimal_places_up_to}
use Rattle.text.specs.Texts.{bytes, all_hold}
use Rattle.psc.specs.Table.{rises_from, right_table, holds}
use Rattle.ident.specs.Identifier.{shape_of, weighted, ends_right, right_id}
use Rattle.ident.specs.Calls.{parts_of}
use Rattle.ident.specs.Consignor.{consignor_in, another_in}
use Rattle.layout.specs.Layout.{field_of}
use Rattle.fields.specs.Frame.{framed}
use Rattle.fields.specs.Dates.{days_in, read_date, read_time}
use Rattle.fields.specs.Texts.{filled, contains, is_host, is_mail}
use Rattle.fields.specs.Amounts.{is_money}
use Rattle.fields.specs.Codes.{numbers_from, codes, number_for}
use Rattle.fields.specs.Services.{words, has_code, with_code, added, read_by, how_many, several_sizes}
use Rattle.fields.specs.ServiceTexts.{all_different}
use Rattle.fields.specs.Examples.{in_field}
use Rattle.record.specs.Rules.{asked_of, given_of, travel_of, table, record_answer}
use Rattle.record.specs.Examples.{listed, laid_out, record_of, sent_to, first_piece, second_piece}
use Rattle.posting.specs.declared.Totals.{Totals}
use Rattle.posting.specs.declared.FileAnswer.{FileAnswer}
use Rattle.posting.specs.File.{up_to, repeats, line_answer, totals, no_totals, brought, totals_over, break_from, file_answer, file_check}
use Rattle.posting.specs.Records.{lines_of}
use Rattle.posting.specs.Sums.{kept}
use Rattle.closing.specs.Sets.{in_set, set_under, same_pieces, none_missing, offence}
use Rattle.closing.specs.Closing.{place_of, first_that, earliest, closing_of, closing_answer}

-- ---- a piece of the set whose first piece is BO5412345671F: with this identifier, serial, number of pieces and status
unfoldable pub piece : String → String → String → String → List ℕ
piece id serial pieces status =
    record_of
    (id ∷ "20240101" ∷ "08:00:00" ∷ "Eva" ∷ "60200" ∷ "" ∷ "Brno" ∷ "" ∷ "" ∷ "" ∷ "" ∷ "" ∷ "" ∷ "" ∷ " 0.001" ∷ "" ∷ "" ∷ "70" ∷ status ∷ "" ∷ "" ∷ "BO5412345671F" ∷ serial ∷ pieces ∷ [])

-- ---- the answer to a file: code, record, place and totals
unfoldable pub totalling : Totals → Totals → Bool
totalling t u = eqb t.live u.live && eqb t.cancelled u.cancelled && eqb t.cash.0 u.cash.0 && eqb t.price.0 u.price.0

unfoldable pub answers : ℕ → ℕ → ℕ → Totals → FileAnswer → Bool
answers code number place t a = eqb a.code code && eqb a.number number && eqb a.place place && totalling a.totals t

-- whole; piece 03 missing, cancelled, with another number of pieces, and 02 once more; one of CZ in front that is in no set; and one byte too many
unfoldable pub claims : List Bool
claims =
    answers 0 0 0 (totals 3 0 1000 2000) (closing_answer listed (lines_of (first_piece ∷ second_piece ∷ piece "BO5400000024F" "03" "03" "" ∷ [])))
    ∷ answers 240 1 22 no_totals (closing_answer listed (lines_of (first_piece ∷ second_piece ∷ [])))
    ∷ answers 240 1 22 no_totals (closing_answer listed (lines_of (first_piece ∷ second_piece ∷ piece "BO5400000024F" "03" "03" "0 " ∷ [])))
    ∷ answers 240 1 24 no_totals (closing_answer listed (lines_of (first_piece ∷ second_piece ∷ piece "BO5400000024F" "03" "04" "" ∷ [])))
    ∷ answers 240 2 23 no_totals (closing_answer listed (lines_of (sent_to "11000" "" ∷ first_piece ∷ second_piece ∷ piece "BO5400000024F" "02" "03" "" ∷ [])))
    ∷ answers 211 0 0 no_totals (closing_answer listed (lines_of (first_piece ∷ second_piece ∷ []) ++ 0 ∷ []))
    ∷ []

pub shown : all_hold claims ≡ true
unfolding rises_from right_table holds bytes all_hold number_after same_bytes shape_of weighted ends_right right_id parts_of field_of framed days_in read_date read_time filled contains is_host is_mail is_money digits decimal_places_up_to numbers_from codes number_for words has_code with_code added read_by how_many several_sizes all_different asked_of given_of travel_of table record_answer in_field laid_out record_of sent_to consignor_in another_in first_piece second_piece or_else repeats line_answer brought totals_over break_from file_answer file_check up_to kept in_set set_under same_pieces none_missing offence place_of first_that earliest closing_of closing_answer piece totalling answers claims
shown = refl
