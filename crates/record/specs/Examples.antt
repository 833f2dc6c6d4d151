-- Records that pass, computed over the definitions: so the table does not refuse everything. And postcodes at home and abroad, the two codes of one that
-- does not exist and of a missing weight, wrong tables, and whose records are.
-- Assumes nothing.
use Rattle.std.specs.Prelude.{ℕ, ◌≡◌, refl, Bool, true, false, not, ◌&&◌, List, [], ◌∷◌, ◌++◌, eqb}
use Prim.Native.String.{String}
use Rattle.text.specs.declared.Answer.{Answer}
use Rattle.text.specs.Lists.{same_bytes}
use Rattle.text.specs.Numbers.{number_after, digits, decimal_places_up_to}
use Rattle.text.specs.Texts.{bytes, all_hold}
use Rattle.ident.specs.Identifier.{shape_of, weighted, ends_right, right_id}
use Rattle.ident.specs.Calls.{parts_of}
use Rattle.ident.specs.Consignor.{type_of, number_of, consignor_in, another_in}
use Rattle.psc.specs.Table.{rises_from, right_table, holds}
use Rattle.layout.specs.Layout.{widths, field_of}
use Rattle.fields.specs.Frame.{framed}
use Rattle.fields.specs.Dates.{days_in, read_date, read_time}
use Rattle.fields.specs.Texts.{filled, contains, is_host, is_mail}
use Rattle.fields.specs.Amounts.{is_money}
use Rattle.fields.specs.Codes.{numbers_from, codes, number_for}
use Rattle.fields.specs.Services.{words, has_code, with_code, added, read_by, how_many, several_sizes}
use Rattle.fields.specs.Examples.{in_field}
use Rattle.record.specs.Rules.{in_file, to_post, asked_of, given_of, travel_of, table, record_answer, check_answer}
use Rattle.record.specs.Consignors.{consignor_of, strays}
use Rattle.record.specs.BlankAbroad.{table_blank_abroad, answer_blank_abroad}
use Rattle.record.specs.NumbersOnly.{table_numbers_only, answer_numbers_only}

-- ---- a record from the texts of its fields, each with spaces behind to its width
unfoldable pub laid_out : List ℕ → List String → List ℕ
laid_out [] ts = []
laid_out (w ∷ ws) [] = in_field w "" ++ laid_out ws []
laid_out (w ∷ ws) (t ∷ ts) = in_field w t ++ laid_out ws ts

unfoldable pub record_of : List String → List ℕ
record_of ts = laid_out widths ts

unfoldable pub domestic : List ℕ
domestic = record_of ("BO5412345671F" ∷ "20240229" ∷ "23:59:59" ∷ "Jan" ∷ "11000" ∷ "" ∷ "Praha" ∷ "" ∷ "" ∷ "" ∷ "" ∷ "" ∷ "" ∷ "" ∷ " 0.500" ∷ [])

-- with this postcode and country
unfoldable pub sent_to : String → String → List ℕ
sent_to postcode country =
    record_of
    ("EE021831216CZ" ∷ "20991231" ∷ "00:00:00" ∷ "Max" ∷ postcode ∷ country ∷ "Wien" ∷ "" ∷ "Ring" ∷ "1" ∷ "" ∷ "" ∷ "m@w.at" ∷ "" ∷ "99.999" ∷ [])

-- ten crowns on delivery under service 41, twenty as the price specified: with this identifier, name and status
unfoldable pub parcel : String → String → String → List ℕ
parcel id name status =
    record_of
    (id ∷ "20240101" ∷ "08:00:00" ∷ name ∷ "60200" ∷ "" ∷ "Brno" ∷ "" ∷ "" ∷ "" ∷ "" ∷ "+420123456789" ∷ "" ∷ "" ∷ "10.000" ∷ "10.00" ∷ "20.00" ∷ "7+41" ∷ status ∷ "" ∷ "0000000001" ∷ [])

unfoldable pub cash_on_delivery : List ℕ
cash_on_delivery = parcel "BO3601002029C" "Eva" ""

-- the first of three pieces, with every field filled that may be; and the same 399 bytes written out, whatever the table of widths says
unfoldable pub first_piece : List ℕ
first_piece =
    record_of
    ("BO5412345671F" ∷ "20240229" ∷ "23:59:59" ∷ "Jan Novak" ∷ "11000" ∷ "" ∷ "Praha 1" ∷ "Stare Mesto" ∷ "Dlouha" ∷ "12" ∷ "3a" ∷ "+420123456789" ∷ "jan@novak.cz"
    ∷ "" ∷ " 0.500" ∷ "10.00" ∷ "20.00" ∷ "7+41+70" ∷ "" ∷ "F1" ∷ "0000000001" ∷ "BO5412345671F" ∷ "01" ∷ "03" ∷ "" ∷ "S1" ∷ [])

unfoldable pub first_piece_written_out : List ℕ
first_piece_written_out =
    bytes "BO5412345671F2024022923:59:59Jan Novak                     "
    ++ (bytes "11000  Praha 1                                 "
    ++ (bytes "Stare Mesto                             Dlouha                                  "
    ++ (bytes "12    3a    +420123456789       "
    ++ (bytes "jan@novak.cz                                                  "
    ++ (bytes " 0.50010.00       20.00       7+41+70                         "
    ++ (bytes "F1        0000000001BO5412345671F0103          S1        "))))))

-- piece 02 of 03 of a set whose first piece is BO5412345671F
unfoldable pub second_piece : List ℕ
second_piece =
    record_of
    ("BO5400000015F" ∷ "20240101" ∷ "08:00:00" ∷ "Eva" ∷ "60200" ∷ "" ∷ "Brno" ∷ "" ∷ "" ∷ "" ∷ "" ∷ "" ∷ "" ∷ "" ∷ " 0.001" ∷ "" ∷ "" ∷ "70" ∷ "" ∷ "" ∷ "" ∷ "BO5412345671F" ∷ "02" ∷ "03" ∷ [])

-- a weight of zero, with this cash on delivery, these services and this variable symbol
unfoldable pub weighing_nothing : String → String → String → List ℕ
weighing_nothing cash services symbol =
    record_of
    ("BO5412345671F" ∷ "20240101" ∷ "08:00:00" ∷ "Eva" ∷ "60200" ∷ "" ∷ "Brno" ∷ "" ∷ "" ∷ "" ∷ "" ∷ "" ∷ "" ∷ "" ∷ " 0.000" ∷ cash ∷ "" ∷ services ∷ "" ∷ "" ∷ symbol ∷ [])

-- with these services
unfoldable pub served : String → List ℕ
served services =
    record_of
    ("BO5412345671F" ∷ "20240101" ∷ "08:00:00" ∷ "Eva" ∷ "60200" ∷ "" ∷ "Brno" ∷ "" ∷ "" ∷ "" ∷ "" ∷ "" ∷ "" ∷ "" ∷ " 0.500" ∷ "" ∷ "" ∷ services ∷ [])

unfoldable pub cancelled_parcel : List ℕ
cancelled_parcel = parcel "BO3601002032C" "Eva" "0 "

-- ---- the answer to a record, in a file or to be posted
unfoldable pub answers : ℕ → ℕ → Answer → Bool
answers code place a = eqb a.code code && eqb a.place place

-- the consignor of a record: type and number
unfoldable pub names : ℕ → ℕ → List ℕ → Bool
names t n rec = eqb (type_of (consignor_of rec)) t && eqb (number_of (consignor_of rec)) n

-- the postcodes of these records
abbrev pub listed : List ℕ
listed = 11000 ∷ 60200 ∷ []

unfoldable pub claims : List Bool
claims =
    answers 0 0 (check_answer true listed first_piece)
    ∷ same_bytes first_piece first_piece_written_out
    ∷ answers 0 0 (check_answer true listed domestic)
    ∷ answers 0 0 (check_answer true listed (sent_to "11000" ""))  -- at home
    ∷ answers 27 5 (check_answer true listed (sent_to "" ""))
    ∷ answers 210 5 (check_answer true listed (sent_to "1030" ""))
    ∷ answers 0 0 (check_answer true listed (sent_to "" "AT"))  -- abroad
    ∷ answers 0 0 (check_answer true listed (sent_to "1030" "AT"))
    ∷ answers 0 0 (check_answer true listed (sent_to "W1 2" "GB"))
    ∷ answers 210 5 (check_answer true listed (sent_to " 1030" "AT"))
    ∷ answers 210 6 (check_answer true listed (sent_to "1030" "at"))  -- beside a malformed country
    ∷ answers 210 6 (check_answer true listed (sent_to "" "CZ"))
    ∷ answers 210 5 (check_answer true listed (sent_to " 1030" "at"))
    ∷ answers 0 0 (answer_blank_abroad (to_post (holds listed)) (sent_to "11000" ""))  -- as it was
    ∷ answers 0 0 (answer_blank_abroad (to_post (holds listed)) (sent_to "" "AT"))
    ∷ answers 27 5 (answer_blank_abroad (to_post (holds listed)) (sent_to "11000" "AT"))
    ∷ answers 210 5 (answer_blank_abroad (to_post (holds listed)) (sent_to "1030" "AT"))
    ∷ answers 0 0 (answer_blank_abroad (in_file (holds listed)) cancelled_parcel)
    ∷ answers 0 0 (check_answer true listed cash_on_delivery)
    ∷ answers 0 0 (check_answer true listed second_piece)
    ∷ answers 0 0 (check_answer false listed cancelled_parcel)
    ∷ answers 210 19 (check_answer true listed cancelled_parcel)
    ∷ answers 31 15 (check_answer true listed (weighing_nothing "10.00" "41" "0000000001"))
    ∷ answers 34 15 (check_answer true listed (weighing_nothing "10.00" "2" ""))
    ∷ answers 0 0 (check_answer true listed (served "1+1A+XL"))  -- services with letters
    ∷ answers 210 18 (check_answer true listed (served "1a"))
    ∷ answers 210 18 (check_answer true listed (served "M+M"))
    ∷ answers 220 18 (check_answer true listed (served "M+XL"))
    ∷ answers 220 18 (check_answer true listed (served "1N+S+L+M"))
    ∷ answers 220 18 (check_answer true listed (served "34+S+46"))
    ∷ answers 0 0 (answer_numbers_only (to_post (holds listed)) (served "1+3"))  -- as it was
    ∷ answers 220 18 (answer_numbers_only (to_post (holds listed)) (served "34+46"))
    ∷ answers 210 18 (answer_numbers_only (to_post (holds listed)) (served "M+XL"))
    ∷ answers 24 5 (check_answer true (60200 ∷ []) domestic)  -- postcodes that do not exist
    ∷ answers 24 5 (check_answer true [] domestic)
    ∷ answers 21 5 (check_answer true (11000 ∷ []) cash_on_delivery)
    ∷ answers 24 5 (check_answer true [] (weighing_nothing "10.00" "2" ""))
    ∷ answers 27 5 (check_answer true [] (sent_to "" ""))
    ∷ answers 0 0 (check_answer true [] (sent_to "11000" "AT"))  -- abroad
    ∷ answers 238 0 (check_answer true (11000 ∷ 11000 ∷ []) domestic)  -- wrong tables
    ∷ answers 238 0 (check_answer false (100000 ∷ []) [])
    ∷ answers 236 0 (check_answer false listed [])
    ∷ names 70 54 first_piece  -- whose they are
    ∷ names 67 3601 cancelled_parcel
    ∷ names 0 0 (sent_to "11000" "")  -- CZ
    ∷ names 0 0 (parcel "BO5412345672F" "Eva" "")  -- no right identifier
    ∷ names 0 0 []
    ∷ not (strays (first_piece ∷ cancelled_parcel ∷ []) (sent_to "11000" ""))
    ∷ not (strays (sent_to "11000" "" ∷ first_piece ∷ []) second_piece)
    ∷ strays (first_piece ∷ sent_to "11000" "" ∷ []) cancelled_parcel
    ∷ strays (parcel "BO0100000017F" "Eva" "" ∷ []) (parcel "BO0100000017E" "Eva" "")  -- the same number under another type
    ∷ []

pub shown : all_hold claims ≡ true
unfolding rises_from right_table holds bytes all_hold number_after same_bytes shape_of weighted ends_right right_id parts_of field_of framed days_in read_date read_time filled contains is_host is_mail is_money digits decimal_places_up_to numbers_from codes number_for words has_code with_code added read_by how_many several_sizes asked_of given_of travel_of table record_answer check_answer table_blank_abroad answer_blank_abroad table_numbers_only answer_numbers_only in_field laid_out record_of parcel domestic sent_to cash_on_delivery first_piece first_piece_written_out second_piece cancelled_parcel weighing_nothing served answers names claims consignor_in another_in
shown = refl
