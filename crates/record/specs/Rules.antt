-- "Order of checks in a record": the table, rule by rule.
-- Assumes nothing.
use Rattle.std.specs.Prelude.{ℕ, Bool, true, false, cond, not, ◌&&◌, ◌||◌, List, [], ◌∷◌, ◌++◌, length, get_or, eqb, ltb}
use Rattle.text.specs.declared.Answer.{Answer}
use Rattle.text.specs.Answers.{wrong_length}
use Rattle.text.specs.Lists.{same_bytes}
use Rattle.ident.specs.Identifier.{right_id}
use Rattle.layout.specs.Layout.{field_of}
use Rattle.psc.specs.Table.{right_table, wrong_table, Known, holds}
use Rattle.fields.specs.Readings.{WeightReading, PostcodeReading}
use Rattle.fields.specs.declared.services.Services.{Services}
use Rattle.fields.specs.declared.postcodes.Postcode.TheVariants as Postcode
use Rattle.fields.specs.declared.reading.Reading.TheVariants as Reading
use Rattle.fields.specs.Dates.{malformed_date, malformed_time}
use Rattle.fields.specs.Texts.{malformed_text, absent_text}
use Rattle.fields.specs.Numbers.{malformed_number, absent_number, number_in}
use Rattle.fields.specs.Others.{malformed_country, absent_country, malformed_empty, malformed_main, absent_main}
use Rattle.fields.specs.Postcodes.{malformed_postcode, absent_postcode}
use Rattle.fields.specs.Amounts.{malformed_weight, absent_or_zero_weight, malformed_money, absent_money, absent_or_zero_money}
use Rattle.fields.specs.Services.{has_code, malformed_services, services_in, several_sizes}
use Rattle.record.specs.declared.readings.Address.{Address}
use Rattle.record.specs.declared.readings.Street.{Street}
use Rattle.record.specs.declared.readings.Contact.{Contact}
use Rattle.record.specs.declared.readings.Goods.{Goods}
use Rattle.record.specs.declared.readings.Marks.{Marks}
use Rattle.record.specs.declared.readings.Piece.{Piece}
use Rattle.record.specs.declared.readings.Tail.{Tail}
use Rattle.record.specs.declared.readings.When.{When}
use Rattle.record.specs.declared.rules.Asked.{Asked}
use Rattle.record.specs.declared.rules.Given.{Given}
use Rattle.record.specs.declared.rules.Travel.{Travel}
use Rattle.record.specs.Table.{Rule, at, rule, places_from, verdict}
use Rattle.record.specs.Readings.{when_of, address_of, street_of, contact_of, goods_of, marks_of, piece_of, tail_of, malformed_status}

-- ---- what a record is judged by beside its bytes: whether it is to be posted, and which postcodes exist
pub record Terms : Type 0 where
  pub to_be_posted : Bool
  pub known : Known

abbrev pub terms : Bool → Known → Terms
terms to_be_posted known = record { to_be_posted = to_be_posted; known = known }

-- in a file, and to be posted
abbrev pub in_file : Known → Terms
in_file = terms false

abbrev pub to_post : Known → Terms
to_post = terms true

-- ---- which fields are malformed
abbrev pub when_flags : When → List Bool
when_flags w = malformed_date w.date ∷ malformed_time w.time ∷ []

abbrev pub address_flags : Address → List Bool
address_flags a =
    malformed_text a.name ∷ malformed_postcode a.postcode ∷ malformed_country a.country ∷ malformed_text a.municipality ∷ []

abbrev pub street_flags : Street → List Bool
street_flags s = malformed_text s.district ∷ malformed_text s.street ∷ malformed_text s.house ∷ malformed_text s.orientation ∷ []

abbrev pub contact_flags : Contact → List Bool
contact_flags c = malformed_number c.telephone ∷ malformed_text c.mail ∷ malformed_empty c.empty ∷ []

abbrev pub goods_flags : Bool → Goods → List Bool
goods_flags to_be_posted g =
    malformed_weight g.weight ∷ malformed_money g.cash ∷ malformed_money g.price ∷ malformed_services g.services
    ∷ malformed_status to_be_posted g.status ∷ []

abbrev pub marks_flags : Marks → List Bool
marks_flags m = malformed_text m.machine ∷ malformed_number m.symbol ∷ []

abbrev pub piece_flags : Piece → List Bool
piece_flags p = malformed_main p.main ∷ malformed_number p.serial ∷ malformed_number p.pieces ∷ []

abbrev pub tail_flags : Tail → List Bool
tail_flags t = malformed_empty t.empty ∷ malformed_text t.sender ∷ []

-- fields 2 to 14, and 15 to 26
abbrev pub early_flags : When → Address → Street → Contact → List Bool
early_flags w a s c = when_flags w ++ (address_flags a ++ (street_flags s ++ contact_flags c))

abbrev pub late_flags : Bool → Goods → Marks → Piece → Tail → List Bool
late_flags to_be_posted g m p t = goods_flags to_be_posted g ++ (marks_flags m ++ (piece_flags p ++ tail_flags t))

-- fields 2 to 26, in their order
abbrev pub malformed : Bool → When → Address → Street → Contact → Goods → Marks → Piece → Tail → List Bool
malformed to_be_posted w a s c g m p t = early_flags w a s c ++ late_flags to_be_posted g m p t

-- ---- what the rules on money and services ask
-- which services are there; `cash_service` is one of 2, 4, 5 and 41, `several_sizes` more than one size
unfoldable pub asked_of : Services → Asked
asked_of s = record {
  cash_service = has_code s 2 || has_code s 4 || has_code s 5 || has_code s 41;
  service7 = has_code s 7;
  service34 = has_code s 34;
  service41 = has_code s 41;
  service45 = has_code s 45;
  service46 = has_code s 46;
  service70 = has_code s 70;
  several_sizes = several_sizes s;
}

-- those of field 18, as it was read
abbrev pub asked_in : Goods → Asked
asked_in g = asked_of (services_in g.services)

-- the record asks for this service
abbrev pub asks_for : List ℕ → ℕ → Bool
asks_for rec n = has_code (services_in (goods_of rec).services) n

-- what stands in the fields that services ask for: 16, 17, 21, 12, 13
unfoldable pub given_of : Contact → Goods → Marks → Given
given_of c g m = record {
  cash_absent_or_zero = absent_or_zero_money g.cash;
  cash_filled = not (absent_money g.cash);
  price_absent_or_zero = absent_or_zero_money g.price;
  price_filled = not (absent_money g.price);
  symbol_filled = not (absent_number m.symbol);
  telephone_filled = not (absent_number c.telephone);
  mail_filled = not (absent_text c.mail);
}

-- prefixes under which several pieces may travel together
abbrev pub is_set_prefix : ℕ → ℕ → Bool
is_set_prefix a b =
    eqb a 66 && eqb b 79  -- BO
    || eqb a 79 && eqb b 86  -- OV
    || eqb a 68 && eqb b 82  -- DR
    || eqb a 78 && eqb b 80  -- NP

-- what stands in the fields of pieces that travel together: 22, 23, 24
unfoldable pub travel_of : List ℕ → Piece → Travel
travel_of rec p = record {
  set_prefix = is_set_prefix (get_or (field_of rec 1) 0 0) (get_or (field_of rec 1) 1 0);
  main_filled = not (absent_main p.main);
  serial_filled = not (absent_number p.serial);
  pieces_filled = not (absent_number p.pieces);
  serial_above_pieces = ltb (number_in p.pieces) (number_in p.serial);
  serial_is01 = eqb (number_in p.serial) 1;
  main_is_own = same_bytes (field_of rec 22) (field_of rec 1);
}

-- ---- the table
-- field 1 is no right identifier
abbrev pub identifier_rule : List ℕ → Rule
identifier_rule rec = rule 1 (at 1 (not (right_id (field_of rec 1))) ∷ [])

-- some field 2 to 26 is malformed; the lowest such
abbrev pub malformed_rule : List Bool → Rule
malformed_rule flags = rule 210 (places_from 2 flags)

abbrev pub form_of : Bool → List ℕ → Address → Contact → Goods → Marks → Piece → List Rule
form_of to_be_posted rec a c g m p = identifier_rule rec ∷ malformed_rule (malformed to_be_posted (when_of rec) a (street_of rec) c g m p (tail_of rec)) ∷ []

abbrev pub form_rules : Bool → List ℕ → List Rule
form_rules to_be_posted rec =
    form_of to_be_posted rec (address_of rec) (contact_of rec) (goods_of rec) (marks_of rec) (piece_of rec)

-- name blank; domestic with blank postcode; municipality blank
abbrev pub address_rule : Address → Rule
address_rule a =
    rule 27
    (at 4 (absent_text a.name)
    ∷ at 5 (absent_country a.country && absent_postcode a.postcode)
    ∷ at 7 (absent_text a.municipality)
    ∷ [])

-- one break with two codes at one place: the first where service 41 is present, the second otherwise
abbrev pub two_codes : ℕ → ℕ → ℕ → Bool → Bool → List Rule
two_codes with41 without place b service41 = rule with41 (at place (b && service41) ∷ []) ∷ rule without (at place (b && not service41) ∷ []) ∷ []

-- a domestic postcode that doesn't exist; a foreign one is not looked up
abbrev pub unlisted : Known → PostcodeReading → Bool
unlisted known Reading.Absent = false
unlisted known (Reading.Value (Postcode.Domestic n)) = not (known n)
unlisted known (Reading.Value (Postcode.Foreign n)) = false
unlisted known Reading.Malformed = false

abbrev pub postcode_rules : Known → PostcodeReading → Bool → List Rule
postcode_rules known p service41 = two_codes 21 24 5 (unlisted known p) service41

-- weight absent or zero
abbrev pub weight_rules : WeightReading → Bool → List Rule
weight_rules w service41 = two_codes 31 34 15 (absent_or_zero_weight w) service41

abbrev pub service_rules : Asked → Given → Travel → List Rule
service_rules s f p =
    rule 36 (at 16 (s.cash_service && f.cash_absent_or_zero || not s.cash_service && f.cash_filled) ∷ [])
    ∷ rule 11 (at 21 (s.service41 && not f.symbol_filled) ∷ [])
    ∷ rule 221 (at 21 (f.symbol_filled && not s.cash_service) ∷ [])
    ∷ rule 222 (at 17 (s.service7 && f.price_absent_or_zero || not s.service7 && f.price_filled) ∷ [])
    ∷ rule 220 (at 18 (s.service34 && s.service45 || s.service34 && s.service46 || s.service45 && s.service46 || s.several_sizes) ∷ [])
    ∷ rule 223
    (at 12 ((s.service34 || s.service45) && not f.telephone_filled)
    ∷ at 13 ((s.service45 || s.service46) && not f.mail_filled)
    ∷ [])
    ∷ rule 72
    (at 18 (s.service70 && not p.set_prefix)
    ∷ at 22 (s.service70 && not p.main_filled)
    ∷ at 23 (s.service70 && not p.serial_filled)
    ∷ at 24 (s.service70 && not p.pieces_filled)
    ∷ at 23 (s.service70 && p.serial_above_pieces)
    ∷ at 22 (s.service70 && (p.serial_is01 && not p.main_is_own || not p.serial_is01 && p.main_is_own))
    ∷ at 22 (not s.service70 && p.main_filled)
    ∷ at 23 (not s.service70 && p.serial_filled)
    ∷ at 24 (not s.service70 && p.pieces_filled)
    ∷ [])
    ∷ []

-- the rules behind the postcode
abbrev pub later_rules : List ℕ → Contact → Goods → Marks → Piece → List Rule
later_rules rec c g m p = weight_rules g.weight (asked_in g).service41 ++ service_rules (asked_in g) (given_of c g m) (travel_of rec p)

abbrev pub content_of : Known → List ℕ → Address → Contact → Goods → Marks → Piece → List Rule
content_of known rec a c g m p = address_rule a ∷ (postcode_rules known a.postcode (asked_in g).service41 ++ later_rules rec c g m p)

abbrev pub content_rules : Known → List ℕ → List Rule
content_rules known rec = content_of known rec (address_of rec) (contact_of rec) (goods_of rec) (marks_of rec) (piece_of rec)

-- all fourteen rules, in the paper's order
unfoldable pub table : Terms → List ℕ → List Rule
table t rec = form_rules t.to_be_posted rec ++ content_rules t.known rec

-- ---- the answer: 236 for another length, else the table's
unfoldable pub record_answer : Terms → List ℕ → Answer
record_answer t rec = cond (eqb (length rec) 399) (verdict (table t rec)) wrong_length

-- ---- what the record check and the check for posting answer under a lent table of postcodes: 238 first
unfoldable pub check_answer : Bool → List ℕ → List ℕ → Answer
check_answer to_be_posted psc rec = cond (right_table psc) (record_answer (terms to_be_posted (holds psc)) rec) wrong_table
