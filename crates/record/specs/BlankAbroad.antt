-- The table as it stood when the postcode was digits everywhere and had to be blank abroad: two of its rows were others. It is here only to be held beside
-- today's: what it accepted is still accepted, and only for a filled postcode abroad is an answer another (`proofs/BlankAbroad`).
-- Assumes nothing.
use Rattle.std.specs.Prelude.{ℕ, Bool, cond, not, ◌&&◌, ◌||◌, List, [], ◌∷◌, ◌++◌, length, eqb}
use Rattle.text.specs.declared.Answer.{Answer}
use Rattle.text.specs.Answers.{wrong_length}
use Rattle.layout.specs.Layout.{width_of, field_of}
use Rattle.fields.specs.Readings.{NumberReading, CountryReading}
use Rattle.fields.specs.Texts.{malformed_text, absent_text}
use Rattle.fields.specs.Numbers.{read_digits, malformed_number, absent_number}
use Rattle.fields.specs.Others.{read_country, malformed_country, absent_country}
use Rattle.record.specs.Table.{Rule, at, rule, verdict}
use Rattle.record.specs.Readings.{text_in, when_of, address_of, street_of, contact_of, goods_of, marks_of, piece_of, tail_of}
use Rattle.record.specs.Rules.{Terms, when_flags, street_flags, contact_flags, late_flags, identifier_rule, malformed_rule, asked_in, postcode_rules, later_rules}

-- 5: five digits or blank, whatever the country
abbrev pub digits_in5 : List ℕ → NumberReading
digits_in5 rec = read_digits (width_of 5) (field_of rec 5)

-- domestic with blank postcode, or abroad with a filled one
abbrev pub misplaced : CountryReading → NumberReading → Bool
misplaced c p = absent_country c && absent_number p || not (absent_country c) && not (absent_number p)

-- fields 4 to 7
abbrev pub address_flags_blank_abroad : List ℕ → List Bool
address_flags_blank_abroad rec =
    malformed_text (text_in rec 4) ∷ malformed_number (digits_in5 rec) ∷ malformed_country (read_country (field_of rec 6)) ∷ malformed_text (text_in rec 7) ∷ []

-- name blank; postcode misplaced; municipality blank
abbrev pub address_rule_blank_abroad : List ℕ → Rule
address_rule_blank_abroad rec =
    rule 27
    (at 4 (absent_text (text_in rec 4))
    ∷ at 5 (misplaced (read_country (field_of rec 6)) (digits_in5 rec))
    ∷ at 7 (absent_text (text_in rec 7))
    ∷ [])

-- fields 2 to 26
abbrev pub malformed_blank_abroad : Bool → List ℕ → List Bool
malformed_blank_abroad to_be_posted rec =
    (when_flags (when_of rec) ++ (address_flags_blank_abroad rec ++ (street_flags (street_of rec) ++ contact_flags (contact_of rec))))
    ++ late_flags to_be_posted (goods_of rec) (marks_of rec) (piece_of rec) (tail_of rec)

-- the rules behind them are those of today
unfoldable pub table_blank_abroad : Terms → List ℕ → List Rule
table_blank_abroad t rec =
    identifier_rule rec
    ∷ malformed_rule (malformed_blank_abroad t.to_be_posted rec)
    ∷ address_rule_blank_abroad rec
    ∷ (postcode_rules t.known (address_of rec).postcode (asked_in (goods_of rec)).service41
    ++ later_rules rec (contact_of rec) (goods_of rec) (marks_of rec) (piece_of rec))

unfoldable pub answer_blank_abroad : Terms → List ℕ → Answer
answer_blank_abroad t rec = cond (eqb (length rec) 399) (verdict (table_blank_abroad t rec)) wrong_length
