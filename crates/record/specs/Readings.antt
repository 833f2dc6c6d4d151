-- What is read of a record, each field by its number. The width that a reader asks for is that of the field which is cut.
-- Assumes nothing.
use Rattle.std.specs.Prelude.{ℕ, Bool, true, false, List, set}
use Rattle.layout.specs.Layout.{width_of, field_of}
use Rattle.fields.specs.Readings.{TextReading, EmptyReading}
use Rattle.fields.specs.declared.others.StatusReading.{StatusReading}
use Rattle.fields.specs.declared.others.StatusReading.TheVariants as Status
use Rattle.fields.specs.Dates.{read_date, read_time}
use Rattle.fields.specs.Texts.{read_text, read_mail}
use Rattle.fields.specs.Numbers.{read_telephone, read_symbol, read_count}
use Rattle.fields.specs.Others.{read_country, read_empty, read_status, read_main}
use Rattle.fields.specs.Postcodes.{read_postcode}
use Rattle.fields.specs.Amounts.{read_weight, read_money}
use Rattle.fields.specs.Services.{read_services}
use Rattle.record.specs.declared.readings.When.{When}
use Rattle.record.specs.declared.readings.Address.{Address}
use Rattle.record.specs.declared.readings.Street.{Street}
use Rattle.record.specs.declared.readings.Contact.{Contact}
use Rattle.record.specs.declared.readings.Goods.{Goods}
use Rattle.record.specs.declared.readings.Marks.{Marks}
use Rattle.record.specs.declared.readings.Piece.{Piece}
use Rattle.record.specs.declared.readings.Tail.{Tail}
use Rattle.record.specs.declared.readings.Readings.{Readings}

-- field n as a text, and as one that has to be blank
abbrev pub text_in : List ℕ → ℕ → TextReading
text_in rec n = read_text (width_of n) (field_of rec n)

abbrev pub empty_in : List ℕ → ℕ → EmptyReading
empty_in rec n = read_empty (width_of n) (field_of rec n)

-- ---- the fields, group by group
abbrev pub when_of : List ℕ → When
when_of rec = record { date = read_date (field_of rec 2); time = read_time (field_of rec 3) }

-- field 5 is judged by field 6
abbrev pub address_of : List ℕ → Address
address_of rec = record {
  name = text_in rec 4;
  postcode = read_postcode (read_country (field_of rec 6)) (field_of rec 5);
  country = read_country (field_of rec 6);
  municipality = text_in rec 7;
}

abbrev pub street_of : List ℕ → Street
street_of rec = record { district = text_in rec 8; street = text_in rec 9; house = text_in rec 10; orientation = text_in rec 11 }

abbrev pub contact_of : List ℕ → Contact
contact_of rec = record {
  telephone = read_telephone (field_of rec 12);
  mail = read_mail (field_of rec 13);
  empty = empty_in rec 14;
}

abbrev pub goods_of : List ℕ → Goods
goods_of rec = record {
  weight = read_weight (field_of rec 15);
  cash = read_money (field_of rec 16);
  price = read_money (field_of rec 17);
  services = read_services (field_of rec 18);
  status = read_status (field_of rec 19);
}

abbrev pub marks_of : List ℕ → Marks
marks_of rec = record { machine = text_in rec 20; symbol = read_symbol (field_of rec 21) }

abbrev pub piece_of : List ℕ → Piece
piece_of rec = record { main = read_main (field_of rec 22); serial = read_count (field_of rec 23); pieces = read_count (field_of rec 24) }

abbrev pub tail_of : List ℕ → Tail
tail_of rec = record { empty = empty_in rec 25; sender = text_in rec 26 }

-- all of them
abbrev pub readings_of : List ℕ → Readings
readings_of rec = record {
  when = when_of rec;
  address = address_of rec;
  street = street_of rec;
  contact = contact_of rec;
  goods = goods_of rec;
  marks = marks_of rec;
  piece = piece_of rec;
  tail = tail_of rec;
}

-- ---- in a record that is to be posted a status other than blank is malformed
abbrev pub malformed_status : Bool → StatusReading → Bool
malformed_status to_be_posted Status.Live = false
malformed_status to_be_posted Status.Cancelled = to_be_posted
malformed_status to_be_posted Status.Malformed = true

-- a record with its status set to "0 ": cancelled
abbrev pub cancelled_rec : List ℕ → List ℕ
cancelled_rec rec = set (set rec 340 48) 341 32
