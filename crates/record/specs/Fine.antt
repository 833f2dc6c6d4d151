-- When a record breaks no rule, by groups of conditions that are asked together, each false. Private functions speak of it, and no promise of a public call
-- does: a record that is fine is accepted by its table (`proofs/FineLaws: fine_accepted`).
-- Assumes nothing.
use Rattle.std.specs.Prelude.{ℕ, ◌≡◌, Bool, true, not, ◌&&◌, ◌||◌, List, [], ◌∷◌, length, get_or, take, drop, eqb}
use Rattle.text.specs.Bytes.{every, is_blank}
use Rattle.psc.specs.Table.{Known}
use Rattle.fields.specs.Readings.{MoneyReading, NumberReading, CountryReading, PostcodeReading, TextReading}
use Rattle.fields.specs.Texts.{is_text, malformed_text, absent_text}
use Rattle.fields.specs.Numbers.{absent_number}
use Rattle.fields.specs.Others.{malformed_country, absent_country, malformed_empty}
use Rattle.fields.specs.Postcodes.{malformed_postcode, absent_postcode}
use Rattle.fields.specs.Amounts.{absent_or_zero_weight, absent_money, absent_or_zero_money}
use Rattle.record.specs.declared.readings.Address.{Address}
use Rattle.record.specs.declared.readings.Contact.{Contact}
use Rattle.record.specs.declared.readings.Goods.{Goods}
use Rattle.record.specs.declared.readings.Piece.{Piece}
use Rattle.record.specs.declared.readings.When.{When}
use Rattle.record.specs.declared.rules.Asked.{Asked}
use Rattle.record.specs.declared.rules.Travel.{Travel}
use Rattle.record.specs.Table.{whens}
use Rattle.record.specs.Readings.{when_of, address_of, street_of, contact_of, goods_of, marks_of, piece_of, tail_of}
use Rattle.record.specs.Rules.{when_flags, street_flags, contact_flags, goods_flags, piece_flags, malformed, asked_in, unlisted, content_rules}

abbrev pub none_of : List Bool → Bool
none_of [] = true
none_of (b ∷ bs) = not b && none_of bs

-- all of it is text, from within field 3 to the end of field 11
abbrev pub TextWithin : List ℕ → Type 0
TextWithin rec = (length rec ≡ 399) × (every is_text (take 176 (drop 22 rec)) ≡ true)

-- a text that starts with a space is blank
abbrev pub flush : List ℕ → Bool
flush f = not (eqb (get_or f 0 0) 32) || is_blank f

-- ---- what breaks a rule, group by group
abbrev pub name_breaks : Address → List Bool
name_breaks a = malformed_text a.name ∷ absent_text a.name ∷ malformed_text a.municipality ∷ absent_text a.municipality ∷ []

abbrev pub place_breaks : Known → CountryReading → PostcodeReading → List Bool
place_breaks known c p = malformed_country c ∷ malformed_postcode p ∷ (absent_country c && absent_postcode p) ∷ unlisted known p ∷ []

abbrev pub goods_breaks : Bool → Goods → List Bool
goods_breaks to_be_posted g = absent_or_zero_weight g.weight ∷ goods_flags to_be_posted g

abbrev pub cash_breaks : Asked → MoneyReading → NumberReading → List Bool
cash_breaks s cash symbol =
    (s.cash_service && absent_or_zero_money cash || not s.cash_service && not (absent_money cash))
    ∷ (s.service41 && not (not (absent_number symbol)))
    ∷ (not (absent_number symbol) && not s.cash_service)
    ∷ []

abbrev pub price_breaks : Asked → MoneyReading → List Bool
price_breaks s price = (s.service7 && absent_or_zero_money price || not s.service7 && not (absent_money price)) ∷ []

abbrev pub notice_breaks : Asked → NumberReading → TextReading → List Bool
notice_breaks s telephone mail =
    (s.service34 && s.service45 || s.service34 && s.service46 || s.service45 && s.service46 || s.several_sizes)
    ∷ ((s.service34 || s.service45) && not (not (absent_number telephone)))
    ∷ ((s.service45 || s.service46) && not (not (absent_text mail)))
    ∷ []

abbrev pub travel_breaks : Asked → Travel → List Bool
travel_breaks s p =
    (s.service70 && not p.set_prefix)
    ∷ (s.service70 && not p.main_filled)
    ∷ (s.service70 && not p.serial_filled)
    ∷ (s.service70 && not p.pieces_filled)
    ∷ (s.service70 && p.serial_above_pieces)
    ∷ (s.service70 && (p.serial_is01 && not p.main_is_own || not p.serial_is01 && p.main_is_own))
    ∷ (not s.service70 && p.main_filled)
    ∷ (not s.service70 && p.serial_filled)
    ∷ (not s.service70 && p.pieces_filled)
    ∷ []

-- ---- the groups together
pub record TextsFine (rec : List ℕ) : Type 0 where
  pub names : none_of (name_breaks (address_of rec)) ≡ true
  pub street : none_of (street_flags (street_of rec)) ≡ true
  pub machine : not (malformed_text (marks_of rec).machine) ≡ true
  pub sender : not (malformed_text (tail_of rec).sender) ≡ true

pub record FormFine (to_be_posted : Bool) (w : When) (c : Contact) (g : Goods) (p : Piece) (rec : List ℕ) : Type 0 where
  pub whens : none_of (when_flags w) ≡ true
  pub contacts : none_of (contact_flags c) ≡ true
  pub goods : none_of (goods_breaks to_be_posted g) ≡ true
  pub pieces : none_of (piece_flags p) ≡ true
  pub empty : not (malformed_empty (tail_of rec).empty) ≡ true

pub record ServicesFine (c : Contact) (g : Goods) (symbol : NumberReading) (p : Travel) : Type 0 where
  pub cash : none_of (cash_breaks (asked_in g) g.cash symbol) ≡ true
  pub price : none_of (price_breaks (asked_in g) g.price) ≡ true
  pub notices : none_of (notice_breaks (asked_in g) c.telephone c.mail) ≡ true
  pub travels : none_of (travel_breaks (asked_in g) p) ≡ true

-- ---- no field 2 to 26 is malformed, and no rule behind those is broken
pub record Fine (known : Known) (to_be_posted : Bool) (rec : List ℕ) : Type 0 where
  pub form : none_of (malformed to_be_posted (when_of rec) (address_of rec) (street_of rec) (contact_of rec) (goods_of rec) (marks_of rec) (piece_of rec) (tail_of rec)) ≡ true
  pub content : none_of (whens (content_rules known rec)) ≡ true
