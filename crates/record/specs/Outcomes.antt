-- What a record's answer means, in the paper's words: 0 exactly if none of the conditions holds; otherwise the first that holds, with its place. And
-- what is wrong with an address, when a postcode does not exist and the weight is missing, for each of which there are two codes, and what is wrong with
-- services.
-- Assumes nothing.
use Rattle.std.specs.Prelude.{ℕ, ◌≡◌, Bool, true, false, cond, ◌&&◌, List, [], ◌∷◌, ◌++◌, ◌↔◌, ◌⊎◌, length, replicate, take}
use Rattle.text.specs.declared.Answer.{Answer}
use Rattle.text.specs.Answers.{answer, accepted}
use Rattle.layout.specs.Layout.{width_of, field_of}
use Rattle.psc.specs.Table.{Known}
use Rattle.fields.specs.Texts.{malformed_text, absent_text}
use Rattle.fields.specs.Others.{read_country, malformed_country, absent_country}
use Rattle.fields.specs.Postcodes.{malformed_postcode, absent_postcode}
use Rattle.fields.specs.Amounts.{malformed_weight, absent_or_zero_weight, malformed_money}
use Rattle.fields.specs.Codes.{sizes, codes, numbers_of}
use Rattle.fields.specs.ServiceTexts.{GoodServices, TwoOf}
use Rattle.fields.specs.Meanings.{IsDigits, GoodPostcode}
use Rattle.record.specs.Table.{Case, Rule, at, places_from, broken}
use Rattle.record.specs.Readings.{when_of, address_of, street_of, contact_of, goods_of, marks_of, piece_of}
use Rattle.record.specs.Rules.{Terms, terms, when_flags, early_flags, asked_in, asks_for, given_of, travel_of, identifier_rule, form_rules, address_rule, postcode_rules, weight_rules, service_rules}

-- ---- no case, no rule of a list holds
unfoldable pub no_case : List Case → Bool
no_case [] = true
no_case (k ∷ ks) = cond k.when false (no_case ks)

unfoldable pub none_broken : List Rule → Bool
none_broken [] = true
none_broken (r ∷ rs) = cond (broken r) false (none_broken rs)

-- ---- the first case that holds, and the first rule that is broken
pub record FirstCase (c : ℕ) (ks : List Case) (a : Answer) : Type 0 where
  pub before : List Case
  pub here : Case
  pub after : List Case
  pub split : ks ≡ before ++ here ∷ after
  pub none : no_case before ≡ true
  pub holds : here.when ≡ true
  pub says : a ≡ answer c here.place

pub record FirstBroken (rs : List Rule) (a : Answer) : Type 0 where
  pub before : List Rule
  pub here : Rule
  pub after : List Rule
  pub split : rs ≡ before ++ here ∷ after
  pub none : none_broken before ≡ true
  pub case : FirstCase here.code here.cases a

-- ---- the answer of a table: 0 where no rule is broken, else the first that is, at the place of its first case that holds
pub data TableOutcome (rs : List Rule) (a : Answer) : Type 0 where
  good : none_broken rs ≡ true → a ≡ accepted → TableOutcome rs a
  bad : none_broken rs ≡ false → FirstBroken rs a → TableOutcome rs a

-- ---- one code: given exactly under this condition, and at no other place than this
pub record ExactlyAt (code place : ℕ) (condition : Type 0) (a : Answer) : Type 0 where
  pub when : (a.code ≡ code) ↔ condition
  pub there : a.code ≡ code → a.place ≡ place

-- ---- one case of a rule in its turn: 399 bytes that break no rule before it, no earlier case of the rule holds, and it does
pub record InItsTurn (rec : List ℕ) (before : List Rule) (earlier : List Case) (condition : Type 0) : Type 0 where
  pub long : length rec ≡ 399
  pub turn : none_broken before ≡ true
  pub first : no_case earlier ≡ true
  pub holds : condition

-- ---- field n is blank
abbrev pub Blank : List ℕ → ℕ → Type 0
Blank rec n = field_of rec n ≡ replicate (width_of n) 32

-- ---- 210 at places 5 and 6: no field before it is malformed, and the postcode is not good beside the country, or the country is malformed
abbrev pub PostcodeMalformed : List ℕ → Type 0
PostcodeMalformed rec =
    InItsTurn rec (identifier_rule rec ∷ []) (places_from 2 (when_flags (when_of rec) ++ malformed_text (address_of rec).name ∷ []))
    (GoodPostcode (field_of rec 6) (field_of rec 5) → ⊥)

abbrev pub CountryMalformed : List ℕ → Type 0
CountryMalformed rec =
    InItsTurn rec (identifier_rule rec ∷ []) (places_from 2 (when_flags (when_of rec) ++ malformed_text (address_of rec).name ∷ malformed_postcode (address_of rec).postcode ∷ []))
    (malformed_country (read_country (field_of rec 6)) ≡ true)

-- ---- 27 at places 4, 5 and 7: name blank; domestic with blank postcode; municipality blank
abbrev pub NameMissing : Bool → List ℕ → Type 0
NameMissing to_be_posted rec = InItsTurn rec (form_rules to_be_posted rec) [] (Blank rec 4)

abbrev pub PostcodeMissing : Bool → List ℕ → Type 0
PostcodeMissing to_be_posted rec = InItsTurn rec (form_rules to_be_posted rec) (at 4 (absent_text (address_of rec).name) ∷ []) (Blank rec 6 × Blank rec 5)

abbrev pub MunicipalityMissing : Bool → List ℕ → Type 0
MunicipalityMissing to_be_posted rec =
    InItsTurn rec (form_rules to_be_posted rec)
    (at 4 (absent_text (address_of rec).name) ∷ at 5 (absent_country (address_of rec).country && absent_postcode (address_of rec).postcode) ∷ [])
    (Blank rec 7)

-- ---- 21 and 24: a domestic postcode that doesn't exist; the country is blank, and the number that the five digits write is not known
pub record NotKnown (known : Known) (rec : List ℕ) : Type 0 where
  pub number : ℕ
  pub home : Blank rec 6
  pub digits : IsDigits 5 (field_of rec 5) number
  pub unknown : known number ≡ false

-- behind the form of the fields and 27
abbrev pub before_postcode : Bool → List ℕ → List Rule
before_postcode to_be_posted rec = form_rules to_be_posted rec ++ address_rule (address_of rec) ∷ []

abbrev pub PostcodeNotKnown : Terms → List ℕ → Type 0
PostcodeNotKnown t rec = InItsTurn rec (before_postcode t.to_be_posted rec) [] (NotKnown t.known rec)

-- ---- 31 and 34: the weight is missing, absent or zero; behind 21 and 24
abbrev pub before_weight : Terms → List ℕ → List Rule
before_weight t rec = before_postcode t.to_be_posted rec ++ postcode_rules t.known (address_of rec).postcode (asks_for rec 41)

abbrev pub WeightMissing : Terms → List ℕ → Type 0
WeightMissing t rec = InItsTurn rec (before_weight t rec) [] (absent_or_zero_weight (goods_of rec).weight ≡ true)

-- ---- 210 at place 18: no field before it is malformed, and the services are neither blank nor the joined texts of different codes
abbrev pub ServicesMalformed : List ℕ → Type 0
ServicesMalformed rec =
    InItsTurn rec (identifier_rule rec ∷ [])
    (places_from 2
    (early_flags (when_of rec) (address_of rec) (street_of rec) (contact_of rec)
    ++ malformed_weight (goods_of rec).weight ∷ malformed_money (goods_of rec).cash ∷ malformed_money (goods_of rec).price ∷ []))
    (GoodServices codes (field_of rec 18) → ⊥)

-- ---- 220: two of the services 34, 45 and 46, or two sizes; behind the weight and the four rules on money
abbrev pub before_exclusion : Terms → List ℕ → List Rule
before_exclusion t rec =
    before_weight t rec
    ++ (weight_rules (goods_of rec).weight (asks_for rec 41)
    ++ take 4 (service_rules (asked_in (goods_of rec)) (given_of (contact_of rec) (goods_of rec) (marks_of rec)) (travel_of rec (piece_of rec))))

abbrev pub ServicesExclude : Terms → List ℕ → Type 0
ServicesExclude t rec =
    InItsTurn rec (before_exclusion t rec) [] (TwoOf (asks_for rec) (34 ∷ 45 ∷ 46 ∷ []) ⊎ TwoOf (asks_for rec) (numbers_of sizes))

-- ---- every postcode exists: as it was before there was a table
abbrev pub any_postcode : Known
any_postcode n = true

abbrev pub with_any_postcode : Terms → Terms
with_any_postcode t = terms t.to_be_posted any_postcode
