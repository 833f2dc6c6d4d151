-- Facts of the ways that a record's rules were asked in, group by group. No proof uses them now; the notes of the orders and of the port name them.
-- Assumes nothing.
use Prim.Native.Nat.{ℕ}
use mathlib.Core.Path.{◌≡◌, refl, ap, ◌∙◌}
use mathlib.Core.Bool.{Bool, true, false, ◌&&◌}
use mathlib.Core.Logic.{◌⊎◌, ⊎_elim}
use mathlib.Core.List.{List, [], ◌∷◌, ◌++◌}
use native.Mathlib.Omega.{arith}
use borrow.Author.Tests.{eq-eqb, ne_eqb}
use Rattle.text.specs.declared.Answer.{Answer}
use Rattle.text.specs.Answers.{answer, accepted, or_else}
use Rattle.layout.specs.Layout.{width_of, field_of}
use Rattle.psc.specs.Table.{Known}
use Rattle.fields.specs.declared.amounts.Grams.{Grams}
use Rattle.fields.specs.declared.services.Services.{Services}
use Rattle.fields.specs.declared.postcodes.Postcode.TheVariants.{Domestic, Foreign}
use Rattle.fields.specs.declared.reading.Reading.TheVariants.{Absent, Value, Malformed}
use Rattle.fields.specs.Readings.{TextReading, PostcodeReading, CountryReading, WeightReading}
use Rattle.fields.specs.Texts.{read_text, malformed_text, absent_text}
use Rattle.fields.specs.Others.{read_country, malformed_country, absent_country}
use Rattle.fields.specs.Postcodes.{read_postcode, malformed_postcode, absent_postcode}
use Rattle.fields.specs.Services.{services_in}
use Rattle.record.specs.declared.readings.Address.{Address}
use Rattle.record.specs.declared.readings.Contact.{Contact}
use Rattle.record.specs.declared.readings.Goods.{Goods}
use Rattle.record.specs.declared.readings.Marks.{Marks}
use Rattle.record.specs.declared.readings.Piece.{Piece}
use Rattle.record.specs.declared.rules.Asked.{Asked}
use Rattle.record.specs.declared.rules.Given.{Given}
use Rattle.record.specs.declared.rules.Travel.{Travel}
use Rattle.record.specs.Table.{rule, places_from, verdict}
use Rattle.record.specs.Readings.{address_of}
use Rattle.record.specs.Rules.{address_flags, asked_of, asked_in, given_of, travel_of, address_rule, two_codes, postcode_rules, weight_rules, service_rules, content_of}
use Rattle.record.proofs.Tables.{rule_then, table_then}

-- ---- address
pub address_is : (rec f4 f5 f6 f7 : List ℕ) (name municipality : TextReading) (postcode : PostcodeReading) (country : CountryReading)
    → f4 ≡ field_of rec 4 → name ≡ read_text (width_of 4) f4 → f6 ≡ field_of rec 6 → country ≡ read_country f6 → f5 ≡ field_of rec 5 → postcode ≡ read_postcode country f5
    → f7 ≡ field_of rec 7 → municipality ≡ read_text (width_of 7) f7
    → record { name = name; postcode = postcode; country = country; municipality = municipality } ≡ address_of rec
address_is rec f4 f5 f6 f7 name municipality postcode country p4 q4 p6 q6 p5 q5 p7 q7 = rw (q4, p4, q5, p5, q6, p6, q7, p7)

pub address_form : (w : Address) (a b c d : Bool) (r : Answer) → a ≡ malformed_text w.name → b ≡ malformed_postcode w.postcode → c ≡ malformed_country w.country
    → d ≡ malformed_text w.municipality → r ≡ verdict (rule 210 (places_from 4 (a ∷ b ∷ c ∷ d ∷ [])) ∷ []) → r ≡ verdict (rule 210 (places_from 4 (address_flags w)) ∷ [])
address_form w a b c d r ea eb ec ed er = er ∙ rw (ea, eb, ec, ed)

pub unplaced : (a : Address) (x h n : Bool) → x ≡ absent_text a.name → h ≡ absent_country a.country → n ≡ absent_postcode a.postcode → x ≡ false → (h && n) ≡ true
    → answer 27 5 ≡ verdict (address_rule a ∷ [])
unplaced a x h n ex eh en t g = rw (← ex, t, ← eh, ← en, g)

pub nowhere : (a : Address) (x h n y : Bool) → x ≡ absent_text a.name → h ≡ absent_country a.country → n ≡ absent_postcode a.postcode → y ≡ absent_text a.municipality
    → x ≡ false → (h && n) ≡ false → y ≡ true → answer 27 7 ≡ verdict (address_rule a ∷ [])
nowhere a x h n y ex eh en ey t g u = rw (← ex, t, ← eh, ← en, g, ← ey, u)

pub placed : (a : Address) (x h n y : Bool) → x ≡ absent_text a.name → h ≡ absent_country a.country → n ≡ absent_postcode a.postcode → y ≡ absent_text a.municipality
    → x ≡ false → (h && n) ≡ false → y ≡ false → accepted ≡ verdict (address_rule a ∷ [])
placed a x h n y ex eh en ey t g u = rw (← ex, t, ← eh, ← en, g, ← ey, u)

-- ---- postcode: one that is no domestic one is not looked up
pub postcode_not_domestic : (known : Known) (w : PostcodeReading) (s : Bool) → ((n : ℕ) → w ≡ Value (Domestic n) → ⊥) → accepted ≡ verdict (postcode_rules known w s)
postcode_not_domestic known Absent s t = refl
postcode_not_domestic known (Value (Domestic n)) s t = absurd (t n refl)
postcode_not_domestic known (Value (Foreign n)) s t = refl
postcode_not_domestic known Malformed s t = refl

pub postcode_other : (known : Known) (w : PostcodeReading) (s : Bool) → (w ≡ Absent) ⊎ ((n : ℕ) × (w ≡ Value (Foreign n))) ⊎ (w ≡ Malformed) → accepted ≡ verdict (postcode_rules known w s)
postcode_other known w s other =
    ⊎_elim (λ (is : w ≡ Absent). rw is refl) (⊎_elim (λ (is : (n : ℕ) × (w ≡ Value (Foreign n))). rw is.1 refl) (λ (is : w ≡ Malformed). rw is refl)) other

-- ---- weight
pub weight_no_value : (w : WeightReading) (s : Bool) (r : Answer) → ((g : Grams) → w ≡ Value g → ⊥) → r ≡ verdict (two_codes 31 34 15 true s) → r ≡ verdict (weight_rules w s)
weight_no_value Absent s r t e = e
weight_no_value (Value g) s r t e = absurd (t g refl)
weight_no_value Malformed s r t e = e

pub weight_none : (w : WeightReading) (s : Bool) (r : Answer) → (w ≡ Absent) ⊎ (w ≡ Malformed) → r ≡ verdict (two_codes 31 34 15 true s) → r ≡ verdict (weight_rules w s)
weight_none w s r none e = ⊎_elim (λ (is : w ≡ Absent). rw is e) (λ (is : w ≡ Malformed). rw is e) none

pub weight_zero : (w : WeightReading) (g : Grams) (s : Bool) (r : Answer) → w ≡ Value g → g.0 ≡ 0 → r ≡ verdict (two_codes 31 34 15 true s) → r ≡ verdict (weight_rules w s)
weight_zero w g s r e z h = rw (e, eq-eqb g.0 0 z) h

pub weight_some : (w : WeightReading) (g : Grams) (s : Bool) → w ≡ Value g → (g.0 ≡ 0 → ⊥) → accepted ≡ verdict (weight_rules w s)
weight_some w g s e n = rw (e, ne_eqb g.0 0 n)

-- ---- stage behind stage
pub content_is : (known : Known) (rec : List ℕ) (a : Address) (c : Contact) (g : Goods) (m : Marks) (p : Piece) (v : Services) (q : Asked) (f : Given) (t : Travel) (a1 a2 a3 a4 r3 r2 r1 : Answer)
    → v ≡ services_in g.services → q ≡ asked_of v → f ≡ given_of c g m → t ≡ travel_of rec p → a4 ≡ verdict (service_rules q f t)
    → a3 ≡ verdict (weight_rules g.weight q.service41) → r3 ≡ or_else a3 a4 → a2 ≡ verdict (postcode_rules known a.postcode q.service41) → r2 ≡ or_else a2 r3
    → a1 ≡ verdict (address_rule a ∷ []) → r1 ≡ or_else a1 r2 → r1 ≡ verdict (content_of known rec a c g m p)
content_is known rec a c g m p v q f t a1 a2 a3 a4 r3 r2 r1 ev eq ef et e4 e3 g3 e2 g2 e1 g1 =
    let asked : q ≡ asked_in g = eq ∙ ap asked_of ev in
    let postcode = postcode_rules known a.postcode (asked_in g).service41 in
    let weight = weight_rules g.weight (asked_in g).service41 in
    let services = service_rules (asked_in g) (given_of c g m) (travel_of rec p) in
    let later : r3 ≡ verdict (weight ++ services) = g3 ∙ rw (e3, e4, asked, ef, et) (table_then weight services (λ e. omega arith, (λ e. omega arith, tt))) in
    let rest : r2 ≡ verdict (postcode ++ (weight ++ services)) = g2 ∙ rw (e2, later, asked) (table_then postcode (weight ++ services) (λ e. omega arith, (λ e. omega arith, tt))) in
    g1 ∙ rw (e1, rest) (rule_then (address_rule a) (postcode ++ (weight ++ services)) (λ e. omega arith))
