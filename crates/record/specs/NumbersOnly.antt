-- The table as it stood when the services were numbers only: field 18 was read by the codes 1 to 99, and there was no size, so that the row on services that
-- exclude each other asked for 34, 45 and 46 alone (`proofs/NumbersOnly: no_size`). It is here only to be held beside today's: what it accepted is still
-- accepted, and only for a letter in field 18 is an answer another.
-- Assumes nothing.
use Rattle.std.specs.Prelude.{ℕ, cond, List, ◌++◌, length, eqb}
use Rattle.text.specs.declared.Answer.{Answer}
use Rattle.text.specs.Answers.{wrong_length}
use Rattle.layout.specs.Layout.{field_of}
use Rattle.fields.specs.Codes.{numbers}
use Rattle.fields.specs.Services.{read_by}
use Rattle.record.specs.declared.readings.Goods.{Goods}
use Rattle.record.specs.Table.{Rule, verdict}
use Rattle.record.specs.Readings.{address_of, contact_of, goods_of, marks_of, piece_of}
use Rattle.record.specs.Rules.{Terms, form_of, content_of}

abbrev pub goods_numbers_only : List ℕ → Goods
goods_numbers_only rec = record {
  weight = (goods_of rec).weight;
  cash = (goods_of rec).cash;
  price = (goods_of rec).price;
  services = read_by numbers (field_of rec 18);
  status = (goods_of rec).status;
}

-- the rules are those of today
abbrev pub rules_for : Terms → List ℕ → Goods → List Rule
rules_for t rec g =
    form_of t.to_be_posted rec (address_of rec) (contact_of rec) g (marks_of rec) (piece_of rec)
    ++ content_of t.known rec (address_of rec) (contact_of rec) g (marks_of rec) (piece_of rec)

unfoldable pub table_numbers_only : Terms → List ℕ → List Rule
table_numbers_only t rec = rules_for t rec (goods_numbers_only rec)

unfoldable pub answer_numbers_only : Terms → List ℕ → Answer
answer_numbers_only t rec = cond (eqb (length rec) 399) (verdict (table_numbers_only t rec)) wrong_length
