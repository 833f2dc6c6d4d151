-- What an answer means, in the paper's words: the answer to one record of a file, and the answer to the whole file.
-- Assumes nothing.
use Rattle.std.specs.Prelude.{ℕ, ◌+◌, ◌*◌, ◌%◌, ◌≤◌, ◌<◌, ◌≡◌, List, length, get_or}
use Rattle.text.specs.declared.Answer.{Answer}
use Rattle.text.specs.Answers.{answer, accepted}
use Rattle.psc.specs.Table.{Known}
use Rattle.ident.specs.Consignor.{Another}
use Rattle.record.specs.Rules.{in_file, record_answer}
use Rattle.record.specs.Consignors.{consignor_of}
use Rattle.posting.specs.declared.FileAnswer.{FileAnswer}
use Rattle.posting.specs.File.{record_at, id_at, line_answer, totals_over, refused, passed, records_in}

-- ---- one record of a file, counted from 0
-- record i is followed by 0Dh 0Ah
pub record Ended (file : List ℕ) (i : ℕ) : Type 0 where
  pub return : get_or file (i * 401 + 399) 0 ≡ 13
  pub feed : get_or file (i * 401 + 400) 0 ≡ 10

-- one of the first n records, cancelled or not, has the identifier of record i
pub record Repeated (file : List ℕ) (i n : ℕ) : Type 0 where
  pub earlier : ℕ
  pub before : earlier < n
  pub same : id_at file earlier ≡ id_at file i

-- record i names a consignor, and a record before it, cancelled or not, names another
pub record Strayed (file : List ℕ) (i : ℕ) : Type 0 where
  pub earlier : ℕ
  pub before : earlier < i
  pub other : Another (consignor_of (record_at file earlier)) (consignor_of (record_at file i))

-- 212 if the line end is wrong (place 0), the record's table, then 2 (place 1) if an earlier record has the same identifier, then 241 (place 1) if one names
-- another consignor
pub data LineOutcome (known : Known) (file : List ℕ) (i : ℕ) (a : Answer) : Type 0 where
  ends_wrong : (Ended file i → ⊥) → a ≡ answer 212 0 → LineOutcome known file i a
  breaks_table : Ended file i → ((record_answer (in_file known) (record_at file i)).code ≡ 0 → ⊥) → a ≡ record_answer (in_file known) (record_at file i) → LineOutcome known file i a
  repeats_earlier : Ended file i → (record_answer (in_file known) (record_at file i)).code ≡ 0 → Repeated file i i → a ≡ answer 2 1 → LineOutcome known file i a
  names_another : Ended file i → (record_answer (in_file known) (record_at file i)).code ≡ 0 → (Repeated file i i → ⊥) → Strayed file i → a ≡ answer 241 1 → LineOutcome known file i a
  right : Ended file i → (record_answer (in_file known) (record_at file i)).code ≡ 0 → (Repeated file i i → ⊥) → (Strayed file i → ⊥) → a ≡ accepted → LineOutcome known file i a

-- record i keeps every rule
pub record RightLine (known : Known) (file : List ℕ) (i : ℕ) : Type 0 where
  pub ended : Ended file i
  pub table : (record_answer (in_file known) (record_at file i)).code ≡ 0
  pub fresh : (j : ℕ) → j < i → id_at file j ≡ id_at file i → ⊥
  pub same : (j : ℕ) → j < i → Another (consignor_of (record_at file j)) (consignor_of (record_at file i)) → ⊥

-- record i keeps every rule before it: 2 is its answer exactly then
pub record Twice (known : Known) (file : List ℕ) (i : ℕ) : Type 0 where
  pub ended : Ended file i
  pub table : (record_answer (in_file known) (record_at file i)).code ≡ 0
  pub repeated : Repeated file i i

-- record i keeps every rule but the last: 241 is its answer exactly then
pub record OtherConsignor (known : Known) (file : List ℕ) (i : ℕ) : Type 0 where
  pub ended : Ended file i
  pub table : (record_answer (in_file known) (record_at file i)).code ≡ 0
  pub fresh : Repeated file i i → ⊥
  pub strayed : Strayed file i

-- ---- the whole file
-- First 211 if the length isn't a multiple of 401, then 213 if over 999 records; then the first break, with all totals zero; otherwise 0 and the totals.
pub data FileOutcome (known : Known) (file : List ℕ) (a : FileAnswer) : Type 0 where
  no_multiple : (length file % 401 ≡ 0 → ⊥) → a ≡ refused 211 0 0 → FileOutcome known file a
  too_many : length file % 401 ≡ 0 → 999 < records_in file → a ≡ refused 213 0 0 → FileOutcome known file a
  first_break : length file % 401 ≡ 0 → records_in file ≤ 999 → (i : ℕ) → i < records_in file
      → ((j : ℕ) → j < i → (line_answer known file j).code ≡ 0) → ((line_answer known file i).code ≡ 0 → ⊥)
      → a ≡ refused (line_answer known file i).code (i + 1) (line_answer known file i).place → FileOutcome known file a
  no_break : length file % 401 ≡ 0 → records_in file ≤ 999 → ((i : ℕ) → i < records_in file → (line_answer known file i).code ≡ 0)
      → a ≡ passed (totals_over file (records_in file)) → FileOutcome known file a

-- all rules are kept: code 0 is the answer exactly then
pub record AllRight (known : Known) (file : List ℕ) : Type 0 where
  pub multiple : length file % 401 ≡ 0
  pub few : records_in file ≤ 999
  pub lines : (i : ℕ) → i < records_in file → RightLine known file i
