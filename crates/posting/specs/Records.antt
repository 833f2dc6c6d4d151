-- A file as a list of records: its lines joined give it, each line is a record of 399 bytes and two bytes; and what a good file is.
-- Assumes nothing.
use Rattle.std.specs.Prelude.{ℕ, ◌+◌, ◌*◌, ◌≤◌, ◌<◌, ◌≡◌, true, List, [], ◌∷◌, ◌++◌, map, length, get_or, take, drop}
use Rattle.text.specs.Lists.{joined}
use Rattle.psc.specs.Table.{Known}
use Rattle.layout.specs.Layout.{field_of}
use Rattle.fields.specs.declared.reading.Reading.TheVariants as Money
use Rattle.fields.specs.declared.others.StatusReading.TheVariants as Status
use Rattle.fields.specs.Amounts.{read_money}
use Rattle.fields.specs.Others.{read_status}
use Rattle.record.specs.Rules.{in_file, table}
use Rattle.record.specs.Outcomes.{none_broken}
use Rattle.record.specs.Consignors.{OneConsignor}
use Rattle.posting.specs.File.{up_to, record_at, records, id_at, line_of, passed, file_answer}
use Rattle.posting.specs.Sums.{live, cancelled, totals_of}

-- ---- n lines of 401 bytes, and their records
abbrev pub line_at : List ℕ → ℕ → List ℕ
line_at file i = take 401 (drop (i * 401) file)

abbrev pub lines : List ℕ → ℕ → List (List ℕ)
lines file n = up_to (line_at file) n

pub record Tiled (file : List ℕ) (n : ℕ) : Type 0 where
  pub together : joined (lines file n) ≡ file
  pub many : length (lines file n) ≡ n
  pub nth : (i : ℕ) → i < n → get_or (lines file n) i [] ≡ line_at file i
  pub split : (i : ℕ) → i < n → line_at file i ≡ record_at file i ++ get_or file (i * 401 + 399) 0 ∷ get_or file (i * 401 + 400) 0 ∷ []
  pub wide : (i : ℕ) → i < n → length (record_at file i) ≡ 399

-- ---- a file that is accepted
-- what the totals read of a record is well-formed
pub record Readable (rec : List ℕ) : Type 0 where
  pub status : read_status (field_of rec 19) ≡ Status.Malformed → ⊥
  pub cash : read_money (field_of rec 16) ≡ Money.Malformed → ⊥
  pub price : read_money (field_of rec 17) ≡ Money.Malformed → ⊥

-- records, each with its line end
abbrev pub lines_of : List (List ℕ) → List ℕ
lines_of recs = joined (map line_of recs)

-- Its n records, each with its line end, are the file. Each breaks no rule, no two have the same identifier, and all that name a consignor name the same.
-- Every record is counted as live or as cancelled, and the answer has the totals over them.
pub record GoodFile (known : Known) (file : List ℕ) (n : ℕ) : Type 0 where
  pub bytes : file ≡ lines_of (records file n)
  pub wide : (i : ℕ) → i < n → length (record_at file i) ≡ 399
  pub keeps : (i : ℕ) → i < n → none_broken (table (in_file known) (record_at file i)) ≡ true
  pub apart : (i j : ℕ) → i < j → j < n → id_at file i ≡ id_at file j → ⊥
  pub one : OneConsignor (records file n)
  pub reads : (i : ℕ) → i < n → Readable (record_at file i)
  pub counts : length (live (records file n)) + length (cancelled (records file n)) ≡ n
  pub answers : file_answer known file ≡ passed (totals_of (records file n))

-- ---- records that make such a file: at most 999, each of 399 bytes and breaking no rule, no two with the same identifier, of one consignor
pub record GoodRecords (known : Known) (recs : List (List ℕ)) : Type 0 where
  pub few : length recs ≤ 999
  pub wide : (i : ℕ) → i < length recs → length (get_or recs i []) ≡ 399
  pub keeps : (i : ℕ) → i < length recs → none_broken (table (in_file known) (get_or recs i [])) ≡ true
  pub apart : (i j : ℕ) → i < j → j < length recs → field_of (get_or recs i []) 1 ≡ field_of (get_or recs j []) 1 → ⊥
  pub one : OneConsignor recs

-- a file that is made of them
pub record MadeOfGood (known : Known) (file : List ℕ) : Type 0 where
  pub recs : List (List ℕ)
  pub good : GoodRecords known recs
  pub bytes : file ≡ lines_of recs
