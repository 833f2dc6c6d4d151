-- What private functions ask of what they know of the records before: the table that the identifiers are noted in, and the consignor seen so far. No promise
-- of a public call speaks of it.
-- Assumes nothing.
use Rattle.std.specs.Prelude.{ℕ, ◌+◌, ◌*◌, ◌/◌, ◌%◌, ◌≤◌, ◌<◌, ◌≡◌, List, length, Result, Ok, Option}
use Rattle.text.specs.declared.Refusal.{Refusal}
use Rattle.text.specs.Answers.{answered}
use Rattle.std.specs.Simd.{first_chunks}
use Rattle.ident.specs.declared.consignor.Consignor.{Consignor}
use Rattle.psc.specs.Table.{Known}
use Rattle.index.specs.Laws.{Indexed}
use Rattle.record.specs.Consignors.{OneConsignor, first_of}
use Rattle.posting.specs.File.{records, line_answer}

-- the records before i are noted, and there is room for record i, which is one of at most 999 and whole
pub record RoomFor (file : List ℕ) (i : ℕ) (table : List ℕ) : Type 0 where
  pub few : i < 1000
  pub whole : i * 401 + 401 ≤ length file
  pub noted : Indexed file 0 i table
  pub room : i + 1 < length table

-- record i is noted, too, in as many slots
pub record NowNoted (file : List ℕ) (i : ℕ) (table after : List ℕ) : Type 0 where
  pub noted : Indexed file 0 (i + 1) after
  pub long : length after ≡ length table

-- the records before i are of one consignor, and this is the first that they name
pub record Seen (file : List ℕ) (i : ℕ) (seen : Option Consignor) : Type 0 where
  pub one : OneConsignor (records file i)
  pub first : seen ≡ first_of (records file i)

-- the answer to record i, which is noted, and its consignor seen, where it is accepted
pub record LineAnswered (known : Known) (file : List ℕ) (i : ℕ) (table after : List ℕ) (r : Result (Option Consignor) Refusal) : Type 0 where
  pub answers : answered r ≡ line_answer known file i
  pub notes : (c : Option Consignor) → r ≡ Ok c → NowNoted file i table after
  pub sees : (c : Option Consignor) → r ≡ Ok c → Seen file (i + 1) c

-- whole records, no more than 999, and their lines
pub record ToCheck (file : List ℕ) (lines : List (List ℕ)) : Type 0 where
  pub whole : length file % 401 ≡ 0
  pub few : length file / 401 ≤ 999
  pub many : length lines ≡ length file / 401
  pub cut : lines ≡ first_chunks 401 (length file / 401) file

-- a table that has none of the records yet, and room for all
pub record HasRoom (file table : List ℕ) : Type 0 where
  pub room : length file / 401 + 1 < length table
  pub none : Indexed file 0 0 table
