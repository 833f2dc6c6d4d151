-- Order 1, "Sets that travel together": a set is all live records with the same main identifier; all give the same number of pieces, the serials run from
-- 01 to that number, each once.
-- Assumes nothing.
use Rattle.std.specs.Prelude.{ℕ, suc, Bool, cond, not, ◌&&◌, List, map, eqb, get_or}
use Rattle.text.specs.Bytes.{every, is_blank}
use Rattle.text.specs.Lists.{same_bytes}
use Rattle.layout.specs.Layout.{field_of}
use Rattle.fields.specs.Texts.{contains}
use Rattle.fields.specs.Numbers.{read_count, number_in}
use Rattle.fields.specs.Others.{read_status}
use Rattle.fields.specs.ServiceTexts.{all_different}
use Rattle.posting.specs.Sums.{kept, is_live, live}
use Rattle.posting.specs.File.{up_to}

-- ---- what a record says of its set
-- field 22, the main identifier
abbrev pub main_of : List ℕ → List ℕ
main_of rec = field_of rec 22

-- the number in field 23 or 24; 0 where there is none
abbrev pub count_in : List ℕ → ℕ → ℕ
count_in rec n = number_in (read_count (field_of rec n))

abbrev pub serial_of : List ℕ → ℕ
serial_of rec = count_in rec 23

abbrev pub pieces_of : List ℕ → ℕ
pieces_of rec = count_in rec 24

-- a live record is in a set, unless field 22 is blank
unfoldable pub in_set : List ℕ → Bool
in_set rec = is_live (read_status (field_of rec 19)) && not (is_blank (main_of rec))

-- ---- a set: all live records with the same main identifier
unfoldable pub set_under : List (List ℕ) → List ℕ → List (List ℕ)
set_under recs main = kept (λ rec. same_bytes (main_of rec) main) (live recs)

-- the numbers of pieces that its records give, and their serials
abbrev pub pieces_in : List (List ℕ) → List ℕ
pieces_in set = map pieces_of set

abbrev pub serials_in : List (List ℕ) → List ℕ
serials_in set = map serial_of set

-- the number of pieces that it says: its first record's
abbrev pub said_by : List (List ℕ) → ℕ
said_by set = get_or (pieces_in set) 0 0

-- ---- whole: all give the same number of pieces, and each serial from 01 to that number is there, none twice
unfoldable pub same_pieces : List (List ℕ) → Bool
same_pieces set = every (λ n. eqb n (said_by set)) (pieces_in set)

abbrev pub none_twice : List (List ℕ) → Bool
none_twice set = all_different (serials_in set)

unfoldable pub none_missing : List (List ℕ) → Bool
none_missing set = every (λ k. contains k (serials_in set)) (up_to suc (said_by set))

-- the place where a set offends: 24 for unequal numbers of pieces, else 23 for a repeated serial, else 22 where a serial is missing; 0 where it is whole
unfoldable pub offence : List (List ℕ) → ℕ
offence set = cond (same_pieces set) (cond (none_twice set) (cond (none_missing set) 0 22) 23) 24
