-- 212, 2 and 241 are codes of the file alone: the record's table never gives them. So they are met exactly when the paper says. And 238 is given exactly under
-- a wrong table.
-- Assumes nothing.
use Prim.Native.Nat.{ℕ, ◌+◌, ◌*◌, ◌≤◌, ◌<◌}
use mathlib.Core.Path.{◌≡◌, refl, sym, ap, ◌∙◌}
use mathlib.Core.Bool.{Bool, true, false, cond}
use mathlib.Core.List.{List, [], ◌∷◌}
use mathlib.Core.Logic.{◌↔◌}
use native.Mathlib.Omega.{arith}
use lib.Dec.{ltb}
use lib.ListN.{length, get_or}
use Rattle.text.specs.declared.Answer.{Answer}
use Rattle.text.proofs.Booleans.{clash}
use Rattle.ident.specs.Consignor.{consignor_in}
use Rattle.record.specs.Rules.{in_file, record_answer}
use Rattle.record.specs.Consignors.{consignor_of, OneConsignor}
use Rattle.record.specs.Codes.{table_codes, record_codes, lacks}
use Rattle.record.proofs.Codes.{Lacking, lacking}
use Rattle.record.proofs.Order.{no_other_code}
use Rattle.psc.specs.Table.{right_table, Known, holds}
use Rattle.psc.specs.Text.{table_in, right_text}
use Rattle.psc.proofs.TextLaws.{right_text_table}
use Rattle.posting.specs.declared.FileAnswer.{FileAnswer}
use Rattle.posting.specs.File.{record_at, records, line_answer, refused, file_answer, table_refused, file_check}
use Rattle.posting.specs.Report.{input_answer, under_text}
use Rattle.posting.specs.Outcomes.{Ended, Repeated, Strayed, LineOutcome, ends_wrong, breaks_table, repeats_earlier, names_another, right, Twice, OtherConsignor, FileOutcome, no_multiple, too_many, first_break, no_break, AllRight}
use Rattle.posting.proofs.RecordList.{up_to_nth, id_is}
use Rattle.posting.proofs.Lines.{line_outcome}
use Rattle.posting.proofs.FirstBreak.{file_outcome, accepted_exactly}

-- ---- 212 exactly if the line end is wrong
pub code_212_exactly : (known : Known) (file : List ℕ) (i : ℕ) → ((line_answer known file i).code ≡ 212) ↔ (Ended file i → ⊥)
unfolding lacks
code_212_exactly known file i = go (line_outcome known file i) (no_other_code (in_file known) (record_at file i) 212 refl)
  where
    coded : {a b : Answer} → a ≡ b → a.code ≡ 212 → b.code ≡ 212
    coded e z = rw e at z

    go : {a : Answer} → LineOutcome known file i a → ((record_answer (in_file known) (record_at file i)).code ≡ 212 → ⊥) → (a.code ≡ 212) ↔ (Ended file i → ⊥)
    go (ends_wrong n e) t = (λ z. n, λ m. ap (λ (x : Answer). x.code) e)
    go (breaks_table d n e) t = (λ z. absurd (t (coded e z)), λ m. absurd (m d))
    go (repeats_earlier d g r e) t = (λ z. absurd (omega (arith, coded e z)), λ m. absurd (m d))
    go (names_another d g n s e) t = (λ z. absurd (omega (arith, coded e z)), λ m. absurd (m d))
    go (right d g n s e) t = (λ z. absurd (omega (arith, coded e z)), λ m. absurd (m d))

-- ---- 2 exactly if nothing comes before it and an earlier record, cancelled or not, has the same identifier
pub code_2_exactly : (known : Known) (file : List ℕ) (i : ℕ) → ((line_answer known file i).code ≡ 2) ↔ Twice known file i
unfolding lacks
code_2_exactly known file i = go (line_outcome known file i) (no_other_code (in_file known) (record_at file i) 2 refl)
  where
    coded : {a b : Answer} → a ≡ b → a.code ≡ 2 → b.code ≡ 2
    coded e z = rw e at z

    go : {a : Answer} → LineOutcome known file i a → ((record_answer (in_file known) (record_at file i)).code ≡ 2 → ⊥) → (a.code ≡ 2) ↔ Twice known file i
    go (ends_wrong n e) t = (λ z. absurd (omega (arith, coded e z)), λ w. absurd (n w.ended))
    go (breaks_table d n e) t = (λ z. absurd (t (coded e z)), λ w. absurd (n w.table))
    go (repeats_earlier d g r e) t = (λ z. record { ended = d; table = g; repeated = r }, λ w. ap (λ (x : Answer). x.code) e)
    go (names_another d g n s e) t = (λ z. absurd (omega (arith, coded e z)), λ w. absurd (n w.repeated))
    go (right d g n s e) t = (λ z. absurd (omega (arith, coded e z)), λ w. absurd (n w.repeated))

-- ---- 241 exactly if nothing comes before it, the record names a consignor, and an earlier one, cancelled or not, names another
pub code_241_exactly : (known : Known) (file : List ℕ) (i : ℕ) → ((line_answer known file i).code ≡ 241) ↔ OtherConsignor known file i
unfolding lacks
code_241_exactly known file i = go (line_outcome known file i) (no_other_code (in_file known) (record_at file i) 241 refl)
  where
    coded : {a b : Answer} → a ≡ b → a.code ≡ 241 → b.code ≡ 241
    coded e z = rw e at z

    go : {a : Answer} → LineOutcome known file i a → ((record_answer (in_file known) (record_at file i)).code ≡ 241 → ⊥) → (a.code ≡ 241) ↔ OtherConsignor known file i
    go (ends_wrong n e) t = (λ z. absurd (omega (arith, coded e z)), λ w. absurd (n w.ended))
    go (breaks_table d n e) t = (λ z. absurd (t (coded e z)), λ w. absurd (n w.table))
    go (repeats_earlier d g r e) t = (λ z. absurd (omega (arith, coded e z)), λ w. absurd (w.fresh r))
    go (names_another d g n s e) t = (λ z. record { ended = d; table = g; fresh = n; strayed = s }, λ w. ap (λ (x : Answer). x.code) e)
    go (right d g n s e) t = (λ z. absurd (omega (arith, coded e z)), λ w. absurd (s w.strayed))

-- both never hold behind records of one consignor: who has the identifier of an earlier record has its consignor. So which is asked first shows in no answer to
-- a file
pub twice_strays_not : (file : List ℕ) (i : ℕ) → i * 401 + 401 ≤ length file → OneConsignor (records file i) → Repeated file i i → Strayed file i → ⊥
twice_strays_not file i whole one twice stray =
    let j = twice.earlier in
    let nth : (k : ℕ) → k < i → get_or (records file i) k [] ≡ record_at file k = λ k h. up_to_nth (record_at file) i k [] h in
    let before : j * 401 + 401 ≤ length file = omega (arith, twice.before, whole) in
    let its : consignor_of (record_at file i) ≡ consignor_of (record_at file j) = ap consignor_in (sym (id_is file i whole) ∙ sym twice.same ∙ id_is file j before) in
    one.same stray.earlier j (rw (nth stray.earlier stray.before, nth j twice.before, ← its) stray.other)

-- ---- no other code than the file's own and the record's
-- what lacks 2 and 241 before the record's codes lacks these, and so 0
records_own : (c : ℕ) → lacks c (2 ∷ 241 ∷ record_codes) ≡ true → lacks c record_codes ≡ true
records_own c l = (lacking c 241 record_codes (lacking c 2 (241 ∷ record_codes) l).rest).rest

not_nothing : (c : ℕ) → lacks c record_codes ≡ true → ◌≡◌ {A = ℕ} 0 c → ⊥
not_nothing c l = (lacking c 0 table_codes (lacking c 236 (0 ∷ table_codes) l).rest).first

pub no_other_line_code : (known : Known) (file : List ℕ) (i c : ℕ) → lacks c (212 ∷ 2 ∷ 241 ∷ record_codes) ≡ true → (line_answer known file i).code ≡ c → ⊥
unfolding lacks
no_other_line_code known file i c l = go (line_outcome known file i) (lacking c 212 (2 ∷ 241 ∷ record_codes) l)
  where
    coded : {a b : Answer} → a ≡ b → a.code ≡ c → b.code ≡ c
    coded e z = rw e at z

    go : {a : Answer} → LineOutcome known file i a → Lacking c 212 (2 ∷ 241 ∷ record_codes) → a.code ≡ c → ⊥
    go (ends_wrong n e) m z = m.first (coded e z)
    go (breaks_table d n e) m z = no_other_code (in_file known) (record_at file i) c (records_own c m.rest) (coded e z)
    go (repeats_earlier d g r e) m z = (lacking c 2 (241 ∷ record_codes) m.rest).first (coded e z)
    go (names_another d g n s e) m z = (lacking c 241 record_codes (lacking c 2 (241 ∷ record_codes) m.rest).rest).first (coded e z)
    go (right d g n s e) m z = not_nothing c (records_own c m.rest) (coded e z)

pub no_other_file_code : (known : Known) (file : List ℕ) (c : ℕ) → lacks c (211 ∷ 213 ∷ 212 ∷ 2 ∷ 241 ∷ record_codes) ≡ true → (file_answer known file).code ≡ c → ⊥
unfolding lacks
no_other_file_code known file c l =
    let m = lacking c 211 (213 ∷ 212 ∷ 2 ∷ 241 ∷ record_codes) l in
    go (file_outcome known file) m.first (lacking c 213 (212 ∷ 2 ∷ 241 ∷ record_codes) m.rest)
  where
    coded : {a b : FileAnswer} → a ≡ b → a.code ≡ c → b.code ≡ c
    coded e z = rw e at z

    go : {a : FileAnswer} → FileOutcome known file a → (◌≡◌ {A = ℕ} 211 c → ⊥) → Lacking c 213 (212 ∷ 2 ∷ 241 ∷ record_codes) → a.code ≡ c → ⊥
    go (no_multiple n e) f m z = f (coded e z)
    go (too_many h k e) f m z = m.first (coded e z)
    go (first_break h k i q b x e) f m z = no_other_line_code known file i c m.rest (coded e z)
    go (no_break h k b e) f m z =
        not_nothing c (records_own c (lacking c 212 (2 ∷ 241 ∷ record_codes) m.rest).rest) (coded e z)

-- ---- under a lent table: 238 exactly if it is wrong, record 0 and place 0, before all else; and under a right one the file's answer by what it holds
pub right_table_lem : (psc file : List ℕ) → right_table psc ≡ true → file_check psc file ≡ file_answer (holds psc) file
unfolding file_check
right_table_lem psc file r = rw r

pub code_238_exactly : (psc file : List ℕ) → ((file_check psc file).code ≡ 238) ↔ (right_table psc ≡ false)
unfolding file_check lacks
code_238_exactly psc file = go (right_table psc)
  where
    go : (r : Bool) → ((cond r (file_answer (holds psc) file) table_refused).code ≡ 238) ↔ (r ≡ false)
    go true = (λ z. absurd (no_other_file_code (holds psc) file 238 refl z), λ e. absurd (clash refl e))
    go false = (λ z. refl, λ e. refl)

pub wrong_table_lem : (psc file : List ℕ) → right_table psc ≡ false → file_check psc file ≡ table_refused
unfolding file_check
wrong_table_lem psc file w = rw w

-- ---- accepted exactly if the table is right and all rules are kept
pub check_accepts_exactly : (psc file : List ℕ) → ((file_check psc file).code ≡ 0) ↔ ((right_table psc ≡ true) × AllRight (holds psc) file)
unfolding file_check
check_accepts_exactly psc file = go (right_table psc) (accepted_exactly (holds psc) file)
  where
    go : (r : Bool) → ((file_answer (holds psc) file).code ≡ 0) ↔ AllRight (holds psc) file
        → ((cond r (file_answer (holds psc) file) table_refused).code ≡ 0) ↔ ((r ≡ true) × AllRight (holds psc) file)
    go true e = (λ z. (refl, e.0 z), λ a. e.1 a.1)
    go false e = (λ z. absurd (omega (arith, z)), λ a. absurd (clash a.0 refl))

-- so then it is accepted by what the table holds
pub accepted_by : (psc file : List ℕ) → (file_check psc file).code ≡ 0 → (file_answer (holds psc) file).code ≡ 0
accepted_by psc file z = (accepted_exactly (holds psc) file).1 ((check_accepts_exactly psc file).0 z).1

-- ---- the checking program: 238 exactly if the table is wrong, and where it is given as text exactly if that is otherwise written
pub input_238_exactly : (psc input : List ℕ) → ((input_answer psc input).code ≡ 238) ↔ (right_table psc ≡ false)
unfolding input_answer lacks
input_238_exactly psc input = go (right_table psc) (ltb 64160 (length input))
  where
    go : (r long : Bool) → ((cond r (cond long (refused 213 0 0) (file_answer (holds psc) input)) table_refused).code ≡ 238) ↔ (r ≡ false)
    go true true = (λ z. absurd (omega (arith, z)), λ e. absurd (clash refl e))
    go true false = (λ z. absurd (no_other_file_code (holds psc) input 238 refl z), λ e. absurd (clash refl e))
    go false long = (λ z. refl, λ e. refl)

pub text_238_exactly : (text input : List ℕ) → ((under_text text (λ psc. input_answer psc input)).code ≡ 238) ↔ (right_text text ≡ false)
text_238_exactly text input = go (right_text text) refl
  where
    go : (r : Bool) → right_text text ≡ r → ((cond r (input_answer (table_in text) input) table_refused).code ≡ 238) ↔ (r ≡ false)
    go true e = (λ z. absurd (clash (right_text_table text e) ((input_238_exactly (table_in text) input).0 z)), λ f. absurd (clash refl f))
    go false e = (λ z. refl, λ f. refl)
