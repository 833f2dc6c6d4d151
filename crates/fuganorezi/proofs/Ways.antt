-- What a check, a writer or a call of the batch promised, in C's numbers and structs.
-- Assumes nothing.
use Prim.Native.Nat.{ℕ}
use mathlib.Core.Bool.{Bool}
use mathlib.Core.List.{List}
use mathlib.Core.Path.{◌≡◌, refl, ◌∙◌, sym, ap, subst}
use Rattle.std.specs.Prelude.{Result, Ok, Err, Option, None}
use Rattle.std.specs.Result.{result_unwrap_or}
use Rattle.text.specs.declared.Answer.{Answer}
use Rattle.text.specs.declared.Refusal.{Refusal}
use Rattle.text.specs.Answers.{accepted, answer_of as refusal_answer}
use Rattle.ident.specs.declared.Parts.{Parts}
use Rattle.ident.specs.declared.consignor.Consignor.{Consignor}
use Rattle.ident.specs.Calls as Ident
use Rattle.ident.specs.Consignor.{whose, consignor_in}
use Rattle.ident.proofs.Readings.{read_right, read_refused}
use Rattle.fields.specs.Calls as Fields
use Rattle.posting.specs.declared.FileAnswer.{FileAnswer}
use Rattle.batch.specs.declared.Counts.{Counts}
use Rattle.batch.specs.Batch.{Batch, Call, batch_of, counts_or, answer_under, Called}
use Rattle.fuganorezi.specs.declared.BatchOutcome.{BatchOutcome}
use Rattle.fuganorezi.specs.declared.CodeAndPlace.{CodeAndPlace}
use Rattle.fuganorezi.specs.declared.IdentifierOutcome.{IdentifierOutcome}
use Rattle.fuganorezi.specs.declared.IdentifierParts.{IdentifierParts}
use Rattle.fuganorezi.specs.Calls.{parts_out, no_parts, identifier_out, IdentifierRead, answer_of, Answered, outcome_of, BatchCalled}

-- ---- an identifier that is read
module _ (s : List ℕ) (r : Result Parts Refusal) (read : Ident.Read s r) where
  pub right_by_value : (p : Parts) (c : Option Consignor) (q : IdentifierParts) (o : IdentifierOutcome) → r ≡ Ok p → c ≡ whose p → q ≡ parts_out p → o ≡ identifier_out accepted c q → IdentifierRead s o
  unfolding consignor_in
  right_by_value p c q o e ec eq eo = let told = read_right s r read p e in rw (eo, ec, eq, ← told.1, told.0)

  pub refused_by_value : (e : Refusal) (a : Answer) (o : IdentifierOutcome) → r ≡ Err e → a ≡ refusal_answer e → o ≡ identifier_out a None no_parts → IdentifierRead s o
  refused_by_value e a o is ea eo = let told = read_refused s r read e is in rw (eo, ea, ← told.1, told.0)

-- ---- the writers: what was promised of the answer holds of it by value
-- with the parts that C gave
pub identifier_by_value : {before after : List ℕ} {p given : Parts} {a : Answer} {r : CodeAndPlace}
    → p ≡ given → Ident.Written before p a after → answer_of r ≡ a → Ident.Written before given (answer_of r) after
identifier_by_value {before} {after} {p} {given} {a} {r} e wrote told =
    subst (λ (x : Parts). Ident.Written before x (answer_of r) after) e (subst (λ (x : Answer). Ident.Written before p x after) (sym told) wrote)

pub number_by_value : {width : ℕ} {has : Bool} {text before after : List ℕ} {a : Answer} {r : CodeAndPlace}
    → Fields.Written width has text before a after → answer_of r ≡ a → Fields.Written width has text before (answer_of r) after
number_by_value {width} {has} {text} {before} {after} wrote told = subst (λ (x : Answer). Fields.Written width has text before x after) (sym told) wrote

-- ---- the file check and the closing check: the answer that was told is the one that is promised
pub answered_as : {a b : FileAnswer} {r : ℕ} {out : List ℕ} → a ≡ b → Answered a r out → Answered b r out
answered_as {a} {b} {r} {out} e told = subst (λ (x : FileAnswer). Answered x r out) e told

-- ---- the batch
pub counts_left : (o : Result Counts Refusal) (got : Counts) → result_unwrap_or o got ≡ counts_or got o
counts_left (Ok c) got = refl
counts_left (Err e) got = refl

pub told : {table : List ℕ} {b : Batch} {call : Call} {a : Answer} {n : Counts} {r : BatchOutcome} {file journal : List ℕ}
    → Called table b call a n file journal → r ≡ outcome_of a n → BatchCalled table b call r file journal
told {table} {b} {call} {a} {n} kept e =
    record {
      outcome = e ∙ ap (λ (x : Answer). outcome_of x n) kept.answers ∙ ap (outcome_of (answer_under table b call)) kept.counted;
      filed = kept.filed;
      journaled = kept.journaled;
    }

-- with the counts that C gave
pub told_from : {table before entries : List ℕ} {c given : Counts} {call : Call} {a : Answer} {n : Counts} {r : BatchOutcome} {file journal : List ℕ}
    → c ≡ given
    → Called table (batch_of before entries c) call a n file journal
    → r ≡ outcome_of a n
    → BatchCalled table (batch_of before entries given) call r file journal
told_from {table} {before} {entries} {c} {given} {call} {a} {n} {r} {file} {journal} e kept t =
    subst (λ (x : Counts). BatchCalled table (batch_of before entries x) call r file journal) e (told kept t)
