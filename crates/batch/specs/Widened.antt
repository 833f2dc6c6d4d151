-- What holds of old lists of actions and old batches once the rules of the record accept more: for any two verdicts of which one accepts what the other
-- accepts. All of it is shown in `proofs/Widened`.
-- Assumes nothing.
use Rattle.std.specs.Prelude.{ℕ, true, ◌≡◌, List, ◌∷◌, map}
use Rattle.text.specs.declared.Answer.{Answer}
use Rattle.text.specs.Answers.{accepted}
use Rattle.psc.specs.Table.{Known}
use Rattle.record.specs.Rules.{to_post}
use Rattle.record.specs.BlankAbroad.{answer_blank_abroad}
use Rattle.record.specs.NumbersOnly.{answer_numbers_only}
use Rattle.batch.specs.Actions.{Action}
use Rattle.batch.specs.Rules.{Verdict, in_turn}
use Rattle.batch.specs.Batch.{Batch, Open, state, made, file_length, journal_length, CalledBy}
use Rattle.batch.specs.History.{call_of}
use Rattle.batch.specs.Demand.{RunOfCalls}

-- ---- every record that v accepts is accepted by w
abbrev pub Widens : Verdict → Verdict → Type 0
Widens v w = (rec : List ℕ) → (v rec).code ≡ 0 → (w rec).code ≡ 0

-- ---- a list of actions in the buffers of b, whatever they hold: each is acceptable in its turn; and where they are called for behind an opening, each is
-- accepted, and they leave what the list makes, in which there is no verdict
pub record Acceptable (w : Verdict) (b : Batch) (xs : List Action) : Type 0 where
  pub turns : in_turn w (file_length b) (journal_length b) xs ≡ true
  pub answers : (r : Answer) (answers : List Answer) (e : Batch) → RunOfCalls (CalledBy w) b (Open ∷ map call_of xs) (r ∷ answers) e → answers ≡ map (λ a. accepted) xs
  pub leaves : (r : Answer) (answers : List Answer) (e : Batch) → RunOfCalls (CalledBy w) b (Open ∷ map call_of xs) (r ∷ answers) e
      → e ≡ made (file_length b) (journal_length b) (state xs)

-- ---- the record's verdict when services were numbers only
abbrev pub numbers_only : Known → Verdict
numbers_only known rec = answer_numbers_only (to_post known) rec

-- ---- and when a postcode abroad had to be blank
abbrev pub blank_abroad : Known → Verdict
blank_abroad known rec = answer_blank_abroad (to_post known) rec
