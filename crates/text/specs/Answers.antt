-- The answer of a call: a code and a place.
use Rattle.std.specs.Prelude.{ℕ, cond, eqb, Result, Ok, Err}
use Rattle.text.specs.declared.Answer.{Answer}
use Rattle.text.specs.declared.Refusal.{Refusal}

abbrev pub answer : ℕ → ℕ → Answer
answer c p = record { code = c; place = p }

-- an accepted call answers code 0, place 0
abbrev pub accepted : Answer
accepted = answer 0 0

-- 236, place 0: a lent part or a record that has not the length it is to have
abbrev pub wrong_length : Answer
wrong_length = answer 236 0

-- ---- why a call refuses: the paper's code and place of each reason
abbrev pub answer_of : Refusal → Answer
answer_of Refusal.WrongIdentifier = answer 1 1
answer_of Refusal.Repeated = answer 2 1
answer_of Refusal.SymbolMissing = answer 11 21
answer_of Refusal.UnlistedUnder41 = answer 21 5
answer_of Refusal.Unlisted = answer 24 5
answer_of (Refusal.Blank field) = answer 27 field
answer_of Refusal.WeightlessUnder41 = answer 31 15
answer_of Refusal.Weightless = answer 34 15
answer_of Refusal.CashOnDelivery = answer 36 16
answer_of (Refusal.Travel field) = answer 72 field
answer_of (Refusal.Malformed field) = answer 210 field
answer_of Refusal.NotWholeRecords = answer 211 0
answer_of Refusal.WrongLineEnd = answer 212 0
answer_of Refusal.TooManyRecords = answer 213 0
answer_of Refusal.ServicesExclude = answer 220 18
answer_of Refusal.SymbolUnasked = answer 221 21
answer_of Refusal.PriceSpecified = answer 222 17
answer_of (Refusal.NoticeMissing field) = answer 223 field
answer_of Refusal.NoPlace = answer 230 0
answer_of Refusal.NoRoom = answer 231 0
answer_of Refusal.NotPresent = answer 232 0
answer_of Refusal.Cancelled = answer 233 0
answer_of Refusal.NoEntry = answer 234 0
answer_of Refusal.WrongBuffers = answer 235 0
answer_of Refusal.WrongLength = answer 236 0
answer_of Refusal.NothingStands = answer 237 0
answer_of Refusal.WrongTable = answer 238 0
answer_of (Refusal.SetNotWhole field) = answer 240 field
answer_of Refusal.OtherConsignor = answer 241 1

-- of what a call gives: accepted, or its refusal's
abbrev pub answered : {A : Type 0} → Result A Refusal → Answer
answered (Ok x) = accepted
answered (Err e) = answer_of e

-- the first answer, where it refuses, else the second
unfoldable pub or_else : Answer → Answer → Answer
or_else a b = cond (eqb a.code 0) b a
