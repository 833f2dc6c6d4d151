-- A refusal has a code above 0, and its code and place say which it is. So what a call gives is settled by its answer.
-- Assumes nothing.
use Rattle.std.proofs.Common.{rules, ◌≡◌, refl, sym, ap, ◌∙◌, true, false, cond, eqb, Result, Ok, Err}
use Rattle.std.specs.Bool.{⊤}
use Rattle.text.specs.declared.Answer.{Answer}
use Rattle.text.specs.declared.Refusal.{Refusal}
use Rattle.text.specs.Answers.{accepted, answer_of, answered}

pub refuses : (e : Refusal) → eqb (answer_of e).code 0 ≡ false
refuses Refusal.WrongIdentifier = refl
refuses Refusal.Repeated = refl
refuses Refusal.SymbolMissing = refl
refuses Refusal.UnlistedUnder41 = refl
refuses Refusal.Unlisted = refl
refuses (Refusal.Blank field) = refl
refuses Refusal.WeightlessUnder41 = refl
refuses Refusal.Weightless = refl
refuses Refusal.CashOnDelivery = refl
refuses (Refusal.Travel field) = refl
refuses (Refusal.Malformed field) = refl
refuses Refusal.NotWholeRecords = refl
refuses Refusal.WrongLineEnd = refl
refuses Refusal.TooManyRecords = refl
refuses Refusal.ServicesExclude = refl
refuses Refusal.SymbolUnasked = refl
refuses Refusal.PriceSpecified = refl
refuses (Refusal.NoticeMissing field) = refl
refuses Refusal.NoPlace = refl
refuses Refusal.NoRoom = refl
refuses Refusal.NotPresent = refl
refuses Refusal.Cancelled = refl
refuses Refusal.NoEntry = refl
refuses Refusal.WrongBuffers = refl
refuses Refusal.WrongLength = refl
refuses Refusal.NothingStands = refl
refuses Refusal.WrongTable = refl
refuses (Refusal.SetNotWhole field) = refl
refuses Refusal.OtherConsignor = refl

-- the refusal that has a code and a place
refusal_of : Answer → Refusal
refusal_of a =
    (cond (eqb a.code 1) Refusal.WrongIdentifier
    (cond (eqb a.code 2) Refusal.Repeated
    (cond (eqb a.code 11) Refusal.SymbolMissing
    (cond (eqb a.code 21) Refusal.UnlistedUnder41
    (cond (eqb a.code 24) Refusal.Unlisted
    (cond (eqb a.code 27) (Refusal.Blank a.place)
    (cond (eqb a.code 31) Refusal.WeightlessUnder41
    (cond (eqb a.code 34) Refusal.Weightless
    (cond (eqb a.code 36) Refusal.CashOnDelivery
    (cond (eqb a.code 72) (Refusal.Travel a.place)
    (cond (eqb a.code 210) (Refusal.Malformed a.place)
    (cond (eqb a.code 211) Refusal.NotWholeRecords
    (cond (eqb a.code 212) Refusal.WrongLineEnd
    (cond (eqb a.code 213) Refusal.TooManyRecords
    (cond (eqb a.code 220) Refusal.ServicesExclude
    (cond (eqb a.code 221) Refusal.SymbolUnasked
    (cond (eqb a.code 222) Refusal.PriceSpecified
    (cond (eqb a.code 223) (Refusal.NoticeMissing a.place)
    (cond (eqb a.code 230) Refusal.NoPlace
    (cond (eqb a.code 231) Refusal.NoRoom
    (cond (eqb a.code 232) Refusal.NotPresent
    (cond (eqb a.code 233) Refusal.Cancelled
    (cond (eqb a.code 234) Refusal.NoEntry
    (cond (eqb a.code 235) Refusal.WrongBuffers
    (cond (eqb a.code 236) Refusal.WrongLength
    (cond (eqb a.code 237) Refusal.NothingStands
    (cond (eqb a.code 238) Refusal.WrongTable
    (cond (eqb a.code 240) (Refusal.SetNotWhole a.place)
    Refusal.OtherConsignor))))))))))))))))))))))))))))

refusal_back : (e : Refusal) → refusal_of (answer_of e) ≡ e
unfolding refusal_of
refusal_back Refusal.WrongIdentifier = refl
refusal_back Refusal.Repeated = refl
refusal_back Refusal.SymbolMissing = refl
refusal_back Refusal.UnlistedUnder41 = refl
refusal_back Refusal.Unlisted = refl
refusal_back (Refusal.Blank field) = refl
refusal_back Refusal.WeightlessUnder41 = refl
refusal_back Refusal.Weightless = refl
refusal_back Refusal.CashOnDelivery = refl
refusal_back (Refusal.Travel field) = refl
refusal_back (Refusal.Malformed field) = refl
refusal_back Refusal.NotWholeRecords = refl
refusal_back Refusal.WrongLineEnd = refl
refusal_back Refusal.TooManyRecords = refl
refusal_back Refusal.ServicesExclude = refl
refusal_back Refusal.SymbolUnasked = refl
refusal_back Refusal.PriceSpecified = refl
refusal_back (Refusal.NoticeMissing field) = refl
refusal_back Refusal.NoPlace = refl
refusal_back Refusal.NoRoom = refl
refusal_back Refusal.NotPresent = refl
refusal_back Refusal.Cancelled = refl
refusal_back Refusal.NoEntry = refl
refusal_back Refusal.WrongBuffers = refl
refusal_back Refusal.WrongLength = refl
refusal_back Refusal.NothingStands = refl
refusal_back Refusal.WrongTable = refl
refusal_back (Refusal.SetNotWhole field) = refl
refusal_back Refusal.OtherConsignor = refl

pub answer_once : (e f : Refusal) → answer_of e ≡ answer_of f → e ≡ f
answer_once e f same = sym (refusal_back e) ∙ (ap refusal_of same ∙ refusal_back f)

-- accepted is no refusal's answer
pub not_accepted : (e : Refusal) → accepted ≡ answer_of e → ⊥
not_accepted e same =
    let differ : true ≡ false = ap (λ a. eqb a.code 0) same ∙ refuses e in
    search (rules, differ)

pub answered_once : (r s : Result ⊤ Refusal) → answered r ≡ answered s → r ≡ s
answered_once (Ok x) (Ok y) same = refl
answered_once (Ok x) (Err e) same = absurd (not_accepted e same)
answered_once (Err e) (Ok x) same = absurd (not_accepted e (sym same))
answered_once (Err e) (Err f) same = ap Err (answer_once e f same)
