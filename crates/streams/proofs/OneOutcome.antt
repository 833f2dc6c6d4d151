-- Of a reader that says which bytes it has left, a buffer of one length is filled in one way only: as many bytes, and the same.
use Rattle.std.proofs.Common.{◌≡◌, ℕ, ◌+◌, ◌<◌, ◌≤◌, List, Option, Some, None, arith, length, take, sym, ap, ◌∙◌, length-append, length-take-le}
use lib.Seq.{take_at}
use Rattle.streams.specs.Reading.{Came}

-- what came is the front of what was left, and as much as there is or there is room for
record Front (xs : List ℕ) (n : ℕ) (s : List ℕ) : Type 0 where
  fits : n ≤ length s
  there : n ≤ length xs
  ended : n < length s → length xs ≡ n
  same : take n s ≡ take n xs

front_of : (xs : List ℕ) (new : Option (List ℕ)) (n : ℕ) (s : List ℕ) → Came (Some xs) new n s → Front xs n s
front_of xs None n s c = elim c.front [ ]
front_of xs (Some ys) n s c =
    let long : length (take n s) ≡ n = length-take-le n s c.within.0 in
    let sum : length xs ≡ n + length ys = ap length c.front ∙ length-append (take n s) ys ∙ ap (λ (k : ℕ). k + length ys) long in
    record {
      fits = c.within.0;
      there = omega arith;
      ended = λ h. let none : length ys ≡ 0 = ap length (c.end h) in omega arith;
      same = sym (take_at (take n s) ys n long) ∙ ap (take n) (sym c.front);
    }

eq_of_neither : (n m : ℕ) → (n < m → ⊥) → (m < n → ⊥) → n ≡ m
eq_of_neither n m less more = omega arith

pub came_once : (xs : List ℕ) (new new' : Option (List ℕ)) (n m : ℕ) (s t : List ℕ) → length s ≡ length t → Came (Some xs) new n s → Came (Some xs) new' m t → (n ≡ m) × (take n s ≡ take m t)
came_once xs new new' n m s t e c d =
    let f = front_of xs new n s c in
    let g = front_of xs new' m t d in
    let less : n < m → ⊥ = λ h. let all = f.ended (omega arith) in omega arith in
    let more : m < n → ⊥ = λ h. let all = g.ended (omega arith) in omega arith in
    let counts : n ≡ m = eq_of_neither n m less more in
    (counts, f.same ∙ ap (λ (k : ℕ). take k xs) counts ∙ sym g.same)
