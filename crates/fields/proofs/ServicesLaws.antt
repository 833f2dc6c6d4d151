-- Services, field 18: which texts read as a set of codes, and which codes such a set has, by any table of codes whose texts can be told apart.
-- Assumes nothing.
use Prim.Native.Nat.{ℕ, ◌+◌, ◌-◌, ◌≤◌}
use mathlib.Core.Path.{◌≡◌, refl, sym, ap, ◌∙◌}
use mathlib.Core.Bool.{Bool, true, false, cond, not, ◌&&◌, ◌||◌, and-eq-true_iff, and-false, and-true, or-true, or-false}
use mathlib.Core.List.{List, [], ◌∷◌, ◌++◌, map, append_assoc}
use mathlib.Core.Logic.{◌↔◌}
use native.Mathlib.Omega.{arith}
use borrow.Author.Tests.{eqb-true, eqb-false, eq-eqb, ne_eqb, not-true}
use lib.Dec.{eqb}
use lib.ListN.{length, replicate, length-append, length-replicate, length-map}
use Rattle.text.specs.Bytes.{every, is_blank}
use Rattle.text.specs.Lists.{same_bytes}
use Rattle.text.specs.Numbers.{digits, decimal_places_up_to}
use Rattle.text.proofs.Booleans.{clash, both}
use Rattle.text.proofs.Lists.{same_refl, same_exactly}
use Rattle.fields.specs.declared.services.Services.{Services}
use Rattle.fields.specs.declared.reading.Reading.TheVariants.{Absent, Value, Malformed}
use Rattle.fields.specs.Readings.{ServicesReading}
use Rattle.fields.specs.Texts.{contains}
use Rattle.fields.specs.Codes.{Code, numbers_from, codes, number_for, text_for, has_number, has_text, is_code, in_word, is_word, told_apart}
use Rattle.fields.specs.Services.{in_front, words, numbers_in, has_code, no_services, with_code, added, read_by, malformed_services}
use Rattle.fields.specs.ServiceTexts.{plus_joined, services_text, all_different, with_codes, services_of, Writes, GoodServices, blank, written}
use Rattle.fields.proofs.Bits.{bit_with, bit_none}
use Rattle.fields.proofs.FrameLaws.{same_value}
use Rattle.fields.proofs.ByteLaws.{spaces_blank, blank_exactly}

-- ---- which codes a set has
pub has_none : (k : ℕ) → has_code no_services k ≡ false
unfolding has_code
has_none k = bit_none k

-- one code more that was not there
pub has_with : (s : Services) (c k : ℕ) → has_code s c ≡ false → has_code (with_code s c) k ≡ (eqb k c || has_code s k)
unfolding has_code with_code
has_with s c k new = bit_with c k s.bits new

-- none of these codes is in a set
abbrev apart : Services → List ℕ → Bool
apart s cs = every (λ c. not (has_code s c)) cs

apart_none : (cs : List ℕ) → apart no_services cs ≡ true
apart_none [] = refl
apart_none (c ∷ cs) = rw (has_none c, apart_none cs)

apart_with : (s : Services) (c : ℕ) (cs : List ℕ) → has_code s c ≡ false → apart (with_code s c) cs ≡ (not (contains c cs) && apart s cs)
unfolding contains
apart_with s c [] new = refl
apart_with s c (k ∷ cs) new = rw (has_with s c k new, apart_with s c cs new) (go (eqb k c) (has_code s k) (contains c cs) (apart s cs))
  where
    go : (e h n a : Bool) → (not (e || h) && (not n && a)) ≡ (not (e || n) && (not h && a))
    go true h n a = refl
    go false true true a = refl
    go false true false a = refl
    go false false true a = refl
    go false false false a = refl

eqb_swap : (a b : ℕ) → eqb a b ≡ eqb b a
eqb_swap a b = go (eqb b a) refl
  where
    go : (t : Bool) → eqb b a ≡ t → eqb a b ≡ t
    go true e = eq-eqb a b (sym (eqb-true b a e))
    go false e = ne_eqb a b (λ q. eqb-false b a e (sym q))

has_from : (s : Services) (cs : List ℕ) (k : ℕ) → all_different cs ≡ true → apart s cs ≡ true → has_code (with_codes s cs) k ≡ (contains k cs || has_code s k)
unfolding with_codes all_different contains
has_from s [] k d a = refl
has_from s (c ∷ cs) k d a =
    let p = (and-eq-true_iff (not (contains c cs)) (all_different cs)).0 d in
    let q = (and-eq-true_iff (not (has_code s c)) (apart s cs)).0 a in
    let new : has_code s c ≡ false = not-true (has_code s c) q.0 in
    let more : apart (with_code s c) cs ≡ true = apart_with s c cs new ∙ rw (p.0, q.1) in
    has_from (with_code s c) cs k p.1 more ∙ rw (has_with s c k new, eqb_swap k c) (go (contains k cs) (eqb c k) (has_code s k))
  where
    go : (n e h : Bool) → (n || (e || h)) ≡ (e || n || h)
    go true e h = ap (λ (t : Bool). t || h) (sym (or-true e))
    go false e h = ap (λ (t : Bool). t || h) (sym (or-false e))

-- the set of codes that are all different has just these
pub has_exactly : (cs : List ℕ) (k : ℕ) → all_different cs ≡ true → has_code (services_of cs) k ≡ contains k cs
has_exactly cs k d = has_from no_services cs k d (apart_none cs) ∙ rw (has_none k) (or-false (contains k cs))

-- ---- codes are added exactly if each is a code, they are all different, and none is there already
abbrev addable : Services → List ℕ → Bool
addable s cs = every is_code cs && (all_different cs && apart s cs)

added_is : (s : Services) (cs : List ℕ) → added s cs ≡ cond (addable s cs) (Value (with_codes s cs)) Malformed
unfolding added all_different with_codes
added_is s [] = refl
added_is s (c ∷ cs) = go (is_code c) (has_code s c) refl (λ new. added_is (with_code s c) cs ∙ rw (apart_with s c cs new))
  where
    order : (e d n a : Bool) → (e && (d && (n && a))) ≡ (e && (n && d && a))
    order e true n a = ap (λ (t : Bool). e && (t && a)) (sym (and-true n))
    order e false n a = ap (λ (t : Bool). e && (t && a)) (sym (and-false n))

    never : (e n : Bool) → (e && (n && false)) ≡ false
    never e n = rw (and-false n) (and-false e)

    go : (i h : Bool) → has_code s c ≡ h
        → (has_code s c ≡ false → added (with_code s c) cs ≡ cond (every is_code cs && (all_different cs && (not (contains c cs) && apart s cs))) (Value (with_codes (with_code s c) cs)) Malformed)
        → cond (i && not h) (added (with_code s c) cs) Malformed
        ≡ cond (i && every is_code cs && (not (contains c cs) && all_different cs && (not h && apart s cs))) (Value (with_codes (with_code s c) cs)) Malformed
    go false h e rest = refl
    go true true e rest = rw (never (every is_code cs) (not (contains c cs) && all_different cs))
    go true false e rest = rest e ∙ rw (order (every is_code cs) (all_different cs) (not (contains c cs)) (apart s cs))

-- ---- codes that can be told apart
record Row (c : Code) (cs : List Code) : Type 0 where
  code : is_code c.number ≡ true
  word : is_word c.text ≡ true
  number_once : has_number cs c.number ≡ false
  text_once : has_text cs c.text ≡ false
  rest : told_apart cs ≡ true

row : (c : Code) (cs : List Code) → told_apart (c ∷ cs) ≡ true → Row c cs
unfolding told_apart
row c cs h =
    let p = both _ (told_apart cs) h in
    let q = both _ (not (has_text cs c.text)) p.0 in
    let r = both _ (not (has_number cs c.number)) q.0 in
    let t = both (is_code c.number) (is_word c.text) r.0 in
    record { code = t.0; word = t.1; number_once = not-true _ r.1; text_once = not-true _ q.1; rest = p.1 }

text_there : (table : List Code) (n : ℕ) → has_number table n ≡ true → has_text table (text_for table n) ≡ true
unfolding has_number has_text text_for
text_there [] n h = h
text_there (c ∷ cs) n h = go (eqb c.number n) (text_there cs n) h
  where
    go : (t : Bool) → (has_number cs n ≡ true → has_text cs (text_for cs n) ≡ true) → (t || has_number cs n) ≡ true
        → (same_bytes c.text (cond t c.text (text_for cs n)) || has_text cs (cond t c.text (text_for cs n))) ≡ true
    go true rest h = rw (same_refl c.text)
    go false rest h = rw (rest h) (or-true (same_bytes c.text (text_for cs n)))

-- what is written for a number is read as that number
record Told (table : List Code) (n : ℕ) : Type 0 where
  code : is_code n ≡ true
  word : is_word (text_for table n) ≡ true
  number : number_for table (text_for table n) ≡ n

told : (table : List Code) (n : ℕ) → told_apart table ≡ true → has_number table n ≡ true → Told table n
unfolding has_number text_for number_for
told [] n a h = absurd (clash h refl)
told (c ∷ cs) n a h = let r = row c cs a in go r (eqb c.number n) refl (λ g. told cs n r.rest g) h
  where
    go : Row c cs → (t : Bool) → eqb c.number n ≡ t → (has_number cs n ≡ true → Told cs n) → (t || has_number cs n) ≡ true → Told (c ∷ cs) n
    go r true e rest h =
        let same = eqb-true c.number n e in
        record { code = ap is_code (sym same) ∙ r.code; word = rw e r.word; number = rw (e, same_refl c.text) same }
    go r false e rest h =
        let t = rest h in
        let other : same_bytes c.text (text_for cs n) ≡ false = differ (same_bytes c.text (text_for cs n)) refl in
        record { code = t.code; word = rw e t.word; number = rw (e, other) t.number }
      where
        differ : (t : Bool) → same_bytes c.text (text_for cs n) ≡ t → t ≡ false
        differ true q = absurd (clash (ap (has_text cs) ((same_exactly c.text (text_for cs n)).0 q) ∙ text_there cs n h) r.text_once)
        differ false q = refl

-- and what is read as a number is written for it
record Found (table : List Code) (t : List ℕ) : Type 0 where
  there : has_number table (number_for table t) ≡ true
  text : text_for table (number_for table t) ≡ t

found : (table : List Code) (t : List ℕ) → told_apart table ≡ true → is_code (number_for table t) ≡ true → Found table t
unfolding number_for has_number text_for
found [] t a h = absurd (clash h refl)
found (c ∷ cs) t a h = let r = row c cs a in go r (same_bytes c.text t) refl (λ g. found cs t r.rest g) h
  where
    go : Row c cs → (q : Bool) → same_bytes c.text t ≡ q → (is_code (number_for cs t) ≡ true → Found cs t) → is_code (cond q c.number (number_for cs t)) ≡ true → Found (c ∷ cs) t
    go r true e rest h =
        let self = eq-eqb c.number c.number refl in
        record { there = rw (e, self); text = rw (e, self) ((same_exactly c.text t).0 e) }
    go r false e rest h =
        let f = rest h in
        let other : eqb c.number (number_for cs t) ≡ false = ne_eqb c.number (number_for cs t) (λ q. clash (ap (has_number cs) q ∙ f.there) r.number_once) in
        record { there = rw (e, f.there) (or-true (eqb c.number (number_for cs t))); text = rw (e, other) f.text }

-- ---- the words of a text
some_word : (f : List ℕ) → 1 ≤ length (words f)
unfolding words
some_word [] = omega arith
some_word (b ∷ f) = go (is_blank (b ∷ f)) (eqb b 43) (words f)
  where
    go : (s p : Bool) (ws : List (List ℕ)) → 1 ≤ length (cond s ([] ∷ []) (cond p ([] ∷ ws) (in_front b ws)))
    go true p ws = omega arith
    go false true ws = omega arith
    go false false [] = omega arith
    go false false (w ∷ ws) = omega arith

joined_plus : (ws : List (List ℕ)) → 1 ≤ length ws → plus_joined ([] ∷ ws) ≡ 43 ∷ plus_joined ws
unfolding plus_joined
joined_plus [] h = absurd (omega arith)
joined_plus (w ∷ ws) h = refl

joined_byte : (b : ℕ) (ws : List (List ℕ)) → plus_joined (in_front b ws) ≡ b ∷ plus_joined ws
unfolding plus_joined
joined_byte b [] = refl
joined_byte b (w ∷ []) = refl
joined_byte b (w ∷ v ∷ ws) = refl

-- joined again they are the text, but for spaces behind
joined_again : (f : List ℕ) → (k : ℕ) × (f ≡ plus_joined (words f) ++ replicate k 32)
unfolding words plus_joined
joined_again [] = (0, refl)
joined_again (b ∷ f) = go (is_blank (b ∷ f)) refl (eqb b 43) refl (joined_again f)
  where
    go : (s : Bool) → is_blank (b ∷ f) ≡ s → (p : Bool) → eqb b 43 ≡ p → (k : ℕ) × (f ≡ plus_joined (words f) ++ replicate k 32)
        → (k : ℕ) × (b ∷ f ≡ plus_joined (cond s ([] ∷ []) (cond p ([] ∷ words f) (in_front b (words f)))) ++ replicate k 32)
    go true e p ep r = (length (b ∷ f), (blank_exactly (length (b ∷ f)) (b ∷ f)).0 (refl, e))
    go false e true ep r = (r.0, rw (joined_plus (words f) (some_word f), eqb-true b 43 ep) (ap (λ (x : List ℕ). 43 ∷ x) r.1))
    go false e false ep r = (r.0, rw (joined_byte b (words f)) (ap (λ (x : List ℕ). b ∷ x) r.1))

-- words that are joined come apart again
module _ (b : ℕ) (f : List ℕ) where
  word_byte : in_word b ≡ true → words (b ∷ f) ≡ in_front b (words f)
  unfolding words
  word_byte h = let p = both (not (eqb b 32)) (not (eqb b 43)) h in rw (not-true (eqb b 32) p.0, not-true (eqb b 43) p.1)

word_plus : (w f : List ℕ) → every in_word w ≡ true → words (w ++ 43 ∷ f) ≡ w ∷ words f
unfolding words
word_plus [] f h = refl
word_plus (b ∷ w) f h = let p = both (in_word b) (every in_word w) h in word_byte b (w ++ 43 ∷ f) p.0 ∙ ap (in_front b) (word_plus w f p.1)

blank_words : (f : List ℕ) → is_blank f ≡ true → words f ≡ [] ∷ []
unfolding words
blank_words [] h = refl
blank_words (b ∷ f) h = rw h

word_spaces : (w : List ℕ) (k : ℕ) → every in_word w ≡ true → words (w ++ replicate k 32) ≡ w ∷ []
word_spaces [] k h = blank_words (replicate k 32) (spaces_blank k)
word_spaces (b ∷ w) k h = let p = both (in_word b) (every in_word w) h in word_byte b (w ++ replicate k 32) p.0 ∙ ap (in_front b) (word_spaces w k p.1)

word_bytes : (w : List ℕ) → is_word w ≡ true → every in_word w ≡ true
word_bytes [] h = refl
word_bytes (b ∷ w) h = h

module _ (table : List Code) (apart-codes : told_apart table ≡ true) where
  -- ---- what is written is read, and what is read is what is written
  text_bytes : (n : ℕ) → has_number table n ≡ true → every in_word (text_for table n) ≡ true
  text_bytes n h = word_bytes (text_for table n) (told table n apart-codes h).word

  written_words : (n : ℕ) (ns : List ℕ) (k : ℕ) → every (has_number table) (n ∷ ns) ≡ true → words (services_text table (n ∷ ns) ++ replicate k 32) ≡ map (text_for table) (n ∷ ns)
  unfolding plus_joined
  written_words n [] k h = word_spaces (text_for table n) k (text_bytes n (both (has_number table n) true h).0)
  written_words n (m ∷ ns) k h =
      let p = both (has_number table n) (every (has_number table) (m ∷ ns)) h in
      ap words (append_assoc (text_for table n) (43 ∷ services_text table (m ∷ ns)) (replicate k 32))
      ∙ word_plus (text_for table n) (services_text table (m ∷ ns) ++ replicate k 32) (text_bytes n p.0)
      ∙ ap (λ (ws : List (List ℕ)). text_for table n ∷ ws) (written_words m ns k p.1)

  numbers_back : (ns : List ℕ) → every (has_number table) ns ≡ true → map (number_for table) (map (text_for table) ns) ≡ ns
  numbers_back [] h = refl
  numbers_back (n ∷ ns) h =
      let p = both (has_number table n) (every (has_number table) ns) h in
      rw ((told table n apart-codes p.0).number, numbers_back ns p.1)

  texts_back : (ws : List (List ℕ)) → every is_code (map (number_for table) ws) ≡ true
      → (every (has_number table) (map (number_for table) ws) ≡ true) × (map (text_for table) (map (number_for table) ws) ≡ ws)
  texts_back [] h = (refl, refl)
  texts_back (w ∷ ws) h =
      let p = both (is_code (number_for table w)) (every is_code (map (number_for table) ws)) h in
      let f = found table w apart-codes p.0 in
      let r = texts_back ws p.1 in
      (rw (f.there, r.0), rw (f.text, r.1))

  all_codes : (ns : List ℕ) → every (has_number table) ns ≡ true → every is_code ns ≡ true
  all_codes [] h = refl
  all_codes (n ∷ ns) h =
      let p = both (has_number table n) (every (has_number table) ns) h in
      rw ((told table n apart-codes p.0).code, all_codes ns p.1)

  read_writes : (f : List ℕ) (s : Services) → read_by table f ≡ Value s → (ns : List ℕ) × Writes table f s ns
  unfolding read_by
  read_writes f s r = go (eqb (length f) 30) (is_blank f) (addable no_services (numbers_in table f)) refl refl (rw (added_is no_services (numbers_in table f)) at r)
    where
      go : (l b a : Bool) → eqb (length f) 30 ≡ l → addable no_services (numbers_in table f) ≡ a
          → cond l (cond b Absent (cond a (Value (services_of (numbers_in table f))) Malformed)) Malformed ≡ Value s → (ns : List ℕ) × Writes table f s ns
      go false b a el ea r = let z : ◌≡◌ {A = ℕ} 0 1 = cc in absurd (omega arith)
      go true true a el ea r = let z : ◌≡◌ {A = ℕ} 0 1 = cc in absurd (omega arith)
      go true false false el ea r = let z : ◌≡◌ {A = ℕ} 0 1 = cc in absurd (omega arith)
      go true false true el ea r =
          let ns = numbers_in table f in
          let long = eqb-true (length f) 30 el in
          let p = both (every is_code ns) (all_different ns && apart no_services ns) ea in
          let q = both (all_different ns) (apart no_services ns) p.1 in
          let t = texts_back (words f) p.0 in
          let back = joined_again f in
          let text : f ≡ services_text table ns ++ replicate back.0 32 = back.1 ∙ ap (λ (ws : List (List ℕ)). plus_joined ws ++ replicate back.0 32) (sym t.1) in
          let size : length (services_text table ns) + back.0 ≡ 30 = sym (ap length text ∙ length-append (services_text table ns) (replicate back.0 32) ∙ ap (λ (n : ℕ). length (services_text table ns) + n) (length-replicate back.0 32)) ∙ long in
          let rest : back.0 ≡ 30 - length (services_text table ns) = omega arith in (
            ns,
            record {
              some = rw length-map (some_word f);
              codes = t.0;
              different = q.0;
              long = long;
              text = text ∙ ap (λ (k : ℕ). services_text table ns ++ replicate k 32) rest;
              set = sym (same_value (services_of ns) s r);
            },
          )

  module _ (f : List ℕ) (s : Services) where
    words_are : (ns : List ℕ) → Writes table f s ns → words f ≡ map (text_for table) ns
    words_are [] w = absurd (omega (arith, w.some))
    words_are (n ∷ ns) w = ap words w.text ∙ written_words n ns (30 - length (services_text table (n ∷ ns))) w.codes

    -- the codes are those that the text says, in its order: no other list has this writing
    pub numbers_are : (ns : List ℕ) → Writes table f s ns → numbers_in table f ≡ ns
    numbers_are ns w = ap (map (number_for table)) (words_are ns w) ∙ numbers_back ns w.codes

    filled : (ns : List ℕ) → Writes table f s ns → is_blank f ≡ false
    filled ns w = go (is_blank f) refl ns (words_are ns w) w.codes
      where
        go : (b : Bool) → is_blank f ≡ b → (ns : List ℕ) → words f ≡ map (text_for table) ns → every (has_number table) ns ≡ true → b ≡ false
        go false e ns g h = refl
        go true e [] g h = absurd (omega (arith, some_word f, ap length g))
        go true e (n ∷ ns) g h =
            let t = told table n apart-codes (both (has_number table n) (every (has_number table) ns) h).0 in
            let none : text_for table n ≡ [] = sym (ap first (sym (blank_words f e) ∙ g)) in
            absurd (clash (ap is_word (sym none) ∙ t.word) refl)
          where
            first : List (List ℕ) → List ℕ
            first [] = []
            first (w ∷ ws) = w

    writes_read : (ns : List ℕ) → Writes table f s ns → read_by table f ≡ Value s
    unfolding read_by
    writes_read ns w =
        rw (eq-eqb (length f) 30 w.long, filled ns w, numbers_are ns w, added_is no_services ns, all_codes ns w.codes, w.different, apart_none ns) (ap Value (sym w.set))

    -- the field reads as a set exactly if it is the joined texts of different codes of the table, and the set is theirs
    pub services_exactly : (read_by table f ≡ Value s) ↔ ((ns : List ℕ) × Writes table f s ns)
    services_exactly = (read_writes f s, λ p. writes_read p.0 p.1)

    -- such a set has just the codes that stand in the field
    pub services_have : (ns : List ℕ) (k : ℕ) → Writes table f s ns → has_code s k ≡ contains k ns
    services_have ns k w = rw w.set (has_exactly ns k w.different)

-- ---- and it is absent exactly if it is blank
pub services_absent : (table : List Code) (f : List ℕ) → (read_by table f ≡ Absent) ↔ (f ≡ replicate 30 32)
unfolding read_by
services_absent table f = (λ r. go (eqb (length f) 30) refl (is_blank f) refl (rw (added_is no_services (numbers_in table f)) at r), λ e. let p = (blank_exactly 30 f).1 e in rw (eq-eqb (length f) 30 p.0, p.1))
  where
    go : (l : Bool) → eqb (length f) 30 ≡ l → (b : Bool) → is_blank f ≡ b
        → cond l (cond b Absent (cond (addable no_services (numbers_in table f)) (Value (services_of (numbers_in table f))) Malformed)) Malformed ≡ Absent → f ≡ replicate 30 32
    go true el true eb r = (blank_exactly 30 f).0 (eqb-true (length f) 30 el, eb)
    go true el false eb r = neither (addable no_services (numbers_in table f)) r
      where
        neither : (a : Bool) → cond a (Value (services_of (numbers_in table f))) Malformed ≡ Absent → f ≡ replicate 30 32
        neither true r = let z : ◌≡◌ {A = ℕ} 0 1 = cc in absurd (omega arith)
        neither false r = let z : ◌≡◌ {A = ℕ} 0 1 = cc in absurd (omega arith)
    go false el b eb r = let z : ◌≡◌ {A = ℕ} 0 1 = cc in absurd (omega arith)

-- so it is good exactly if it is blank, or the joined texts of different codes
pub good_services_exactly : (table : List Code) (f : List ℕ) → told_apart table ≡ true → (malformed_services (read_by table f) ≡ false) ↔ GoodServices table f
good_services_exactly table f apart-codes = (go (read_by table f) refl, back)
  where
    go : (r : ServicesReading) → read_by table f ≡ r → malformed_services r ≡ false → GoodServices table f
    go Absent e h = blank ((services_absent table f).0 e)
    go (Value s) e h = let p = (services_exactly table apart-codes f s).0 e in written s p.0 p.1
    go Malformed e h = absurd (clash refl h)

    back : GoodServices table f → malformed_services (read_by table f) ≡ false
    back (blank e) = ap malformed_services ((services_absent table f).1 e)
    back (written s ns w) = ap malformed_services ((services_exactly table apart-codes f s).1 (ns, w))

-- ---- our table is one of these
pub codes_told_apart : told_apart codes ≡ true
unfolding told_apart has_number has_text same_bytes codes numbers_from digits decimal_places_up_to
codes_told_apart = refl
