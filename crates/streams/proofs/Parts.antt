-- What is put into a part of a buffer, behind what stands before it.
use Rattle.std.proofs.Common.{◌≡◌, ℕ, ◌+◌, ◌-◌, ◌≤◌, List, ◌++◌, arith, length, take, slice_range, sym, ap, ◌∙◌, le_refl, drop_at, length-take-le}
use Rattle.std.proofs.lemmas.Slice.{take-put_mid_below}
use borrow.Rule.Slice.PartMut.{put_mid, post_of}
use lib.Seq.{take-add, take-append-le}

-- with n elements of ys put at a, the first a + n are the first a and those
pub front_grown : (a k n : ℕ) (xs ys : List ℕ) → a ≤ length xs → n ≤ length ys → take a xs ++ take n ys ≡ take (a + n) (put_mid a k xs ys)
front_grown a k n xs ys within fits =
    let put : List ℕ = put_mid a k xs ys in
    let count : (a + n) - a ≡ n = omega arith in
    let sum : a + ((a + n) - a) ≡ a + n = omega arith in
    let part : slice_range put a (a + n) ≡ take n ys =
    ap (take ((a + n) - a)) (drop_at (take a xs) (ys ++ post_of a k xs) a (length-take-le a xs within))
    ∙ ap (λ (m : ℕ). take m (ys ++ post_of a k xs)) count
    ∙ take-append-le n ys (post_of a k xs) fits in
    let before : take a put ≡ take a xs = take-put_mid_below _ _ _ _ _ (le_refl _) within in
    ap (λ (l : List ℕ). take a xs ++ l) (sym part)
    ∙ ap (λ (l : List ℕ). l ++ slice_range put a (a + n)) (sym before)
    ∙ sym (take-add a ((a + n) - a) put)
    ∙ ap (λ (m : ℕ). take m put) sum
