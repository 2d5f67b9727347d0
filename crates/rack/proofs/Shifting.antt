-- What a rotation by one inside a fixed array leaves of its front and behind it.
use Rattle.std.proofs.Common.{◌≡◌, ℕ, ◌+◌, ◌-◌, ◌<◌, ◌≤◌, ◌≢◌, List, length, get_or, take, drop, set, sym, ap, ◌∙◌, ⊎_elim, arith, rules}
use borrow.Rule.Slice.PartMut.{put_mid}
use Rattle.std.specs.List.{insert, remove, between}
use Rattle.std.proofs.lemmas.List.{same_lists, places, get_or-set_same, get_or-set_other, get_or-take, get_or-drop}
use Rattle.std.proofs.lemmas.List.Edits.{length-insert, get_or-insert_below, get_or-insert_at, get_or-insert_above, length-remove, get_or-remove_below, get_or-remove_above}
use Rattle.std.proofs.lemmas.Bool.{cases_eq, cases_lt}

module _ {X : Type 0} (xs ps : List X) (at n : ℕ) (within : at ≤ n) (room : n < length xs) (long : length ps ≡ n + 1 - at) where
  pub length_part : length (put_mid at (n + 1 - at) xs ps) ≡ length xs
  length_part = search (rules, places)

  pub joined_front : (y : X) → ((i : ℕ) (d : X) → 1 ≤ i → i < n + 1 - at → get_or ps i d ≡ get_or xs (at + (i - 1)) d) → take (n + 1) (set (put_mid at (n + 1 - at) xs ps) at y) ≡ insert (take n xs) at y
  joined_front y moved = same_lists _ _ (search (rules, places, length-insert)) (λ k d h.
      ⊎_elim
      (λ (lt : k < at). search (rules, places, get_or-insert_below))
      (λ (ge : at ≤ k). ⊎_elim
      (λ (e : k ≡ at). search (rules, places, get_or-set_same, get_or-insert_at))
      (λ (ne : k ≢ at).
      let j : k ≡ k - 1 + 1 = omega arith in
      let lt : k < n + 1 = search (rules, places) in
      let left : get_or (take (n + 1) (set (put_mid at (n + 1 - at) xs ps) at y)) k d ≡ get_or ps (k - at) d = search (rules, places, get_or-set_other) in
      let m = moved (k - at) d (omega arith) (omega arith) in
      let back : at + (k - at - 1) ≡ k - 1 = omega arith in
      let right = get_or-insert_above (take n xs) at y d (k - 1) (omega arith) (search (rules, places)) in
      left ∙ m ∙ ap (λ i. get_or xs i d) back ∙ sym (get_or-take n xs (k - 1) d (omega arith)) ∙ sym right ∙ ap (λ i. get_or (insert (take n xs) at y) i d) (sym j))
      (cases_eq k at))
      (cases_lt k at))

  pub joined_behind : (y d : X) → ((i : ℕ) → n ≤ i → get_or xs i d ≡ d) → (i : ℕ) → n + 1 ≤ i → get_or (set (put_mid at (n + 1 - at) xs ps) at y) i d ≡ d
  joined_behind y d blank i h =
      let ne : i ≢ at = omega arith in
      let kept : get_or (set (put_mid at (n + 1 - at) xs ps) at y) i d ≡ get_or xs i d = search (rules, places, get_or-set_other) in
      kept ∙ blank i (omega arith)

module _ {X : Type 0} (xs ps : List X) (at n : ℕ) (within : at < n) (room : n ≤ length xs) (long : length ps ≡ n - at) where
  pub length-left : length (put_mid at (n - at) xs ps) ≡ length xs
  length-left = search (rules, places)

  pub left_front : ((i : ℕ) (d : X) → i + 1 < n - at → get_or ps i d ≡ get_or xs (at + (i + 1)) d) → take (n - 1) (put_mid at (n - at) xs ps) ≡ remove (take n xs) at
  left_front moved = same_lists _ _ (let r = length-remove (take n xs) at (search (rules, places)) in search (rules, places)) (λ k d h.
      let kn : k < n - 1 = search (rules, places) in
      ⊎_elim
      (λ (lo : k < at). search (rules, places, get_or-remove_below))
      (λ (ge : at ≤ k).
      let left : get_or (take (n - 1) (put_mid at (n - at) xs ps)) k d ≡ get_or ps (k - at) d = search (rules, places) in
      let m = moved (k - at) d (omega arith) in
      let back : at + (k - at + 1) ≡ k + 1 = omega arith in
      let right = get_or-remove_above (take n xs) at d k ge (search (rules, places)) in
      left ∙ m ∙ ap (λ i. get_or xs i d) back ∙ sym (get_or-take n xs (k + 1) d (omega arith)) ∙ sym right)
      (cases_lt k at))

  pub left_behind : (d : X) → ((i : ℕ) → n ≤ i → get_or xs i d ≡ d) → (i : ℕ) → n - 1 ≤ i → get_or (set (put_mid at (n - at) xs ps) (n - 1) d) i d ≡ d
  left_behind d blank i h = ⊎_elim
      (λ (e : i ≡ n - 1).
      let lt : n - 1 < length (put_mid at (n - at) xs ps) = omega (arith, length-left) in
      ap (λ (j : ℕ). get_or (set (put_mid at (n - at) xs ps) (n - 1) d) j d) e ∙ get_or-set_same (put_mid at (n - at) xs ps) (n - 1) d d lt)
      (λ (ne : i ≢ n - 1).
      let past : n ≤ i = omega arith in
      let kept : get_or (set (put_mid at (n - at) xs ps) (n - 1) d) i d ≡ get_or xs i d = search (rules, places, get_or-set_other) in
      kept ∙ blank i past)
      (cases_eq i (n - 1))

-- the part of a list, by places
pub in_part : {X : Type 0} (xs : List X) (at end i : ℕ) (d : X) → i < end - at → get_or (between at end xs) i d ≡ get_or xs (at + i) d
in_part xs at end i d h = get_or-take (end - at) (drop at xs) i d h ∙ get_or-drop at xs i d
