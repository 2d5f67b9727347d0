-- The front of an array as a list, and a list of which one place was written.
use Rattle.std.proofs.Common.{◌≡◌, ℕ, ◌≤◌, List, length, take, drop, set, sym, ap, ◌∙◌, length-set}
use Rattle.std.specs.List.{refill}
use Rattle.std.proofs.lemmas.List.{length-take-le, take_at}

pub length-taken : {X : Type 0} (n : ℕ) (cells xs : List X) → n ≤ length cells → take n cells ≡ xs → length xs ≡ n
length-taken {X} n cells xs le is = ap (length {A = X}) (sym is) ∙ length-take-le n cells le

pub refill_set : {X : Type 0} (xs lent : List X) (p : ℕ) (x : X) → lent ≡ xs → refill (length xs) xs (set lent p x) ≡ set xs p x
refill_set {X} xs lent p x is =
    take_at (set lent p x) (drop (length (set lent p x)) xs) (length xs) (length-set lent p x ∙ ap (length {A = X}) is) ∙ ap (λ (l : List X). set l p x) is
