-- What holds of each of few numbers.
use Rattle.std.proofs.Common.{◌≡◌, ℕ, zero, suc, ◌+◌, ◌<◌, ◌≤◌, subst, arith}

pub of_two : (P : ℕ → Type 0) → P 0 → P 1 → (q : ℕ) → q < 2 → P q
of_two P first second zero lt = first
of_two P first second (suc zero) lt = second
of_two P first second (suc (suc q)) lt = absurd (omega (arith, lt))

pub only_at : (P : ℕ → Type 0) (p : ℕ) → P p → (k : ℕ) → p ≤ k → k < p + 1 → P k
only_at P p it k ge lt = let same : p ≡ k = omega arith in subst P same it
