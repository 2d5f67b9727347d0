-- The laws of n / d, rounded up: the least number of times that d covers n.
use Rattle.std.proofs.Common.{◌≡◌, ℕ, suc, ◌+◌, ◌-◌, ◌*◌, ◌/◌, ◌<◌, ◌≤◌, suc-mul, div-lt_iff_lt-mul, one-mul, le-div_iff_mul-le, zero-mul, ◌%◌, ap, inl, inr, div-add-mod', mod-eq_of_lt, arith}
use native.Mathlib.Nat.{lt-div-mul-add, mod_self}
use Rattle.std.specs.Int.{div_ceil, next_multiple_of}
use Rattle.std.proofs.lemmas.Bool.{cases_lt}
use Rattle.std.proofs.lemmas.Grind.{div_ceil_times}
use Rattle.std.proofs.lemmas.Nat.{mul-le, mod_below}
use Rattle.tasks.specs.Rounding.{up}

pub up_covers : (n d : ℕ) → 1 ≤ d → n ≤ up n d * d
unfolding up
up_covers n d h =
    let q : n + (d - 1) < (n + (d - 1)) / d * d + d = lt-div-mul-add h in
    omega arith

pub up_least : (n d m : ℕ) → 1 ≤ d → n ≤ m * d → up n d ≤ m
unfolding up
up_least n d m h l =
    let e : suc m * d ≡ m * d + d = suc-mul m d in
    let q : n + (d - 1) < suc m * d = omega arith in
    let r : (n + (d - 1)) / d < suc m = (div-lt_iff_lt-mul h).1 q in
    omega arith

-- std's word for it
pub div_ceil-is-up : (n d : ℕ) → 1 ≤ d → div_ceil n d ≡ up n d
div_ceil-is-up n d h =
    let b = div_ceil_times n d h in
    let least = up_least n d (div_ceil n d) h b.0 in
    elim (cases_lt (up n d) (div_ceil n d)) [
      | inl l ↦ absurd (omega (arith, suc-mul (up n d) d, up_covers n d h, b.1, mul-le (suc (up n d)) d (div_ceil n d) d l (omega arith)))
      | inr l ↦ omega (arith, least)
    ]

pub next_multiple_of-is-up : (n d : ℕ) → 1 ≤ d → next_multiple_of n d ≡ up n d * d
next_multiple_of-is-up n d h =
    let whole = div-add-mod' n d in
    let count = div_ceil-is-up n d h in
    let below = mod_below n d h in
    elim (cases_lt 0 (n % d)) [
      | inl l ↦
          let e : up n d ≡ suc (n / d) = omega (arith, count) in
          let gap : (d - n % d) % d ≡ d - n % d = mod-eq_of_lt (omega arith) in
          omega (arith, whole, below, gap, suc-mul (n / d) d, ap (λ m. m * d) e)
      | inr l ↦
          let e : up n d ≡ n / d = omega (arith, count) in
          let none : d - n % d ≡ d = omega arith in
          let gap : (d - n % d) % d ≡ 0 = rw none (mod_self d) in
          omega (arith, whole, gap, ap (λ m. m * d) e)
    ]

pub ruleset rounding = (div_ceil-is-up, next_multiple_of-is-up)

pub up_more : (n d m : ℕ) → 1 ≤ d → m * d < n → m < up n d
unfolding up
up_more n d m h l =
    let e : suc m * d ≡ m * d + d = suc-mul m d in
    let q : suc m * d ≤ n + (d - 1) = omega arith in
    (le-div_iff_mul-le h).1 q

pub up_mono : (n m d : ℕ) → 1 ≤ d → n ≤ m → up n d ≤ up m d
up_mono n m d h l = up_least n d (up m d) h (omega (arith, up_covers m d h))

-- one covers what is from 1 to d
pub up_one : (n d : ℕ) → 1 ≤ n → n ≤ d → up n d ≡ 1
up_one n d a b =
    let e : 1 * d ≡ d = one-mul d in
    let z : 0 * d ≡ 0 = zero-mul d in
    omega (arith, up_least n d 1 (omega arith) (omega arith), up_more n d 0 (omega arith) (omega arith))
