-- Counting in a window of ticks, with nothing of tasks or machines in it.
use Rattle.std.proofs.Common.{◌≡◌, ℕ, zero, suc, ◌+◌, ◌*◌, ◌%◌, ◌<◌, ◌≤◌, Bool, true, false, cond, ◌⊎◌, sym, refl, ap, subst, inl, inr, suc-mul, mul-zero, zero-add, zero-mul, mul-one, mul-add, arith}
use native.Mathlib.Nat.{mul-mod_left}
use Rattle.std.proofs.lemmas.Bool.{cases_eq, both_ways}
use Rattle.tasks.specs.Rounding.{up}
use Rattle.tasks.proofs.Roundings.{up_covers, up_least, up_more}

-- the sum of f over the x instants from a on
abbrev pub win : (ℕ → ℕ) → ℕ → ℕ → ℕ
win f a zero = 0
win f a (suc x) = win f a x + f (a + x)

abbrev pub bit : Bool → ℕ
bit b = cond b 1 0

-- any two instants that pass are at least T apart
abbrev pub Apart : (ℕ → Bool) → ℕ → Type 0
Apart d T = (s t : ℕ) → d s ≡ true → d t ≡ true → s < t → s + T ≤ t

pub win_add : (f g : ℕ → ℕ) (a x : ℕ) → win (λ n. f n + g n) a x ≡ win f a x + win g a x
win_add f g a zero = refl
win_add f g a (suc x) = omega (arith, win_add f g a x)

pub win_scale : (d : ℕ → Bool) (w a x : ℕ) → win (λ n. cond (d n) w 0) a x ≡ w * win (λ n. bit (d n)) a x
win_scale d w a zero = sym (mul-zero w)
win_scale d w a (suc x) = go (d (a + x)) refl (win_scale d w a x)
  where
    go : (b : Bool) → d (a + x) ≡ b → win (λ n. cond (d n) w 0) a x ≡ w * win (λ n. bit (d n)) a x → win (λ n. cond (d n) w 0) a (suc x) ≡ w * win (λ n. bit (d n)) a (suc x)
    go true q ih = rw (q, mul-add, mul-one) (ap (λ m. m + w) ih)
    go false q ih = rw (q, mul-add, mul-zero) (ap (λ m. m + 0) ih)

-- the last that passes in a window, and how many passed before it
record Last (d : ℕ → Bool) (T a x : ℕ) : Type 0 where
  at : ℕ
  is : d at ≡ true
  before : at < a + x
  others : ℕ
  count : win (λ n. bit (d n)) a x ≡ suc others
  spread : a + others * T ≤ at

last : (d : ℕ → Bool) (T a x : ℕ) → Apart d T → (win (λ n. bit (d n)) a x ≡ 0) ⊎ Last d T a x
last d T a zero h = inl refl
last d T a (suc x) h = go (d (a + x)) refl (last d T a x h)
  where
    go : (b : Bool) → d (a + x) ≡ b → (win (λ n. bit (d n)) a x ≡ 0) ⊎ Last d T a x → (win (λ n. bit (d n)) a (suc x) ≡ 0) ⊎ Last d T a (suc x)
    go true q (inl z) = inr (record { at = a + x; is = q; before = omega arith; others = 0; count = rw q (omega arith); spread = omega (arith, zero-mul T) })
    go true q (inr l) = inr (record {
      at = a + x;
      is = q;
      before = omega arith;
      others = suc l.others;
      count = rw q (omega (arith, l.count));
      spread = omega (arith, suc-mul l.others T, l.spread, h l.at (a + x) l.is q l.before);
    })
    go false q (inl z) = inl (rw q (omega arith))
    go false q (inr l) = inr (record { at = l.at; is = l.is; before = omega (arith, l.before); others = l.others; count = rw q (omega (arith, l.count)); spread = l.spread })

-- of instants that are T apart, x ticks have at most x / T, rounded up
pub count_most : (d : ℕ → Bool) (T a x : ℕ) → 1 ≤ T → Apart d T → win (λ n. bit (d n)) a x ≤ up x T
count_most d T a x p h = go (last d T a x h)
  where
    go : (win (λ n. bit (d n)) a x ≡ 0) ⊎ Last d T a x → win (λ n. bit (d n)) a x ≤ up x T
    go (inl z) = omega arith
    go (inr l) = omega (arith, l.count, up_more x T l.others p (omega (arith, l.spread, l.before)))

-- where every multiple of T below H passes, the first x ticks have at least as many
pub count_least : (d : ℕ → Bool) (T H x : ℕ) → 1 ≤ T → ((n : ℕ) → n < H → n % T ≡ 0 → d n ≡ true) → x ≤ H → up x T ≤ win (λ n. bit (d n)) 0 x
count_least d T H zero p h l = up_least 0 T 0 p (omega arith)
count_least d T H (suc x) p h l = go (d x) refl (count_least d T H x p h (omega arith))
  where
    e : d (0 + x) ≡ d x
    e = ap d (zero-add x)

    cover : x ≤ up x T * T
    cover = up_covers x T p

    go : (b : Bool) → d x ≡ b → up x T ≤ win (λ n. bit (d n)) 0 x → up (suc x) T ≤ win (λ n. bit (d n)) 0 (suc x)
    go true q ih =
        let m : up (suc x) T ≤ suc (up x T) = up_least (suc x) T (suc (up x T)) p (omega (arith, cover, suc-mul (up x T) T)) in
        rw (e, q) (omega arith)
    go false q ih = rw (e, q) (elim (cases_eq x (up x T * T)) [
      | inl k ↦ absurd (both_ways (d x) q (h x (omega arith) (subst (λ z. z % T ≡ 0) (sym k) (mul-mod_left (up x T) T))))
      | inr k ↦ let m : up (suc x) T ≤ up x T = up_least (suc x) T (up x T) p (omega (arith, cover)) in omega arith
    ])
