-- What the least instant that passes a test is.
use Rattle.std.proofs.Common.{◌≡◌, ℕ, zero, suc, ◌<◌, ◌≤◌, Bool, true, false, cond, Some, None, Option, sym, refl, ap, subst, inl, inr, arith}
use Rattle.std.proofs.lemmas.Bool.{cases_Bool, cases_lt, both_ways}
use Rattle.tasks.specs.declared.units.Ticks.{Ticks}
use Rattle.tasks.specs.Instants.{least}

-- no instant below `end` passes
abbrev pub NoneBelow : (ℕ → Bool) → ℕ → Type 0
NoneBelow test end = (u : ℕ) → 1 ≤ u → u < end → test u ≡ false

pub record LeastOf (test : ℕ → Bool) (n t : ℕ) : Type 0 where
  pub from : 1 ≤ t
  pub to : t ≤ n
  pub passes : test t ≡ true
  pub first : NoneBelow test t

abbrev pub Least_is : (ℕ → Bool) → ℕ → Option Ticks → Type 0
Least_is test n None = NoneBelow test (suc n)
Least_is test n (Some t) = LeastOf test n t.0

below_more : (test : ℕ → Bool) (n : ℕ) → NoneBelow test n → test n ≡ false → NoneBelow test (suc n)
below_more test n h e u a b = elim (cases_lt u n) [ inl l ↦ h u a l | inr l ↦ grind (arith, e) ]

pub least_is : (test : ℕ → Bool) (n : ℕ) → Least_is test n (least test n)
unfolding least
least_is test zero = λ u a b. absurd (omega arith)
least_is test (suc n) = go (least test n) (least_is test n)
  where
    go : (o : Option Ticks) → Least_is test n o → Least_is test (suc n) (elim o [ Some t ↦ Some t | None ↦ cond (test (suc n)) (Some (record { 0 = suc n })) None ])
    go (Some t) h = record { from = h.from; to = omega (arith, h.to); passes = h.passes; first = h.first }
    go None h = elim (cases_Bool (test (suc n))) [
      | inl e ↦ subst (λ (b : Bool). Least_is test (suc n) (cond b (Some (record { 0 = suc n })) None)) (sym e) (record { from = omega arith; to = omega arith; passes = e; first = h })
      | inr e ↦ subst (λ (b : Bool). Least_is test (suc n) (cond b (Some (record { 0 = suc n })) None)) (sym e) (below_more test (suc n) h e)
    ]

-- the least is one only
pub least_some : (test : ℕ → Bool) (n t : ℕ) → LeastOf test n t → least test n ≡ Some (record { 0 = t })
least_some test n t h = go (least test n) (least_is test n)
  where
    go : (o : Option Ticks) → Least_is test n o → o ≡ Some (record { 0 = t })
    go None k = absurd (both_ways (test t) (k t h.from (omega (arith, h.to))) h.passes)
    go (Some s) k = elim (cases_lt s.0 t) [
      | inl l ↦ absurd (both_ways (test s.0) (h.first s.0 k.from l) k.passes)
      | inr l ↦ elim (cases_lt t s.0) [
        | inl m ↦ absurd (both_ways (test t) (k.first t h.from m) h.passes)
        | inr m ↦ let q : s.0 ≡ t = omega arith in ap (λ (j : ℕ). Some (record { 0 = j })) q
      ]
    ]

pub least_none : (test : ℕ → Bool) (n : ℕ) → NoneBelow test (suc n) → least test n ≡ None
least_none test n h = go (least test n) (least_is test n)
  where
    go : (o : Option Ticks) → Least_is test n o → o ≡ None
    go None k = refl
    go (Some s) k = absurd (both_ways (test s.0) (h s.0 k.from (omega (arith, k.to))) k.passes)

-- and none further on
pub none_further : (test : ℕ → Bool) (t end : ℕ) → NoneBelow test t → ((u : ℕ) → t ≤ u → u < end → test u ≡ false) → NoneBelow test end
none_further test t end h k u a b = elim (cases_lt u t) [ inl l ↦ h u a l | inr l ↦ k u l b ]
