-- Where the demand at t is not done in t, no instant before it is done is good.
use Rattle.std.proofs.Common.{◌≡◌, ℕ, ◌^◌, ◌<◌, ◌≤◌, true, false, List, Some, None, Option, MatchOption, sym, subst, inl, inr, mul-one, arith}
use Rattle.std.proofs.lemmas.Bool.Decides.{nat_tests}
use Rattle.std.proofs.lemmas.Bool.{cases_lt}
use Rattle.tasks.specs.declared.task.Task.{Task}
use Rattle.tasks.specs.declared.units.Ticks.{Ticks}
use Rattle.tasks.specs.declared.units.Units.{Units}
use Rattle.tasks.specs.Rounding.{up}
use Rattle.tasks.specs.Units.{units_in, one_a_tick, ticks_for, ticks_answer}
use Rattle.tasks.specs.Demand.{demand, good, demand_answer}
use Rattle.tasks.proofs.Roundings.{up_least, up_covers}
use Rattle.tasks.proofs.Goods.{not_good, work_mono, limits_exist, skipped}
use Rattle.tasks.proofs.Bounds.{limits}
use Rattle.judges.specs.Laws.{asked}
use Rattle.judges.specs.Weighing.{Weighs}
use Rattle.judges.specs.declared.question.Weighed.{Weighed}
use Rattle.judges.specs.declared.question.Weighed.TheVariants.{NotBefore, Never}
use Rattle.judges.specs.Choosing.{asked_parts}

-- a demand that no time up to the longest period does leaves no good instant
pub never_good : (x : Task) (above : List Task) (t u : ℕ) → asked x above ≡ true → 1000000 < demand x above t → t ≤ u → good x above u ≡ false
never_good x above t u h d l =
    let a = asked_parts x above h in
    let b = limits x a.own in
    not_good x above u (λ g. omega (arith, g.enough, g.ends, b.period_to, work_mono above t u (limits_exist above a.others) l))

-- nor does one that no number of 64 bits counts
pub past_64_bits : (x : Task) (above : List Task) (t u : ℕ) → asked x above ≡ true → None ≡ demand_answer x above t → t ≤ u → good x above u ≡ false
past_64_bits x above t u h e l = never_good x above t u h (grind (arith, nat_tests, limits_exist above (asked_parts x above h).others, e)) l

module _ (x : Task) (above : List Task) (t : ℕ) (d : Units) (h : asked x above ≡ true) (is : Some d ≡ demand_answer x above t) where
  whole : d.0 ≡ demand x above t
  whole = grind (arith, nat_tests, limits_exist above (asked_parts x above h).others, is)

  -- nor does one that takes more ticks than 32 bits count
  past_32_bits : (u : ℕ) → None ≡ ticks_answer one_a_tick d.0 → t ≤ u → good x above u ≡ false
  past_32_bits u e l =
      let far : 2 ^ 32 ≤ ticks_for one_a_tick d.0 = grind (arith, nat_tests, e) in
      never_good x above t u h (omega (arith, whole, far, up_least d.0 1 d.0 (omega arith) (omega (arith, mul-one d.0)))) l

  -- what is not done in t is done later
  done_later : (later : Ticks) → Some later ≡ ticks_answer one_a_tick d.0 → units_in one_a_tick t < d.0 → t < later.0
  done_later later e b =
      let last : later.0 ≡ ticks_for one_a_tick d.0 = grind (arith, nat_tests, e) in
      omega (arith, last, up_covers d.0 1 (omega arith), mul-one (up d.0 1))

  -- and nothing before then is good
  none_before_it : (later : Ticks) (u : ℕ) → Some later ≡ ticks_answer one_a_tick d.0 → t ≤ u → u < later.0 → good x above u ≡ false
  none_before_it later u e lo hi =
      let last : later.0 ≡ ticks_for one_a_tick d.0 = grind (arith, nat_tests, e) in
      skipped x above t u (limits_exist above (asked_parts x above h).others) lo
      (elim (cases_lt u d.0) [ inl k ↦ omega (arith, whole) | inr k ↦ absurd (omega (arith, last, up_least d.0 1 u (omega arith) (omega (arith, mul-one u)))) ])

  -- so the ticks that it takes say what comes after t
  pub weighed : (o : Option Ticks) (w : Weighed) → o ≡ ticks_answer one_a_tick d.0 → units_in one_a_tick t < d.0 → MatchOption o (w ≡ Never) (λ later. w ≡ NotBefore later) → Weighs x above t w
  weighed (Some later) w e b m = subst (Weighs x above t) (sym m) (done_later later e b, λ u lo hi. none_before_it later u e lo hi)
  weighed None w e b m = subst (Weighs x above t) (sym m) (λ u l. past_32_bits u e l)
