-- The relation of a withdrawal allows one answer and table.
use Rattle.std.proofs.Common.{◌≡◌, ℕ, true, [], get_or, set, Ok, Err, Result, sym, refl, ap, ◌∙◌, subst}
use Rattle.std.specs.List.{remove}
use Rattle.tasks.specs.declared.units.Ticks.{Ticks}
use Rattle.tasks.specs.declared.units.Units.{Units}
use Rattle.seating.specs.declared.refusal.WithdrawRefusal.{WithdrawRefusal}
use Rattle.seating.specs.declared.refusal.WithdrawRefusal.TheVariants.{NotSeated}
use Rattle.seating.specs.Seats.{Lists, numbers, all_differ, no_seat}
use Rattle.seating.specs.Withdrawal.{Leaves, Withdraws, WithdrawsOnce}
use Rattle.seating.proofs.Numbering.{one_list, one_place, is_seated_there}

module _ (b : Lists) (old : all_differ (numbers b) ≡ true) (n : ℕ) where
  leaves_once : (p q : ℕ) (v w : Units) (t u : Ticks) (b₁ b₂ : Lists) → p ≡ q → Leaves b n p v t b₁ → Leaves b n q w u b₂ → (v ≡ w) × (t ≡ u) × (b₁ ≡ b₂)
  leaves_once p q v w t u b₁ b₂ e f g₀ =
      let g : Leaves b n p w u b₂ = subst (λ (k : ℕ). Leaves b n k w u b₂) (sym e) g₀ in
      let same = one_place n b old p f.at g.at f.sits.there f.sits.within g.sits.within f.sits.number g.sits.number in (
        f.its_work ∙ ap (λ (i : ℕ). (get_or (get_or b p []) i no_seat).task.work) same ∙ sym g.its_work,
        f.its_period ∙ ap (λ (i : ℕ). (get_or (get_or b p []) i no_seat).task.period) same ∙ sym g.its_period,
        f.seats ∙ ap (λ (i : ℕ). set b p (remove (get_or b p []) i)) same ∙ sym g.seats,
      )

  once : (a₁ a₂ : Result (ℕ × Units × Ticks) WithdrawRefusal) (b₁ b₂ : Lists) → Withdraws b n a₁ b₁ → Withdraws b n a₂ b₂ → (a₁ ≡ a₂) × (b₁ ≡ b₂)
  once (Ok a) (Ok c) b₁ b₂ f g =
      let p = one_list n b old a.0 c.0 f.at g.at f.sits.there g.sits.there f.sits.within g.sits.within f.sits.number g.sits.number in
      let r = leaves_once a.0 c.0 a.1 c.1 a.2 c.2 b₁ b₂ p f g in
      (ap (λ (k : ℕ). Ok (k, a.1, a.2)) p ∙ ap (λ (k : Units). Ok (c.0, k, a.2)) r.0 ∙ ap (λ (k : Ticks). Ok (c.0, c.1, k)) r.1, r.2)
  once (Ok a) (Err e) b₁ b₂ f g = absurd (is_seated_there n b a.0 f.at f.sits.there f.sits.within f.sits.number g.cause)
  once (Err e) (Ok a) b₁ b₂ f g = absurd (is_seated_there n b a.0 g.at g.sits.there g.sits.within g.sits.number f.cause)
  once (Err NotSeated) (Err NotSeated) b₁ b₂ f g = (refl, f.seats_stay ∙ sym g.seats_stay)

pub withdraws_once : WithdrawsOnce
withdraws_once b old n a₁ a₂ b₁ b₂ f g = once b old n a₁ a₂ b₁ b₂ f g
