-- The relation of an admission allows one answer, sheet and table.
use Rattle.std.proofs.Common.{◌≡◌, ℕ, ◌+◌, ◌-◌, ◌<◌, ◌≤◌, cond, eqb, List, [], length, get_or, set, Ok, Err, Result, sym, refl, ap, ◌∙◌, subst, inl, inr, ⊎_elim, arith}
use Rattle.std.proofs.lemmas.List.{ext_get_or, get_or-take, get_or-drop, get_or-map}
use Rattle.std.proofs.lemmas.Option.{none-some}
use Rattle.std.proofs.lemmas.Bool.{cases_eq, cases_lt, cases_order}
use Rattle.tasks.specs.declared.task.Task.{Task}
use Rattle.tasks.specs.declared.units.Ticks.{Ticks}
use Rattle.tasks.specs.Priority.{joined}
use Rattle.tasks.specs.Demand.{no_task}
use Rattle.judges.specs.Laws.{Meaning}
use Rattle.preferences.specs.Laws.{Relation, PreferenceLaws}
use Rattle.seating.specs.declared.seat.Seat.{Seat}
use Rattle.seating.specs.declared.refusal.AdmitRefusal.{AdmitRefusal}
use Rattle.seating.specs.declared.refusal.AdmitRefusal.TheVariants.{ShortSheet, NumberZero, BadPeriod, BadWork, AlreadySeated, AllFull, NoTaker}
use Rattle.seating.specs.declared.refusal.MakeRefusal.TheVariants.{ProcessorCount}
use Rattle.seating.specs.declared.refusal.WithdrawRefusal.TheVariants.{NotSeated}
use Rattle.seating.specs.declared.refusal.QuestionRefusal.TheVariants.{NoProcessor}
use Rattle.seating.specs.declared.refused.Refused.{Refused}
use Rattle.seating.specs.declared.refused.Refused.TheVariants.{Making, Admitting, Withdrawing, Asking}
use Rattle.seating.specs.Refusals.{number_of, NumbersDiffer}
use Rattle.seating.specs.Seats.{Lists, tasks_of, no_seat, place_of}
use Rattle.seating.specs.Admission.{FirstUnfit, Entry, Joins, Granted, TurnedAway, Admits, AdmitsOnce, as_seen}
use Rattle.seating.proofs.Placing.{length-tasks, length-joined}

same_seat : (s t : Seat) → s.task ≡ t.task → s.instant ≡ t.instant → s ≡ t
same_seat s t e f = ap (λ (y : Task). record { task = y; instant = s.instant }) e ∙ ap (λ (i : Ticks). record { task = t.task; instant = i }) f

-- the refusal of a number
named : ℕ → Refused
named n =
    cond (eqb n 1) (Making ProcessorCount) (cond (eqb n 2) (Admitting ShortSheet) (cond (eqb n 3) (Admitting NumberZero) (cond (eqb n 4) (Admitting BadPeriod) (cond (eqb n 5) (Admitting BadWork)
    (cond (eqb n 6) (Admitting AlreadySeated) (cond (eqb n 7) (Admitting AllFull) (cond (eqb n 8) (Admitting NoTaker) (cond (eqb n 9) (Withdrawing NotSeated) (Asking NoProcessor)))))))))

named_back : (a : Refused) → named (number_of a) ≡ a
unfolding named
named_back (Making ProcessorCount) = refl
named_back (Admitting ShortSheet) = refl
named_back (Admitting NumberZero) = refl
named_back (Admitting BadPeriod) = refl
named_back (Admitting BadWork) = refl
named_back (Admitting AlreadySeated) = refl
named_back (Admitting AllFull) = refl
named_back (Admitting NoTaker) = refl
named_back (Withdrawing NotSeated) = refl
named_back (Asking NoProcessor) = refl

pub numbers_differ : NumbersDiffer
numbers_differ a b e = sym (named_back a) ∙ ap named e ∙ named_back b

module _ (meaning : Meaning) (x : Task) (ss : List Seat) where
  first_unfit_once : (ts : List Task) (m n : ℕ) → FirstUnfit ts m → FirstUnfit ts n → m ≡ n
  first_unfit_once ts m n f g = grind (arith, f, g, cases_order f.at g.at)

  entry_once : (m n : ℕ) → Entry x ss m → Entry x ss n → m ≡ n
  entry_once m n (inl p) (inl q) = omega (arith, p.1, q.1)
  entry_once m n (inl p) (inr q) = absurd (omega (arith, p.0, q.0))
  entry_once m n (inr p) (inl q) = absurd (omega (arith, p.0, q.0))
  entry_once m n (inr p) (inr q) = first_unfit_once (joined x (tasks_of ss)) m n p.1 q.1

  long_joined : (new : List Seat) → Joins meaning x ss new → length new ≡ length ss + 1
  long_joined new j =
      omega (arith, length-tasks new, length-tasks ss, ap (length {A = Task}) j.tasks, length-joined x (tasks_of ss))

  joined_once : (n₁ n₂ : List Seat) → Joins meaning x ss n₁ → Joins meaning x ss n₂ → n₁ ≡ n₂
  joined_once n₁ n₂ j₁ j₂ =
      let l₁ = long_joined n₁ j₁ in
      let l₂ = long_joined n₂ j₂ in
      let place = place_of x (tasks_of ss) in
      ext_get_or no_seat n₁ n₂ (omega arith) (λ k h. ⊎_elim
      (λ (lt : k < place). sym (get_or-take place n₁ k no_seat lt) ∙ ap (λ (l : List Seat). get_or l k no_seat) (j₁.above ∙ sym j₂.above) ∙ get_or-take place n₂ k no_seat lt)
      (λ (ge : place ≤ k).
      let t₁ = get_or-map (λ (s : Seat). s.task) n₁ k no_seat no_task h in
      let t₂ = get_or-map (λ (s : Seat). s.task) n₂ k no_seat no_task (omega arith) in
      let ts = ap (λ (l : List Task). get_or l k no_task) (j₁.tasks ∙ sym j₂.tasks) in
      let s₁ = j₁.judged k ge (omega arith) in
      let s₂ = j₂.judged k ge (omega arith) in
      same_seat (get_or n₁ k no_seat) (get_or n₂ k no_seat) (sym t₁ ∙ ts ∙ t₂) (cc))
      (cases_lt k place))

module _ (meaning : Meaning) (before : Relation) (laws : PreferenceLaws before) (b : Lists) (x : Task) (sheet : List ℕ) where
  same_taker : (p q : ℕ) (t u : Ticks) (s₁ s₂ : List ℕ) (b₁ b₂ : Lists) → Granted meaning before b x sheet p t s₁ b₁ → Granted meaning before b x sheet q u s₂ b₂ → p ≡ q
  same_taker p q t u s₁ s₂ b₁ b₂ f g = elim (cases_eq p q) [
    | inl e ↦ e
    | inr ne ↦
        let a = f.preferred.first q g.preferred.there (λ e. ne (sym e)) g.preferred.takes in
        let c = g.preferred.first p f.preferred.there ne f.preferred.takes in
        absurd (grind (arith, laws.one_of_two (as_seen b p) (as_seen b q) ne))
  ]

  grants_once : (p q : ℕ) (t u : Ticks) (s₁ s₂ : List ℕ) (b₁ b₂ : Lists) → p ≡ q → Granted meaning before b x sheet p t s₁ b₁ → Granted meaning before b x sheet q u s₂ b₂ → (t ≡ u) × (s₁ ≡ s₂) × (b₁ ≡ b₂)
  grants_once p q t u s₁ s₂ b₁ b₂ e f g₀ =
      let g : Granted meaning before b x sheet p u s₂ b₂ = subst (λ (k : ℕ). Granted meaning before b x sheet k u s₂ b₂) (sym e) g₀ in
      let i₁ = f.instant in
      let i₂ = g.instant in
      let n = joined_once meaning x (get_or b p []) (get_or b₁ p []) (get_or b₂ p []) f.joins g.joins in
      (cc, f.sheet_stays ∙ sym g.sheet_stays, f.others ∙ ap (λ (l : List Seat). set b p l) n ∙ sym g.others)

  sheets_once : (s₁ s₂ : List ℕ) (b₁ b₂ : Lists) → TurnedAway b x sheet s₁ b₁ → TurnedAway b x sheet s₂ b₂ → s₁ ≡ s₂
  sheets_once s₁ s₂ b₁ b₂ f g =
      ext_get_or 0 s₁ s₂ (f.as_long ∙ sym g.as_long) (λ k h. ⊎_elim
      (λ (lt : k < length b). entry_once meaning x (get_or b k []) (get_or s₁ k 0) (get_or s₂ k 0) (f.entries k lt) (g.entries k lt))
      (λ (ge : length b ≤ k).
      let m = length b in
      let e : m + (k - m) ≡ k = omega arith in
      ap (λ (j : ℕ). get_or s₁ j 0) (sym e) ∙ sym (get_or-drop m s₁ (k - m) 0) ∙ ap (λ (l : List ℕ). get_or l (k - m) 0) (f.rest ∙ sym g.rest) ∙ get_or-drop m s₂ (k - m) 0 ∙ ap (λ (j : ℕ). get_or s₂ j 0) e)
      (cases_lt k (length b)))

  once : (a₁ a₂ : Result (ℕ × Ticks) AdmitRefusal) (s₁ s₂ : List ℕ) (b₁ b₂ : Lists) → Admits meaning before b x sheet a₁ s₁ b₁ → Admits meaning before b x sheet a₂ s₂ b₂ → (a₁ ≡ a₂) × (s₁ ≡ s₂) × (b₁ ≡ b₂)
  once (Ok o) (Ok c) s₁ s₂ b₁ b₂ f g =
      let p = same_taker o.0 c.0 o.1 c.1 s₁ s₂ b₁ b₂ f g in
      let r = grants_once o.0 c.0 o.1 c.1 s₁ s₂ b₁ b₂ p f g in
      (ap (λ (k : ℕ). Ok (k, o.1)) p ∙ ap (λ (t : Ticks). Ok (c.0, t)) r.0, r.1, r.2)
  once (Ok o) (Err e) s₁ s₂ b₁ b₂ f (inl g) = absurd (none-some _ (sym f.passes ∙ g.cause))
  once (Ok o) (Err e) s₁ s₂ b₁ b₂ f (inr g) = absurd (g.1.nobody o.0 f.preferred.there f.preferred.takes)
  once (Err e) (Ok o) s₁ s₂ b₁ b₂ (inl f) g = absurd (none-some _ (sym g.passes ∙ f.cause))
  once (Err e) (Ok o) s₁ s₂ b₁ b₂ (inr f) g = absurd (f.1.nobody o.0 g.preferred.there g.preferred.takes)
  once (Err e) (Err d) s₁ s₂ b₁ b₂ (inl f) (inl g) = (ap (λ (c : AdmitRefusal). Err c) (let k = f.cause in let l = g.cause in cc), f.sheet_stays ∙ sym g.sheet_stays, f.seats_stay ∙ sym g.seats_stay)
  once (Err e) (Err d) s₁ s₂ b₁ b₂ (inl f) (inr g) = absurd (none-some _ (sym g.1.passes ∙ f.cause))
  once (Err e) (Err d) s₁ s₂ b₁ b₂ (inr f) (inl g) = absurd (none-some _ (sym f.1.passes ∙ g.cause))
  once (Err e) (Err d) s₁ s₂ b₁ b₂ (inr f) (inr g) = (ap (λ (c : AdmitRefusal). Err c) (f.0 ∙ sym g.0), sheets_once s₁ s₂ b₁ b₂ f.1 g.1, f.1.seats_stay ∙ sym g.1.seats_stay)

pub admits_once : AdmitsOnce
admits_once meaning before laws b x sheet a₁ a₂ s₁ s₂ b₁ b₂ h k = once meaning before laws b x sheet a₁ a₂ s₁ s₂ b₁ b₂ h k
