-- A task leaves a list: those behind it have one task less above them.
use Rattle.std.proofs.Common.{◌≡◌, ℕ, zero, suc, ◌<◌, ◌≤◌, true, List, [], ◌∷◌, length, get_or, take, sym, ap, subst, inl, inr, arith, drop, ◌∙◌, add-one}
use Rattle.std.specs.List.{remove}
use Rattle.std.proofs.lemmas.Bool.{cases_lt}
use Rattle.std.proofs.lemmas.List.Edits.{length-remove, get_or-remove_below, get_or-remove_above}
use Rattle.std.proofs.lemmas.List.{take-append-le, take-take, length-take-le}
use Rattle.tasks.specs.declared.task.Task.{Task}
use Rattle.tasks.specs.Demand.{work_before, good, no_task}
use Rattle.tasks.proofs.Goods.{good_parts, good_from}
use Rattle.schedule.specs.Places.{good_at}
use Rattle.schedule.specs.Removal.{GoodInstantsStay, RemovalFits}

front_stays : (ts : List Task) (i k : ℕ) → k ≤ i → i < length ts → take k (remove ts i) ≡ take k ts
front_stays ts i k a b = take-append-le k (take i ts) (drop (suc i) ts) (omega (arith, length-take-le i ts (omega arith))) ∙ take-take k i ts a

lighter : (ts : List Task) (i k t : ℕ) → i ≤ k → i < length ts → work_before (take k (remove ts i)) t ≤ work_before (take (suc k) ts) t
lighter [] i k t a b = absurd (omega arith)
lighter (x ∷ xs) zero k t a b = omega arith
lighter (x ∷ xs) (suc i) zero t a b = absurd (omega arith)
lighter (x ∷ xs) (suc i) (suc k) t a b = omega (arith, lighter xs i k t (omega arith) (omega arith))

-- less work above keeps an instant good
pub good_lighter : (x : Task) (above fewer : List Task) (t : ℕ) → work_before fewer t ≤ work_before above t → good x above t ≡ true → good x fewer t ≡ true
good_lighter x above fewer t l h = let g = good_parts x above t h in good_from x fewer t (record { starts = g.starts; ends = g.ends; enough = omega (arith, g.enough) })

pub good_instants_stay : GoodInstantsStay
good_instants_stay ts i k t l = (before, behind)
  where
    before : k < i → good_at ts k t ≡ true → good_at (remove ts i) k t ≡ true
    before a h =
        subst (λ (x : Task). good x (take k (remove ts i)) t ≡ true) (sym (get_or-remove_below ts i no_task k a l))
        (subst (λ (xs : List Task). good (get_or ts k no_task) xs t ≡ true) (sym (front_stays ts i k (omega arith) l)) h)

    behind : i ≤ k → good_at ts (suc k) t ≡ true → good_at (remove ts i) k t ≡ true
    behind a h =
        subst (λ (x : Task). good x (take k (remove ts i)) t ≡ true) (sym (get_or-remove_above ts i no_task k a l ∙ ap (λ j. get_or ts j no_task) (add-one k)))
        (good_lighter (get_or ts (suc k) no_task) (take (suc k) ts) (take k (remove ts i)) t (lighter ts i k t a l) h)

pub removal_fits : RemovalFits
removal_fits ts i l fits k h = elim (cases_lt k i) [
  | inl a ↦ let f = fits k (omega arith) in (f.0, (good_instants_stay ts i k f.0 l).0 a f.1)
  | inr a ↦ let f = fits (suc k) (omega (arith, length-remove ts i l)) in (f.0, (good_instants_stay ts i k f.0 l).1 a f.1)
]
