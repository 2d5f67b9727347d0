-- Lawful release lists alone: two releases of a place are its period apart, so a window has no more of them than its length over the period, rounded up.
use Rattle.std.proofs.Common.{◌≡◌, ℕ, zero, suc, ◌+◌, ◌%◌, ◌<◌, ◌≤◌, true, cond, List, [], ◌∷◌, length, get_or, take, sym, subst, add-zero, zero-add, arith, length-take, get_or-take, All}
use Rattle.std.proofs.lemmas.List.Elements.{All-head, All-tail}
use Rattle.std.proofs.lemmas.Nat.{mul-le}
use Rattle.tasks.specs.declared.task.Task.{Task}
use Rattle.tasks.specs.Rounding.{up}
use Rattle.tasks.specs.Demand.{no_task, work_before}
use Rattle.tasks.proofs.Bounds.{Limits}
use Rattle.machine.specs.declared.state.Release.{Release}
use Rattle.machine.specs.Machine.{due}
use Rattle.machine.specs.Lawful.{lawful}
use Rattle.machine.proofs.Job.{due_apart}
use Rattle.schedule.proofs.Windows.{win, win_add, win_scale, bit, Apart, count_most, count_least}

pub due_spaced : (ts : List Task) (h : ℕ) (rs : List Release) (p : ℕ) → lawful ts h rs ≡ true → Apart (due rs p) (get_or ts p no_task).period.0
due_spaced ts h rs p law s t a b l = due_apart ts h rs p s t law a b l

-- the work released at an instant to the tasks of a list, whose first has the given place
abbrev pub arrive : List Release → ℕ → List Task → ℕ → ℕ
arrive rs place [] now = 0
arrive rs place (t ∷ ts) now = cond (due rs place now) t.work.0 0 + arrive rs (suc place) ts now

-- releases far enough apart bring at most C × (x / T, rounded up) of each task in any x ticks,
arrive_most : (rs : List Release) (p : ℕ) (ts : List Task) (a x : ℕ) → All Limits ts
    → ((j : ℕ) → j < length ts → Apart (due rs (p + j)) (get_or ts j no_task).period.0)
    → win (arrive rs p ts) a x ≤ work_before ts x
arrive_most rs p [] a zero s h = omega arith
arrive_most rs p [] a (suc x) s h = omega (arith, arrive_most rs p [] a x s h)
arrive_most rs p (t ∷ ts) a x s h =
    let add = win_add (λ n. cond (due rs p n) t.work.0 0) (arrive rs (suc p) ts) a x in
    let scale = win_scale (due rs p) t.work.0 a x in
    let first : Apart (due rs p) t.period.0 = subst (λ z. Apart (due rs z) t.period.0) (add-zero p) (h 0 (omega arith)) in
    let count = count_most (due rs p) t.period.0 a x (All-head Limits t ts s).period_from first in
    let most = mul-le t.work.0 (win (λ n. bit (due rs p n)) a x) t.work.0 (up x t.period.0) (omega arith) count in
    let rest = arrive_most rs (suc p) ts a x (All-tail Limits t ts s) (λ j l. let q : p + suc j ≡ suc p + j = omega arith in subst (λ z. Apart (due rs z) (get_or ts j no_task).period.0) q (h (suc j) (omega arith))) in
    omega arith

-- and those at every multiple of the periods below H at least that in the first x.
arrive_least : (rs : List Release) (p : ℕ) (ts : List Task) (H x : ℕ) → All Limits ts
    → ((j n : ℕ) → j < length ts → n < H → n % (get_or ts j no_task).period.0 ≡ 0 → due rs (p + j) n ≡ true) → x ≤ H
    → work_before ts x ≤ win (arrive rs p ts) 0 x
arrive_least rs p [] H x s h l = omega arith
arrive_least rs p (t ∷ ts) H x s h l =
    let add = win_add (λ n. cond (due rs p n) t.work.0 0) (arrive rs (suc p) ts) 0 x in
    let scale = win_scale (due rs p) t.work.0 0 x in
    let count = count_least (due rs p) t.period.0 H x (All-head Limits t ts s).period_from (λ n a b. subst (λ z. due rs z n ≡ true) (add-zero p) (h 0 n (omega arith) a b)) l in
    let most = mul-le t.work.0 (up x t.period.0) t.work.0 (win (λ n. bit (due rs p n)) 0 x) (omega arith) count in
    let rest = arrive_least rs (suc p) ts H x (All-tail Limits t ts s) (λ j n i a b. let q : p + suc j ≡ suc p + j = omega arith in subst (λ z. due rs z n ≡ true) q (h (suc j) n (omega arith) a b)) l in
    omega arith

-- For the places above place k of a list.
module _ (ts : List Task) (rs : List Release) (k : ℕ) where
  front_is : (j : ℕ) → j < length (take k ts) → (j < k) × (j < length ts) × (get_or (take k ts) j no_task ≡ get_or ts j no_task)
  front_is j l = let i : j < k = omega (arith, length-take k ts) in (i, omega (arith, length-take k ts), get_or-take k ts j no_task i)

  pub come_most : All Limits (take k ts) → (h : ℕ) → lawful ts h rs ≡ true → (a x : ℕ) → win (arrive rs 0 (take k ts)) a x ≤ work_before (take k ts) x
  come_most s h law a x = arrive_most rs 0 (take k ts) a x s (λ j l. let f = front_is j l in
      subst (λ z. Apart (due rs z) (get_or (take k ts) j no_task).period.0) (sym (zero-add j)) (subst (λ (z : Task). Apart (due rs j) z.period.0) (sym f.2) (due_spaced ts h rs j law)))

  pub come_least : All Limits (take k ts) → (H : ℕ) → ((j n : ℕ) → j < k → j < length ts → n < H → n % (get_or ts j no_task).period.0 ≡ 0 → due rs j n ≡ true)
      → (x : ℕ) → x ≤ H → work_before (take k ts) x ≤ win (arrive rs 0 (take k ts)) 0 x
  come_least s H h x l = arrive_least rs 0 (take k ts) H x s (λ j n i a b. let f = front_is j i in
      subst (λ z. due rs z n ≡ true) (sym (zero-add j)) (h j n f.0 f.1 a (subst (λ (z : Task). n % z.period.0 ≡ 0) f.2 b))) l
