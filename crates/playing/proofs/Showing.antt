-- Which refusals a line can show.
use Rattle.std.proofs.Common.{◌≡◌, ℕ, ◌≤◌, Bool, true, false, not, cond, eqb, ltb, List, length, Some, None, Err, inl, inr, refl, arith, Ok, Result, ap}
use Rattle.std.proofs.lemmas.List.{length-set}
use Rattle.std.specs.Option.{option_or}
use Rattle.std.proofs.lemmas.Bool.{le-ltb}
use Rattle.tasks.specs.declared.task.Task.{Task}
use Rattle.tasks.specs.Limits.{period_allowed, work_allowed}
use Rattle.judges.specs.Meanings.{least_good_point}
use Rattle.preferences.specs.declared.policy.Policy.{Policy}
use Rattle.preferences.specs.Policies.{policy_before}
use Rattle.seating.specs.declared.refusal.AdmitRefusal.{AdmitRefusal}
use Rattle.seating.specs.declared.refusal.AdmitRefusal.TheVariants.{ShortSheet, NumberZero, BadPeriod, BadWork, AlreadySeated, AllFull, NoTaker}
use Rattle.seating.specs.declared.refusal.WithdrawRefusal.{WithdrawRefusal}
use Rattle.seating.specs.declared.refusal.WithdrawRefusal.TheVariants.{NotSeated}
use Rattle.seating.specs.declared.refused.Refused.TheVariants.{Admitting, Withdrawing}
use Rattle.seating.specs.Refusals.{number_of}
use Rattle.seating.specs.Seats.{seated, all_full}
use Rattle.seating.specs.Admission.{earlier}
use Rattle.tasks.specs.declared.units.Ticks.{Ticks}
use Rattle.book.specs.Book.{Book, Event, after, Right}
use Rattle.book.specs.Book as call
use Rattle.playing.specs.Lines.{RefusalsShown}

not_short : (short zero period work known full : Bool) → short ≡ false
    → option_or {T = AdmitRefusal} (cond short (Some ShortSheet) (cond zero (Some NumberZero) (cond period (Some BadPeriod) (cond work (Some BadWork) None)))) (cond known (Some AlreadySeated) (cond full (Some AllFull) None)) ≡ Some ShortSheet → ⊥
not_short true z p w k f h e = absurd cc
not_short false true p w k f h e = absurd cc
not_short false false true w k f h e = absurd cc
not_short false false false true k f h e = absurd cc
not_short false false false false true f h e = absurd cc
not_short false false false false false true h e = absurd cc
not_short false false false false false false h e = absurd cc

sheet_long : (b : Book) (x : Task) (sheet : List ℕ) → length b ≤ 16 → length sheet ≡ 16 → earlier b x (length sheet) ≡ Some ShortSheet → ⊥
sheet_long b x sheet few long e =
    not_short (ltb (length sheet) (length b)) (eqb x.number 0) (not (period_allowed x)) (not (work_allowed x)) (seated x.number b) (all_full b) (le-ltb (length sheet) (length b) (omega (arith, few, long))) e

admissions : (policy : Policy) (b : Book) (x : Task) (sheet sheet' : List ℕ) (e : AdmitRefusal) → length b ≤ 16 → length sheet ≡ 16
    → Right least_good_point (policy_before policy) b (call.admits x sheet (Err e) sheet') → (3 ≤ number_of (Admitting e)) × (number_of (Admitting e) ≤ 8)
admissions policy b x sheet sheet' ShortSheet few long (inl r) = absurd (sheet_long b x sheet few long r.cause)
admissions policy b x sheet sheet' ShortSheet few long (inr r) = absurd (let e = r.0 in cc)
admissions policy b x sheet sheet' NumberZero few long r = (omega arith, omega arith)
admissions policy b x sheet sheet' BadPeriod few long r = (omega arith, omega arith)
admissions policy b x sheet sheet' BadWork few long r = (omega arith, omega arith)
admissions policy b x sheet sheet' AlreadySeated few long r = (omega arith, omega arith)
admissions policy b x sheet sheet' AllFull few long r = (omega arith, omega arith)
admissions policy b x sheet sheet' NoTaker few long r = (omega arith, omega arith)

withdrawals : (e : WithdrawRefusal) → number_of (Withdrawing e) ≡ 9
withdrawals NotSeated = refl

sheets : (policy : Policy) (b : Book) (x : Task) (sheet sheet' : List ℕ) (a : Result (ℕ × Ticks) AdmitRefusal) → Right least_good_point (policy_before policy) b (call.admits x sheet a sheet') → length sheet' ≡ length sheet
sheets policy b x sheet sheet' (Ok a) r = ap length r.sheet_stays
sheets policy b x sheet sheet' (Err e) (inl r) = ap length r.sheet_stays
sheets policy b x sheet sheet' (Err e) (inr r) = r.1.as_long

books : (b : Book) (e : Event) → length (after least_good_point b e) ≡ length b
books b (call.admits x sheet (Ok a) sheet') = length-set b a.0 _
books b (call.admits x sheet (Err e) sheet') = refl
books b (call.withdraws n (Ok a)) = length-set b a.0 _
books b (call.withdraws n (Err e)) = refl
books b (call.finds n a) = refl
books b (call.loads p a) = refl
books b (call.lists p a) = refl

pub refusals_shown : RefusalsShown
refusals_shown = record { admissions = admissions; withdrawals = withdrawals; sheets = sheets; books = books }
