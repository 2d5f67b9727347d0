-- What is left where memory fails.
use Rattle.std.proofs.Common.{◌≡◌, ℕ, List, Ok, Err, Some, Option, Result, String, replicate, string_bytes, subst, sym, ap, refl}
use Rattle.std.specs.declared.alloc.Global.{Global}
use Rattle.tasks.specs.declared.units.Ticks.{Ticks}
use Rattle.tasks.specs.declared.units.Units.{Units}
use Rattle.judges.specs.Kinds.{meaning_of}
use Rattle.preferences.specs.Policies.{policy_before}
use Rattle.seating.specs.declared.refusal.AdmitRefusal.{AdmitRefusal}
use Rattle.seating.specs.declared.refusal.WithdrawRefusal.{WithdrawRefusal}
use Rattle.rack.specs.Steps.{AdmitStep, WithdrawStep}
use Rattle.console.specs.Console.{RackSeen, ConsoleSeen}
use Rattle.console.specs.declared.asking.Admission.{Admission}
use Rattle.console.specs.Asking.{Admitted, Withdrawn, OnRack, AdmitAnswer, WithdrawAnswer}
use Rattle.console.specs.Texts.{admit_text, withdraw_text}
use Rattle.console.specs.declared.lost.Lost.{Lost}
use Rattle.console.specs.declared.lost.Lost.TheVariants.{Call, Answer, Play}
use Rattle.console.specs.Lost.{Leaves, Answers, Written}
use Rattle.console.specs.declared.unanswered.Unanswered.{Unanswered}
use Rattle.console.specs.declared.unanswered.Unanswered.TheVariants as why
use Rattle.console.specs.Unanswered.{Says}

-- an answer that fits is said, or is lost
pub said_or_lost
    : {A S : Type 0} (bytes : A → List ℕ) (fits : List ℕ → S → Type 0) (before after : S) (text : List ℕ) → fits text after → (said : Result A Lost) → Written bytes text said → Answers bytes fits before after said
said_or_lost bytes fits before after text h (Ok s) e = subst (λ t. fits t after) (sym e) h
said_or_lost bytes fits before after text h (Err (Answer m)) e = (text, h)
said_or_lost bytes fits before after text h (Err (Call m)) e = absurd e
said_or_lost bytes fits before after text h (Err (Play m)) e = absurd e

pub admitted_or_lost
    : (r s : RackSeen) (asks : Admission) (answer : Result (ℕ × Ticks) AdmitRefusal) (blank sheet shown : List ℕ) (said : Result (String Global) Lost)
    → AdmitStep meaning_of policy_before r asks.task blank answer sheet s → blank ≡ replicate asks.length 777 → Written string_bytes (admit_text answer shown) said → shown ≡ sheet
    → Answers string_bytes (Admitted r asks) r s said
admitted_or_lost r s asks answer blank sheet shown said step b e is =
    said_or_lost string_bytes (Admitted r asks) r s _ (record { answer = answer; sheet_after = sheet; step = subst (λ x. AdmitStep meaning_of policy_before r asks.task x answer sheet s) b step; says = ap (admit_text answer) is }) said e

pub withdrawn_or_lost
    : (r s : RackSeen) (number : ℕ) (answer : Result (ℕ × Units × Ticks) WithdrawRefusal) (said : Result (String Global) Lost)
    → WithdrawStep meaning_of policy_before r number answer s → Written string_bytes (withdraw_text answer) said
    → Answers string_bytes (Withdrawn r number) r s said
withdrawn_or_lost r s number answer said step e = said_or_lost string_bytes (Withdrawn r number) r s _ (record { answer = answer; step = step; says = refl }) said e

-- an answer that fits, and is lost
pub answer_lost
    : {S : Type 0} (fits : List ℕ → S → Type 0) (before after : S) (text : List ℕ) → fits text after
    → (lost : Lost) → Written (string_bytes {Z = Global}) text (Err lost) → (said : Result (String Global) Unanswered) → said ≡ Err (why.Lost lost) → Says string_bytes fits before after said
answer_lost fits before after text h (Answer m) e said is = subst (Says string_bytes fits before after) (sym is) (text, h)
answer_lost fits before after text h (Call m) e said is = absurd e
answer_lost fits before after text h (Play m) e said is = absurd e

-- what a call on the rack leaves, it leaves at the console
lost_on_rack
    : (does : RackSeen → List ℕ → RackSeen → Type 0) (r s : RackSeen) (lost : Lost) → Leaves (does r) r s lost → Leaves (OnRack does (Some r)) (Some r) (Some s) lost
lost_on_rack does r s (Call m) h = ap Some h
lost_on_rack does r s (Answer m) h = h
lost_on_rack does r s (Play m) h = ap Some h

pub admission_lost
    : (before : ConsoleSeen) (asked : Option Admission) (said : Result (String Global) Unanswered) (asks : Admission) (r s : RackSeen) (lost : Lost)
    → said ≡ Err (why.Lost lost) → asked ≡ Some asks → before ≡ Some r → Leaves (Admitted r asks) r s lost
    → Says string_bytes (AdmitAnswer before asked) before (Some s) said
admission_lost before asked said asks r s lost e a b h =
    subst (λ x. Says string_bytes (AdmitAnswer before asked) before (Some s) x) (sym e)
    (subst (λ o. Leaves (AdmitAnswer before o) before (Some s) lost) (sym a)
    (subst (λ q. Leaves (OnRack (λ x. Admitted x asks) q) q (Some s) lost) (sym b) (lost_on_rack (λ x. Admitted x asks) r s lost h)))

pub withdrawal_lost
    : (before : ConsoleSeen) (asked : Option ℕ) (said : Result (String Global) Unanswered) (number : ℕ) (r s : RackSeen) (lost : Lost)
    → said ≡ Err (why.Lost lost) → asked ≡ Some number → before ≡ Some r → Leaves (Withdrawn r number) r s lost
    → Says string_bytes (WithdrawAnswer before asked) before (Some s) said
withdrawal_lost before asked said number r s lost e a b h =
    subst (λ x. Says string_bytes (WithdrawAnswer before asked) before (Some s) x) (sym e)
    (subst (λ o. Leaves (WithdrawAnswer before o) before (Some s) lost) (sym a)
    (subst (λ q. Leaves (OnRack (λ x. Withdrawn x number) q) q (Some s) lost) (sym b) (lost_on_rack (λ x. Withdrawn x number) r s lost h)))
