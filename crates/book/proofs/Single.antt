-- Exactly one answer to each call is allowed by the lists, and so exactly one is right by the book.
use Rattle.std.proofs.Common.{◌≡◌, ℕ, ◌<◌, ◌≤◌, true, false, ◌⊎◌, List, [], length, get_or, Some, None, Ok, Err, Option, Result, refl, ap, ◌∙◌, subst, inl, inr, arith}
use Rattle.std.proofs.lemmas.Bool.{cases_lt}
use Rattle.tasks.specs.declared.task.Task.{Task}
use Rattle.tasks.specs.declared.units.Ticks.{Ticks}
use Rattle.tasks.specs.declared.units.Units.{Units}
use Rattle.judges.specs.Laws.{Meaning, JudgeLaws}
use Rattle.preferences.specs.Laws.{Relation, PreferenceLaws}
use Rattle.seating.specs.declared.seat.Seat.{Seat}
use Rattle.seating.specs.declared.refusal.AdmitRefusal.{AdmitRefusal}
use Rattle.seating.specs.declared.refusal.WithdrawRefusal.{WithdrawRefusal}
use Rattle.seating.specs.declared.refusal.QuestionRefusal.{QuestionRefusal}
use Rattle.seating.specs.declared.refusal.QuestionRefusal.TheVariants.{NoProcessor}
use Rattle.seating.specs.Seats.{tasks_of, load_of, no_seat, seated, numbers, all_differ, Kept}
use Rattle.seating.specs.Admission.{Admits}
use Rattle.seating.specs.Withdrawal.{Withdraws, SitsAt}
use Rattle.seating.specs.Questions.{Finds, Told}
use Rattle.seating.proofs.Answering.{admits_some, withdraws_some}
use Rattle.seating.proofs.Once.{admits_once}
use Rattle.seating.proofs.WithdrawOnce.{withdraws_once}
use Rattle.seating.proofs.Numbering.{is_seated_there, one_list, one_place}
use Rattle.book.specs.Book.{Book, seats_on, Event, admits, withdraws, after, Rules, Right}
use Rattle.book.specs.Answers.{One, OneRightAnswer}
use Rattle.book.proofs.Following.{written}

-- the questions, by the lists alone
module _ (b : Book) where
  -- a task of the number sits somewhere, or none does
  sits_or_not : (n : ℕ) → ((p : ℕ) × (at : ℕ) × SitsAt b n p at) ⊎ (seated n b ≡ false)
  sits_or_not n = let some = withdraws_some b n in go some.0 some.1 some.2
    where
      go : (a : Result (ℕ × Units × Ticks) WithdrawRefusal) (b' : Book) → Withdraws b n a b' → ((p : ℕ) × (at : ℕ) × SitsAt b n p at) ⊎ (seated n b ≡ false)
      go (Ok a) b' l = inl (a.0, l.at, l.sits)
      go (Err e) b' l = inr l.cause

  same_found : all_differ (numbers b) ≡ true → (n p at : ℕ) → SitsAt b n p at → (a : Option (Seat × ℕ)) → Finds b n a → a ≡ Some (get_or (get_or b p []) at no_seat, p)
  same_found once n p at s None none = absurd (is_seated_there n b p at s.there s.within s.number none)
  same_found once n p at s (Some (seat, q)) f =
      let t = f.sits in
      let list : q ≡ p = one_list n b once q p f.at at t.there s.there t.within s.within t.number s.number in
      let t' : SitsAt b n p f.at = subst (λ (k : ℕ). SitsAt b n k f.at) list t in
      let place : f.at ≡ at = one_place n b once p f.at at s.there t'.within s.within t'.number s.number in
      ap (λ (z : Seat). Some (z, q)) (f.its_seat ∙ ap (λ (k : ℕ). get_or (get_or b k []) f.at no_seat) list ∙ ap (λ (k : ℕ). get_or (get_or b p []) k no_seat) place) ∙ ap (λ (k : ℕ). Some (get_or (get_or b p []) at no_seat, k)) list

  none_found : (n : ℕ) → seated n b ≡ false → (a : Option (Seat × ℕ)) → Finds b n a → a ≡ None
  none_found n none None f = refl
  none_found n none (Some (seat, q)) f = absurd (is_seated_there n b q f.at f.sits.there f.sits.within f.sits.number none)

  pub one_found : all_differ (numbers b) ≡ true → (n : ℕ) → One (Option (Seat × ℕ)) (Finds b n)
  one_found once n = go (sits_or_not n)
    where
      go : ((p : ℕ) × (at : ℕ) × SitsAt b n p at) ⊎ (seated n b ≡ false) → One (Option (Seat × ℕ)) (Finds b n)
      go (inl s) = record {
        it = Some (get_or (get_or b s.0 []) s.1 no_seat, s.0);
        is = record { at = s.1; sits = s.2; its_seat = refl };
        only = same_found once n s.0 s.1 s.2;
      }
      go (inr none) = record { it = None; is = none; only = none_found n none }

  one_refusal : (e : QuestionRefusal) → e ≡ NoProcessor
  one_refusal NoProcessor = refl

  pub one_told : {A : Type 0} (p : ℕ) (v : A) → One (Result A QuestionRefusal) (Told b p v)
  one_told {A} p v = go (cases_lt p (length b))
    where
      there : p < length b → (a : Result A QuestionRefusal) → Told b p v a → a ≡ Ok v
      there lt (Ok w) r = ap (λ (k : A). Ok k) r.1
      there lt (Err e) r = absurd (omega (arith, lt, r.cause))

      away : length b ≤ p → (a : Result A QuestionRefusal) → Told b p v a → a ≡ Err NoProcessor
      away ge (Ok w) r = absurd (omega (arith, ge, r.0))
      away ge (Err e) r = ap (λ (k : QuestionRefusal). Err k) (one_refusal e)

      go : (p < length b) ⊎ (length b ≤ p) → One (Result A QuestionRefusal) (Told b p v)
      go (inl lt) = record { it = Ok v; is = (lt, refl); only = there lt }
      go (inr ge) = record { it = Err NoProcessor; is = record { cause = ge; refused = refl }; only = away ge }

-- the calls that may change a rack, by the lists alone
pub one_admitted : (meaning : Meaning) → JudgeLaws meaning → (before : Relation) → PreferenceLaws before → (b : Book) → ((q : ℕ) → q < length b → Kept (seats_on b q)) → (x : Task) (sheet : List ℕ)
    → One (Result (ℕ × Ticks) AdmitRefusal × List ℕ × Book) (λ a. Admits meaning before b x sheet a.0 a.1 a.2)
one_admitted meaning judged before preferred b kept x sheet =
    let some = admits_some meaning judged before preferred b kept x sheet in
    record {
      it = (some.0, some.1, some.2);
      is = some.3;
      only = λ a r.
          let one = admits_once meaning before preferred b x sheet a.0 some.0 a.1 some.1 a.2 some.2 r some.3 in
          ap (λ (z : Result (ℕ × Ticks) AdmitRefusal). (z, a.1, a.2)) one.0 ∙ ap (λ (z : List ℕ). (some.0, z, a.2)) one.1 ∙ ap (λ (z : Book). (some.0, some.1, z)) one.2;
    }

pub one_withdrawn : (b : Book) → all_differ (numbers b) ≡ true → (n : ℕ) → One (Result (ℕ × Units × Ticks) WithdrawRefusal × Book) (λ a. Withdraws b n a.0 a.1)
one_withdrawn b once n =
    let some = withdraws_some b n in
    record {
      it = (some.0, some.1);
      is = some.2;
      only = λ a r.
          let one = withdraws_once b once n a.0 some.0 a.1 some.1 r some.2 in
          ap (λ (z : Result (ℕ × Units × Ticks) WithdrawRefusal). (z, a.1)) one.0 ∙ ap (λ (z : Book). (some.0, z)) one.1;
    }

-- by the book
module _ (meaning : Meaning) (judged : JudgeLaws meaning) (before : Relation) (preferred : PreferenceLaws before) (b : Book) (kept : (q : ℕ) → q < length b → Kept (seats_on b q)) (once : all_differ (numbers b) ≡ true) where
  to_right : (b' : Book) (e : Event) → Rules meaning before b e b' → Right meaning before b e
  to_right b' e r = subst (λ (c : Book). Rules meaning before b e c) (written meaning before b b' once e r) r

  one_admission : (x : Task) (sheet : List ℕ) → One (Result (ℕ × Ticks) AdmitRefusal × List ℕ) (λ a. Right meaning before b (admits x sheet a.0 a.1))
  one_admission x sheet =
      let one = one_admitted meaning judged before preferred b kept x sheet in
      record {
        it = (one.it.0, one.it.1);
        is = to_right one.it.2 (admits x sheet one.it.0 one.it.1) one.is;
        only = λ a r. ap (λ (z : Result (ℕ × Ticks) AdmitRefusal × List ℕ × Book). (z.0, z.1)) (one.only (a.0, a.1, after meaning b (admits x sheet a.0 a.1)) r);
      }

  one_withdrawal : (n : ℕ) → One (Result (ℕ × Units × Ticks) WithdrawRefusal) (λ a. Right meaning before b (withdraws n a))
  one_withdrawal n =
      let one = one_withdrawn b once n in
      record {
        it = one.it.0;
        is = to_right one.it.1 (withdraws n one.it.0) one.is;
        only = λ a r. ap (λ (z : Result (ℕ × Units × Ticks) WithdrawRefusal × Book). z.0) (one.only (a, after meaning b (withdraws n a)) r);
      }

-- what is asked leaves the book as it is
asked_right : {A : Type 0} {P : A → Type 0} (b : Book) → One A P → One A (λ a. P a × (b ≡ b))
asked_right b one = record { it = one.it; is = (one.is, refl); only = λ a r. one.only a r.0 }

pub one_right_answer : OneRightAnswer
one_right_answer meaning judged before preferred b kept once = record {
  admission = one_admission meaning judged before preferred b kept once;
  withdrawal = one_withdrawal meaning judged before preferred b kept once;
  finding = λ n. asked_right b (one_found b once n);
  load = λ p. asked_right b (one_told b p (load_of (tasks_of (get_or b p []))));
  seats = λ p. asked_right b (one_told b p (get_or b p []));
}
