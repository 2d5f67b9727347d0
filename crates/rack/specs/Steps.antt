-- The calls of a rack, each as one relation: the rack before, the call with its whole answer, the rack after.
use Rattle.std.specs.Prelude.{◌≡◌, ℕ, true, false, List, [], ◌∷◌, length, replicate, Some, Ok, Err, Result}
use Rattle.std.specs.Borrow.{Bor}
use Rattle.tasks.specs.declared.task.Task.{Task}
use Rattle.tasks.specs.declared.units.Ticks.{Ticks}
use Rattle.tasks.specs.declared.units.Units.{Units}
use Rattle.judges.specs.Laws.{Meaning}
use Rattle.preferences.specs.Laws.{Relation}
use Rattle.seating.specs.declared.refusal.AdmitRefusal.{AdmitRefusal}
use Rattle.seating.specs.declared.refusal.WithdrawRefusal.{WithdrawRefusal}
use Rattle.seating.specs.declared.refusal.MakeRefusal.TheVariants.{ProcessorCount}
use Rattle.seating.specs.Seats.{seated}
use Rattle.seating.specs.Admission.{earlier, Admits}
use Rattle.seating.specs.Withdrawal.{Withdraws}
use Rattle.seating.specs.declared.seat.Seat.{Seat}
use Rattle.seating.specs.declared.refusal.QuestionRefusal.{QuestionRefusal}
use Rattle.seating.specs.Questions.{Finds, Loads, Shows}
use Rattle.book.specs.Book.{Event, admits, withdraws, finds, loads, lists, MainClaim}
use Rattle.rack.specs.declared.blank.Blank.{Blank}
use Rattle.rack.specs.Table.{Table, rack_size}

module _ {J P : Type 0} (meaning : J → Meaning) (before : P → Relation) where
  pub record AdmitStep (r : Table J P) (x : Task) (sheet : List ℕ) (answer : Result (ℕ × Ticks) AdmitRefusal) (sheet' : List ℕ) (s : Table J P) : Type 0 where
    pub admits : Admits (meaning r.judge) (before r.preference) r.lists x sheet answer sheet' s.lists
    pub processors : length s.lists ≡ length r.lists
    pub judge : meaning s.judge ≡ meaning r.judge
    pub preference : before s.preference ≡ before r.preference
    -- a refusal leaves all seats
    pub lists_stay : (e : AdmitRefusal) → answer ≡ Err e → s.lists ≡ r.lists
    -- at a cause before `NoTaker` nobody is asked: the whole rack is as it was
    pub untouched : (e : AdmitRefusal) → earlier r.lists x (length sheet) ≡ Some e → s ≡ r

  pub record WithdrawStep (r : Table J P) (n : ℕ) (answer : Result (ℕ × Units × Ticks) WithdrawRefusal) (s : Table J P) : Type 0 where
    pub withdraws : Withdraws r.lists n answer s.lists
    pub processors : length s.lists ≡ length r.lists
    -- nobody is asked
    pub judge : s.judge ≡ r.judge
    pub preference : s.preference ≡ r.preference
    -- a refusal leaves the whole rack as it was
    pub untouched : seated n r.lists ≡ false → s ≡ r

  -- THE STEP of a rack: the rack before, the call with its whole answer, the rack after. Each of the five calls ensures it at its own event; the questions change nothing.
  abbrev pub Step : Table J P → Event → Table J P → Type 0
  Step r (admits x sheet answer sheet') s = AdmitStep r x sheet answer sheet' s
  Step r (withdraws n answer) s = WithdrawStep r n answer s
  Step r (finds n answer) s = Finds r.lists n answer × (s ≡ r)
  Step r (loads p answer) s = Loads r.lists p answer × (s ≡ r)
  Step r (lists p answer) s = Shows r.lists p answer × (s ≡ r)

  -- these calls, one after another, are all that happens to the rack
  abbrev pub Run : Table J P → List Event → Type 0
  Run r [] = Unit {0}
  Run r (e ∷ es) = (s : Table J P) × Step r e s × Run s es

  -- a rack of m processors with all seats free; and THE CLAIM over its whole life, whatever is called and however often
  pub record Makes (m : ℕ) (j : J) (p : P) (r : Table J P) : Type 0 where
    pub size : rack_size m ≡ true
    pub free : r.lists ≡ replicate m []
    pub processors : length r.lists ≡ m
    pub judge : r.judge ≡ j
    pub preference : r.preference ≡ p
    pub whole_life : (es : List Event) → Run r es → MainClaim (meaning j) (before p) m es

-- a blank, exactly where no rack has m processors
pub record Blanks {J P : Type 0} (m : ℕ) (j : J) (p : P) (blank : Blank J P) : Type 0 where
  pub cause : rack_size m ≡ false
  pub refused : blank.refusal ≡ ProcessorCount
  pub judge : blank.judge ≡ j
  pub preference : blank.preference ≡ p

abbrev pub MakeStep : {J P : Type 0} → (J → Meaning) → (P → Relation) → ℕ → J → P → Result (Table J P) (Blank J P) → Type 0
MakeStep meaning before m j p (Ok r) = Makes meaning before m j p r
MakeStep meaning before m j p (Err blank) = Blanks m j p blank

-- the seats shown, as a list
abbrev pub shown : Result (Bor (List Seat)) QuestionRefusal → Result (List Seat) QuestionRefusal
shown (Ok part) = Ok part.now
shown (Err e) = Err e
