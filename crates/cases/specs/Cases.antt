-- Worked cases, and what each must give.
use Rattle.std.specs.Prelude.{◌≡◌, ℕ, zero, suc, Bool, true, if◌then◌else◌, List, [], ◌∷◌, ◌++◌, replicate, Some, None, Ok, Err, codes, Option}
use Rattle.tasks.specs.declared.task.Task.{Task}
use Rattle.tasks.specs.declared.units.Ticks.{Ticks}
use Rattle.tasks.specs.Tasks.{task_of}
use Rattle.tasks.specs.Share.{share_answer}
use Rattle.tasks.specs.Instants.{point}
use Rattle.judges.specs.Meanings.{least_good_point, least_good_instant}
use Rattle.machine.specs.declared.state.Release.{Release}
use Rattle.machine.specs.declared.state.Outcome.{Outcome}
use Rattle.machine.specs.Machine.{outcome}
use Rattle.machine.specs.Lawful.{lawful}
use Rattle.schedule.specs.Synchronous.{synchronous}
use Rattle.schedule.specs.Examples.{release}
use Rattle.preferences.specs.declared.policy.Policy.{Policy}
use Rattle.preferences.specs.declared.policy.Policy.TheVariants.{First}
use Rattle.preferences.specs.Laws.{Relation}
use Rattle.preferences.specs.Fits.{first_fit, best_fit, worst_fit}
use Rattle.preferences.specs.Policies.{policy_before}
use Rattle.seating.specs.declared.seat.Seat.{Seat}
use Rattle.seating.specs.declared.refusal.AdmitRefusal.TheVariants.{NoTaker}
use Rattle.seating.specs.Seats.{Lists}
use Rattle.seating.specs.Admission.{Preferred}
use Rattle.book.specs.Book.{Book, Event, admits, withdraws, new_book, after, Right}
use Rattle.rackfile.specs.Records as asks
use Rattle.rackfile.specs.Files.{File}
use Rattle.rackfile.specs.Format.{Stands}
use Rattle.playing.specs.Lines.{blank_sheet, PlayerText}

-- work C and period T
abbrev pub task : ℕ → ℕ → Task
task c t = task_of 1 c t

abbrev pub at : ℕ → Option Ticks
at t = Some (record { 0 = t })

-- a run that ends with a miss, or with none, and its busy ticks
abbrev pub misses : ℕ → ℕ → ℕ → Outcome
misses place instant busy = record { miss = Some (record { place = place; instant = record { 0 = instant } }); busy = record { 0 = busy } }

abbrev pub misses_none : ℕ → Outcome
misses_none busy = record { miss = None; busy = record { 0 = busy } }

pub data Case : Type 0 where
  -- a task below others: the points judge's instant and the step-up judge's
  judged : Task → List Task → (points steps : Option Ticks) → Case
  -- a task's share, in millionths
  shared : Task → Option ℕ → Case
  -- the scheduling points of a task below others, from the least up
  pointed : Task → List Task → List ℕ → Case
  -- tasks released at all multiples of their periods below a horizon: the release list
  released : List Task → (horizon : ℕ) → List Release → Case
  -- a lawful release list for tasks up to a horizon: how the run of the machine ends
  rehearsed : List Task → (horizon : ℕ) → List Release → Outcome → Case
  -- lists of seats, a newcomer and a preference: the processor that takes it
  placed : Lists → Task → Relation → (processor : ℕ) → Case
  -- under a policy, with the points judge, on a book: a call with the answer that is right, and the book after it
  answered : Policy → Book → Event → (next : Book) → Case
  -- a file's bytes: the file that they stand for
  filed : List ℕ → File → Case
  -- an input's bytes: what the player writes for them
  played : List ℕ → (text : List ℕ) → Case

-- those from 1 to n that pass a test
abbrev pub those : (ℕ → Bool) → ℕ → List ℕ
those test zero = []
those test (suc n) = those test n ++ (if test (suc n) then suc n ∷ [] else [])

-- a case gives what it must
abbrev pub Settled : Case → Type 0
Settled (judged x above points steps) = (least_good_point x above ≡ points) × (least_good_instant x above ≡ steps)
Settled (shared x share) = share_answer x ≡ share
Settled (pointed x above points) = those (point x above) x.period.0 ≡ points
Settled (released ts horizon rs) = synchronous ts 0 horizon ≡ rs
Settled (rehearsed ts horizon rs o) = (lawful ts horizon rs ≡ true) × (outcome ts horizon rs ≡ o)
Settled (placed b x before p) = Preferred before b x p
Settled (answered policy b e next) = Right least_good_point (policy_before policy) b e × (after least_good_point b e ≡ next)
Settled (filed bytes file) = Stands bytes file
Settled (played bytes text) = PlayerText bytes text

-- the sheet of Lehoczky, Sha and Ding (1989), with a work in the place of its first task's 20
abbrev pub sheet : ℕ → List Task
sheet c = task c 100 ∷ task 40 150 ∷ task 100 350 ∷ []

-- the multiples of 100, 150 and 350 below 350
abbrev pub multiples : List Release
multiples = release 0 0 ∷ release 1 0 ∷ release 2 0 ∷ release 0 100 ∷ release 1 150 ∷ release 0 200 ∷ release 0 300 ∷ release 1 300 ∷ []

-- those that the definitions compute
abbrev pub computed : List Case
computed =
    -- the sheet of Lehoczky, Sha and Ding (1989)
    judged (task 20 100) [] (at 100) (at 20)
    ∷ judged (task 40 150) (task 20 100 ∷ []) (at 100) (at 60)
    ∷ judged (task 100 350) (task 20 100 ∷ task 40 150 ∷ []) (at 300) (at 240)
    -- with 40 in the place of 20
    ∷ judged (task 40 100) [] (at 100) (at 40)
    ∷ judged (task 40 150) (task 40 100 ∷ []) (at 100) (at 80)
    ∷ judged (task 100 350) (task 40 100 ∷ task 40 150 ∷ []) (at 300) (at 300)
    -- with 41
    ∷ judged (task 100 350) (task 41 100 ∷ task 40 150 ∷ []) None None
    -- of the multiples of 3 the first good one is 9, and the least good point is a multiple of 4
    ∷ judged (task 3 9) (task 1 3 ∷ task 1 4 ∷ []) (at 8) (at 8)
    -- a task that takes every tick
    ∷ judged (task 1 1) [] (at 1) (at 1)
    -- shares are rounded up
    ∷ shared (task 1 3) (Some 333334)
    ∷ shared (task 1 1000000) (Some 1)
    -- periods 5, 14 and 30
    ∷ pointed (task 1 30) (task 1 5 ∷ task 1 14 ∷ []) (5 ∷ 10 ∷ 14 ∷ 15 ∷ 20 ∷ 25 ∷ 28 ∷ 30 ∷ [])
    -- the sheets with 40 and with 41, released at all multiples of their periods: the second misses, as its third task has no good instant
    ∷ released (sheet 40) 350 multiples
    ∷ released (sheet 41) 350 multiples
    ∷ rehearsed (sheet 40) 350 multiples (misses_none 350)
    ∷ rehearsed (sheet 41) 350 multiples (misses 2 350 350)
    ∷ []

-- and those with too many instants to compute
abbrev pub long : List Case
long =
    -- a task that takes every tick leaves nothing below it
    judged (task 1 1000000) (task 1 1 ∷ []) None None
    ∷ []

-- a seat: its number, work, period and instant
abbrev pub seat : ℕ → ℕ → ℕ → ℕ → Seat
seat number work period t = record { task = task_of number work period; instant = record { 0 = t } }

-- 2/5 and 4/10 on processor 0, 3/10 on processor 1
abbrev pub two_lists : Lists
two_lists = (seat 1 2 5 5 ∷ seat 2 4 10 10 ∷ []) ∷ (seat 3 3 10 10 ∷ []) ∷ []

abbrev pub newcomer : Task
newcomer = task_of 4 1 10

-- where 1/10 goes under first, best and worst fit
abbrev pub places : List Case
places = placed two_lists newcomer first_fit 0 ∷ placed two_lists newcomer best_fit 0 ∷ placed two_lists newcomer worst_fit 1 ∷ []

-- the sheet after a refusal: the newcomer itself has no good instant on either processor
abbrev pub written_sheet : List ℕ
written_sheet = 4 ∷ 4 ∷ replicate 14 0

-- how they came about: the new book, with 2/5 on it, and with 4/10
abbrev pub book_0 : Book
book_0 = new_book 2

abbrev pub book_1 : Book
book_1 = (seat 1 2 5 5 ∷ []) ∷ [] ∷ []

abbrev pub book_2 : Book
book_2 = (seat 1 2 5 5 ∷ seat 2 4 10 10 ∷ []) ∷ [] ∷ []

-- three tasks get their seats; on the two lists 8/10 is refused with 8, with the sheet that says why; the second task leaves, and its work and period are given back
abbrev pub answers : List Case
answers =
    answered First book_0 (admits (task_of 1 2 5) blank_sheet (Ok (0, record { 0 = 5 })) blank_sheet) book_1
    ∷ answered First book_1 (admits (task_of 2 4 10) blank_sheet (Ok (0, record { 0 = 10 })) blank_sheet) book_2
    ∷ answered First book_2 (admits (task_of 3 3 10) blank_sheet (Ok (1, record { 0 = 10 })) blank_sheet) two_lists
    ∷ answered First two_lists (admits (task_of 4 8 10) blank_sheet (Err NoTaker) written_sheet) two_lists
    ∷ answered First two_lists (withdraws 2 (Ok (0, record { 0 = 4 }, record { 0 = 10 }))) ((seat 1 2 5 5 ∷ []) ∷ (seat 3 3 10 10 ∷ []) ∷ [])
    ∷ []

-- the bytes of a file of five records, under first fit on two processors
abbrev pub sample : List ℕ
sample =
    82 ∷ 65 ∷ 75 ∷ 0 ∷ 1 ∷ 70 ∷ 2 ∷ 0 ∷ 5
    ∷ 65 ∷ 0 ∷ 0 ∷ 0 ∷ 1 ∷ 0 ∷ 0 ∷ 0 ∷ 2 ∷ 0 ∷ 0 ∷ 0 ∷ 5 ∷ 3 ∷ 115 ∷ 97 ∷ 119
    ∷ 65 ∷ 0 ∷ 0 ∷ 0 ∷ 2 ∷ 0 ∷ 0 ∷ 0 ∷ 4 ∷ 0 ∷ 0 ∷ 0 ∷ 10 ∷ 3 ∷ 99 ∷ 97 ∷ 109
    ∷ 65 ∷ 0 ∷ 0 ∷ 0 ∷ 3 ∷ 0 ∷ 0 ∷ 0 ∷ 3 ∷ 0 ∷ 0 ∷ 0 ∷ 10 ∷ 3 ∷ 100 ∷ 114 ∷ 108
    ∷ 65 ∷ 0 ∷ 0 ∷ 0 ∷ 4 ∷ 0 ∷ 0 ∷ 0 ∷ 8 ∷ 0 ∷ 0 ∷ 0 ∷ 10 ∷ 3 ∷ 98 ∷ 105 ∷ 103
    ∷ 87 ∷ 0 ∷ 0 ∷ 0 ∷ 2 ∷ []

-- what they stand for: each record, and where its label begins
abbrev pub sample_file : File
sample_file = record {
  policy = First;
  processors = 2;
  records = asks.admits 1 2 5 (codes "saw") 23 ∷ asks.admits 2 4 10 (codes "cam") 40 ∷ asks.admits 3 3 10 (codes "drl") 57 ∷ asks.admits 4 8 10 (codes "big") 74 ∷ asks.withdraws 2 ∷ [];
}

-- and its lines: three tasks get their seats, a fourth fits on neither processor, and the second leaves
abbrev pub sample_text : List ℕ
sample_text = codes "0 A saw 0 5\n1 A cam 0 10\n2 A drl 1 10\n3 A big R8\n4 W 2 0\n"

-- inputs with the player's text
abbrev pub whole : List Case
whole =
    filed sample sample_file
    ∷ played sample sample_text
    -- a file of no records
    ∷ played (82 ∷ 65 ∷ 75 ∷ 0 ∷ 1 ∷ 87 ∷ 16 ∷ 0 ∷ 0 ∷ []) []
    -- nothing at all, and a header that ends behind its version
    ∷ played [] (codes "F 12 0\n")
    ∷ played (82 ∷ 65 ∷ 75 ∷ 0 ∷ 1 ∷ []) (codes "F 12 5\n")
    -- zeros, as many as a file may have bytes, and one more
    ∷ played (replicate 65536 0) (codes "F 13 0\n")
    ∷ played (replicate 65537 0) (codes "F 11 65536\n")
    ∷ []

abbrev pub cases : List Case
cases = computed ++ (long ++ (places ++ (answers ++ whole)))
