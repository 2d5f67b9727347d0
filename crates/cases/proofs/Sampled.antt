-- Whole inputs: of the sample what its bytes stand for, the answers that are right, and the lines.
use Rattle.std.proofs.Common.{◌≡◌, ℕ, zero, suc, ◌<◌, true, [], ◌∷◌, get_or, drop, Some, Ok, Err, Result, codes, sym, refl, subst, inr, arith, lit≤}
use Rattle.std.specs.List.{AllByRecursion}
use Rattle.std.specs.Fmt.{digits}
use Rattle.std.proofs.lemmas.Bool.{both_ways, lt-ltb}
use Rattle.tasks.specs.declared.task.Task.{Task}
use Rattle.tasks.specs.Tasks.{task_of}
use Rattle.tasks.specs.Rounding.{up}
use Rattle.tasks.specs.Instants.{least}
use Rattle.tasks.specs.Demand.{FitsAt}
use Rattle.judges.specs.Meanings.{least_good_point}
use Rattle.judges.specs.Meant.{points_lawful}
use Rattle.preferences.specs.declared.policy.Policy.TheVariants.{First}
use Rattle.preferences.specs.Fits.{first_fit}
use Rattle.seating.specs.declared.refusal.AdmitRefusal.TheVariants.{NoTaker}
use Rattle.seating.specs.Seats.{Lists, no_seat}
use Rattle.seating.specs.Admission.{WouldTake, as_seen, said, on, Entry}
use Rattle.book.specs.Book.{admits, withdraws, Right}
use Rattle.book.proofs.Moments.{kept_fits}
use Rattle.rackfile.specs.declared.fault.FileFault.{FileFault}
use Rattle.rackfile.specs.Files.{File}
use Rattle.rackfile.specs.Format.{Stands}
use Rattle.rackfile.proofs.Standing.{reads}
use Rattle.playing.specs.Lines.{Lines, blank_sheet, TextOf, PlayerText}
use Rattle.cases.specs.Cases.{Settled, answers, whole, sample, sample_file, sample_text, book_0, book_1, book_2, two_lists, written_sheet}
use Rattle.cases.proofs.Few.{of_two, only_at}

abbrev saw : Task
saw = task_of 1 2 5

abbrev cam : Task
cam = task_of 2 4 10

abbrev drl : Task
drl = task_of 3 3 10

abbrev big : Task
big = task_of 4 8 10

-- processor 0 goes before every other
before_others : (b : Lists) (q : ℕ) → (q ≡ 0 → ⊥) → first_fit (as_seen b 0) (as_seen b q) ≡ true
before_others b zero ne = absurd (ne refl)
before_others b (suc q) ne = lt-ltb 0 (suc q) (omega arith)

-- neither the drill nor the big one fits below saw and camera, nor the big one below the drill
drl_unfit : FitsAt (saw ∷ cam ∷ drl ∷ []) 2 → ⊥
unfolding up least
drl_unfit g = both_ways _ (points_lawful.complete drl (saw ∷ cam ∷ []) refl refl g.0) g.1

big_unfit : FitsAt (saw ∷ cam ∷ big ∷ []) 2 → ⊥
unfolding up least
big_unfit g = both_ways _ (points_lawful.complete big (saw ∷ cam ∷ []) refl refl g.0) g.1

big_unfit_1 : FitsAt (drl ∷ big ∷ []) 1 → ⊥
unfolding up least
big_unfit_1 g = both_ways _ (points_lawful.complete big (drl ∷ []) refl refl g.0) g.1

-- each answer is right by the book before it
right_0 : Right least_good_point first_fit book_0 (admits saw blank_sheet (Ok (0, record { 0 = 5 })) blank_sheet)
unfolding up least
right_0 = record {
  passes = refl;
  preferred = record { there = lit≤ tt; takes = record { room = lit≤ tt; fits = kept_fits (get_or book_1 0 []) refl }; first = λ q lt ne w. before_others book_0 q ne };
  instant = refl;
  joins = record { tasks = refl; above = refl; judged = only_at (λ k. said least_good_point (saw ∷ []) k ≡ Some (get_or (get_or book_1 0 []) k no_seat).instant) 0 refl };
  others = refl;
  sheet_stays = refl;
}

right_1 : Right least_good_point first_fit book_1 (admits cam blank_sheet (Ok (0, record { 0 = 10 })) blank_sheet)
unfolding up least
right_1 = record {
  passes = refl;
  preferred = record { there = lit≤ tt; takes = record { room = lit≤ tt; fits = kept_fits (get_or book_2 0 []) refl }; first = λ q lt ne w. before_others book_1 q ne };
  instant = refl;
  joins = record { tasks = refl; above = refl; judged = only_at (λ k. said least_good_point (saw ∷ cam ∷ []) k ≡ Some (get_or (get_or book_2 0 []) k no_seat).instant) 1 refl };
  others = refl;
  sheet_stays = refl;
}

right_2 : Right least_good_point first_fit book_2 (admits drl blank_sheet (Ok (1, record { 0 = 10 })) blank_sheet)
unfolding up least
right_2 = record {
  passes = refl;
  preferred = record { there = lit≤ tt; takes = record { room = lit≤ tt; fits = kept_fits (get_or two_lists 1 []) refl }; first = of_two (λ q. (q ≡ 1 → ⊥) → WouldTake drl (on book_2 q) → first_fit (as_seen book_2 1) (as_seen book_2 q) ≡ true) (λ ne w. absurd (drl_unfit (w.fits 2 (lit≤ tt)))) (λ ne w. absurd (ne refl)) };
  instant = refl;
  joins = record { tasks = refl; above = refl; judged = only_at (λ k. said least_good_point (drl ∷ []) k ≡ Some (get_or (get_or two_lists 1 []) k no_seat).instant) 0 refl };
  others = refl;
  sheet_stays = refl;
}

fits_two : (k : ℕ) → k < 2 → FitsAt (saw ∷ cam ∷ big ∷ []) k
unfolding up
fits_two = of_two (FitsAt (saw ∷ cam ∷ big ∷ [])) (5, refl) (10, refl)

fits_one : (k : ℕ) → k < 1 → FitsAt (drl ∷ big ∷ []) k
unfolding up
fits_one k lt = only_at (FitsAt (drl ∷ big ∷ [])) 0 (10, refl) k (omega arith) lt

entries : (q : ℕ) → q < 2 → Entry big (on two_lists q) (get_or written_sheet q 0)
entries = of_two (λ q. Entry big (on two_lists q) (get_or written_sheet q 0))
    (inr (lit≤ tt, record { at = 2; within = lit≤ tt; unfit = big_unfit; before = fits_two; number = refl }))
    (inr (lit≤ tt, record { at = 1; within = lit≤ tt; unfit = big_unfit_1; before = fits_one; number = refl }))

right_3 : Right least_good_point first_fit two_lists (admits big blank_sheet (Err NoTaker) written_sheet)
right_3 = inr (
  refl,
  record {
    passes = refl;
    nobody = of_two (λ q. WouldTake big (on two_lists q) → ⊥) (λ w. big_unfit (w.fits 2 (lit≤ tt))) (λ w. big_unfit_1 (w.fits 1 (lit≤ tt)));
    entries = entries;
    as_long = refl;
    rest = refl;
    seats_stay = refl;
  },
)

right_4 : Right least_good_point first_fit two_lists (withdraws 2 (Ok (0, record { 0 = 4 }, record { 0 = 10 })))
right_4 = record { at = 1; sits = record { there = lit≤ tt; within = lit≤ tt; number = refl }; its_work = refl; its_period = refl; seats = refl }

pub all_answered : AllByRecursion Settled answers
unfolding up least
all_answered = ((right_0, refl), ((right_1, refl), ((right_2, refl), ((right_3, refl), ((right_4, refl), tt)))))

-- what the bytes stand for
file_stands : Stands sample sample_file
file_stands = record { bytes = refl; short = lit≤ tt; processors = refl; few = lit≤ tt; allowed = refl; places = refl }

-- the lines from each record on
from_4 : Lines First two_lists written_sheet 4 (drop 4 sample_file.records) (codes "4 W 2 0\n")
unfolding digits
from_4 = (Ok (0, record { 0 = 4 }, record { 0 = 10 }), record { right = right_4; rest = []; whole = refl; goes_on = refl })

from_3 : Lines First two_lists blank_sheet 3 (drop 3 sample_file.records) (codes "3 A big R8\n4 W 2 0\n")
unfolding digits
from_3 = (Err NoTaker, written_sheet, record { right = right_3; rest = _; whole = refl; goes_on = from_4 })

from_2 : Lines First book_2 blank_sheet 2 (drop 2 sample_file.records) (codes "2 A drl 1 10\n3 A big R8\n4 W 2 0\n")
unfolding least digits
from_2 = (Ok (1, record { 0 = 10 }), blank_sheet, record { right = right_2; rest = _; whole = refl; goes_on = from_3 })

from_1 : Lines First book_1 blank_sheet 1 (drop 1 sample_file.records) (codes "1 A cam 0 10\n2 A drl 1 10\n3 A big R8\n4 W 2 0\n")
unfolding up least digits
from_1 = (Ok (0, record { 0 = 10 }), blank_sheet, record { right = right_1; rest = _; whole = refl; goes_on = from_2 })

from_0 : Lines First book_0 blank_sheet 0 sample_file.records sample_text
unfolding up least digits
from_0 = (Ok (0, record { 0 = 5 }), blank_sheet, record { right = right_0; rest = _; whole = refl; goes_on = from_1 })

sample_played : PlayerText sample sample_text
sample_played = subst (λ (r : Result File FileFault). TextOf r sample_text) (sym (reads sample sample_file file_stands)) from_0

pub all_sampled : AllByRecursion Settled whole
unfolding digits
all_sampled = (file_stands, (sample_played, (refl, (refl, (refl, (refl, (refl, tt)))))))
