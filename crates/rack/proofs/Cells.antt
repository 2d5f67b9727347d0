-- Blank cells of a table of seats.
use Rattle.std.proofs.Common.{◌≡◌, ℕ, ◌<◌, ◌≤◌, List, length, get_or, take, sym, ap, ◌∙◌, ⊎_elim, arith}
use Rattle.std.proofs.lemmas.List.{ext_get_or, get_or-take, length-take-le}
use Rattle.std.proofs.lemmas.Bool.{cases_lt}
use Rattle.tasks.specs.Tasks.{task_of}
use Rattle.seating.specs.declared.seat.Seat.{Seat}
use Rattle.seating.specs.Seats.{no_seat}
use Rattle.rack.specs.Cells.{BlankFrom}

-- a seat of zeros is blank
pub blank_seat : (s : Seat) → s.task.number ≡ 0 → s.task.work.0 ≡ 0 → s.task.period.0 ≡ 0 → s.instant.0 ≡ 0 → s ≡ no_seat
blank_seat s n w p t = go s.task.number s.task.work.0 s.task.period.0 s.instant.0 n w p t
  where
    seat : ℕ → ℕ → ℕ → ℕ → Seat
    seat number work period instant = record { task = task_of number work period; instant = record { 0 = instant } }

    go : (a b c d : ℕ) → a ≡ 0 → b ≡ 0 → c ≡ 0 → d ≡ 0 → seat a b c d ≡ seat 0 0 0 0
    go a b c d n w p t = cc

-- Two tables with the same seats have the same count and the same cells, also behind the count. No proof uses it: it says why equal lists mean equal cells.
pub same_cells : (n m : ℕ) (xs ys : List Seat) → length xs ≡ 32 → n ≤ 32 → BlankFrom n xs → length ys ≡ 32 → m ≤ 32 → BlankFrom m ys → take n xs ≡ take m ys → (n ≡ m) × (xs ≡ ys)
same_cells n m xs ys wide few blank wide' few' blank' same =
    let count : n ≡ m = omega (arith, length-take-le n xs (omega arith), length-take-le m ys (omega arith), ap (length {A = Seat}) same) in (
      count,
      ext_get_or no_seat xs ys (omega arith) (λ i lt.
          ⊎_elim
          (λ (h : i < n). sym (get_or-take n xs i no_seat h) ∙ ap (λ (l : List Seat). get_or l i no_seat) same ∙ get_or-take m ys i no_seat (omega arith))
          (λ (h : n ≤ i). blank i h ∙ sym (blank' i (omega arith)))
          (cases_lt i n)),
    )
