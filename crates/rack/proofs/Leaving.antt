-- The seat that leaves a processor.
use Rattle.std.proofs.Common.{◌≡◌, ℕ, ◌+◌, ◌<◌, true, List, length, get_or, sym, ap, ◌∙◌, subst, arith}
use Rattle.std.specs.List.{remove}
use Rattle.std.specs.Option.{unwrap_or}
use Rattle.std.proofs.lemmas.List.{get_or-map}
use Rattle.tasks.specs.declared.task.Task.{Task}
use Rattle.tasks.specs.Limits.{within_limits, all_within}
use Rattle.tasks.specs.Share.{share_of, share_answer}
use Rattle.tasks.specs.Demand.{no_task}
use Rattle.seating.specs.declared.seat.Seat.{Seat}
use Rattle.seating.specs.Seats.{tasks_of, load_of, no_seat}
use Rattle.seating.proofs.Keeping.{tasks_removed}
use Rattle.seating.proofs.Limiting.{load_removed, within_each}
use Rattle.seating.proofs.Placing.{length-tasks}
use Rattle.rack.proofs.Shares.{share_within}

module _ (ss : List Seat) (at : ℕ) (seat : Seat) (lt : at < length ss) (is : seat ≡ get_or ss at no_seat) where
  its_task : get_or (tasks_of ss) at no_task ≡ seat.task
  its_task = get_or-map (λ (s : Seat). s.task) ss at no_seat no_task lt ∙ ap (λ (s : Seat). s.task) (sym is)

  its_limits : all_within (tasks_of ss) ≡ true → within_limits seat.task ≡ true
  its_limits h = subst (λ (x : Task). within_limits x ≡ true) its_task (within_each (tasks_of ss) h at no_task (omega (arith, length-tasks ss)))

  pub its_share : all_within (tasks_of ss) ≡ true → load_of (tasks_of (remove ss at)) + unwrap_or (share_answer seat.task) 0 ≡ load_of (tasks_of ss)
  its_share h = omega (arith, share_within seat.task (its_limits h), ap load_of (tasks_removed ss at), ap share_of its_task, load_removed (tasks_of ss) at (omega (arith, length-tasks ss)))
