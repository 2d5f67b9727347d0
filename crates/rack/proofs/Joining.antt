-- A newcomer put into its place.
use Rattle.std.proofs.Common.{◌≡◌, ◌≤◌, ℕ, List, sym, ap, ◌∙◌}
use Rattle.std.specs.List.{insert}
use Rattle.std.proofs.lemmas.List.{take_all}
use Rattle.tasks.specs.declared.task.Task.{Task}
use Rattle.tasks.specs.Priority.{joined}
use Rattle.seating.specs.Seats.{place_of}
use Rattle.seating.proofs.Placing.{length-tasks, joined_at_place, place_le}

pub insert-is-joined : (x : Task) (ts us : List Task) (at : ℕ) → at ≡ place_of x ts → us ≡ ts → insert us at x ≡ joined x ts
insert-is-joined x ts us at e same = ap (λ (l : List Task). insert l at x) same ∙ ap (λ (k : ℕ). insert ts k x) e ∙ sym (joined_at_place x ts)

pub ruleset joining = (insert-is-joined, place_le, length-tasks, take_all)
