-- A sound rack stays sound: whatever a call does, each processor is kept well and no number is seated twice.
use Rattle.std.proofs.Common.{◌≡◌, ℕ, ◌+◌, ◌<◌, ◌≤◌, ◌≢◌, true, leb, List, [], map, length, get_or, take, set, replicate, Some, Option, Ok, Err, Result, inl, inr, refl, sym, ap, ◌∙◌, subst, ⊎_elim, arith, length-set}
use Rattle.std.specs.List.{remove, refill}
use Rattle.std.proofs.lemmas.List.{get_or-set_same, get_or-set_other, get_or_default, get_or-map, get_or-replicate, length-replicate}
use Rattle.std.proofs.lemmas.List.Edits.{length-remove}
use Rattle.std.proofs.lemmas.Bool.{cases_eq, and_parts, leb-true}
use Rattle.tasks.specs.declared.task.Task.{Task}
use Rattle.tasks.specs.declared.units.Ticks.{Ticks}
use Rattle.tasks.specs.declared.units.Units.{Units}
use Rattle.tasks.specs.Limits.{within_limits, all_within}
use Rattle.tasks.specs.Priority.{by_priority, joined}
use Rattle.tasks.specs.Demand.{no_task, good}
use Rattle.tasks.proofs.Priority.{joined_by_priority}
use Rattle.judges.specs.Laws.{Meaning, JudgeLaws}
use Rattle.preferences.specs.Laws.{Relation}
use Rattle.seating.specs.declared.seat.Seat.{Seat}
use Rattle.seating.specs.declared.refusal.AdmitRefusal.{AdmitRefusal}
use Rattle.seating.specs.declared.refusal.WithdrawRefusal.{WithdrawRefusal}
use Rattle.tasks.specs.Units.{no_ticks}
use Rattle.seating.specs.Seats.{Lists, tasks_of, no_seat, is_numbered, all_numbered, numbers, all_differ}
use Rattle.seating.specs.Admission.{on, Joins, Admits}
use Rattle.seating.specs.Withdrawal.{SitsAt, Withdraws}
use Rattle.seating.proofs.Keeping.{good_joined, tasks_removed, good_removed}
use Rattle.seating.proofs.Limiting.{all_joined, all_removed, within_joined, within_removed, priority_removed}
use Rattle.seating.proofs.Numbering.{differ_joined, differ_left, differ_none}
use Rattle.seating.proofs.Placing.{length-tasks, length-joined}
use Rattle.book.specs.Book.{KeptWell}
use Rattle.rack.specs.Spots.{SpotOn}
use Rattle.rack.specs.Table.{Sound, rack_size}
use Rattle.rack.proofs.Passing.{passing}
use Rattle.rack.proofs.Taken.{refill_set}

joined_kept : (meaning : Meaning) → JudgeLaws meaning → (x : Task) → is_numbered x ≡ true → within_limits x ≡ true → (ss new : List Seat) → length ss < 32 → KeptWell ss → Joins meaning x ss new → KeptWell new
joined_kept meaning laws x named own ss new room kept j =
    let ts = tasks_of ss in
    let us = map (λ (s : Seat). s.instant) new in
    let n : length new ≡ length ss + 1 = omega (arith, length-tasks new, ap (length {A = Task}) j.tasks, length-joined x ts, length-tasks ss) in
    let at : (k : ℕ) → k < length ss + 1 → (get_or new k no_seat).instant ≡ get_or us k no_ticks = λ k hi. sym (get_or-map (λ (s : Seat). s.instant) new k no_seat no_ticks (omega arith)) in
    record {
      few = omega arith;
      numbered = ap all_numbered j.tasks ∙ all_joined is_numbered x ts named kept.numbered;
      limits = ap all_within j.tasks ∙ within_joined x ts own kept.limits;
      order = ap by_priority j.tasks ∙ joined_by_priority x ts kept.order;
      instants = good_joined x ss new us j.tasks j.above (λ k lo hi. at k hi) kept.instants
          (λ k lo hi. subst (λ (t : Ticks). good (get_or (joined x ts) k no_task) (take k (joined x ts)) t.0 ≡ true) (at k hi)
          (laws.sound (get_or (joined x ts) k no_task) (take k (joined x ts)) (get_or new k no_seat).instant (j.judged k lo hi)));
    }

removed_kept : (ss : List Seat) (at : ℕ) → at < length ss → KeptWell ss → KeptWell (remove ss at)
removed_kept ss at lt kept =
    let ts = tasks_removed ss at in
    record {
      few = omega (arith, length-remove ss at lt, kept.few);
      numbered = ap all_numbered ts ∙ all_removed is_numbered (tasks_of ss) at kept.numbered;
      limits = ap all_within ts ∙ within_removed (tasks_of ss) at kept.limits;
      order = ap by_priority ts ∙ priority_removed (tasks_of ss) at kept.order;
      instants = good_removed ss at lt kept.instants;
    }

pub allowed : (m : ℕ) → rack_size m ≡ true → (1 ≤ m) × (m ≤ 16)
allowed m size = let p = and_parts (leb 1 m) (leb m 16) size in (leb-true 1 m p.0, leb-true m 16 p.1)

pub at_most_16 : (m : ℕ) → rack_size m ≡ true → m ≤ 16
at_most_16 m size = (allowed m size).1

pub free_sound : (m : ℕ) → rack_size m ≡ true → Sound (replicate m [])
free_sound m size =
    let n = length-replicate {A = List Seat} m [] in
    record {
      size = ap rack_size n ∙ size;
      kept_well = λ p lt. subst KeptWell (sym (get_or-replicate m p [] [] (omega arith))) (record { few = omega arith; numbered = refl; limits = refl; order = refl; instants = refl });
      differ = differ_none m;
    }

module _ (b : Lists) (sound : Sound b) where
  changed : (p : ℕ) (new : List Seat) → p < length b → KeptWell new → all_differ (numbers (set b p new)) ≡ true → Sound (set b p new)
  changed p new lt kept differ =
      let n = length-set b p new in
      record {
        size = ap rack_size n ∙ sound.size;
        kept_well = λ q h. ⊎_elim
            (λ (same : q ≡ p). subst (λ (j : ℕ). KeptWell (get_or (set b p new) j [])) (sym same) (subst KeptWell (sym (get_or-set_same b p new [] lt)) kept))
            (λ (other : q ≢ p). subst KeptWell (sym (get_or-set_other b p q new [] other)) (sound.kept_well q (omega arith)))
            (cases_eq q p);
        differ = differ;
      }

  left_sound : (p at : ℕ) → p < length b → at < length (on b p) → Sound (set b p (remove (on b p) at))
  left_sound p at there within =
      let ss = on b p in
      changed p (remove ss at) there (removed_kept ss at within (sound.kept_well p there)) (differ_left b p at (remove ss at) there sound.differ (tasks_removed ss at))

  -- a seat has left one of the processors: the lists as the code left them
  pub left_so : (items lent : Lists) → items ≡ b → lent ≡ items → (d new : List Seat) (n p at : ℕ) (o : Option (ℕ × ℕ)) → o ≡ Some (p, at) → SpotOn n b o → new ≡ remove (get_or lent p d) at → Sound (refill (length items) items (set lent p new))
  left_so items lent is now d new n p at o found spot e =
      let sits : SitsAt b n p at = subst (λ (k : Option (ℕ × ℕ)). SpotOn n b k) found spot in
      let old = ap (λ (l : Lists). remove (get_or l p d) at) (now ∙ is) ∙ ap (λ (l : List Seat). remove l at) (sym (get_or_default b p [] d sits.there)) in
      subst Sound (sym (refill_set items lent p new now ∙ ap (λ (l : Lists). set l p new) is ∙ ap (λ (l : List Seat). set b p l) (e ∙ old))) (left_sound p at sits.there sits.within)

  pub admitted_sound : (meaning : Meaning) → JudgeLaws meaning → (before : Relation) (x : Task) (sheet : List ℕ) (answer : Result (ℕ × Ticks) AdmitRefusal) (sheet' : List ℕ) (c : Lists)
      → Admits meaning before b x sheet answer sheet' c → Sound c
  admitted_sound meaning laws before x sheet (Ok a) sheet' c g =
      let p = a.0 in
      let pass = passing b x (length sheet) g.passes in
      let there = g.preferred.there in
      subst Sound (sym g.others) (changed p (on c p) there (joined_kept meaning laws x pass.numbered pass.limits (on b p) (on c p) g.preferred.takes.room (sound.kept_well p there) g.joins)
      (differ_joined b p x (on c p) there sound.differ pass.new g.joins.tasks))
  admitted_sound meaning laws before x sheet (Err e) sheet' c (inl early) = subst Sound (sym early.seats_stay) sound
  admitted_sound meaning laws before x sheet (Err e) sheet' c (inr away) = subst Sound (sym away.1.seats_stay) sound

  pub withdrawn_sound : (n : ℕ) (answer : Result (ℕ × Units × Ticks) WithdrawRefusal) (c : Lists) → Withdraws b n answer c → Sound c
  withdrawn_sound n (Ok a) c l = subst Sound (sym l.seats) (left_sound a.0 l.at l.sits.there l.sits.within)
  withdrawn_sound n (Err e) c l = subst Sound (sym l.seats_stay) sound
