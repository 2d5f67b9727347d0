-- An admission, put together from what was chosen and how it joined.
use Rattle.std.proofs.Common.{◌≡◌, ℕ, ◌-◌, ◌<◌, ◌≤◌, true, List, [], ◌++◌, length, get_or, take, drop, set, Some, None, Ok, Err, Result, refl, sym, ap, ◌∙◌, subst, inl, inr, arith}
use Rattle.std.specs.List.{refill}
use Rattle.std.proofs.lemmas.List.{get_or_append_left, length-append, length-drop, drop_at, get_or-set_same, get_or_default}
use Rattle.tasks.specs.declared.task.Task.{Task}
use Rattle.tasks.specs.declared.units.Ticks.{Ticks}
use Rattle.tasks.specs.Demand.{no_task}
use Rattle.tasks.specs.Limits.{within_limits}
use Rattle.tasks.specs.Priority.{joined}
use Rattle.judges.specs.Laws.{Meaning, JudgeLaws}
use Rattle.preferences.specs.Laws.{Relation}
use Rattle.preferences.specs.declared.contender.Contender.{Contender}
use Rattle.seating.specs.declared.seat.Seat.{Seat}
use Rattle.tasks.specs.Units.{no_ticks}
use Rattle.seating.specs.Seats.{Lists, tasks_of, place_of}
use Rattle.seating.specs.Admission.{on, as_seen, earlier, WouldTake, Entry, Joins, Granted, TurnedAway}
use Rattle.seating.specs.Judging.{FirstNone, DecidesFit}
use Rattle.seating.proofs.Exactly.{takes_exactly}
use Rattle.seating.proofs.Placing.{length-tasks, take-joined, joined_here, place_le}
use Rattle.book.specs.Book.{KeptWell}
use Rattle.rack.specs.declared.trial.Trial.{Trial}
use Rattle.rack.specs.declared.trial.Declined.TheVariants.{Full, Unfit}
use Rattle.rack.specs.declared.choice.Taker.{Taker}
use Rattle.arrayvec.specs.ArrayVec.{ArrayVec}
use Rattle.rack.specs.Table.{Sound}
use Rattle.rack.specs.Trials.{Took, SeatedWith}
use Rattle.rack.specs.Choices.{Willing, Rejects, Best, Chosen}
use Rattle.rack.proofs.Soundness.{admitted_sound}
use Rattle.rack.proofs.Taken.{refill_set}
use Rattle.rack.proofs.Bests.{willing, rejects}
use Rattle.rack.proofs.Passing.{passing}

-- what is granted is not refused
pub ok_no_err : {X Y : Type 0} (x : X) (y : Y) → ◌≡◌ {A = Result X Y} (Ok x) (Err y) → ⊥
ok_no_err x y p = let z : ◌≡◌ {A = ℕ} 0 1 = cc in omega arith

module _ (meaning : Meaning) (x : Task) (ss : List Seat) (t : Trial) (k : Took meaning x ss t) where
  -- the newcomer's instant
  own_instant : meaning x (take (place_of x (tasks_of ss)) (tasks_of ss)) ≡ Some (get_or t.instants.items 0 no_ticks)
  own_instant =
      let ts = tasks_of ss in
      let p = place_of x ts in
      let le = place_le x ts in
      let n = length-tasks ss in
      let z : p - t.place ≡ 0 = omega (arith, k.trial.place) in
      ap (λ (y : Task). meaning y (take p ts)) (sym (joined_here x ts)) ∙ ap (λ (l : List Task). meaning (get_or (joined x ts) p no_task) l) (sym (take-joined x ts p (omega arith)))
      ∙ k.each p (omega (arith, k.trial.place)) (omega arith)
      ∙ ap (λ (i : ℕ). Some (get_or t.instants.items i no_ticks)) z

  joins_so : (new : List Seat) → SeatedWith x t.instants.items ss new → Joins meaning x ss new
  joins_so new w = record {
    tasks = w.tasks;
    above = w.above;
    judged = λ i lo hi. subst (λ (p : ℕ). p ≤ i → meaning (get_or (joined x (tasks_of ss)) i no_task) (take i (joined x (tasks_of ss))) ≡ Some (get_or t.instants.items (i - p) no_ticks)) k.trial.place (λ l. k.each i l hi) lo
        ∙ ap (λ (u : Ticks). Some u) (sym (w.instants i lo hi));
  }

-- the judge's word is the rules' word, on seats that a rack keeps
module _ (meaning : Meaning) (laws : JudgeLaws meaning) (x : Task) (own : within_limits x ≡ true) (ss : List Seat) (kept : KeptWell ss) where
  decides : length ss < 32 → DecidesFit meaning x ss
  decides room = takes_exactly meaning laws x ss own kept.limits kept.instants room

  would : Willing meaning x ss → WouldTake x ss
  would w = record { room = w.0; fits = (decides w.0).given_fits w.1 }

  is_willing : WouldTake x ss → Willing meaning x ss
  is_willing w = (w.room, (decides w.room).fits_given w.fits)

  entry_so : (n : ℕ) → Rejects meaning x ss n → Entry x ss n
  entry_so n (Full, full, is) = inl (full, is)
  entry_so n (Unfit m, f, is) = inr (f.0, (decides f.0).first_unfit n (subst (λ (v : ℕ). FirstNone meaning x ss v) (sym is) f.1))

module _ (meaning : Meaning) (laws : JudgeLaws meaning) (before : Relation) (b : Lists) (sound : Sound b) (x : Task) (sheet : List ℕ) (passes : earlier b x (length sheet) ≡ None) (es : List ℕ) where
  own : within_limits x ≡ true
  own = (passing b x (length sheet) passes).limits

  -- the best one takes it
  grants : (o : Taker) (new : List Seat) → Best meaning before b x (length b) es (Some o) → SeatedWith x o.trial.instants.items (on b o.contender.number) new
      → Granted meaning before b x sheet o.contender.number (get_or o.trial.instants.items 0 no_ticks) sheet (set b o.contender.number new)
  grants o new best w =
      let p = o.contender.number in
      let ss = on b p in
      let is : get_or (set b p new) p [] ≡ new = get_or-set_same b p new [] best.0 in
      record {
        passes = passes;
        preferred = record {
          there = best.0;
          takes = would meaning laws x own ss (sound.kept_well p best.0) (willing meaning x ss o.trial best.2);
          first = λ q h ne wt. ap (λ (c : Contender). before c (as_seen b q)) (sym best.1) ∙ best.3 q h ne (is_willing meaning laws x own (on b q) (sound.kept_well q h) wt);
        };
        instant = own_instant meaning x ss o.trial best.2;
        joins = subst (λ (l : List Seat). Joins meaning x ss l) (sym is) (joins_so meaning x ss o.trial best.2 new w);
        others = ap (λ (l : List Seat). set b p l) (sym is);
        sheet_stays = refl;
      }

  -- nobody does, and the sheet says why
  turned_away : (sheet' : List ℕ) → Best meaning before b x (length b) es None → sheet' ≡ es ++ drop (length es) sheet → TurnedAway b x sheet sheet' b
  turned_away sheet' best filled =
      let room = (passing b x (length sheet) passes).long in
      let each : (q : ℕ) → q < length b → get_or sheet' q 0 ≡ get_or es q 0 =
      λ q h. ap (λ (l : List ℕ). get_or l q 0) filled ∙ get_or_append_left es (drop (length es) sheet) 0 q (omega (arith, best.0)) in
      record {
        passes = passes;
        nobody = λ q h w. rejects meaning x (on b q) (get_or es q 0) (best.1 q h) (is_willing meaning laws x own (on b q) (sound.kept_well q h) w);
        entries = λ q h. subst (λ (v : ℕ). Entry x (on b q) v) (sym (each q h)) (entry_so meaning laws x own (on b q) (sound.kept_well q h) (get_or es q 0) (best.1 q h));
        as_long = ap (length {A = ℕ}) filled ∙ length-append es (drop (length es) sheet) ∙ omega (arith, best.0, length-drop (length es) sheet);
        rest = subst (λ (k : ℕ). drop k sheet' ≡ drop k sheet) best.0
            (ap (λ (l : List ℕ). drop (length es) l) filled ∙ drop_at es (drop (length es) sheet) (length es) refl);
        seats_stay = refl;
      }

-- a choice carried out: the lists and the sheet as the code leaves them
module _ (meaning : Meaning) (laws : JudgeLaws meaning) (before : Relation) (b : Lists) (x : Task) (sheet : List ℕ) (passes : earlier b x (length sheet) ≡ None) (choice : Result Taker (ArrayVec ℕ)) (chosen : Chosen meaning before b x choice)
    (items : Lists) (is : items ≡ b) (held : Sound items) where
  pub sound_so : Sound b
  sound_so = subst Sound is held

  best_so : (r : Result Taker (ArrayVec ℕ)) → choice ≡ r → Chosen meaning before b x r
  best_so r e = subst (λ (k : Result Taker (ArrayVec ℕ)). Chosen meaning before b x k) e chosen

  -- nobody takes the newcomer
  pub away : (es : ArrayVec ℕ) → choice ≡ Err es → (entries sheet' : List ℕ) → entries ≡ es.items → sheet' ≡ entries ++ drop (length entries) sheet → TurnedAway b x sheet sheet' b
  away es e entries sheet' lent filled = turned_away meaning laws before b sound_so x sheet passes es.items sheet' (best_so (Err es) e) (filled ∙ ap (λ (l : List ℕ). l ++ drop (length l) sheet) lent)

  -- it has joined one of the processors
  module _ (o : Taker) (e : choice ≡ Ok o) (lent : Lists) (now : lent ≡ items) (d new : List Seat) (w : SeatedWith x o.trial.instants.items (get_or lent o.contender.number d) new) where
    after : refill (length items) items (set lent o.contender.number new) ≡ set b o.contender.number new
    after = refill_set items lent o.contender.number new now ∙ ap (λ (l : Lists). set l o.contender.number new) is

    granted_so : Granted meaning before b x sheet o.contender.number (get_or o.trial.instants.items 0 no_ticks) sheet (set b o.contender.number new)
    granted_so =
        let best = best_so (Ok o) e in
        let old = ap (λ (l : Lists). get_or l o.contender.number d) (now ∙ is) ∙ sym (get_or_default b o.contender.number [] d best.0) in
        grants meaning laws before b sound_so x sheet passes [] o new best (subst (λ (l : List Seat). SeatedWith x o.trial.instants.items l new) old w)

    pub granted : (us : List Ticks) → us ≡ o.trial.instants.items → Granted meaning before b x sheet o.contender.number (get_or us 0 no_ticks) sheet (refill (length items) items (set lent o.contender.number new))
    granted us own = subst (λ (c : Lists). Granted meaning before b x sheet o.contender.number (get_or us 0 no_ticks) sheet c) (sym after)
        (subst (λ (l : List Ticks). Granted meaning before b x sheet o.contender.number (get_or l 0 no_ticks) sheet (set b o.contender.number new)) (sym own) granted_so)

    pub still_sound : Sound (refill (length items) items (set lent o.contender.number new))
    still_sound = subst Sound (sym after) (admitted_sound b sound_so meaning laws before x sheet (Ok (o.contender.number, get_or o.trial.instants.items 0 no_ticks)) sheet (set b o.contender.number new) granted_so)
